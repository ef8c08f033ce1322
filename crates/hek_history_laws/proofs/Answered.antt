-- The operations of a transaction that were answered: what they write, and that their answers are right.
use Rattle.std.proofs.Common.{◌≡◌, ◌==◌, ℕ, zero, suc, ◌<◌, Bool, true, false, List, [], ◌∷◌, ◌++◌, Option, Some, None, refl, sym, ap, ◌∙◌, ⊎_elim, subst, take, arith}
use Rattle.std.proofs.lemmas.Bool.{cases_Bool, cond-true, cond-false, cond_both, eq-eqb, eqb-true, ne_eqb}
use Rattle.std.specs.Prelude.{◌&&◌, ◌%◌, not, is_some, map, if◌then◌else◌}
use Rattle.hek_rules.specs.declared.event.Level.TheVariants.{Serializable}
use Rattle.hek_rules.specs.declared.event.Event.{Event}
use Rattle.hek_rules.specs.declared.event.Event.TheVariants as event
use Rattle.hek_rules.specs.declared.reply.Reply.{Reply}
use Rattle.hek_rules.specs.declared.reply.Reply.TheVariants as reply
use Rattle.hek_rules.specs.declared.serial.Write.{Write}
use Rattle.hek_rules.specs.Listing.{value_of}
use Rattle.hek_rules.specs.Serial.{lay_all as laid, write_of, writes_of, is_of, found_in, rows_of, serial_reply, IsSerial, AreRight as AreRightIn}
use Rattle.hek_laws.specs.Rows.{AreRising}
use Rattle.hek_laws.proofs.Lists.Rising.{rising-filter, rising-lay_all, value_of-filter}
use Rattle.hek_laws.proofs.Worlds.Histories.{lay_all-append}
use Rattle.hek_history.specs.declared.history.Operation.{Operation}
use Rattle.hek_history.specs.declared.history.Operation.TheVariants.{Read, Put, Insert, Update, Delete, Scan}
use Rattle.hek_history.specs.declared.history.Scope.TheVariants.{Range, Bucket}
use Rattle.hek_history.specs.Answers.{key_of, change_of, fits, same_found, after, last_change, lay, lay_all, IsRight, AreRight}
use Rattle.hek_history.proofs.Rows.{value_of-lay_all}
use Rattle.hek_history.proofs.Scanned.{IsRight-same}
use Rattle.hek_history_laws.specs.Recording.{entry_of, is_operation, is_answer, answered}
use Rattle.hek_history_laws.proofs.InOrder.{rises}

abbrev pub is_answered : ℕ → Event × Reply → Bool
is_answered t p = is_of t p.0 && is_operation p.0 && is_answer p.1

-- these operations are those of t in a history that were answered
abbrev pub AreAnswered : ℕ → ℕ → List (Event × Reply) → List Operation → Type 0
AreAnswered buckets t h ops = map (entry_of buckets t) ops ≡ map Some (answered t h)

one_entry : (p q : Event × Reply) → Some p ≡ Some q → p ≡ q
one_entry p q e = cc

no_entry : (p : Event × Reply) → None ≡ Some p → ⊥
no_entry p e = cc

-- ---- writes

plain_true : (b : Bool) → (b && true && true) ≡ false → b ≡ false
plain_true true e = e
plain_true false e = refl

pub first_true : (a b c : Bool) → (a && b && c) ≡ true → a ≡ true
first_true true b c e = refl
first_true false b c e = e

unwritten : (t : ℕ) (e : Event) (r : Reply) → (is_of t e && is_operation e && is_answer r) ≡ false → write_of t e r ≡ []
unwritten t (event.Insert x key value) reply.Done off = rw (plain_true (x == t) off) refl
unwritten t (event.Update x key value) reply.Done off = rw (plain_true (x == t) off) refl
unwritten t (event.Delete x key) reply.Done off = rw (plain_true (x == t) off) refl
unwritten t e r off = refl

-- what an operation writes is what its entry writes
abbrev WritesAs : ℕ → Operation → List (ℕ × ℕ) → Event × Reply → Type 0
WritesAs t op rows p = laid (write_of t p.0 p.1) rows ≡ lay (key_of op) (change_of op) rows

writes_as : (buckets t : ℕ) (op : Operation) (rows : List (ℕ × ℕ)) (p : Event × Reply) → entry_of buckets t op ≡ Some p → WritesAs t op rows p
writes_as buckets t (Read key found) rows p e = subst (WritesAs t (Read key found) rows) (one_entry _ p e) refl
writes_as buckets t (Put key value) rows p e = absurd (no_entry p e)
writes_as buckets t (Insert key value true) rows p e = subst (WritesAs t (Insert key value true) rows) (one_entry _ p e) (rw (eq-eqb t t refl) refl)
writes_as buckets t (Insert key value false) rows p e = subst (WritesAs t (Insert key value false) rows) (one_entry _ p e) refl
writes_as buckets t (Update key value true) rows p e = subst (WritesAs t (Update key value true) rows) (one_entry _ p e) (rw (eq-eqb t t refl) refl)
writes_as buckets t (Update key value false) rows p e = subst (WritesAs t (Update key value false) rows) (one_entry _ p e) refl
writes_as buckets t (Delete key true) rows p e = subst (WritesAs t (Delete key true) rows) (one_entry _ p e) (rw (eq-eqb t t refl) refl)
writes_as buckets t (Delete key false) rows p e = subst (WritesAs t (Delete key false) rows) (one_entry _ p e) refl
writes_as buckets t (Scan (Range from to) pairs) rows p e = absurd (no_entry p e)
writes_as buckets t (Scan (Bucket count bucket) pairs) rows p e =
    let op = Scan (Bucket count bucket) pairs in
    cond_both (count == buckets) (Some (event.Scan t bucket, reply.Rows pairs.items)) None (λ (o : Option (Event × Reply)). o ≡ Some p → WritesAs t op rows p)
    (λ _ is. subst (WritesAs t op rows) (one_entry _ p is) refl) (λ _ is. absurd (no_entry p is)) e

-- the first entry, if it was answered and if it was not
with_first : (buckets t : ℕ) (p : Event × Reply) (ps : List (Event × Reply)) (ops : List Operation) → AreAnswered buckets t (p ∷ ps) ops → is_answered t p ≡ true →
    map (entry_of buckets t) ops ≡ Some p ∷ map Some (answered t ps)
with_first buckets t p ps ops e on = e ∙ ap (map Some) (cond-true (is_answered t p) (p ∷ answered t ps) (answered t ps) on)

without_first : (buckets t : ℕ) (p : Event × Reply) (ps : List (Event × Reply)) (ops : List Operation) → AreAnswered buckets t (p ∷ ps) ops → is_answered t p ≡ false → AreAnswered buckets t ps ops
without_first buckets t p ps ops e off = e ∙ ap (map Some) (cond-false (is_answered t p) (p ∷ answered t ps) (answered t ps) off)

heads : (x y : Option (Event × Reply)) (xs ys : List (Option (Event × Reply))) → x ∷ xs ≡ y ∷ ys → x ≡ y
heads x y xs ys e = cc

tails : (x y : Option (Event × Reply)) (xs ys : List (Option (Event × Reply))) → x ∷ xs ≡ y ∷ ys → xs ≡ ys
tails x y xs ys e = cc

no_head : (y : Option (Event × Reply)) (ys : List (Option (Event × Reply))) → [] ≡ y ∷ ys → ⊥
no_head y ys e = cc

pub writes_answered : (buckets t : ℕ) (h : List (Event × Reply)) (ops : List Operation) (rows : List (ℕ × ℕ)) → AreAnswered buckets t h ops → laid (writes_of t h) rows ≡ lay_all ops rows
writes_answered buckets t [] [] rows e = refl
writes_answered buckets t [] (op ∷ ops) rows e = absurd (no_head _ _ (sym e))
writes_answered buckets t (p ∷ ps) [] rows e =
    ⊎_elim (λ on. absurd (no_head _ _ (with_first buckets t p ps [] e on)))
    (λ off. ap (λ ws. laid (ws ++ writes_of t ps) rows) (unwritten t p.0 p.1 off) ∙ writes_answered buckets t ps [] rows (without_first buckets t p ps [] e off))
    (cases_Bool (is_answered t p))
writes_answered buckets t (p ∷ ps) (op ∷ ops) rows e =
    ⊎_elim
    (λ on.
    let both = with_first buckets t p ps (op ∷ ops) e on in
    lay_all-append (write_of t p.0 p.1) (writes_of t ps) rows
    ∙ ap (laid (writes_of t ps)) (writes_as buckets t op rows p (heads _ _ _ _ both))
    ∙ writes_answered buckets t ps ops (lay (key_of op) (change_of op) rows) (tails _ _ _ _ both))
    (λ off. ap (λ ws. laid (ws ++ writes_of t ps) rows) (unwritten t p.0 p.1 off) ∙ writes_answered buckets t ps (op ∷ ops) rows (without_first buckets t p ps (op ∷ ops) e off))
    (cases_Bool (is_answered t p))

-- ---- answers

same_self : (o : Option ℕ) → same_found o o ≡ true
same_self None = refl
same_self (Some x) = eq-eqb x x refl

read_fits : (found value : Option ℕ) → IsSerial (Some (found_in value)) (found_in found) → same_found found value ≡ true
read_fits None None e = refl
read_fits None (Some y) e = let off : reply.Absent ≡ reply.Found y = e in cc
read_fits (Some x) None e = let off : reply.Found x ≡ reply.Absent = e in cc
read_fits (Some x) (Some y) e = let is : reply.Found x ≡ reply.Found y = e in let same : x ≡ y = cc in eq-eqb x y same

insert_fits : (value : Option ℕ) (done : Bool) → IsSerial (Some (if is_some value then reply.Exists else reply.Done)) (if done then reply.Done else reply.Exists) →
    (if done then not (is_some value) else is_some value) ≡ true
insert_fits None true e = refl
insert_fits None false e = let off : reply.Exists ≡ reply.Done = e in cc
insert_fits (Some x) true e = let off : reply.Done ≡ reply.Exists = e in cc
insert_fits (Some x) false e = refl

change_fits : (value : Option ℕ) (done : Bool) → IsSerial (Some (if is_some value then reply.Done else reply.Absent)) (if done then reply.Done else reply.Absent) →
    (if done then is_some value else not (is_some value)) ≡ true
change_fits None true e = let off : reply.Done ≡ reply.Absent = e in cc
change_fits None false e = refl
change_fits (Some x) true e = refl
change_fits (Some x) false e = let off : reply.Absent ≡ reply.Done = e in cc

-- an answer says something of its own key alone
at_key : (op : Operation) (key : ℕ) (rows : List (ℕ × ℕ)) → fits op (value_of rows key) ≡ true → (k : ℕ) → (if key == k then fits op (value_of rows k) else true) ≡ true
at_key op key rows fit k =
    cond_both (key == k) (fits op (value_of rows k)) true (λ b. b ≡ true) (λ same. subst (λ m. fits op (value_of rows m) ≡ true) (eqb-true key k same) fit) (λ _. refl)

scan_fits : (inside : Bool) (value : Option ℕ) → (if inside then same_found (if inside then value else None) value else not (is_some (if inside then value else None))) ≡ true
scan_fits true value = same_self value
scan_fits false value = refl

-- the pairs of a scan are the rows of its bucket
scan_right : (count bucket : ℕ) (pairs rows : List (ℕ × ℕ)) → 0 < count → AreRising rows → pairs ≡ rows_of count bucket rows → (k : ℕ) →
    (if (if count == 0 then false else k % count == bucket) then same_found (value_of pairs k) (value_of rows k) else not (is_some (value_of pairs k))) ≡ true
scan_right count bucket pairs rows some r is k =
    let inside : Bool = k % count == bucket in
    let value : value_of pairs k ≡ (if inside then value_of rows k else None) = ap (λ ps. value_of ps k) is ∙ value_of-filter (λ q. q % count == bucket) rows k in
    let none : (count == 0) ≡ false = ne_eqb count 0 (λ z. absurd (omega (arith, some, z))) in
    ap (λ b. if (if b then false else inside) then same_found (value_of pairs k) (value_of rows k) else not (is_some (value_of pairs k))) none
    ∙ ap (λ o. if inside then same_found o (value_of rows k) else not (is_some o)) value
    ∙ scan_fits inside (value_of rows k)

-- the answer of an operation is right if the reply of its entry is the serial one
abbrev RightAs : ℕ → Operation → List (ℕ × ℕ) → Event × Reply → Type 0
RightAs buckets op rows p = IsSerial (serial_reply buckets rows p.0) p.1 → IsRight false op (value_of rows)

rows_are : (xs ys : List (ℕ × ℕ)) → reply.Rows xs ≡ reply.Rows ys → xs ≡ ys
rows_are xs ys e = cc

right_as : (buckets t : ℕ) (op : Operation) (rows : List (ℕ × ℕ)) (p : Event × Reply) → 0 < buckets → AreRising rows → entry_of buckets t op ≡ Some p → RightAs buckets op rows p
right_as buckets t (Read key found) rows p some r e =
    let op = Read key found in
    subst (RightAs buckets op rows) (one_entry _ p e)
    (λ is. record { by_key = tt; allowed = at_key op key rows (read_fits found (value_of rows key) is) })
right_as buckets t (Put key value) rows p some r e = absurd (no_entry p e)
right_as buckets t (Insert key value done) rows p some r e =
    let op = Insert key value done in
    subst (RightAs buckets op rows) (one_entry _ p e)
    (λ is. record { by_key = tt; allowed = at_key op key rows (insert_fits (value_of rows key) done is) })
right_as buckets t (Update key value done) rows p some r e =
    let op = Update key value done in
    subst (RightAs buckets op rows) (one_entry _ p e)
    (λ is. record { by_key = tt; allowed = at_key op key rows (change_fits (value_of rows key) done is) })
right_as buckets t (Delete key done) rows p some r e =
    let op = Delete key done in
    subst (RightAs buckets op rows) (one_entry _ p e)
    (λ is. record { by_key = tt; allowed = at_key op key rows (change_fits (value_of rows key) done is) })
right_as buckets t (Scan (Range from to) pairs) rows p some r e = absurd (no_entry p e)
right_as buckets t (Scan (Bucket count bucket) pairs) rows p some r e =
    let op = Scan (Bucket count bucket) pairs in
    cond_both (count == buckets) (Some (event.Scan t bucket, reply.Rows pairs.items)) None (λ (o : Option (Event × Reply)). o ≡ Some p → RightAs buckets op rows p)
    (λ same is. subst (RightAs buckets op rows) (one_entry _ p is)
    (λ answer.
    let one : count ≡ buckets = eqb-true count buckets same in
    let are : pairs.items ≡ rows_of buckets bucket rows = rows_are pairs.items (rows_of buckets bucket rows) answer in
    let here : pairs.items ≡ rows_of count bucket rows = subst (λ n. pairs.items ≡ rows_of n bucket rows) (sym one) are in
    let rising : AreRising pairs.items = subst AreRising (sym here) (rising-filter (λ (q : ℕ × ℕ). q.0 % count == bucket) rows r) in
    record {
      by_key = λ n x y a b. rises pairs.items n (suc n) x y rising (omega arith) a b;
      allowed = scan_right count bucket pairs.items rows (subst (λ n. 0 < n) (sym one) some) r here;
    }))
    (λ _ is. absurd (no_entry p is)) e

one_operation : (x y : Operation) → Some x ≡ Some y → x ≡ y
one_operation x y e = cc

no_operation : (x : Operation) → None ≡ Some x → ⊥
no_operation x e = cc

none_right : (rows : List (ℕ × ℕ)) → AreRight false [] rows
none_right rows n op there = absurd (no_operation op there)

one_right : (op : Operation) (ops : List Operation) (rows : List (ℕ × ℕ)) → IsRight false op (value_of rows) → AreRight false ops (lay (key_of op) (change_of op) rows) → AreRight false (op ∷ ops) rows
one_right op ops rows head tail zero o there = subst (λ (x : Operation). IsRight false x (value_of rows)) (one_operation op o there) head
one_right op ops rows head tail (suc n) o there = tail n o there

-- each answer is right if each reply is the serial one
pub right_answered : (buckets t : ℕ) (h : List (Event × Reply)) (ops : List Operation) (rows : List (ℕ × ℕ)) → 0 < buckets → AreRising rows → AreAnswered buckets t h ops →
    AreRightIn Serializable buckets t rows h → AreRight false ops rows
right_answered buckets t h [] rows some r e right = none_right rows
right_answered buckets t [] (op ∷ ops) rows some r e right = absurd (no_head _ _ (sym e))
right_answered buckets t (p ∷ ps) (op ∷ ops) rows some r e right =
    let rest : AreRightIn Serializable buckets t (laid (write_of t p.0 p.1) rows) ps = right.1 in
    ⊎_elim
    (λ on.
    let both = with_first buckets t p ps (op ∷ ops) e on in
    let entry : entry_of buckets t op ≡ Some p = heads _ _ _ _ both in
    let mine : is_of t p.0 ≡ true = first_true (is_of t p.0) (is_operation p.0) (is_answer p.1) on in
    let wrote : laid (write_of t p.0 p.1) rows ≡ lay (key_of op) (change_of op) rows = writes_as buckets t op rows p entry in
    one_right op ops rows (right_as buckets t op rows p some r entry (right.0 mine))
    (right_answered buckets t ps ops (lay (key_of op) (change_of op) rows) some
    (subst AreRising wrote (rising-lay_all (write_of t p.0 p.1) rows r)) (tails _ _ _ _ both)
    (subst (λ (left : List (ℕ × ℕ)). AreRightIn Serializable buckets t left ps) wrote rest)))
    (λ off.
    right_answered buckets t ps (op ∷ ops) rows some r (without_first buckets t p ps (op ∷ ops) e off)
    (subst (λ (ws : List Write). AreRightIn Serializable buckets t (laid ws rows) ps) (unwritten t p.0 p.1 off) rest))
    (cases_Bool (is_answered t p))

-- ---- rows that have the same values

pub same_values : (ops : List Operation) (rows others : List (ℕ × ℕ)) → ((k : ℕ) → value_of rows k ≡ value_of others k) → (k : ℕ) → value_of (lay_all ops rows) k ≡ value_of (lay_all ops others) k
same_values ops rows others same k = value_of-lay_all ops rows k ∙ ap (after (last_change k ops)) (same k) ∙ sym (value_of-lay_all ops others k)

pub right_over : (ops : List Operation) (rows others : List (ℕ × ℕ)) → ((k : ℕ) → value_of rows k ≡ value_of others k) → AreRight false ops rows → AreRight false ops others
right_over ops rows others same right n op there =
    IsRight-same false op (value_of (lay_all (take n ops) rows)) (value_of (lay_all (take n ops) others)) (same_values (take n ops) rows others same) (right n op there)
