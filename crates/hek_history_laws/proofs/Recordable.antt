-- A serial transcript is recorded by a history with the committed transactions in the order of their end times.
use Rattle.std.proofs.Common.{◌≡◌, ◌==◌, ℕ, zero, suc, ◌+◌, ◌<◌, ◌≤◌, ◌^◌, Bool, true, false, Vec, Global, List, [], ◌∷◌, ◌++◌, length, Option, Some, None, refl, sym, ap, ◌∙◌, inl, inr, ⊎_elim, subst, arith}
use Rattle.std.proofs.lemmas.Bool.{cases_Bool, cond-true, cond-false, cond_both, eqb-true, eq-eqb, both_ways}
use denote.RawPtr.{null_ptr}
use Rattle.std.specs.Prelude.{◌&&◌, is_some, slice_get, map, nat_lt, if◌then◌else◌}
use Rattle.hek_rules.specs.declared.event.Level.TheVariants as level
use Rattle.hek_rules.specs.declared.event.Event.{Event}
use Rattle.hek_rules.specs.declared.event.Event.TheVariants as event
use Rattle.hek_rules.specs.declared.reply.Reply.{Reply}
use Rattle.hek_rules.specs.declared.reply.Reply.TheVariants as reply
use Rattle.hek_rules.specs.declared.serial.Verdict.TheVariants.{Serial}
use Rattle.hek_rules.specs.Recorded.{Recorded}
use Rattle.hek_rules.specs.Listing.{value_of}
use Rattle.hek_rules.specs.Serial.{lay_all as laid, write_of, is_of, found_in, rows_of, end_of as drawn_end, committed_in, place_in, is_listed, with_end, ordered, serial_order, serial_rows, serial_reply, IsSerial, AreRight as AreRightIn}
use Rattle.hek_rules.specs.Faults.{put_all, IsVerdict}
use Rattle.hek_serial.specs.Leveled.{at_level}
use Rattle.hek_serial.proofs.Orders.{In, enders_of, in_order-ender}
use Rattle.hek_history.specs.declared.history.History.{History}
use Rattle.hek_history.specs.declared.history.Transaction.{Transaction}
use Rattle.hek_history.specs.declared.history.Operation.{Operation}
use Rattle.hek_history.specs.declared.history.Operation.TheVariants.{Read, Insert, Update, Delete, Scan}
use Rattle.hek_history.specs.declared.history.Scope.TheVariants.{Bucket}
use Rattle.hek_history.specs.declared.history.Level.TheVariants.{Serializable}
use Rattle.hek_history.specs.declared.history.Status.TheVariants.{Committed}
use Rattle.hek_history.specs.Histories.{committed_in as known_in, is_committed}
use Rattle.hek_history_laws.specs.Recording.{entry_of, is_operation, is_answer, answered, HasCommitted, IsRunOf, IsRecordedAt, Records, IsShort}
use Rattle.hek_history_laws.specs.Laws.{SerialRunsAreRecorded}
use Rattle.hek_history_laws.proofs.EndTimes.{one_at_most, same_time}
use Rattle.hek_history_laws.proofs.InOrder.{one_place}
use Rattle.hek_history_laws.proofs.Answered.{AreAnswered, is_answered, first_true}
use Rattle.hek_history_laws.proofs.NoFault.{ends_are_apart, order_rises, ender_of, right_in_turn}

-- a list as a vector without spare room
abbrev vec_of : {X : Type 0} → Global → (xs : List X) → length xs < 2 ^ 63 → Vec X Global
vec_of alloc xs l = record { ptr = null_ptr; len = length xs; cap = length xs; alloc = alloc; items = xs; ok = (refl, omega arith); small = l }

-- ---- an operation for each entry that was answered

abbrev IsShortReply : Reply → Type 0
IsShortReply r = (pairs : List (ℕ × ℕ)) → r ≡ reply.Rows pairs → length pairs < 2 ^ 63

serial_is : (x r : Reply) → is_answer r ≡ true → IsSerial (Some x) r → r ≡ x
serial_is x (reply.Refused why) a e = cc
serial_is x r a e = e

second_true : (a b c : Bool) → (a && b && c) ≡ true → b ≡ true
second_true true true c e = refl
second_true true false c e = e
second_true false b c e = cc

third_true : (a b c : Bool) → (a && b && c) ≡ true → c ≡ true
third_true true true c e = e
third_true true false c e = cc
third_true false b c e = cc

-- an operation of t whose entry this is
record HasOperation (buckets t : ℕ) (p : Event × Reply) : Type 0 where
  op : Operation
  entry : entry_of buckets t op ≡ Some p

abbrev same_entry : Event → Reply → Option (Event × Reply)
same_entry e r = Some (e, r)

flipped : (b : Bool) (x y : Reply) → (if (if b then false else true) then x else y) ≡ (if b then y else x)
flipped true x y = refl
flipped false x y = refl

operation_for : (alloc : Global) (buckets t : ℕ) (e : Event) (r : Reply) (rows : List (ℕ × ℕ)) → IsShortReply r → is_of t e ≡ true → is_operation e ≡ true → is_answer r ≡ true →
    IsSerial (serial_reply buckets rows e) r → HasOperation buckets t (e, r)
operation_for alloc buckets t (event.Read x key) r rows short mine o a right =
    let is = serial_is (found_in (value_of rows key)) r a right in
    let same : x ≡ t = eqb-true x t mine in
    record { op = Read key (value_of rows key); entry = λ i. same_entry (event.Read (sym same i) key) (sym is i) }
operation_for alloc buckets t (event.Insert x key value) r rows short mine o a right =
    let there = is_some (value_of rows key) in
    let is = serial_is (if there then reply.Exists else reply.Done) r a right in
    let same : x ≡ t = eqb-true x t mine in
    let reads : (if (if there then false else true) then reply.Done else reply.Exists) ≡ r = flipped there reply.Done reply.Exists ∙ sym is in
    record { op = Insert key value (if there then false else true); entry = λ i. same_entry (event.Insert (sym same i) key value) (reads i) }
operation_for alloc buckets t (event.Update x key value) r rows short mine o a right =
    let there = is_some (value_of rows key) in
    let is = serial_is (if there then reply.Done else reply.Absent) r a right in
    let same : x ≡ t = eqb-true x t mine in
    record { op = Update key value there; entry = λ i. same_entry (event.Update (sym same i) key value) (sym is i) }
operation_for alloc buckets t (event.Delete x key) r rows short mine o a right =
    let there = is_some (value_of rows key) in
    let is = serial_is (if there then reply.Done else reply.Absent) r a right in
    let same : x ≡ t = eqb-true x t mine in
    record { op = Delete key there; entry = λ i. same_entry (event.Delete (sym same i) key) (sym is i) }
operation_for alloc buckets t (event.Scan x bucket) r rows short mine o a right =
    let pairs = rows_of buckets bucket rows in
    let is = serial_is (reply.Rows pairs) r a right in
    let same : x ≡ t = eqb-true x t mine in
    record {
      op = Scan (Bucket buckets bucket) (vec_of alloc pairs (short pairs is));
      entry = cond-true (buckets == buckets) (Some (event.Scan t bucket, reply.Rows pairs)) None (eq-eqb buckets buckets refl) ∙ (λ i. same_entry (event.Scan (sym same i) bucket) (sym is i));
    }
operation_for alloc buckets t e r rows short mine o a right = cc

-- the operations of t in a history
record HasOperations (buckets t : ℕ) (h : List (Event × Reply)) : Type 0 where
  ops : List Operation
  few : length ops ≤ length h
  are : AreAnswered buckets t h ops

abbrev AreShort : List (Event × Reply) → Type 0
AreShort h = (i : ℕ) (e : Event) (r : Reply) → slice_get h i ≡ Some (e, r) → IsShortReply r

operations_for : (alloc : Global) (buckets t : ℕ) (h : List (Event × Reply)) (rows : List (ℕ × ℕ)) → AreShort h → AreRightIn level.Serializable buckets t rows h → HasOperations buckets t h
operations_for alloc buckets t [] rows short right = record { ops = []; few = omega arith; are = refl }
operations_for alloc buckets t (p ∷ ps) rows short right =
    let rest : HasOperations buckets t ps = operations_for alloc buckets t ps (laid (write_of t p.0 p.1) rows) (λ i e r there. short (suc i) e r there) right.1 in
    ⊎_elim
    (λ on.
    let mine = first_true (is_of t p.0) (is_operation p.0) (is_answer p.1) on in
    let one = operation_for alloc buckets t p.0 p.1 rows (short zero p.0 p.1 refl) mine (second_true (is_of t p.0) (is_operation p.0) (is_answer p.1) on) (third_true (is_of t p.0) (is_operation p.0) (is_answer p.1) on) (right.0 mine) in
    let all : entry_of buckets t one.op ∷ map (entry_of buckets t) rest.ops ≡ Some p ∷ map Some (answered t ps) = λ i. one.entry i ∷ rest.are i in
    record {
      ops = one.op ∷ rest.ops;
      few = let l = rest.few in omega (arith, l);
      are = all ∙ ap (map Some) (sym (cond-true (is_answered t p) (p ∷ answered t ps) (answered t ps) on));
    })
    (λ off. record {
      ops = rest.ops;
      few = let l = rest.few in omega (arith, l);
      are = rest.are ∙ ap (map Some) (sym (cond-false (is_answered t p) (p ∷ answered t ps) (answered t ps) off));
    })
    (cases_Bool (is_answered t p))

-- ---- a transaction for each entry of the order

abbrev Found : Recorded → ℕ → Type 0
Found s t = (x : Transaction) × IsRunOf s t x

-- a transaction for each entry, at its place
record HasTransactions (s : Recorded) (xs : List (ℕ × ℕ)) : Type 0 where
  found : List Transaction
  same : length found ≡ length xs
  are : (n : ℕ) (x : ℕ × ℕ) → slice_get xs n ≡ Some x → (y : Transaction) × (slice_get found n ≡ Some y) × IsRunOf s x.1 y

transactions_for : (s : Recorded) (xs : List (ℕ × ℕ)) → ((x : ℕ × ℕ) → In x xs → Found s x.1) → HasTransactions s xs
transactions_for s [] each = record { found = []; same = refl; are = λ n x e. cc }
transactions_for s (x ∷ xs) each =
    let rest : HasTransactions s xs = transactions_for s xs (λ y i. each y (inr i)) in
    let one = each x (inl refl) in
    record {
      found = one.0 ∷ rest.found;
      same = ap suc rest.same;
      are = each_is s x xs one rest.found rest.are;
    }
  where
    each_is : (s : Recorded) (x : ℕ × ℕ) (xs : List (ℕ × ℕ)) (one : Found s x.1) (found : List Transaction) →
        ((n : ℕ) (y : ℕ × ℕ) → slice_get xs n ≡ Some y → (z : Transaction) × (slice_get found n ≡ Some z) × IsRunOf s y.1 z) →
        (n : ℕ) (y : ℕ × ℕ) → slice_get (x ∷ xs) n ≡ Some y → (z : Transaction) × (slice_get (one.0 ∷ found) n ≡ Some z) × IsRunOf s y.1 z
    each_is s x xs one found are zero y e = let same : x ≡ y = cc in (one.0, refl, subst (λ (z : ℕ × ℕ). IsRunOf s z.1 one.0) same one.1)
    each_is s x xs one found are (suc n) y e = are n y e

-- ---- the place of a transaction

abbrev place_of : List (ℕ × ℕ) → ℕ → ℕ
place_of [] t = zero
place_of (x ∷ xs) t = if x.1 == t then zero else suc (place_of xs t)

record IsPlaced (xs : List (ℕ × ℕ)) (t : ℕ) : Type 0 where
  entry : ℕ × ℕ
  there : slice_get xs (place_of xs t) ≡ Some entry
  txn : entry.1 ≡ t

placed : (x : ℕ × ℕ) (xs : List (ℕ × ℕ)) → In x xs → IsPlaced xs x.1
placed x [] i = absurd i
placed x (y ∷ ys) i =
    ⊎_elim
    (λ here. record {
      entry = y;
      there = ap (slice_get (y ∷ ys)) (cond-true (y.1 == x.1) zero (suc (place_of ys x.1)) here);
      txn = eqb-true y.1 x.1 here;
    })
    (λ off.
    let other : In x ys = ⊎_elim (λ same. absurd (both_ways (y.1 == x.1) off (eq-eqb y.1 x.1 (ap (λ (z : ℕ × ℕ). z.1) (sym same))))) (λ r. r) i in
    let rest = placed x ys other in
    record {
      entry = rest.entry;
      there = ap (slice_get (y ∷ ys)) (cond-false (y.1 == x.1) zero (suc (place_of ys x.1)) off) ∙ rest.there;
      txn = rest.txn;
    })
    (cases_Bool (y.1 == x.1))

-- ---- lengths

length-place_in : (x : ℕ × ℕ) (ys : List (ℕ × ℕ)) → length (place_in x ys) ≡ suc (length ys)
length-place_in x [] = refl
length-place_in x (y ∷ ys) = cond_both (nat_lt x.0 y.0) (x ∷ y ∷ ys) (y ∷ place_in x ys) (λ zs. length zs ≡ suc (suc (length ys))) (λ _. refl) (λ _. ap suc (length-place_in x ys))

length-with_end : (t : ℕ) (o : Option ℕ) (order : List (ℕ × ℕ)) → length (with_end t o order) ≤ suc (length order)
length-with_end t None order = omega arith
length-with_end t (Some time) order =
    cond_both (is_listed t order) order (place_in (time, t) order) (λ zs. length zs ≤ suc (length order)) (λ _. omega arith) (λ _. let e = length-place_in (time, t) order in omega (arith, e))

length-ordered : (h : List (Event × Reply)) (ts : List ℕ) (order : List (ℕ × ℕ)) → length (ordered h ts order) ≤ length ts + length order
length-ordered h [] order = omega arith
length-ordered h (t ∷ ts) order =
    let rest = length-ordered h ts (with_end t (drawn_end t h) order) in
    let one = length-with_end t (drawn_end t h) order in
    omega (arith, rest, one)

length-committed_in : (h : List (Event × Reply)) → length (committed_in h) ≤ length h
length-committed_in [] = omega arith
length-committed_in (p ∷ ps) =
    let rest = length-committed_in ps in
    ⊎_elim (λ none. let e : length (committed_in (p ∷ ps)) ≡ length (committed_in ps) = ap (λ (ts : List ℕ). length (ts ++ committed_in ps)) none in omega (arith, rest, e))
    (λ one. let e : length (committed_in (p ∷ ps)) ≡ suc (length (committed_in ps)) = ap (λ (ts : List ℕ). length (ts ++ committed_in ps)) one.1 in omega (arith, rest, e))
    (one_at_most p.0 p.1)

length-serial_order : (h : List (Event × Reply)) → length (serial_order h) ≤ length h
length-serial_order h =
    let order = length-ordered h (committed_in h) [] in
    let few = length-committed_in h in
    let none : length {A = ℕ × ℕ} [] ≡ zero = refl in
    omega (arith, order, few, none)

-- ---- the history

known_some : (o : Option Transaction) → known_in o ≡ true → (y : Transaction) × (o ≡ Some y)
known_some None e = cc
known_some (Some y) e = (y, refl)

place_within : {X : Type 0} (xs : List (ℕ × ℕ)) (ys : List X) (n : ℕ) (y : X) → length ys ≡ length xs → slice_get ys n ≡ Some y → (x : ℕ × ℕ) × (slice_get xs n ≡ Some x)
place_within [] [] n y l e = cc
place_within [] (z ∷ ys) n y l e = absurd (omega (arith, l))
place_within (x ∷ xs) [] n y l e = absurd (omega (arith, l))
place_within (x ∷ xs) (z ∷ ys) zero y l e = (x, refl)
place_within (x ∷ xs) (z ∷ ys) (suc n) y l e = place_within xs ys n y (omega (arith, l)) e

module _ (alloc : Global) (s : Recorded) (some : 0 < s.buckets) (short : IsShort s) (serial : IsVerdict (at_level level.Serializable s) Serial) where
  abbrev order : List (ℕ × ℕ)
  order = serial_order s.history

  all_short : AreShort s.history
  all_short i e r there pairs is = short.scans i e pairs (there ∙ ap (λ (q : Reply). Some (e, q)) is)

  found_for : (x : ℕ × ℕ) → In x order → Found s x.1
  found_for x i =
      let end = enders_of s.history x i in
      let made = operations_for alloc s.buckets x.1 s.history (serial_rows s.history (put_all s.rows []) x.0) all_short (right_in_turn s serial x end) in
      let fits : length made.ops < 2 ^ 63 = (let few = made.few in let l = short.history in omega (arith, few, l)) in
      let found : Transaction = record {
        level = Serializable;
        status = Committed;
        begin = None;
        end = drawn_end x.1 s.history;
        invoked = None;
        answered = None;
        operations = vec_of alloc made.ops fits;
      } in
      (found, record { level = refl; status = refl; end = refl; operations = made.are })

  made : HasTransactions s order
  made = transactions_for s order found_for

  fits : length made.found < 2 ^ 63
  fits = let same = made.same in let few = length-serial_order s.history in let l = short.history in omega (arith, same, few, l)

  abbrev history : History
  history = record { rows = vec_of alloc (put_all s.rows []) short.rows; transactions = vec_of alloc made.found fits }

  abbrev place : ℕ → ℕ
  place t = place_of order t

  at : (t : ℕ) → HasCommitted s t → IsPlaced order t
  at t c = let end = (ends_are_apart s serial).drawn t c in placed (end.0, t) order (in_order-ender s.history t end.0 c end.1)

  one_entry : (x y : ℕ × ℕ) → Some x ≡ Some y → x ≡ y
  one_entry x y e = cc

  placed_once : (t u : ℕ) → HasCommitted s t → HasCommitted s u → place t ≡ place u → t ≡ u
  placed_once t u c d same =
      let a = at t c in
      let b = at u d in
      let one : a.entry ≡ b.entry = one_entry a.entry b.entry (sym a.there ∙ ap (slice_get order) same ∙ b.there) in
      sym a.txn ∙ ap (λ (x : ℕ × ℕ). x.1) one ∙ b.txn

  recorded_at : (t : ℕ) → HasCommitted s t → IsRecordedAt s history (place t) t
  recorded_at t c =
      let a = at t c in
      let y = made.are (place t) a.entry a.there in
      record { found = y.0; at = y.1; run = subst (λ (u : ℕ). IsRunOf s u y.0) a.txn y.2 }

  only_these : (i : ℕ) → is_committed history i ≡ true → (t : ℕ) × HasCommitted s t × (place t ≡ i)
  only_these i e =
      let y = known_some (slice_get made.found i) e in
      let x = place_within order made.found i y.0 made.same y.1 in
      let end = ender_of s i x.0 x.1 in
      let a = at x.0.1 end.committed in
      let other = ender_of s (place x.0.1) a.entry a.there in
      let time : a.entry.0 ≡ x.0.0 = same_time a.entry.0 x.0.0 (sym other.end ∙ ap (λ t. drawn_end t s.history) a.txn ∙ end.end) in
      (x.0.1, end.committed, one_place order (place x.0.1) i a.entry x.0 (order_rises s serial) a.there x.1 time)

  records : Records history place s
  records = record { rows = λ key. refl; committed = recorded_at; apart = placed_once; others = only_these }

pub serial_runs_are_recorded : SerialRunsAreRecorded
serial_runs_are_recorded alloc s some short serial = (history alloc s some short serial, place alloc s some short serial, records alloc s some short serial)
