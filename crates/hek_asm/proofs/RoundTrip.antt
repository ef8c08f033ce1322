-- The canonical text of a schedule is the text of that schedule.
use Rattle.std.proofs.Common.{◌≡◌, ℕ, zero, suc, ◌+◌, ◌-◌, ◌<◌, ◌≤◌, ◌^◌, Bool, true, false, ◌&&◌, ◌||◌, not, List, [], ◌∷◌, ◌++◌, length, get_or, map, Some, None, Ok, refl, sym, ap, subst, ◌∙◌, arith, append_assoc, length-append, nat_eq, codes, IsTrue}
use Rattle.std.specs.Prelude.{position, nat_le, nat_lt, ◌==◌}
use Rattle.std.specs.List.{AllByRecursion, IsDistinct, list_all, position_or_len}
use Rattle.std.specs.Option.{option_map}
use Rattle.std.specs.Str.{bytes_eq}
use Rattle.std.specs.Fmt.{decimal}
use Rattle.std.specs.Map.{keys_of}
use Rattle.std.proofs.lemmas.Bool.{and_parts, not-true, lt-ltb, le-leb}
use Rattle.std.proofs.lemmas.Slice.Eq.{bytes_eq-Decides}
use Rattle.std.proofs.lemmas.List.{append-nil, length-map}
use Rattle.std.proofs.lemmas.List.Sums.{position_or_len_is}
use Rattle.std.proofs.lemmas.Map.Keys.{apart_from_distinct}
use Rattle.hek_rules.specs.declared.event.Level.{Level}
use Rattle.hek_rules.specs.declared.event.Event.{Event}
use Rattle.hek_rules.specs.declared.event.Event.TheVariants as event
use Rattle.hek_rules.specs.declared.kind.EventKind.{EventKind}
use Rattle.hek_rules.specs.declared.kind.EventKind.TheVariants as kind
use Rattle.hek_rules.specs.Name.{is_name, is_name_byte, is_reserved, begins_with_letter}
use Rattle.hek_rules.specs.Events.{word_of, kind_named, operand_count, event_of, is_detect, is_scan}
use Rattle.hek_rules.specs.Plan.{Plan, IsPlan, IsRow, IsStep, IsDeclared, names_of, id_of}
use Rattle.hek_asm.specs.Text.{words_after, first_words, buckets_line, later_words, step_line, event_line, operands_or_fault, with_step, detect_line, before_txns, schedule_of}
use Rattle.hek_asm.specs.Canonical.{row_words, txn_words, name_at, step_words, lines_words, canonical_text}
use Rattle.hek_asm.proofs.Joined.{IsWord, written_after, written_step}
use Rattle.hek_asm.proofs.LinesAfter.{ends}
use Rattle.hek_asm.proofs.Again.{number_again, decimal_word, name_word, letters_word, fresh_before, nat_flips, bytes_flips, run, AllGood, added, GoodRow, with_row, row_says, GoodTxn, with_txn, txn_says}

map_append : {X Y : Type 0} (f : X → Y) (xs ys : List X) → map f (xs ++ ys) ≡ map f xs ++ map f ys
map_append f [] ys = refl
map_append f (x ∷ xs) ys = ap (λ zs. f x ∷ zs) (map_append f xs ys)

-- ---- rows and transactions
good_rows : (p : Plan) (rs : List (ℕ × ℕ)) → before_txns p ≡ true → AllByRecursion IsRow rs → IsDistinct nat_eq (keys_of (p.rows ++ rs)) → length p.rows + length rs ≤ 65536 → AllGood row_words with_row GoodRow row_says p rs
good_rows p [] e h d n = tt
good_rows p (r ∷ rs) e h d n =
    let apart : IsDistinct nat_eq (keys_of p.rows ++ r.0 ∷ keys_of rs) = subst (IsDistinct nat_eq) (map_append (λ (x : ℕ × ℕ). x.0) p.rows (r ∷ rs)) d in
    let next : IsDistinct nat_eq (keys_of ((p.rows ++ r ∷ []) ++ rs)) = subst (λ (xs : List (ℕ × ℕ)). IsDistinct nat_eq (keys_of xs)) (sym (append_assoc p.rows (r ∷ []) rs)) d in (
      record { early = e; fits = h.0; fresh = fresh_before nat_eq nat_flips (keys_of p.rows) r.0 (keys_of rs) apart; room = omega arith },
      good_rows (with_row p r) rs e h.1 next (omega (arith, length-append p.rows (r ∷ []))),
    )

added_rows : (p : Plan) (rs : List (ℕ × ℕ)) → added row_words with_row GoodRow row_says p rs ≡ record p { rows = p.rows ++ rs }
added_rows p [] = ap (λ (xs : List (ℕ × ℕ)). record p { rows = xs }) (sym (append-nil p.rows))
added_rows p (r ∷ rs) = added_rows (with_row p r) rs ∙ ap (λ (xs : List (ℕ × ℕ)). record p { rows = xs }) (append_assoc p.rows (r ∷ []) rs)

good_txns : (p : Plan) (ts : List (List ℕ × Level)) → (length p.steps == 0) ≡ true → AllByRecursion (λ w. IsTrue (is_name w)) (keys_of ts) → IsDistinct bytes_eq (keys_of (p.txns ++ ts)) → length p.txns + length ts ≤ 1024 → AllGood txn_words with_txn GoodTxn txn_says p ts
good_txns p [] e h d n = tt
good_txns p (t ∷ ts) e h d n =
    let apart : IsDistinct bytes_eq (names_of p ++ t.0 ∷ keys_of ts) = subst (IsDistinct bytes_eq) (map_append (λ (x : List ℕ × Level). x.0) p.txns (t ∷ ts)) d in
    let next : IsDistinct bytes_eq (keys_of ((p.txns ++ t ∷ []) ++ ts)) = subst (λ (xs : List (List ℕ × Level)). IsDistinct bytes_eq (keys_of xs)) (sym (append_assoc p.txns (t ∷ []) ts)) d in (
      record { early = e; form = h.0; fresh = fresh_before bytes_eq bytes_flips (names_of p) t.0 (keys_of ts) apart; room = omega arith },
      good_txns (with_txn p t) ts e h.1 next (omega (arith, length-append p.txns (t ∷ []))),
    )

added_txns : (p : Plan) (ts : List (List ℕ × Level)) → added txn_words with_txn GoodTxn txn_says p ts ≡ record p { txns = p.txns ++ ts }
added_txns p [] = ap (λ (xs : List (List ℕ × Level)). record p { txns = xs }) (sym (append-nil p.txns))
added_txns p (t ∷ ts) = added_txns (with_txn p t) ts ∙ ap (λ (xs : List (List ℕ × Level)). record p { txns = xs }) (append_assoc p.txns (t ∷ []) ts)

-- ---- the name of a transaction leads back to it
all_at : {X : Type 0} (P : X → Type 0) (xs : List X) (i : ℕ) (d : X) → AllByRecursion P xs → i < length xs → P (get_or xs i d)
all_at P [] i d h lt = absurd (omega arith)
all_at P (x ∷ xs) zero d h lt = h.0
all_at P (x ∷ xs) (suc i) d h lt = all_at P xs i d h.1 (omega arith)

own_place : (ns : List (List ℕ)) (i : ℕ) → i < length ns → IsDistinct bytes_eq ns → position (bytes_eq (get_or ns i [])) ns ≡ Some i
own_place ns i lt d =
    let w = get_or ns i [] in
    let first : position_or_len (bytes_eq w) ns ≡ i = position_or_len_is (bytes_eq w) ns i [] (omega arith) (λ k h. bytes_flips w (get_or ns k []) ∙ apart_from_distinct bytes_eq ns k i [] d h lt) (λ _. (bytes_eq-Decides w w).1 refl) in
    rw (first, lt-ltb i (length ns) lt) refl

place_of : (q : Plan) (t : ℕ) → IsDeclared (length q.txns) t → t - 1 < length (names_of q)
place_of q t h = omega (arith, h.0, h.1, length-map q.txns (λ (x : List ℕ × Level). x.0))

pub id_again : (q : Plan) (t : ℕ) → IsPlan q → IsDeclared (length q.txns) t → id_of q (name_at q t) ≡ Some t
id_again q t is h =
    let back : (t - 1) + 1 ≡ t = omega (arith, h.0) in
    ap (option_map (λ (i : ℕ). i + 1)) (own_place (names_of q) (t - 1) (place_of q t h) is.names) ∙ ap (λ (m : ℕ). Some m) back

pub name_again : (q : Plan) (t : ℕ) → IsPlan q → IsDeclared (length q.txns) t → is_name (name_at q t) ≡ true
name_again q t is h = all_at (λ w. IsTrue (is_name w)) (names_of q) (t - 1) [] is.forms (place_of q t h)

-- ---- steps
pub or_false : (x y : Bool) → (x || y) ≡ false → (x ≡ false) × (y ≡ false)
or_false true y e = absurd cc
or_false false y e = (refl, e)

by_step : (p : Plan) (w : List ℕ) (ws : List (List ℕ)) → is_name w ≡ true → later_words p w ws ≡ step_line p w ws
unfolding later_words
by_step p w ws h =
    let free = not-true (is_reserved w) (and_parts ((begins_with_letter w && nat_le (length w) 32) && list_all is_name_byte w) (not (is_reserved w)) h).1 in
    let d = or_false ((bytes_eq w (codes "buckets") || bytes_eq w (codes "row")) || bytes_eq w (codes "txn")) (bytes_eq w (codes "detect")) free in
    let t = or_false (bytes_eq w (codes "buckets") || bytes_eq w (codes "row")) (bytes_eq w (codes "txn")) d.0 in
    let r = or_false (bytes_eq w (codes "buckets")) (bytes_eq w (codes "row")) t.0 in
    rw (r.0, r.1, t.1, d.1) refl

pub record GoodStep (q p : Plan) (e : Event) : Type 0 where
  pub is : IsStep q.buckets (length q.txns) e
  pub plan : IsPlan q
  pub txns : p.txns ≡ q.txns
  pub buckets : p.buckets ≡ q.buckets
  pub room : length p.steps < 1000000

abbrev with_event : Plan → Event → Plan
with_event p e = record p { steps = p.steps ++ e ∷ [] }

id_in : (q p : Plan) (t : ℕ) → IsPlan q → p.txns ≡ q.txns → IsDeclared (length q.txns) t → id_of p (name_at q t) ≡ Some t
id_in q p t is e h = ap (λ (ts : List (List ℕ × Level)). id_of (record p { txns = ts }) (name_at q t)) e ∙ id_again q t is h

with_room : (p : Plan) (e : Event) → length p.steps < 1000000 → with_step p e ≡ Ok (with_event p e)
unfolding with_step
with_room p e h = rw (lt-ltb (length p.steps) 1000000 h) refl

detect_says : (p : Plan) → length p.steps < 1000000 → words_after (Some p) (codes "detect" ∷ []) ≡ Ok (Some (with_event p event.Detect))
unfolding words_after later_words detect_line
detect_says p h = rw (with_room p event.Detect h) refl

-- a step of a transaction: its name, the word of its kind, and its operands
record Says (p : Plan) (k : EventKind) (operands : List (List ℕ)) (a b : ℕ) : Type 0 where
  pub named : kind_named (word_of k) ≡ Some k
  pub other : is_detect k ≡ false
  pub count : (length operands == operand_count k) ≡ true
  pub numbers : operands_or_fault operands ≡ Ok (a, b)
  pub bucket : (not (is_scan k) || nat_lt a p.buckets) ≡ true

said : (q p : Plan) (t : ℕ) (k : EventKind) (operands : List (List ℕ)) (a b : ℕ) → IsPlan q → p.txns ≡ q.txns → IsDeclared (length q.txns) t → length p.steps < 1000000 → Says p k operands a b →
    words_after (Some p) (name_at q t ∷ word_of k ∷ operands) ≡ Ok (Some (with_event p (event_of k t a b)))
unfolding words_after step_line event_line
said q p t k operands a b is same declared room says =
    rw (by_step p (name_at q t) (word_of k ∷ operands) (name_again q t is declared), says.named, says.other, says.count, id_in q p t is same declared, says.numbers, says.bucket, with_room p (event_of k t a b) room) refl

one_number : (a : ℕ) → a < 2 ^ 64 → operands_or_fault (decimal a ∷ []) ≡ Ok (a, 0)
unfolding operands_or_fault
one_number a h = rw (number_again a h) refl

two_numbers : (a b : ℕ) → a < 2 ^ 64 → b < 2 ^ 64 → operands_or_fault (decimal a ∷ decimal b ∷ []) ≡ Ok (a, b)
unfolding operands_or_fault
two_numbers a b h k = rw (number_again a h, number_again b k) refl

no_number : operands_or_fault [] ≡ Ok (0, 0)
unfolding operands_or_fault
no_number = refl

-- the words of a step are words, and reading them adds the step
abbrev IsSaid : Plan → Plan → Event → Type 0
IsSaid q p e = AllByRecursion IsWord (step_words q e) × (words_after (Some p) (step_words q e) ≡ Ok (Some (with_event p e)))

step_says : (q p : Plan) (e : Event) → GoodStep q p e → IsSaid q p e
step_says q p (event.Begin t) h = ((name_word (name_at q t) (name_again q t h.plan h.is), (letters_word (codes "begin") refl, tt)), said q p t kind.Begin [] 0 0 h.plan h.txns h.is h.room (record { named = refl; other = refl; count = refl; numbers = no_number; bucket = refl }))
step_says q p (event.Read t a) h = ((name_word (name_at q t) (name_again q t h.plan h.is.0), (letters_word (codes "read") refl, (decimal_word a h.is.1, tt))), said q p t kind.Read (decimal a ∷ []) a 0 h.plan h.txns h.is.0 h.room (record { named = refl; other = refl; count = refl; numbers = one_number a h.is.1; bucket = refl }))
step_says q p (event.Scan t a) h =
    let small : a < 2 ^ 64 = omega (arith, h.is.1, h.plan.buckets.1) in
    ((name_word (name_at q t) (name_again q t h.plan h.is.0), (letters_word (codes "scan") refl, (decimal_word a small, tt))), said q p t kind.Scan (decimal a ∷ []) a 0 h.plan h.txns h.is.0 h.room (record { named = refl; other = refl; count = refl; numbers = one_number a small; bucket = lt-ltb a p.buckets (omega (arith, h.is.1, h.buckets)) }))
step_says q p (event.Insert t a b) h = ((name_word (name_at q t) (name_again q t h.plan h.is.0), (letters_word (codes "insert") refl, (decimal_word a h.is.1.0, (decimal_word b h.is.1.1, tt)))), said q p t kind.Insert (decimal a ∷ decimal b ∷ []) a b h.plan h.txns h.is.0 h.room (record { named = refl; other = refl; count = refl; numbers = two_numbers a b h.is.1.0 h.is.1.1; bucket = refl }))
step_says q p (event.Update t a b) h = ((name_word (name_at q t) (name_again q t h.plan h.is.0), (letters_word (codes "update") refl, (decimal_word a h.is.1.0, (decimal_word b h.is.1.1, tt)))), said q p t kind.Update (decimal a ∷ decimal b ∷ []) a b h.plan h.txns h.is.0 h.room (record { named = refl; other = refl; count = refl; numbers = two_numbers a b h.is.1.0 h.is.1.1; bucket = refl }))
step_says q p (event.Delete t a) h = ((name_word (name_at q t) (name_again q t h.plan h.is.0), (letters_word (codes "delete") refl, (decimal_word a h.is.1, tt))), said q p t kind.Delete (decimal a ∷ []) a 0 h.plan h.txns h.is.0 h.room (record { named = refl; other = refl; count = refl; numbers = one_number a h.is.1; bucket = refl }))
step_says q p (event.Finish t) h = ((name_word (name_at q t) (name_again q t h.plan h.is), (letters_word (codes "finish") refl, tt)), said q p t kind.Finish [] 0 0 h.plan h.txns h.is h.room (record { named = refl; other = refl; count = refl; numbers = no_number; bucket = refl }))
step_says q p (event.Precommit t) h = ((name_word (name_at q t) (name_again q t h.plan h.is), (letters_word (codes "precommit") refl, tt)), said q p t kind.Precommit [] 0 0 h.plan h.txns h.is h.room (record { named = refl; other = refl; count = refl; numbers = no_number; bucket = refl }))
step_says q p (event.Release t) h = ((name_word (name_at q t) (name_again q t h.plan h.is), (letters_word (codes "release") refl, tt)), said q p t kind.Release [] 0 0 h.plan h.txns h.is h.room (record { named = refl; other = refl; count = refl; numbers = no_number; bucket = refl }))
step_says q p (event.Commit t) h = ((name_word (name_at q t) (name_again q t h.plan h.is), (letters_word (codes "commit") refl, tt)), said q p t kind.Commit [] 0 0 h.plan h.txns h.is h.room (record { named = refl; other = refl; count = refl; numbers = no_number; bucket = refl }))
step_says q p (event.Fail t) h = ((name_word (name_at q t) (name_again q t h.plan h.is), (letters_word (codes "fail") refl, tt)), said q p t kind.Fail [] 0 0 h.plan h.txns h.is h.room (record { named = refl; other = refl; count = refl; numbers = no_number; bucket = refl }))
step_says q p (event.Stamp t) h = ((name_word (name_at q t) (name_again q t h.plan h.is), (letters_word (codes "stamp") refl, tt)), said q p t kind.Stamp [] 0 0 h.plan h.txns h.is h.room (record { named = refl; other = refl; count = refl; numbers = no_number; bucket = refl }))
step_says q p (event.End t) h = ((name_word (name_at q t) (name_again q t h.plan h.is), (letters_word (codes "end") refl, tt)), said q p t kind.End [] 0 0 h.plan h.txns h.is h.room (record { named = refl; other = refl; count = refl; numbers = no_number; bucket = refl }))
step_says q p event.Detect h = ((letters_word (codes "detect") refl, tt), detect_says p h.room)

good_steps : (q p : Plan) (es : List Event) → IsPlan q → p.txns ≡ q.txns → p.buckets ≡ q.buckets → AllByRecursion (IsStep q.buckets (length q.txns)) es → length p.steps + length es ≤ 1000000 → AllGood (step_words q) with_event (GoodStep q) (step_says q) p es
good_steps q p [] is t b h n = tt
good_steps q p (e ∷ es) is t b h n = (
  record { is = h.0; plan = is; txns = t; buckets = b; room = omega arith },
  good_steps q (with_event p e) es is t b h.1 (omega (arith, length-append p.steps (e ∷ []))),
)

added_steps : (q p : Plan) (es : List Event) → added (step_words q) with_event (GoodStep q) (step_says q) p es ≡ record p { steps = p.steps ++ es }
added_steps q p [] = ap (λ (xs : List Event). record p { steps = xs }) (sym (append-nil p.steps))
added_steps q p (e ∷ es) = added_steps q (with_event p e) es ∙ ap (λ (xs : List Event). record p { steps = xs }) (append_assoc p.steps (e ∷ []) es)

-- ---- the whole text
abbrev begun : ℕ → Plan
begun n = record { buckets = n; rows = []; txns = []; steps = [] }

buckets_says : (n : ℕ) → 0 < n → n ≤ 1024 → words_after None (codes "buckets" ∷ decimal n ∷ []) ≡ Ok (Some (begun n))
unfolding words_after first_words buckets_line
buckets_says n low high = rw (number_again n (omega arith), lt-ltb 0 n low, le-leb n 1024 high) refl

pub text_again : (p : Plan) → IsPlan p → schedule_of (canonical_text p) ≡ Ok p
text_again p is =
    let p0 : Plan = begun p.buckets in
    let p1 : Plan = record p0 { rows = p.rows } in
    let p2 : Plan = record p1 { txns = p.txns } in
    let steps = map (step_words p) p.steps in
    let later = map txn_words p.txns ++ steps in
    let n1 : ℕ = 2 in
    let n2 = n1 + length p.rows in
    let n3 = n2 + length p.txns in
    let n4 = n3 + length p.steps in
    let s0 : written_after 1 None (lines_words p) ≡ written_after 2 (Some p0) (map row_words p.rows ++ later) = written_step 1 None (Some p0) (codes "buckets" ∷ decimal p.buckets ∷ []) (map row_words p.rows ++ later) (letters_word (codes "buckets") refl, (decimal_word p.buckets (omega (arith, is.buckets.1)), tt)) (buckets_says p.buckets is.buckets.0 is.buckets.1) in
    let s1 = run row_words with_row GoodRow row_says n1 p0 p.rows later (good_rows p0 p.rows refl is.rows is.keys (omega (arith, is.row_count))) ∙ ap (λ (x : Plan). written_after n2 (Some x) later) (added_rows p0 p.rows) in
    let s2 = run txn_words with_txn GoodTxn txn_says n2 p1 p.txns steps (good_txns p1 p.txns refl is.forms is.names (omega (arith, is.txn_count))) ∙ ap (λ (x : Plan). written_after n3 (Some x) steps) (added_txns p1 p.txns) in
    let s3 = ap (written_after n3 (Some p2)) (sym (append-nil steps)) ∙ run (step_words p) with_event (GoodStep p) (step_says p) n3 p2 p.steps [] (good_steps p p2 p.steps is refl refl is.steps (omega (arith, is.step_count))) ∙ ap (λ (x : Plan). written_after n4 (Some x) []) (added_steps p p2 p.steps) in
    s0 ∙ s1 ∙ s2 ∙ s3 ∙ ends n4 (Some p)
