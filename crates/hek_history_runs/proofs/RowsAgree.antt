-- The rows at a place of a transcript: those of its points, as a history that records it has them.
use Rattle.std.proofs.Common.{◌≡◌, ℕ, zero, suc, ◌<◌, ◌≤◌, Bool, List, [], ◌∷◌, ◌++◌, Some, refl, ◌∙◌, ap, sym, arith, inl, inr, ⊎_elim, take}
use Rattle.std.proofs.lemmas.Bool.{cases_Bool, cond-true, cond-false, lt-ltb, le-ltb}
use Rattle.std.proofs.lemmas.List.Elements.{filter-append}
use Rattle.std.specs.Prelude.{◌&&◌, ◌⊎◌, nat_lt, filter, slice_get, if◌then◌else◌}
use Rattle.hek_rules.specs.declared.event.Event.{Event}
use Rattle.hek_rules.specs.declared.event.Event.TheVariants as event
use Rattle.hek_rules.specs.declared.reply.Reply.{Reply}
use Rattle.hek_rules.specs.declared.reply.Reply.TheVariants as reply
use Rattle.hek_rules.specs.Listing.{value_of}
use Rattle.hek_rules.specs.Recorded.{Recorded}
use Rattle.hek_rules.specs.Serial.{lay_all as laid, writes_of, laid_over as laid_in}
use Rattle.hek_laws.proofs.Worlds.Histories.{laid_over-append}
use Rattle.hek_laws.proofs.Futures.Survivors.{has_committed}
use Rattle.hek_laws.proofs.Futures.Invariant.{drawn_by, order_in}
use Rattle.hek_history.specs.declared.history.History.{History}
use Rattle.hek_history.specs.declared.history.Operation.{Operation}
use Rattle.hek_history.specs.declared.history.Point.{Point}
use Rattle.hek_history.specs.declared.history.Point.TheVariants.{Begin, Commit}
use Rattle.hek_history.specs.Answers.{lay_all}
use Rattle.hek_history.specs.Histories.{operations_in, operations_of, laid_over}
use Rattle.hek_history_laws.specs.Recording.{HasCommitted}
use Rattle.hek_history_laws.proofs.Answered.{writes_answered, same_values}
use Rattle.hek_history_runs.specs.Recording.{Records}
use Rattle.hek_history_runs.specs.Points.{is_snapshot, commits, points_at, points_in}
use Rattle.hek_history_runs.proofs.Ticks.{time_drawn}

-- two filters in either order give one list
pub filter-swap : (p q : ℕ × ℕ → Bool) (xs : List (ℕ × ℕ)) → filter p (filter q xs) ≡ filter q (filter p xs)
filter-swap p q [] = refl
filter-swap p q (x ∷ xs) =
    let rest = filter-swap p q xs in
    ⊎_elim
    (λ yes.
    ap (filter p) (cond-true (q x) (x ∷ filter q xs) (filter q xs) yes)
    ∙ ⊎_elim
    (λ both. cond-true (p x) (x ∷ filter p (filter q xs)) (filter p (filter q xs)) both ∙ ap (λ zs. x ∷ zs) rest
    ∙ sym (ap (filter q) (cond-true (p x) (x ∷ filter p xs) (filter p xs) both) ∙ cond-true (q x) (x ∷ filter q (filter p xs)) (filter q (filter p xs)) yes))
    (λ off. cond-false (p x) (x ∷ filter p (filter q xs)) (filter p (filter q xs)) off ∙ rest ∙ sym (ap (filter q) (cond-false (p x) (x ∷ filter p xs) (filter p xs) off)))
    (cases_Bool (p x)))
    (λ off.
    ap (filter p) (cond-false (q x) (x ∷ filter q xs) (filter q xs) off) ∙ rest
    ∙ ⊎_elim
    (λ yes. sym (ap (filter q) (cond-true (p x) (x ∷ filter p xs) (filter p xs) yes) ∙ cond-false (q x) (x ∷ filter q (filter p xs)) (filter q (filter p xs)) off))
    (λ none. sym (ap (filter q) (cond-false (p x) (x ∷ filter p xs) (filter p xs) none)))
    (cases_Bool (p x)))
    (cases_Bool (q x))

-- ---- the order up to a time
drawn-cases : (e : Event) (r : Reply) → (drawn_by e r ≡ []) ⊎ ((x : ℕ × ℕ) × (drawn_by e r ≡ x ∷ []) × (time_drawn e r ≡ Some x.0))
drawn-cases (event.Precommit t) (reply.Precommitted time) = inr ((time, t), refl, refl)
drawn-cases (event.Precommit t) r = inl refl
drawn-cases e r = inl refl

abbrev earlier_than : ℕ → ℕ × ℕ → Bool
earlier_than time x = nat_lt x.0 time

-- the entries that draw an earlier time are the first n
pub order-until : (h : List (Event × Reply)) (n time : ℕ) → ((i : ℕ) (q : Event × Reply) (a : ℕ) → slice_get h i ≡ Some q → time_drawn q.0 q.1 ≡ Some a → i < n → a < time) →
    ((i : ℕ) (q : Event × Reply) (a : ℕ) → slice_get h i ≡ Some q → time_drawn q.0 q.1 ≡ Some a → n ≤ i → time ≤ a) → filter (earlier_than time) (order_in h) ≡ order_in (take n h)
order-until [] zero time before after = refl
order-until [] (suc n) time before after = refl
order-until (p ∷ ps) zero time before after =
    filter-append (earlier_than time) (drawn_by p.0 p.1) (order_in ps)
    ∙ ap (λ xs. filter (earlier_than time) (drawn_by p.0 p.1) ++ xs) (order-until ps zero time (λ i q a at d l. absurd (omega (arith, l))) (λ i q a at d l. after (suc i) q a at d (omega arith)))
    ∙ ap (λ xs. xs ++ []) (⊎_elim (λ none. ap (filter (earlier_than time)) none)
    (λ one. let late = after zero p one.0.0 refl one.2 (omega arith) in ap (filter (earlier_than time)) one.1 ∙ cond-false (nat_lt one.0.0 time) (one.0 ∷ []) [] (le-ltb one.0.0 time late)) (drawn-cases p.0 p.1))
order-until (p ∷ ps) (suc n) time before after =
    filter-append (earlier_than time) (drawn_by p.0 p.1) (order_in ps)
    ∙ ap (λ xs. filter (earlier_than time) (drawn_by p.0 p.1) ++ xs) (order-until ps n time (λ i q a at d l. before (suc i) q a at d (omega (arith, l))) (λ i q a at d l. after (suc i) q a at d (omega (arith, l))))
    ∙ ap (λ xs. xs ++ order_in (take n ps)) (⊎_elim (λ none. ap (filter (earlier_than time)) none ∙ sym none)
    (λ one. let soon = before zero p one.0.0 refl one.2 (omega arith) in ap (filter (earlier_than time)) one.1 ∙ cond-true (nat_lt one.0.0 time) (one.0 ∷ []) [] (lt-ltb one.0.0 time soon) ∙ sym one.1) (drawn-cases p.0 p.1))

-- ---- the rows of the points
points-append : (h : History) (xs ys : List Point) (rows : List (ℕ × ℕ)) → laid_over h (xs ++ ys) rows ≡ laid_over h ys (laid_over h xs rows)
points-append h [] ys rows = refl
points-append h (Begin t ∷ xs) ys rows = points-append h xs ys rows
points-append h (Commit t ∷ xs) ys rows = points-append h xs ys (lay_all (operations_of h t) rows)

module _ (s : Recorded) (h : History) (place : ℕ → ℕ) (rec : Records h place s) where
  abbrev C : ℕ × ℕ → Bool
  C x = has_committed s.history x.1

  -- the writes of a transaction, over rows with the same values
  writes-agree : (t : ℕ) → HasCommitted s t → (rows others : List (ℕ × ℕ)) → ((k : ℕ) → value_of rows k ≡ value_of others k) → (k : ℕ) →
      value_of (lay_all (operations_of h (place t)) rows) k ≡ value_of (laid (writes_of t s.history) others) k
  writes-agree t c rows others same k =
      let f = rec.committed t c in
      let ops = f.found.operations.items in
      ap (λ (o : List Operation). value_of (lay_all o rows) k) (ap operations_in f.at)
      ∙ same_values ops rows others same k
      ∙ ap (λ rs. value_of rs k) (sym (writes_answered s.buckets t s.history ops others f.run.operations))

  entry-agrees : (e : Event) (r : Reply) (rows others : List (ℕ × ℕ)) → ((k : ℕ) → value_of rows k ≡ value_of others k) → (k : ℕ) →
      value_of (laid_over h (points_at place s e r) rows) k ≡ value_of (laid_in s.history (filter C (drawn_by e r)) others) k
  entry-agrees (event.Begin t) (reply.Began time) rows others same k =
      ⊎_elim
      (λ yes. ap (λ ps. value_of (laid_over h ps rows) k) (cond-true (commits s t && is_snapshot s t) (Begin (place t) ∷ []) [] yes) ∙ same k)
      (λ off. ap (λ ps. value_of (laid_over h ps rows) k) (cond-false (commits s t && is_snapshot s t) (Begin (place t) ∷ []) [] off) ∙ same k)
      (cases_Bool (commits s t && is_snapshot s t))
  entry-agrees (event.Precommit t) (reply.Precommitted time) rows others same k =
      let both = if is_snapshot s t then Commit (place t) ∷ [] else Begin (place t) ∷ Commit (place t) ∷ [] in
      let lay = λ (ps : List Point). value_of (laid_over h ps rows) k in
      ⊎_elim
      (λ yes.
      ap lay (cond-true (commits s t) both [] yes)
      ∙ ⊎_elim (λ snap. ap lay (cond-true (is_snapshot s t) (Commit (place t) ∷ []) (Begin (place t) ∷ Commit (place t) ∷ []) snap)) (λ plain. ap lay (cond-false (is_snapshot s t) (Commit (place t) ∷ []) (Begin (place t) ∷ Commit (place t) ∷ []) plain)) (cases_Bool (is_snapshot s t))
      ∙ writes-agree t yes rows others same k
      ∙ ap (λ xs. value_of (laid_in s.history xs others) k) (sym (cond-true (C (time, t)) ((time, t) ∷ []) [] yes)))
      (λ off.
      ap lay (cond-false (commits s t) both [] off) ∙ same k
      ∙ ap (λ xs. value_of (laid_in s.history xs others) k) (sym (cond-false (C (time, t)) ((time, t) ∷ []) [] off)))
      (cases_Bool (commits s t))
  entry-agrees e r rows others same k = same k

  pub rows-agree : (ps : List (Event × Reply)) (rows others : List (ℕ × ℕ)) → ((k : ℕ) → value_of rows k ≡ value_of others k) → (k : ℕ) →
      value_of (laid_over h (points_in place s ps) rows) k ≡ value_of (laid_in s.history (filter C (order_in ps)) others) k
  rows-agree [] rows others same k = same k
  rows-agree (p ∷ ps) rows others same k =
      ap (λ rs. value_of rs k) (points-append h (points_at place s p.0 p.1) (points_in place s ps) rows)
      ∙ rows-agree ps (laid_over h (points_at place s p.0 p.1) rows) (laid_in s.history (filter C (drawn_by p.0 p.1)) others) (entry-agrees p.0 p.1 rows others same) k
      ∙ ap (λ rs. value_of rs k) (sym (laid_over-append s.history (filter C (drawn_by p.0 p.1)) (filter C (order_in ps)) others))
      ∙ ap (λ xs. value_of (laid_in s.history xs others) k) (sym (filter-append C (drawn_by p.0 p.1) (order_in ps)))
