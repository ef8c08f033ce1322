-- Answers that are right over some rows agree with one another.
use Rattle.std.proofs.Common.{◌≡◌, ◌==◌, ℕ, zero, suc, true, false, Vec, Global, List, [], ◌∷◌, Option, Some, refl, ap, ◌∙◌, subst, inl, inr, take}
use Rattle.std.proofs.lemmas.Bool.{cases_Bool, eq-eqb, both_ways, not-true}
use Rattle.std.proofs.lemmas.Option.{same_Some}
use Rattle.std.specs.Prelude.{not, is_some, slice_get}
use Rattle.hek_rules.specs.Listing.{value_of}
use Rattle.hek_history.specs.declared.history.Operation.{Operation}
use Rattle.hek_history.specs.declared.history.Operation.TheVariants.{Read, Put, Insert, Update, Delete, Scan}
use Rattle.hek_history.specs.declared.history.Scope.{Scope}
use Rattle.hek_history.specs.Answers.{covers, last_change, lay_all, tells, AreRight}
use Rattle.hek_history.proofs.Rows.{value_of-lay_all}
use Rattle.hek_history_levels.specs.Changes.{left_by}
use Rattle.hek_history_levels.specs.Fits.{AreCovered, IsOfScope, AreFitting}
use Rattle.hek_levels_runs.proofs.Left.{after-left}

-- the key of a pair has a value
has_value : (pairs : List (ℕ × ℕ)) (i : ℕ) (p : ℕ × ℕ) → slice_get pairs i ≡ Some p → is_some (value_of pairs p.0) ≡ true
has_value [] i p there = cc
has_value (q ∷ pairs) zero p there = rw (eq-eqb q.0 p.0 (ap (λ (x : ℕ × ℕ). x.0) (same_Some q p there))) refl
has_value (q ∷ pairs) (suc i) p there =
    elim (cases_Bool (q.0 == p.0)) [
      | inl same ↦ rw same refl
      | inr other ↦ rw other (has_value pairs i p there)
    ]

-- what is told of a key that a scan is not of
told_outside : (scope : Scope) (pairs : Vec (ℕ × ℕ) Global) (key : ℕ) (value : Option ℕ) → tells key (Scan scope pairs) value ≡ true → covers scope key ≡ false → not (is_some (value_of pairs.items key)) ≡ true
told_outside scope pairs key value t e = rw e at t

-- each pair of a scan whose answer is right is of its scope
covered : (scope : Scope) (pairs : Vec (ℕ × ℕ) Global) (found : ℕ → Option ℕ) → ((key : ℕ) → tells key (Scan scope pairs) (found key) ≡ true) → AreCovered scope pairs.items
covered scope pairs found told i p there =
    elim (cases_Bool (covers scope p.0)) [
      | inl on ↦ on
      | inr off ↦ absurd (both_ways (is_some (value_of pairs.items p.0)) (not-true (is_some (value_of pairs.items p.0)) (told_outside scope pairs p.0 (found p.0) (told p.0) off)) (has_value pairs.items i p there))
    ]

-- so is each pair of any operation
of_scope : (op : Operation) (found : ℕ → Option ℕ) → ((key : ℕ) → tells key op (found key) ≡ true) → IsOfScope op
of_scope (Read key value) found told = tt
of_scope (Put key value) found told = tt
of_scope (Insert key value done) found told = tt
of_scope (Update key value done) found told = tt
of_scope (Delete key done) found told = tt
of_scope (Scan scope pairs) found told = covered scope pairs found told

-- the value of a key at which operations leave something is that
left_value : (before : List Operation) (rows : List (ℕ × ℕ)) (key : ℕ) (v : Option ℕ) → left_by before key ≡ Some v → value_of (lay_all before rows) key ≡ v
left_value before rows key v e = value_of-lay_all before rows key ∙ after-left (last_change key before) (value_of rows key) v e

-- answers that are right over some rows fit
pub are_fitting : (ops : List Operation) (rows : List (ℕ × ℕ)) → AreRight false ops rows → AreFitting false ops
are_fitting ops rows right n op there =
    let here = right n op there in
    record {
      by_key = here.by_key;
      of_scope = of_scope op (value_of (lay_all (take n ops) rows)) (λ key. here.allowed key);
      agrees = (λ key v left. subst (λ (x : Option ℕ). tells key op x ≡ true) (left_value (take n ops) rows key v left) (here.allowed key));
    }
