-- Whether the answers of a transaction agree with what it had done itself.
use Rattle.std.specs.Prelude.{ℕ, ◌≡◌, ◌<◌, Bool, true, List, Option, Some, slice_get, take}
use Rattle.hek_history.specs.declared.history.Operation.{Operation}
use Rattle.hek_history.specs.declared.history.Operation.TheVariants.{Scan}
use Rattle.hek_history.specs.declared.history.Scope.{Scope}
use Rattle.hek_history.specs.Answers.{covers, allows, IsByKey}
use Rattle.hek_history_levels.specs.Changes.{left_by}

-- each pair is of the scope
abbrev pub AreCovered : Scope → List (ℕ × ℕ) → Type 0
AreCovered scope pairs = (i : ℕ) (p : ℕ × ℕ) → slice_get pairs i ≡ Some p → covers scope p.0 ≡ true

-- the pairs of a scan are of its scope
abbrev pub IsOfScope : Operation → Type 0
IsOfScope (Scan scope pairs) = AreCovered scope pairs.items
IsOfScope op = Unit {0}

-- the answer can be right, where the transaction itself has left this
pub record IsFitting (lenient : Bool) (own : ℕ → Option (Option ℕ)) (op : Operation) : Type 0 where
  pub by_key : IsByKey op
  pub of_scope : IsOfScope op
  pub agrees : (key : ℕ) (v : Option ℕ) → own key ≡ Some v → allows lenient key op v ≡ true

-- the same of the answers of the first n operations, and of all
abbrev pub AreFittingTo : Bool → List Operation → ℕ → Type 0
AreFittingTo lenient ops n = (m : ℕ) (op : Operation) → m < n → slice_get ops m ≡ Some op → IsFitting lenient (left_by (take m ops)) op

abbrev pub AreFitting : Bool → List Operation → Type 0
AreFitting lenient ops = (m : ℕ) (op : Operation) → slice_get ops m ≡ Some op → IsFitting lenient (left_by (take m ops)) op
