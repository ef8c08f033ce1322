-- What operations leave at a key, and which of their changes later ones undo.
use Rattle.std.specs.Prelude.{ℕ, ◌≡◌, ◌<◌, true, List, Option, Some, None, is_some, slice_get, take}
use Rattle.hek_history.specs.declared.history.Operation.{Operation}
use Rattle.hek_history.specs.declared.history.Change.{Change}
use Rattle.hek_history.specs.declared.history.Change.TheVariants.{Keep, Remove, Set}
use Rattle.hek_history.specs.Answers.{key_of, change_of, last_change}
use Rattle.hek_levels.specs.declared.log.Change.{Change as TheChange}

-- what a change leaves of a key, if it changes it
abbrev pub left_of : Change → Option (Option ℕ)
left_of Keep = None
left_of Remove = Some None
left_of (Set x) = Some (Some x)

-- what operations leave at a key, if they change it
abbrev pub left_by : List Operation → ℕ → Option (Option ℕ)
left_by ops key = left_of (last_change key ops)

-- one of the first n operations changes the key again, where those before it have left this
pub record IsPassing (ops : List Operation) (n : ℕ) (c : TheChange) : Type 0 where
  pub m : ℕ
  pub op : Operation
  pub less : m < n
  pub there : slice_get ops m ≡ Some op
  pub of : key_of op ≡ c.key
  pub changes : is_some (left_of (change_of op)) ≡ true
  pub before : left_by (take m ops) c.key ≡ Some c.value
