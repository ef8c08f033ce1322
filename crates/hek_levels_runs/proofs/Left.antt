-- What a change leaves, as the log has it and as the history has it.
use Rattle.std.proofs.Common.{◌≡◌, ℕ, true, Option, Some, None, refl}
use Rattle.std.specs.Prelude.{is_some}
use Rattle.hek_history.specs.declared.history.Change.{Change}
use Rattle.hek_history.specs.declared.history.Change.TheVariants.{Keep, Remove, Set}
use Rattle.hek_history.specs.Answers.{after, is_change}
use Rattle.hek_history_levels.specs.Changes.{left_of}

-- a change leaves something just if it is one
pub is_some-left_of : (c : Change) → is_some (left_of c) ≡ is_change c
is_some-left_of Keep = refl
is_some-left_of Remove = refl
is_some-left_of (Set x) = refl

-- and then what the key has after it
pub left_of-change : (c : Change) → is_change c ≡ true → left_of c ≡ Some (after c None)
left_of-change Keep e = cc
left_of-change Remove e = refl
left_of-change (Set x) e = refl

-- the key has what a change leaves
pub after-left : (c : Change) (value left : Option ℕ) → left_of c ≡ Some left → after c value ≡ left
after-left Keep value left e = cc
after-left Remove value left e = cc
after-left (Set x) value left e = cc

-- and what it had, where a change leaves nothing
pub after-none : (c : Change) (value : Option ℕ) → left_of c ≡ None → after c value ≡ value
after-none Keep value e = refl
after-none Remove value e = cc
after-none (Set x) value e = cc
