use Rattle.std.proofs.Common.{◌≡◌, ℕ, None}
use Rattle.hek_levels.specs.declared.log.Need.{Need}
use Rattle.hek_levels.specs.Uncommitted.{who_in, who_below}
use Rattle.hek_levels.proofs.uncommitted.changers_of.Given as goal

abbrev pub invariant-loop-t : goal.invariant-loop-t
invariant-loop-t l = (key : ℕ) (need : Need) → who_in l.changers key need ≡ who_below l.log key need l.t None
