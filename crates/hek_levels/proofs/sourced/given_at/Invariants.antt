use Rattle.std.proofs.Common.{◌≡◌, drop}
use Rattle.hek_levels.specs.Explanations.{given_at}
use Rattle.hek_levels.proofs.sourced.given_at.Given as goal

abbrev pub invariant-loop-one : goal.invariant-loop-one
invariant-loop-one l = given_at (drop l.one-index l.given) l.scan l.key ≡ given_at l.given l.scan l.key
