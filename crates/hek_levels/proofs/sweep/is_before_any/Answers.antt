use Rattle.std.proofs.Common.{◌≡◌, ◌≤◌, Some, length, arith}
use Rattle.std.specs.Prelude.{slice_get}
use Rattle.std.proofs.lemmas.Option.{slice_get_within}
use Rattle.hek_levels.proofs.sweep.is_before_any.Goals as goal

pub returns : goal.returns
returns c f =
    let there : slice_get c.turns_of-turns.result.now f.0 ≡ Some f.1 = rw c.turns_of-turns.ensures f.3 in
    let within = slice_get_within c.turns_of-turns.result.now f.0 f.1 there in
    let end : length c.turns_of-turns.result.now ≤ c.loop-n.n = c.loop-n-test.false in
    absurd (c.loop-n.invariant f.0 f.2 f.1 (omega (arith, within, end)) there f.4 f.5)
