use Rattle.std.proofs.Common.{◌≡◌, ◌≤◌, Some, sym, subst, length, arith}
use Rattle.std.specs.HashMap.{get}
use Rattle.std.specs.Prelude.{◌==◌, slice_get}
use Rattle.std.proofs.lemmas.Option.{slice_get_within}
use Rattle.hek_levels.specs.Logs.{writes_of}
use Rattle.hek_levels.specs.Sweeps.{IsMarked}
use Rattle.hek_levels.proofs.Marks.{changed_by}
use Rattle.hek_levels.proofs.sweep.is_any_key.Goals as goal

pub returns : goal.returns
returns c key does marked =
    let by = changed_by (writes_of c.args.log.now c.args.x) key does in
    let there : slice_get c.writes_of-changes.result.now by.0 ≡ Some by.1 = rw c.writes_of-changes.ensures by.2 in
    let within = slice_get_within c.writes_of-changes.result.now by.0 by.1 there in
    let end : length c.writes_of-changes.result.now ≤ c.loop-n.n = c.loop-n-test.false in
    absurd (c.loop-n.invariant by.0 by.1 (omega (arith, within, end)) there (subst (IsMarked (get ◌==◌ c.args.keys.now)) (sym by.3) marked))
