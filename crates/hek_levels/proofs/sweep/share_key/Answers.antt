use Rattle.std.proofs.Common.{◌≡◌, ◌≤◌, ℕ, false, Some, subst, length, arith}
use Rattle.std.specs.Prelude.{slice_get}
use Rattle.std.proofs.lemmas.Bool.{both_ways}
use Rattle.std.proofs.lemmas.Option.{slice_get_within}
use Rattle.hek_levels.specs.Logs.{writes_of, does_write}
use Rattle.hek_levels.proofs.Marks.{changed_by}
use Rattle.hek_levels.proofs.sweep.share_key.Goals as goal

pub returns : goal.returns
returns c key mine its =
    let by = changed_by (writes_of c.args.log.now c.args.x) key mine in
    let there : slice_get c.writes_of-changes.result.now by.0 ≡ Some by.1 = rw c.writes_of-changes.ensures by.2 in
    let within = slice_get_within c.writes_of-changes.result.now by.0 by.1 there in
    let end : length c.writes_of-changes.result.now ≤ c.loop-n.n = c.loop-n-test.false in
    let none = c.loop-n.invariant by.0 by.1 (omega (arith, within, end)) there in
    absurd (both_ways _ (subst (λ (k : ℕ). does_write c.args.log.now c.args.y k ≡ false) by.3 none) its)
