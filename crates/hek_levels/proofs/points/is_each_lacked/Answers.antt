use Rattle.std.proofs.Common.{◌≡◌, ◌≤◌, ℕ, true, Some, ap, length, arith, below_more}
use Rattle.std.proofs.lemmas.Option.{slice_get_within}
use Rattle.hek_levels.specs.declared.log.Read.{Read}
use Rattle.hek_levels.specs.declared.log.Place.TheVariants.{Missing}
use Rattle.hek_levels.specs.Logs.{meets, read_at, scans_of}
use Rattle.hek_levels.specs.Rows.{row_of}
use Rattle.hek_levels.proofs.Judged.{missing-of}
use Rattle.hek_levels.proofs.points.is_each_lacked.Goals as goal

pub loop-n-preserved : goal.loop-n-preserved
loop-n-preserved c s key read l there =
    below_more (λ (k : ℕ). (name : ℕ) (one : Read) → read_at c.args.log.now c.args.t (Missing k name) ≡ Some one → meets one.need (row_of c.args.rows.now one.key) ≡ true) c.loop-n.n
    (λ k less name one at. c.loop-n.invariant k name one less at) (c.in_ok-is_lacked.ensures c.if-not-branch.false) s l key read there

pub returns : goal.returns
returns c is_so s key read there =
    let m = missing-of c.args.log.now c.args.t s key read there in
    let within = slice_get_within (scans_of c.args.log.now c.args.t) s m.scan m.there in
    let end : length c.scans_of-n-end.result.now ≤ c.loop-n.n = c.loop-n-test.false in
    let same = ap length c.scans_of-n-end.ensures in
    c.loop-n.invariant s key read (omega (arith, within, same, end)) there
