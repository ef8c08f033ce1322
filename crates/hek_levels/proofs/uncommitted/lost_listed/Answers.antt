use Rattle.std.proofs.Common.{◌≡◌, ◌≤◌, ℕ, true, Some, refl, ap, length, arith, below_more}
use Rattle.hek_levels.specs.declared.log.Read.{Read}
use Rattle.hek_levels.specs.declared.log.Place.TheVariants.{Listed}
use Rattle.hek_levels.specs.Logs.{read_at}
use Rattle.hek_levels.specs.Uncommitted.{is_found}
use Rattle.hek_levels.proofs.Marks.{read_within}
use Rattle.hek_levels.proofs.uncommitted.lost_listed.Goals as goal

pub loop-r-preserved : goal.loop-r-preserved
loop-r-preserved c q read l there =
    below_more (λ (k : ℕ). (one : Read) → read_at c.args.log.now c.args.t (Listed k) ≡ Some one → is_found c.args.log.now c.args.t one ≡ true) c.loop-r.r (λ k less one at. c.loop-r.invariant k one less at) (c.if-is_lost.ensures.none refl)
    q l read there

pub returns-clause-none : goal.returns-clause-none
returns-clause-none c r read there =
    let within = read_within c.args.log.now c.args.t r read there in
    let end : length c.reads_of-r-end.result.now ≤ c.loop-r.r = c.loop-r-test.false in
    let same = ap length c.reads_of-r-end.ensures in
    c.loop-r.invariant r read (omega (arith, within, same, end)) there
