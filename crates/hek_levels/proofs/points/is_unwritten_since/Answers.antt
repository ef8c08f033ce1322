use Rattle.std.proofs.Common.{◌≡◌, ◌<◌, ℕ, Some, refl, sym, subst}
use Rattle.std.specs.HashMap.{get}
use Rattle.std.specs.Prelude.{◌==◌}
use Rattle.hek_levels.specs.declared.log.Change.{Change}
use Rattle.hek_levels.specs.Logs.{writes_of}
use Rattle.hek_levels.proofs.Marks.{changed_by}
use Rattle.hek_levels.proofs.Turned.{element-more, element-all}
use Rattle.hek_levels.proofs.points.is_unwritten_since.Goals as goal

pub loop-n-preserved : goal.loop-n-preserved
loop-n-preserved c =
    element-more (λ (change : Change). (m : ℕ) → get ◌==◌ c.args.last.now change.key ≡ Some m → m < c.args.low) c.writes_of-changes.result.now c.loop-n.n c.loop-n.invariant
    (λ change there m is. c.if-not-is_unwritten_at.ensures refl change m there is)

pub returns : goal.returns
returns c is_so key m does is =
    let by = changed_by (writes_of c.args.log.now c.args.t) key does in
    element-all (λ (change : Change). (n : ℕ) → get ◌==◌ c.args.last.now change.key ≡ Some n → n < c.args.low) c.writes_of-changes.result.now (writes_of c.args.log.now c.args.t) c.loop-n.n c.writes_of-changes.ensures
    c.loop-n-test.false c.loop-n.invariant by.0 by.1 by.2 m (subst (λ (k : ℕ). get ◌==◌ c.args.last.now k ≡ Some m) (sym by.3) is)
