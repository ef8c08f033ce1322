use Rattle.std.proofs.Common.{sym, ◌∙◌, ap, arith, ◌-◌}
use Rattle.hek_rules.specs.Visibility.{is_seen}
use Rattle.hek_visible.specs.Seen.{version_seen}
use Rattle.hek_machine.specs.Judgements.{looks}
use Rattle.hek_machine.proofs.LastSeen.{last_at, none_at}
use Rattle.hek_machine.proofs.engine.Engine.last_seen.Goals as goal

pub returns-then-is_seen : goal.returns-then-is_seen
returns-then-is_seen c =
    let m = c.args.self.now in
    sym (last_at (λ v. is_seen (version_seen m.store m.txns c.args.t (looks m c.args.t) v)) (c.loop-left.left - 1) c.loop-left.left c.index-vs-left.result c.args.vs.now
    (omega (arith, c.loop-left-test.true, c.loop-left.invariant.within)) (omega (arith, c.loop-left-test.true)) c.index-vs-left.is
    (ap is_seen (sym c.sight.ensures) ∙ sym c.is_seen.ensures ∙ c.if-is_seen.true) c.loop-left.invariant.none)

pub loop-left-preserved : goal.loop-left-preserved
loop-left-preserved c =
    let m = c.args.self.now in
    record {
      within = omega (arith, c.loop-left-test.true, c.loop-left.invariant.within);
      none = none_at (λ v. is_seen (version_seen m.store m.txns c.args.t (looks m c.args.t) v)) (c.loop-left.left - 1) c.loop-left.left c.index-vs-left.result c.args.vs.now
          (omega (arith, c.loop-left-test.true, c.loop-left.invariant.within)) (omega (arith, c.loop-left-test.true)) c.index-vs-left.is
          (ap is_seen (sym c.sight.ensures) ∙ sym c.is_seen.ensures ∙ c.if-is_seen.false) c.loop-left.invariant.none;
    }
