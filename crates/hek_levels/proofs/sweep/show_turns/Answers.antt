use Rattle.std.proofs.Common.{◌≡◌, true}
use Rattle.std.specs.HashMap.{get}
use Rattle.std.specs.Prelude.{◌==◌}
use Rattle.hek_levels.specs.declared.log.Turn.{Turn}
use Rattle.hek_levels.specs.Logs.{turns_of}
use Rattle.hek_levels.specs.Sweeps.{IsFrom}
use Rattle.hek_levels.proofs.Turned.{element-more, element-all}
use Rattle.hek_levels.proofs.sweep.show_turns.Goals as goal

pub loop-n-preserved : goal.loop-n-preserved
loop-n-preserved c = record {
  raised = (λ lane first m. c.in_ok-show_turn_at.ensures.raised lane first (c.loop-n.invariant.raised lane first m));
  there =
      element-more (λ (turn : Turn). turn.seen ≡ true → IsFrom (get ◌==◌ c.show_turn_at.new.lanes) turn.lane turn.first) c.turns_of-turns.result.now c.loop-n.n
      (λ k turn l at seen. c.in_ok-show_turn_at.ensures.raised turn.lane turn.first (c.loop-n.invariant.there k turn l at seen)) c.in_ok-show_turn_at.ensures.there;
}

pub returns-clause-there : goal.returns-clause-there
returns-clause-there c =
    element-all (λ (turn : Turn). turn.seen ≡ true → IsFrom (get ◌==◌ c.loop-n.lanes) turn.lane turn.first) c.turns_of-turns.result.now (turns_of c.args.log.now c.args.y) c.loop-n.n c.turns_of-turns.ensures
    c.loop-n-test.false c.loop-n.invariant.there
