use Rattle.std.proofs.Common.{◌≡◌, true, refl, subst}
use Rattle.std.specs.HashMap.{get}
use Rattle.std.specs.Prelude.{◌==◌}
use Rattle.hek_levels.specs.declared.rules.Rules.{Rules}
use Rattle.hek_levels.specs.Points.{sees_turns}
use Rattle.hek_levels.specs.Rows.{row_of}
use Rattle.hek_levels.specs.Sweeps.{AreLaned}
use Rattle.hek_levels.proofs.Replays.{replay_begin}
use Rattle.hek_levels.proofs.points.begin_at.Goals as goal

pub returns : goal.returns
returns c yes' =
    replay_begin c.args.asked.now c.args.log.now c.args.order.now c.args.replay.now.count (row_of c.args.replay.now.rows) (get ◌==◌ c.args.replay.now.begun) (get ◌==◌ c.args.replay.now.last)
    (get ◌==◌ c.args.replay.now.looking) c.requires c.args.t (get ◌==◌ c.mark.new.places) (get ◌==◌ c.look.new.looking) (c.if-not-is_absent.ensures.0 refl) (c.in_ok-are_met.ensures c.if-not-branch.false)
    c.in_ok-mark.ensures c.in_ok-look.ensures.raised
    (subst (λ (r : Rules). sees_turns r ≡ true → AreLaned c.args.log.now (get ◌==◌ c.look.new.looking) c.args.t) c.of-rules.ensures c.in_ok-look.ensures.there)
