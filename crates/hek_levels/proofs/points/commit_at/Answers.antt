use Rattle.std.proofs.Common.{◌∙◌, List, Some, cond, refl, sym, ap, subst}
use Rattle.std.specs.HashMap.{get}
use Rattle.std.specs.Prelude.{◌==◌, slice_get, is_some}
use Rattle.hek_levels.specs.declared.log.Change.{Change}
use Rattle.hek_levels.specs.declared.log.Turn.{Turn}
use Rattle.hek_levels.specs.declared.rules.Rules.{Rules}
use Rattle.hek_levels.specs.Logs.{left_in}
use Rattle.hek_levels.specs.Points.{IsClosed}
use Rattle.hek_levels.specs.Rows.{row_of, left_over}
use Rattle.hek_levels.proofs.Replays.{replay_commit}
use Rattle.hek_levels.proofs.points.commit_at.Goals as goal

pub returns : goal.returns
returns c yes' =
    replay_commit c.args.asked.now c.args.log.now c.args.order.now c.args.replay.now.count (row_of c.args.replay.now.rows) (get ◌==◌ c.args.replay.now.begun) (get ◌==◌ c.args.replay.now.last)
    (get ◌==◌ c.args.replay.now.looking) c.requires c.args.t c.in-Some.low (row_of c.change_rows.new.rows) (get ◌==◌ c.mark_writes.new.last) (c.if-not-is_at.ensures refl) (sym c.in-Some.ensures)
    (subst (λ (r : Rules). IsClosed r c.args.log.now c.args.order.now c.in-Some.low c.args.replay.now.count c.args.t) c.of-rules.ensures (c.if-not-is_closed.ensures refl))
    (λ n m turn there known. c.if-not-have_come.ensures refl n m turn (ap (λ (ts : List Turn). slice_get ts n) c.turns_of.ensures ∙ there) known)
    (λ k. c.in_ok-change_rows.ensures k ∙ ap (λ (cs : List Change). left_over (left_in cs k) (row_of c.args.replay.now.rows k)) c.writes_of.ensures)
    (λ k. c.in_ok-mark_writes.ensures k ∙ ap (λ (cs : List Change). cond (is_some (left_in cs k)) (Some c.args.replay.now.count) (get ◌==◌ c.args.replay.now.last k)) c.writes_of-2.ensures)
