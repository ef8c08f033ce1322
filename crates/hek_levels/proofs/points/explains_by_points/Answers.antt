use Rattle.std.proofs.Common.{refl, subst, ◌∙◌}
use Rattle.std.specs.HashMap.{get}
use Rattle.std.specs.Prelude.{◌==◌}
use Rattle.hek_levels.specs.Points.{IsExplainedBy}
use Rattle.hek_levels.proofs.Judged.{if_ok}
use Rattle.hek_levels.proofs.Pointed.{explained_by_points}
use Rattle.hek_levels.proofs.points.explains_by_points.Goals as goal

pub returns : goal.returns
returns c =
    if_ok c.is_replayed.result c.is_replayed.ensures
    (λ yes' f true'.
    subst (IsExplainedBy c.args.asked.now c.args.log.now) (c.as_slice-order.ensures.value ∙ c.in_ok-list.ensures)
    (explained_by_points c.args.asked.now c.args.log.now c.as_slice-order.result.now (get ◌==◌ c.find_places.new.places) (c.in_ok-find_places.ensures c.if-not-branch.false) (c.if-not-have_all_places.ensures refl)
    (c.in_ok-are_in_turn.ensures c.if-not-branch-2.false) (f true')))
