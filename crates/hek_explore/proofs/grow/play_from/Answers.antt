use Rattle.std.proofs.Common.{◌∙◌, ◌∷◌, List, ℕ, ap, arith, reverse, subst, sym, take}
use Rattle.hek_worker.specs.Kept.{Kept}
use Rattle.hek_permute.specs.Plays.{Plays}
use Rattle.hek_permute.proofs.Plays.{back_more, plays_on}
use Rattle.hek_explore.proofs.grow.play_from.Goals as goal

pub loop-mover-init : goal.loop-mover-init
loop-mover-init c = record {
  plan = ap (λ (b : Kept). b.plan) c.in_ok-book.ensures ∙ c.schedule.ensures;
  come = (c.in_ok-places.ensures, ap (λ (b : Kept). b.history) c.in_ok-book.ensures);
}

pub loop-mover-preserved : goal.loop-mover-preserved
loop-mover-preserved c =
    let past : List ℕ = reverse (take c.loop-mover.mover-index c.args.order.now) in
    record {
      plan = c.in_ok-move_in.ensures.plan ∙ c.loop-mover.invariant.plan;
      come = subst (λ (names : List ℕ). Plays c.args.form c.args.moves.now names c.move_in.new.places.items c.move_in.new.book.history)
          (sym (back_more c.args.order.now c.loop-mover.mover-index c.mover-item.result (omega arith) ∙ ap (λ (t : ℕ). t ∷ past) (sym c.mover-item.is)))
          (plays_on c.args.form c.args.moves.now c.mover-item.result past c.loop-mover.places.items c.move_in.new.places.items c.loop-mover.book.history
          c.move_in.new.book.history c.loop-mover.invariant.come c.in_ok-move_in.ensures.moved);
    }
