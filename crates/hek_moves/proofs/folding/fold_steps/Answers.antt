use Rattle.std.proofs.Common.{rules, ℕ, ◌+◌, ◌∙◌, ap, sym}
use Rattle.hek_machine.specs.Stands.{StandsFor}
use Rattle.hek_moves.specs.Steps.{world_at}
use Rattle.hek_moves.proofs.Stepping.{stands_more, placed_at}
use Rattle.hek_moves.proofs.folding.fold_steps.Goals as goal

pub loop-place-init : goal.loop-place-init
loop-place-init c = record {
  stands = c.requires.stands;
  rows = sym (c.in_ok-note_opening.ensures.shown (world_at c.args.schedule.now 0) c.requires.stands);
  judged = c.in_ok-note_opening.ensures.judged;
  count = search rules;
}

pub loop-place-preserved : goal.loop-place-preserved
loop-place-preserved c =
    let p = c.args.schedule.now in
    let i = c.loop-place.place in
    let stands : StandsFor c.fold_step.new.machine (world_at p (i + 1)) =
    stands_more p c.args.steps.now i c.index-steps-place.result c.loop-place.machine c.fold_step.new.machine (search rules) (search rules) (search rules) c.loop-place.invariant.stands c.in_ok-fold_step.ensures.next in
    record {
      stands = stands;
      rows = sym (c.in_ok-fold_step.ensures.shown (world_at p (i + 1)) stands);
      judged = c.in_ok-fold_step.ensures.judged;
      count = c.in_ok-fold_step.ensures.count ∙ ap (λ (n : ℕ). n + 1) c.loop-place.invariant.count;
    }

pub fold_step-requires : goal.fold_step-requires
fold_step-requires c = record {
  placed = placed_at c.args.schedule.now c.args.steps.now c.loop-place.place c.index-steps-place.result c.loop-place.machine (search rules) (search rules) (search rules) c.loop-place.invariant.stands;
}
