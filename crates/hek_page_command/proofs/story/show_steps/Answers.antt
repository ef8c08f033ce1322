use Rattle.std.proofs.Common.{rules}
use Rattle.hek_moves.proofs.Stepping.{stands_more, placed_at}
use Rattle.hek_page_command.proofs.Stepping.{told_more, count_more, told_none}
use Rattle.hek_page_command.proofs.story.show_steps.Goals as goal

pub loop-place-init : goal.loop-place-init
loop-place-init c = record {
  stands = c.requires.stands;
  told = told_none c.args.schedule.now c.args.range.done c.args.story.now.steps.items (search rules) (search rules);
  count = search rules;
}

pub loop-place-preserved : goal.loop-place-preserved
loop-place-preserved c =
    let p = c.args.schedule.now in
    let es = c.args.steps.now in
    let i = c.loop-place.place in
    let e = c.index-steps-place.result in
    let m = c.loop-place.machine in
    let n = c.show_step.new.machine in
    let old = c.loop-place.story.steps.items in
    let new = c.show_step.new.story.steps.items in
    record {
      stands = stands_more p es i e m n (search rules) (search rules) (search rules) c.loop-place.invariant.stands c.in_ok-show_step.ensures.next;
      told = told_more p es c.args.range.done i e m n old new (search rules) (search rules) (search rules) c.loop-place.invariant.stands c.in_ok-show_step.ensures.next c.loop-place.invariant.count c.loop-place.invariant.told c.in_ok-show_step.ensures.added;
      count = count_more c.args.range.done i m n old new c.loop-place.invariant.count c.in_ok-show_step.ensures.added;
    }

pub show_step-requires-clause-placed : goal.show_step-requires-clause-placed
show_step-requires-clause-placed c =
    placed_at c.args.schedule.now c.args.steps.now c.loop-place.place c.index-steps-place.result c.loop-place.machine (search rules) (search rules) (search rules) c.loop-place.invariant.stands
