use Rattle.std.proofs.Common.{rules}
use Rattle.hek_moves.proofs.Stepping.{stands_more, placed_at}
use Rattle.hek_page_command.proofs.story.pass_steps.Goals as goal

pub loop-place-preserved : goal.loop-place-preserved
loop-place-preserved c =
    let e = c.index-steps-place.result in
    stands_more c.args.schedule.now c.args.steps.now c.loop-place.place e c.loop-place.machine c.pass_step.new.machine (search rules) (search rules) (search rules) c.loop-place.invariant c.in_ok-pass_step.ensures

pub pass_step-requires : goal.pass_step-requires
pass_step-requires c = record {
  placed = placed_at c.args.schedule.now c.args.steps.now c.loop-place.place c.index-steps-place.result c.loop-place.machine (search rules) (search rules) (search rules) c.loop-place.invariant;
}
