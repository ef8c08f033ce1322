use Rattle.std.proofs.Common.{subst, List}
use Rattle.std.proofs.lemmas.Result.{IfOk-weaker}
use Rattle.std.specs.Io.KnownBytes.{Appends}
use Rattle.std.proofs.KnownBytes.{Appends-trans}
use Rattle.hek_rules.specs.declared.event.Event.{Event}
use Rattle.hek_rules.specs.World.{World}
use Rattle.hek_machine.specs.Stands.{StandsFor}
use Rattle.hek_run_command.specs.Ran.{ShowsState, trace_of, trace_with_state, world_after}
use Rattle.hek_step_report.specs.StateText.{state_text}
use Rattle.hek_run_command.proofs.Stepping.{first_placed, first_declared, first_steps}
use Rattle.hek_run_command.proofs.run.write_state.Goals as goal

pub write_steps-requires-clause-placed : goal.write_steps-requires-clause-placed
write_steps-requires-clause-placed g c = first_placed c.args.schedule.now c.steps.result.now c.first_steps-steps.result.now c.args.limit c.known.ensures c.steps.ensures c.first_steps-steps.ensures

pub write_steps-requires-clause-declared : goal.write_steps-requires-clause-declared
write_steps-requires-clause-declared g c = first_declared c.args.schedule.now c.steps.result.now c.first_steps-steps.result.now c.args.limit c.known.ensures c.steps.ensures c.first_steps-steps.ensures

pub returns-clause-written : goal.returns-clause-written
returns-clause-written g c =
    let p = c.args.schedule.now in
    let steps = c.first_steps-steps.result.now in
    let held = g.W.Write.contents c.args.out.now in
    let traced = g.W.Write.contents c.write_steps.new.out in
    let after = g.W.Write.contents c.write_machine.new.out in
    IfOk-weaker c.write_machine.result (λ _. (w : World) → StandsFor c.write_steps.new.machine w → Appends traced after (state_text p w)) (λ _. ShowsState p c.args.limit held after)
    (λ _ shown.
    subst (λ (fs : List Event). Appends held after (trace_with_state p fs))
    (first_steps p c.steps.result.now steps c.args.limit c.steps.ensures c.first_steps-steps.ensures)
    (Appends-trans held traced after (trace_of p steps) (state_text p (world_after p steps)) c.in_ok-write_steps.ensures.written (shown (world_after p steps) c.in_ok-write_steps.ensures.stands)))
    c.write_machine.ensures.written
