use Rattle.std.proofs.Common.{◌++◌, ◌∙◌, ap, sym, subst, List, ℕ}
use Rattle.std.proofs.lemmas.Result.{IfOk-weaker}
use Rattle.std.specs.Io.KnownBytes.{Appends}
use Rattle.std.proofs.KnownBytes.{Appends-trans}
use Rattle.hek_rules.specs.World.{World}
use Rattle.hek_machine.specs.Stands.{StandsFor}
use Rattle.hek_step_report.specs.Clock.{clock_text}
use Rattle.hek_step_report.specs.StateText.{lines_of_state, state_text}
use Rattle.hek_run_command.proofs.run.write_machine.Goals as goal

pub returns-clause-written : goal.returns-clause-written
returns-clause-written g c =
    let p = c.args.schedule.now in
    let held = g.W.Write.contents c.args.out.now in
    let timed = g.W.Write.contents c.send.new.out in
    let after = g.W.Write.contents c.send-2.new.out in
    IfOk-weaker c.send-2.result (λ _. Appends timed after c.in_ok-lines.lines.items) (λ _. (w : World) → StandsFor c.args.machine.now w → Appends held after (state_text p w))
    (λ _ sent w stands.
    Appends-trans held timed after (clock_text w.clock) (lines_of_state p w)
    (subst (λ (xs : List ℕ). Appends held timed xs) (c.in_ok-line.ensures ∙ ap clock_text (sym (c.clock-clock.ensures.shown w stands))) c.in_ok-send.ensures.written)
    (subst (λ (xs : List ℕ). Appends timed after xs) (sym (c.in_ok-lines.ensures w stands)) sent))
    c.send-2.ensures.written
