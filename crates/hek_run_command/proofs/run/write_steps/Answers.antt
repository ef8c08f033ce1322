use Rattle.std.proofs.Common.{rules, ◌++◌, ◌+◌, ◌∙◌, sym, subst, List, [], ℕ}
use Rattle.hek_machine.specs.Observed.{opening_of}
use Rattle.hek_machine.proofs.RunRules.{step_stands}
use Rattle.hek_asm.specs.Trace.{trace_line}
use Rattle.hek_run_command.specs.Ran.{trace_of}
use Rattle.hek_report.specs.Sent.{Passes}
use Rattle.hek_report.proofs.SentLemmas.{passes-on, passes-line, passes-end}
use Rattle.hek_run_command.proofs.Stepping.{to_come, next_line, none_to_come}
use Rattle.hek_run_command.proofs.run.write_steps.Goals as goal

pub loop-place-preserved : goal.loop-place-preserved
loop-place-preserved g c =
    let p = c.args.schedule.now in
    let es = c.args.steps.now in
    let i = c.loop-place.place in
    let w = opening_of p 1 in
    let e = c.index-steps-place.result in
    let r = c.in_ok-reply.reply in
    let held = g.W.Write.contents c.args.out.now in
    let now = g.W.Write.contents c.loop-place.out in
    let whole : List ℕ = trace_of p es in
    let rest : List ℕ = to_come p w es (i + 1) in
    let line : List ℕ = trace_line p (i + 1) e r in
    let before : Passes held whole now (c.loop-place.lines.items ++ (line ++ rest)) =
    subst (λ (xs : List ℕ). Passes held whole now (c.loop-place.lines.items ++ xs))
    (next_line p w es i e r (search rules) (search rules) (c.in_ok-reply.ensures.step.reply _ c.loop-place.invariant.stands)) c.loop-place.invariant.bytes in
    let gathered : Passes held whole now (c.put_line.new.out.items ++ rest) =
    subst (λ (xs : List ℕ). Passes held whole now (xs ++ rest)) (sym c.in_ok-put_line.ensures) (passes-line held now whole c.loop-place.lines.items line rest before) in
    record {
      stands = step_stands p 1 i es e c.loop-place.machine c.step.new.self r (search rules) (search rules) c.loop-place.invariant.stands c.in_ok-reply.ensures.step;
      buckets = c.in_ok-reply.ensures.buckets ∙ c.loop-place.invariant.buckets;
      bytes = passes-on held now _ whole c.put_line.new.out.items c.send_if_many.new.lines.items rest gathered c.in_ok-send_if_many.ensures.kept;
    }

pub returns-clause-written : goal.returns-clause-written
returns-clause-written g c =
    let p = c.args.schedule.now in
    let es = c.args.steps.now in
    let held = g.W.Write.contents c.args.out.now in
    let now = g.W.Write.contents c.loop-place.out in
    let last : Passes held (trace_of p es) now (c.loop-place.lines.items ++ []) =
    subst (λ (xs : List ℕ). Passes held (trace_of p es) now (c.loop-place.lines.items ++ xs)) (none_to_come p (opening_of p 1) es c.loop-place.place (search rules)) c.loop-place.invariant.bytes in
    passes-end held now _ (trace_of p es) c.loop-place.lines.items last c.in_ok-send.ensures.written
