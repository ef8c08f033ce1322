use Rattle.std.proofs.Common.{◌≡◌, ◌++◌, List, ℕ, Option, IfSome, subst, Bor}
use Rattle.hek_rules.specs.declared.reply.Reply.{Reply}
use Rattle.hek_asm.specs.Reading.{IsLineRest}
use Rattle.hek_asm.specs.Trace.{line_front}
use Rattle.hek_asm.proofs.OwnSteps.{step_front}
use Rattle.hek_asm.proofs.own_steps.entry_by_step.Goals as goal

pub returns : goal.returns
returns c =
    let text : List ℕ = c.args.text.now in
    let line : List ℕ = line_front c.args.schedule.now c.args.number c.in-Some.event in
    let rest : List ℕ = c.in-Some-2.rest.now in
    let front = subst (λ (o : Option (Bor (List ℕ))). IfSome o (λ after. text ≡ line ++ after.now)) c.in-Some-2.is c.in_ok-rest.ensures in
    let back = subst (λ (o : Option (Reply × Bor (List ℕ))). IfSome o (λ x. IsLineRest x.0 rest x.1.now)) c.in-Some-3.is c.in_ok-reply.ensures in
    step_front c.args.schedule.now c.args.number c.in-Some.event c.in-Some-3.reply text rest c.in-Some-3.after.now c.buckets-buckets.ensures.plan c.in-Some.ensures front back
