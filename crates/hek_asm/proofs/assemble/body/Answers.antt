use Rattle.std.proofs.Common.{ℕ, ◌+◌, ◌∙◌, sym, ap, subst, arith, Some, Result}
use Rattle.hek_asm.specs.declared.fault.AsmKind.{AsmKind}
use Rattle.hek_asm.specs.declared.fault.AsmFault.{AsmFault}
use Rattle.hek_rules.specs.Text.{lines_of}
use Rattle.hek_rules.specs.Plan.{Plan}
use Rattle.hek_asm.specs.Text.{lines_after}
use Rattle.hek_asm.specs.Gives.{TextFails, at_line}
use Rattle.hek_asm.proofs.LinesAfter.{goes_on, fails, ends}
use Rattle.hek_asm.proofs.assemble.body.Goals as goal

pub returns-in-Err : goal.returns-in-Err
returns-in-Err c =
    let n = c.loop-line.number in
    let here = ap (lines_after (n + 1) (Some c.loop-line.schedule)) c.in-Some.ensures.line in
    let fault = fails (n + 1) (Some c.loop-line.schedule) c.in-Some.line.now (lines_of c.in-Some.after.now) c.in-Err.fault c.in-Err.ensures in
    let at : TextFails (at_line (n + 1) c.in-Err.fault) (lines_after (c.args.number + 1) (Some c.args.schedule) (lines_of c.args.rest.now)) = subst (λ (r : Result Plan (ℕ × AsmKind)). TextFails (at_line (n + 1) c.in-Err.fault) r) (sym here ∙ c.loop-line.invariant.0) fault in
    subst (λ (f : AsmFault). TextFails f (lines_after (c.args.number + 1) (Some c.args.schedule) (lines_of c.args.rest.now))) (sym c.at_line.ensures) at

pub loop-line-preserved : goal.loop-line-preserved
loop-line-preserved c =
    let n = c.loop-line.number in
    let here = ap (lines_after (n + 1) (Some c.loop-line.schedule)) c.in-Some.ensures.line in
    let next = goes_on (n + 1) (Some c.loop-line.schedule) (Some c.body_line.new.schedule) c.in-Some.line.now (lines_of c.in-Some.after.now) c.in_default-body_line.ensures in
    (sym next ∙ sym here ∙ c.loop-line.invariant.0, omega (arith, c.loop-line.invariant.1, c.in-Some.ensures.shorter))

pub returns : goal.returns
returns c =
    let n = c.loop-line.number in
    sym c.loop-line.invariant.0 ∙ ap (lines_after (n + 1) (Some c.loop-line.schedule)) c.in_default.ensures.line ∙ ends (n + 1) (Some c.loop-line.schedule)
