use Rattle.std.proofs.Common.{ℕ, ◌+◌, ◌∙◌, sym, ap, subst, arith, Some, None, Ok, Option, Result}
use Rattle.hek_asm.specs.declared.fault.AsmKind.{AsmKind}
use Rattle.hek_asm.specs.declared.fault.AsmFault.{AsmFault}
use Rattle.hek_rules.specs.Text.{lines_of}
use Rattle.hek_rules.specs.Plan.{Plan}
use Rattle.hek_asm.specs.Text.{lines_after}
use Rattle.hek_asm.specs.Gives.{TextFails, TextGives, at_line}
use Rattle.hek_asm.proofs.LinesAfter.{goes_on, fails, ends}
use Rattle.hek_asm.proofs.assemble.assemble_text.Goals as goal

pub loop-line-preserved : goal.loop-line-preserved
loop-line-preserved c =
    let n = c.loop-line.number in
    let here = ap (lines_after (n + 1) None) c.in-Some.ensures.line in
    let next = goes_on (n + 1) None None c.in-Some.line.now (lines_of c.in-Some.after.now) (c.in-Ok-None.ensures ∙ ap (λ (o : Option Plan). Ok o) c.in-Ok-None.field-0-is) in
    (sym next ∙ sym here ∙ c.loop-line.invariant.0, omega (arith, c.loop-line.invariant.1, c.in-Some.ensures.shorter))

pub returns-in-Ok-Some : goal.returns-in-Ok-Some
returns-in-Ok-Some c =
    let n = c.loop-line.number in
    let here = ap (lines_after (n + 1) None) c.in-Some.ensures.line in
    let next = goes_on (n + 1) None (Some c.in-Ok-Some.schedule) c.in-Some.line.now (lines_of c.in-Some.after.now) (c.in-Ok-Some.ensures ∙ ap (λ (o : Option Plan). Ok o) c.in-Ok-Some.field-0-is) in
    subst (λ (r : Result Plan (ℕ × AsmKind)). TextGives (λ s. s) c.body.result r) (sym next ∙ sym here ∙ c.loop-line.invariant.0) c.body.ensures

pub returns-in-Err : goal.returns-in-Err
returns-in-Err c =
    let n = c.loop-line.number in
    let here = ap (lines_after (n + 1) None) c.in-Some.ensures.line in
    let fault = fails (n + 1) None c.in-Some.line.now (lines_of c.in-Some.after.now) c.in-Err.fault c.in-Err.ensures in
    let at : TextFails (at_line (n + 1) c.in-Err.fault) (lines_after 1 None (lines_of c.args.text.now)) = subst (λ (r : Result Plan (ℕ × AsmKind)). TextFails (at_line (n + 1) c.in-Err.fault) r) (sym here ∙ c.loop-line.invariant.0) fault in
    subst (λ (f : AsmFault). TextFails f (lines_after 1 None (lines_of c.args.text.now))) (sym c.at_line.ensures) at

pub returns : goal.returns
returns c =
    let n = c.loop-line.number in
    sym c.loop-line.invariant.0 ∙ ap (lines_after (n + 1) None) c.in_default.ensures.line ∙ ends (n + 1) None
