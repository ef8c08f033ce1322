use Rattle.std.proofs.Common.{◌≡◌, ◌∙◌, ap, arith, subst, ℕ, ◌<◌, List, length, refl}
use Rattle.std.specs.Io.BufRead.{DropsThrough, first_line}
use Rattle.std.specs.Io.Iter.{lines_known_bytes}
use Rattle.std.specs.Prelude.{IfOk, IfSome, Ok, string_bytes}
use Rattle.std.proofs.lemmas.Grind.{common_steps}
use Rattle.std.specs.Str.{trim}
use Rattle.hek_convert_command.proofs.ChangeLaws.{read_more, all_read}
use Rattle.hek_convert_command.proofs.entries.read_entries.Goals as goal

pub loop-line-preserved : goal.loop-line-preserved
loop-line-preserved g c text is_text =
    let known = lines_known_bytes g.B.Read.remaining in
    let line = c.in_ok-line.line in
    let old = known c.loop-line.line-iterator in
    let new = known c.next.new.self in
    let was : c.in-Some.line ≡ Ok line = grind (arith, common_steps, c.in_ok-line.ensures.cases) in
    let read : IfSome old (λ (xs : List ℕ). (0 < length xs) × (string_bytes line ≡ first_line xs)) × DropsThrough old new 10 =
    subst (λ r. IfOk r (λ x. IfSome old (λ (xs : List ℕ). (0 < length xs) × (string_bytes x ≡ first_line xs)) × DropsThrough old new 10)) was c.in-Some.ensures.steps.1 in
    read_more text (string_bytes line) c.trim.result.now old new c.loop-line.number c.saturating_add-number.result c.loop-line.listed.items c.push_line.new.listed.items
    (c.trim.ensures.trim ∙ ap trim c.as_str.ensures.value) read.0 read.1 c.saturating_add-number.ensures c.in_ok-push_line.ensures (c.loop-line.invariant text is_text)

pub returns : goal.returns
returns g c text is_text = all_read text (lines_known_bytes g.B.Read.remaining c.loop-line.line-iterator) c.loop-line.number c.loop-line.listed.items c.in-None.ensures.steps.1 (c.loop-line.invariant text is_text)
