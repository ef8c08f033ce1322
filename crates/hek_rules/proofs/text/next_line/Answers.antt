use Rattle.std.proofs.Common.{◌+◌, ◌≤◌, ◌∙◌, ◌∷◌, List, ℕ, length, take, drop, arith, ap, sym}
use Rattle.std.proofs.lemmas.List.{take_all}
use Rattle.std.proofs.Math.ListN.{drop_of_length-le}
use Rattle.std.proofs.Math.Nat.{le_refl}
use Rattle.hek_rules.specs.Text.{lines_of}
use Rattle.hek_rules.proofs.TextLemmas.{lines_cut, from_place, not_empty}
use Rattle.hek_rules.proofs.text.next_line.Goals as goal

pub returns-then-len-text-clause-line : goal.returns-then-len-text-clause-line
returns-then-len-text-clause-line c =
    let text = c.args.text.now in
    let n = c.line_len-len.result in
    lines_cut text n (omega arith) c.line_len-len.ensures ∙ ap (λ (rest : List ℕ). take n text ∷ lines_of rest) (sym (from_place (n + 1) text))

pub returns-else-len-text-clause-line : goal.returns-else-len-text-clause-line
returns-else-len-text-clause-line c =
    let text = c.args.text.now in
    let n = c.line_len-len.result in
    let past : length text ≤ n + 1 = omega arith in
    lines_cut text n (not_empty text c.if-is_empty.ensures) c.line_len-len.ensures
    ∙ ap (λ (line : List ℕ). line ∷ lines_of (drop (n + 1) text)) (take_all n text c.if-len-text.false)
    ∙ ap (λ (rest : List ℕ). text ∷ lines_of rest) (drop_of_length-le text past ∙ sym (drop_of_length-le text (le_refl (length text))) ∙ sym (from_place (length text) text))
