use Rattle.std.proofs.Common.{ℕ, ◌-◌, ◌/◌, List, [], ◌∷◌, ◌++◌, ap, sym, ◌∙◌, append_assoc, arith}
use Rattle.hek_step_report.specs.StateText.{hex_text}
use Rattle.hek_step_report.proofs.HexLemmas.{hex_more}
use Rattle.hek_step_report.proofs.text.putting.+put_hex.Goals as goal

pub returns : goal.returns
returns t c =
    let lines = c.args.lines.now.items in
    let front = hex_text (c.args.count - 1) (c.args.number / 16) in
    c.in_ok-push.ensures.items
    ∙ ap (λ (xs : List ℕ). xs ++ c.hex_digit.result ∷ []) c.in_ok-put_hex.ensures
    ∙ append_assoc lines front (c.hex_digit.result ∷ [])
    ∙ ap (λ (d : ℕ). lines ++ (front ++ d ∷ [])) c.hex_digit.ensures
    ∙ ap (λ (xs : List ℕ). lines ++ xs) (sym (hex_more c.args.count c.args.number (omega arith)))
