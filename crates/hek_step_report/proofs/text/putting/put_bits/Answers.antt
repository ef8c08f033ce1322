use Rattle.std.proofs.Common.{ℕ, List, ◌++◌, ap, ◌∙◌}
use Rattle.std.proofs.lemmas.Result.{on_ok_weaker}
use Rattle.hek_step_report.proofs.HexLemmas.{word_digits}
use Rattle.hek_step_report.proofs.text.putting.put_bits.Goals as goal

pub returns : goal.returns
returns c =
    let lines = c.args.lines.now.items in
    on_ok_weaker c.put_hex.result (λ e. e ∙ ap (λ (xs : List ℕ). lines ++ xs) (word_digits c.args.bits)) c.put_hex.ensures
