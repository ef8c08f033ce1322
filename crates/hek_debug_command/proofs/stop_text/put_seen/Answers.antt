use Rattle.std.proofs.Common.{ℕ, List, ◌++◌, ap, sym, ◌∙◌}
use Rattle.std.proofs.lemmas.Result.{on_ok_weaker}
use Rattle.hek_debug_command.specs.Debugged.{seen_text}
use Rattle.hek_debug_command.proofs.StopTexts.{seen_some, seen_none}
use Rattle.hek_debug_command.proofs.stop_text.put_seen.Goals as goal

pub returns-in-Some : goal.returns-in-Some
returns-in-Some c =
    let lines = c.args.lines.now.items in
    on_ok_weaker c.put_hex.result (λ e. e ∙ ap (λ (xs : List ℕ). lines ++ xs) (seen_some c.in-Some.bits ∙ ap seen_text (sym c.in-Some.is))) c.put_hex.ensures

pub returns-in-None : goal.returns-in-None
returns-in-None c =
    let lines = c.args.lines.now.items in
    on_ok_weaker c.put_text.result (λ e. e ∙ ap (λ (xs : List ℕ). lines ++ xs) (seen_none ∙ ap seen_text (sym c.in-None.is))) c.put_text.ensures
