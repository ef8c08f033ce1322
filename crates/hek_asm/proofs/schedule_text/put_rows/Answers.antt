use Rattle.std.proofs.Common.{◌≡◌, ◌++◌, List, ℕ, ◌∙◌, ap, arith}
use Rattle.std.proofs.lemmas.Grind.{common_steps}
use Rattle.hek_rules.specs.Lines.{line_text}
use Rattle.hek_asm.specs.Canonical.{row_words}
use Rattle.hek_asm.specs.Pieces.{pieces_bytes}
use Rattle.hek_asm.proofs.RowLemmas.{one_line}
use Rattle.hek_asm.proofs.schedule_text.put_rows.Goals as goal

pub loop-place-preserved : goal.loop-place-preserved
loop-place-preserved c =
    let line : pieces_bytes c.as_slice.result.now ≡ line_text (row_words c.row-key.result) = grind (arith, common_steps) in
    one_line row_words c.args.schedule.now.rows c.loop-place.place c.row-key.result c.loop-place.out.items _ _ c.row-key.ensures
    (c.in_ok-put_pieces.ensures ∙ ap (λ (bs : List ℕ). c.loop-place.out.items ++ bs) line) c.loop-place.invariant
