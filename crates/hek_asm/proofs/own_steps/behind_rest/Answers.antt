use Rattle.std.proofs.Common.{◌≡◌, List, ℕ, ◌++◌, ◌∙◌, ap}
use Rattle.hek_asm.specs.Pieces.{pieces_bytes}
use Rattle.hek_asm.specs.Trace.{line_rest}
use Rattle.hek_asm.proofs.Fronts.{behind_some}
use Rattle.hek_asm.proofs.own_steps.behind_rest.Goals as goal

pub returns : goal.returns
returns c =
    let line : List ℕ = line_rest c.args.reply.now in
    let pieces : pieces_bytes c.as_slice.result.now ≡ line = cc in
    let front : c.as_slice-2.result.now ≡ line = c.as_slice-2.ensures.value ∙ c.in_ok-put_pieces.ensures ∙ ap (λ (bs : List ℕ). bs ++ pieces_bytes c.as_slice.result.now) c.clear.ensures.items ∙ pieces in
    behind_some c.args.text.now c.as_slice-2.result.now line c.without_front.result front c.without_front.ensures
