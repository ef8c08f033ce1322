use Rattle.std.proofs.Common.{◌≡◌, List, ℕ, ◌++◌, ◌∙◌, ap}
use Rattle.hek_asm.specs.Trace.{trace_line}
use Rattle.hek_asm.proofs.Fronts.{behind_same}
use Rattle.hek_asm.proofs.reading.behind_line.Goals as goal

pub returns : goal.returns
returns c =
    let line : List ℕ = trace_line c.args.schedule.now c.args.number c.args.event.now c.args.reply.now in
    let front : c.as_slice.result.now ≡ line = c.as_slice.ensures.value ∙ c.in_ok-put_line.ensures ∙ ap (λ (bs : List ℕ). bs ++ line) c.clear.ensures.items in
    behind_same c.args.text.now c.as_slice.result.now line c.without_front.result front c.without_front.ensures
