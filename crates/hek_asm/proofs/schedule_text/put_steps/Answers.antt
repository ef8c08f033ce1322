use Rattle.std.proofs.Common.{◌≡◌, ◌++◌, ◌<◌, List, ℕ, Some, length, slice_get, refl, sym, ◌∙◌, ap, arith}
use Rattle.std.proofs.lemmas.Grind.{common_steps}
use Rattle.std.proofs.lemmas.Option.{slice_get_read}
use Rattle.hek_rules.specs.declared.event.Event.{Event}
use Rattle.hek_rules.specs.Lines.{line_text}
use Rattle.hek_asm.specs.Canonical.{step_words}
use Rattle.hek_asm.specs.Pieces.{pieces_bytes}
use Rattle.hek_asm.proofs.RowLemmas.{one_line}
use Rattle.hek_asm.proofs.schedule_text.put_steps.Goals as goal

pub loop-event-preserved : goal.loop-event-preserved
loop-event-preserved c =
    let step = c.event-item.result in
    let line : pieces_bytes c.as_slice.result.now ≡ line_text (step_words c.args.schedule.now step) = grind (arith, common_steps) in
    let items = c.steps-event-items.result.now in
    let here : slice_get c.args.schedule.now.steps c.loop-event.event-index ≡ Some step = ap (λ (es : List Event). slice_get es c.loop-event.event-index) (sym c.steps-event-items.ensures) ∙ slice_get_read items (length items) c.loop-event.event-index step refl c.loop-event-test.true c.event-item.is in
    one_line (step_words c.args.schedule.now) c.args.schedule.now.steps c.loop-event.event-index step c.loop-event.out.items _ _ here
    (c.in_ok-put_pieces.ensures ∙ ap (λ (bs : List ℕ). c.loop-event.out.items ++ bs) line) c.loop-event.invariant
