use Rattle.std.proofs.Common.{◌≡◌, ◌++◌, ◌<◌, List, ℕ, length, get_or, arith, ap, ◌∙◌}
use Rattle.hek_rules.specs.declared.event.Event.{Event}
use Rattle.hek_image.specs.Schedules.{step_bytes}
use Rattle.hek_image.proofs.Parts.{at_index, one_more}
use Rattle.hek_image.proofs.writing.gather_steps.Goals as goal

pub loop-event-preserved : goal.loop-event-preserved
loop-event-preserved g c =
    let steps = c.args.schedule.now.steps in
    let i = c.loop-event.event-index in
    let e = c.event-item.result in
    let so_far = c.loop-event.invariant in
    let put = c.in_ok-gather.ensures in
    let first = g.S.Sink.holds c.loop-event.sink ++ c.loop-event.block.items in
    let all = c.steps-event-items.ensures in
    let within : i < length steps = omega (arith, ap length all) in
    let here = c.event-item.is ∙ ap (λ (es : List Event). get_or es i e) all in
    let bytes : c.as_slice.result.now ≡ step_bytes e = cc in
    record {
      works = put.fails;
      tells = λ told. put.tells (so_far.tells told);
      bytes = λ told.
          one_more step_bytes steps i e first _ _ (at_index steps i e within here) (put.ok (so_far.tells told) ∙ ap (λ (bs : List ℕ). first ++ bs) bytes) (so_far.bytes told);
    }
