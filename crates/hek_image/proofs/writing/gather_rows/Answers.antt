use Rattle.std.proofs.Common.{◌≡◌, ◌++◌, List, ℕ, ap, ◌∙◌}
use Rattle.hek_image.specs.Schedules.{row_bytes}
use Rattle.hek_image.proofs.Parts.{at_place, one_more, two_parts}
use Rattle.hek_image.proofs.writing.gather_rows.Goals as goal

pub loop-place-preserved : goal.loop-place-preserved
loop-place-preserved g c =
    let rows = c.args.schedule.now.rows in
    let i = c.loop-place.place in
    let row = c.row-key.result in
    let so_far = c.loop-place.invariant in
    let key = c.in_ok-gather.ensures in
    let value = c.in_ok-gather-2.ensures in
    let first = g.S.Sink.holds c.loop-place.sink ++ c.loop-place.block.items in
    let bytes : c.as_slice.result.now ++ c.as_slice-in-loop-place.result.now ≡ row_bytes row = cc in
    record {
      works = value.fails;
      tells = λ told. value.tells (key.tells (so_far.tells told));
      bytes = λ told.
          let told1 = so_far.tells told in
          let told2 = key.tells told1 in
          let both = two_parts _ _ _ _ _ (key.ok told1) (value.ok told2) ∙ ap (λ (bs : List ℕ). first ++ bs) bytes in
          one_more row_bytes rows i row first _ _ (at_place rows i row c.row-key.ensures) both (so_far.bytes told);
    }
