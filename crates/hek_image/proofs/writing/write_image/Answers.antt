use Rattle.std.proofs.Common.{◌≡◌, ◌++◌}
use Rattle.std.specs.List.{flat_map}
use Rattle.std.proofs.lemmas.Result.{on_ok_weaker}
use Rattle.hek_image.specs.Schedules.{front_bytes, count_bytes, row_bytes, txn_bytes, step_bytes}
use Rattle.hek_image.proofs.Parts.{all_gathered}
use Rattle.hek_image.proofs.writing.write_image.Goals as goal

pub returns-clause-ok : goal.returns-clause-ok
returns-clause-ok g c =
    let p = c.args.schedule.now in
    let header = c.in_ok-gather.ensures in
    let rows = c.in_ok-gather_rows.ensures in
    let txns = c.in_ok-gather_txns.ensures in
    let steps = c.in_ok-gather_steps.ensures in
    let bytes : c.as_slice.result.now ≡ front_bytes 2 p.buckets ++ count_bytes p = cc in
    on_ok_weaker c.put_all.result (λ last told.
    let told1 = header.tells told in
    let told2 = rows.tells told1 in
    let told3 = txns.tells told2 in
    all_gathered (g.S.Sink.holds c.args.sink.now) c.new-block.result.items (front_bytes 2 p.buckets) (count_bytes p) (flat_map row_bytes p.rows) (flat_map txn_bytes p.txns) (flat_map step_bytes p.steps) _ _ _ _ _ _ _
    c.new-block.ensures (header.ok told) bytes (rows.ok told1) (txns.ok told2) (steps.ok told3) _ c.as_slice-2.ensures.value (last (steps.tells told3)))
    c.put_all.ensures.ok
