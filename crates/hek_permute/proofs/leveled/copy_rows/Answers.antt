use Rattle.hek_permute.proofs.Grown.{rows_more}
use Rattle.hek_permute.proofs.leveled.copy_rows.Goals as goal

pub loop-place-preserved : goal.loop-place-preserved
loop-place-preserved c = rows_more c.args.made.now c.loop-place.made c.add_row.new.self c.args.schedule.now.rows c.loop-place.place c.row-key.result c.loop-place.invariant c.in_ok-add_row.ensures.ok c.row-key.ensures
