use Rattle.hek_rules.proofs.TakeLemmas.{pushed}
use Rattle.hek_rules.proofs.transcript.copy_rows.Goals as goal

pub loop-place-preserved : goal.loop-place-preserved
loop-place-preserved c = pushed c.args.schedule.now.rows c.loop-place.rows.items c.push.new.self.items c.loop-place.place c.row.result c.loop-place.invariant c.in_ok-push.ensures.items c.row.ensures
