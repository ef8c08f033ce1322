use Rattle.hek_history_levels.proofs.Readings.{read-by-push}
use Rattle.hek_history_levels.proofs.reads.push_read.Goals as goal

pub returns : goal.returns
returns c scans m k n = read-by-push c.args.reads.now.items c.push.new.self.items c.args.operation c.args.key c.args.need c.in_ok-push.ensures.items scans m k n
