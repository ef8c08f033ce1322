use Rattle.hek_rules.specs.World.{opening}
use Rattle.hek_laws.proofs.Worlds.Times.{times-run, times-opening}
use Rattle.hek_laws.proofs.drawn_times_are_distinct.Goals as goal

pub returns : goal.returns
returns c = λ buckets clock rows levels events h. times-run (opening buckets rows levels clock) events (times-opening buckets clock rows levels h)
