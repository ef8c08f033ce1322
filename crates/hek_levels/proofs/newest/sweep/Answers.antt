use Rattle.std.specs.HashMap.{get}
use Rattle.std.specs.Prelude.{◌==◌}
use Rattle.hek_levels.specs.Explanations.{explanation}
use Rattle.hek_levels.proofs.Swept.{swept_end}
use Rattle.hek_levels.proofs.newest.sweep.Goals as goal

pub returns : goal.returns
returns c yes' =
    swept_end c.args.rules c.args.log.now (explanation c.args.certificate.now) c.requires.ordered c.args.t c.args.n c.args.key (c.args.i, c.requires.stands) c.loop-p.p c.args.low
    (get ◌==◌ c.loop-p.sight.marked) (get ◌==◌ c.loop-p.sight.lanes) (get ◌==◌ c.loop-p.sight.keys) c.loop-p.sight.is_any c.loop-p-test.false c.loop-p.invariant
