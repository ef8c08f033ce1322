use Rattle.std.proofs.Common.{false}
use Rattle.std.specs.HashMap.{get}
use Rattle.std.specs.Prelude.{◌==◌}
use Rattle.hek_levels.specs.Explanations.{explanation}
use Rattle.hek_levels.proofs.Swept.{swept_start}
use Rattle.hek_levels.proofs.newest.first_sight.Goals as goal

pub returns : goal.returns
returns c =
    swept_start c.args.rules c.args.log.now (explanation c.args.certificate.now) c.requires.ordered c.args.t c.args.n c.args.key (c.args.i, c.requires.stands) c.args.i (get ◌==◌ c.mark_own.new.marked) _ _ false
    c.requires.stands c.in_ok-mark_own.ensures
