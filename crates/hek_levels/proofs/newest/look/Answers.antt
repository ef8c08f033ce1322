use Rattle.std.specs.HashMap.{get}
use Rattle.std.specs.Prelude.{◌==◌}
use Rattle.hek_levels.specs.Explanations.{explanation}
use Rattle.hek_levels.proofs.Judged.{newest_by_look}
use Rattle.hek_levels.proofs.newest.look.Goals as goal

pub returns : goal.returns
returns c yes' =
    newest_by_look c.args.rules c.args.log.now (explanation c.args.certificate.now) (get ◌==◌ c.args.places.now) (get ◌==◌ c.mark_own.new.marked) c.args.t c.args.n c.args.key c.args.low c.requires.direct c.requires.placing
    c.in_ok-mark_own.ensures (c.are_apart.ensures yes')
