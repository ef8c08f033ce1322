use Rattle.std.specs.HashMap.{get}
use Rattle.std.specs.Prelude.{◌==◌}
use Rattle.hek_levels.proofs.Sourcing.{on_ok_two, sources-marked_to}
use Rattle.hek_levels.proofs.sweep.mark_all_to.Goals as goal

pub returns : goal.returns
returns c =
    on_ok_two c.mark_missing_to.result c.mark_missing_to.ensures.kept c.mark_missing_to.ensures.there
    (λ kept there.
    sources-marked_to c.args.log.now c.args.certificate.now (get ◌==◌ c.mark_missing_to.new.marked) c.args.t c.args.n
    (λ r x read at le is. kept x (c.in_ok-mark_listed_to.ensures.there r x read at le is)) there)
