use Rattle.std.specs.HashMap.{get}
use Rattle.std.specs.Prelude.{◌==◌}
use Rattle.hek_levels.proofs.Sourcing.{on_ok, on_ok_two, sources-marked}
use Rattle.hek_levels.proofs.sweep.mark_sources.Goals as goal

pub returns-clause-kept : goal.returns-clause-kept
returns-clause-kept c = on_ok c.mark_missing.result c.mark_missing.ensures.kept (λ kept x m. kept x (c.in_ok-mark_listed.ensures.kept x m))

pub returns-clause-there : goal.returns-clause-there
returns-clause-there c =
    on_ok_two c.mark_missing.result c.mark_missing.ensures.kept c.mark_missing.ensures.there
    (λ kept there.
    sources-marked c.args.log.now c.args.certificate.now (get ◌==◌ c.mark_missing.new.marked) c.args.y
    (λ r x read at is. kept x (c.in_ok-mark_listed.ensures.there r x read at is)) there)
