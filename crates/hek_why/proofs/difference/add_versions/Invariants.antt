use Rattle.hek_rules.specs.World.{World}
use Rattle.hek_why.specs.Changes.{each_below, version_changes, Adds}
use Rattle.hek_why.proofs.difference.add_versions.Given as goal

abbrev pub invariant-loop-index : goal.invariant-loop-index
invariant-loop-index l = Adds l.before l.after (λ (w x : World). each_below (version_changes w x) l.index) l.fn.list.items l.list.items
