use Rattle.std.specs.List.{list_any}
use Rattle.std.proofs.Common.{◌≡◌, drop}
use Rattle.hek_rules.specs.World.{World}
use Rattle.hek_machine.specs.Stands.{StandsFor}
use Rattle.hek_why.specs.Waited.{is_made_in}
use Rattle.hek_why.proofs.waits.makes_in.Given as goal

abbrev pub invariant-loop-entry : goal.invariant-loop-entry
invariant-loop-entry l = (w : World) → StandsFor l.machine w → list_any (is_made_in w l.bucket) (drop l.entry-index l.entries) ≡ list_any (is_made_in w l.bucket) l.entries
