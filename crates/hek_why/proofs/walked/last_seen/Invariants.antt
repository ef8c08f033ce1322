use Rattle.std.proofs.Common.{◌≡◌, drop}
use Rattle.hek_rules.specs.World.{World}
use Rattle.hek_rules.specs.Walk.{last, seen_of}
use Rattle.hek_machine.specs.Stands.{StandsFor}
use Rattle.hek_why.proofs.LastSeen.{last_or}
use Rattle.hek_why.proofs.walked.last_seen.Given as goal

abbrev pub invariant-loop-v : goal.invariant-loop-v
invariant-loop-v l = (w : World) → StandsFor l.machine w → last_or l.seen (seen_of w l.t (drop l.v-index l.vs)) ≡ last (seen_of w l.t l.vs)
