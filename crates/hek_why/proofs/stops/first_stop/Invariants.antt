use Rattle.std.proofs.Common.{List, ℕ}
use Rattle.hek_rules.specs.World.{World}
use Rattle.hek_why.specs.Stops.{first_stop}
use Rattle.hek_rules.specs.Aims.{purpose_of, target_of}
use Rattle.hek_why.proofs.Lists.{Left}
use Rattle.hek_why.proofs.stops.first_stop.Given as goal

abbrev pub invariant-loop-v : goal.invariant-loop-v
invariant-loop-v l = Left l.machine (λ (w : World) (vs : List ℕ). first_stop w l.t (purpose_of l.aim) (target_of l.aim) vs) l.vs l.v-index
