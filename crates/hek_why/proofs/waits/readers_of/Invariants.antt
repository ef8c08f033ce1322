use Rattle.std.proofs.Common.{ℕ}
use Rattle.hek_rules.specs.World.{World}
use Rattle.hek_rules.specs.Listing.{has}
use Rattle.hek_why.proofs.Finds.{Ids}
use Rattle.hek_why.proofs.waits.readers_of.Given as goal

abbrev pub invariant-loop-place : goal.invariant-loop-place
invariant-loop-place l = Ids l.machine (λ (w : World) (t : ℕ). has w.read_locks t l.v) l.txns.items l.place
