use Rattle.std.proofs.Common.{◌↔◌, length}
use Rattle.hek_permute.specs.Searches.{HasHit}
use Rattle.hek_permute.proofs.find.has_hit.Given as goal

abbrev pub invariant-loop-entry : goal.invariant-loop-entry
invariant-loop-entry l = HasHit l.sought l.history ↔ HasHit l.sought l.rest

abbrev pub decreases-loop-entry : goal.decreases-loop-entry
decreases-loop-entry l = length l.rest
