use Rattle.std.proofs.Common.{List, ℕ}
use Rattle.std.specs.List.{list_any}
use Rattle.std.specs.Prelude.{find}
use Rattle.hek_rules.specs.World.{World}
use Rattle.hek_why.specs.Waited.{is_made_in}
use Rattle.hek_why.proofs.Lists.{Left}
use Rattle.hek_why.proofs.waits.first_made_in.Given as goal

abbrev pub invariant-loop-bucket : goal.invariant-loop-bucket
invariant-loop-bucket l = Left l.machine (λ (w : World) (bs : List ℕ). find (λ b. list_any (is_made_in w b) l.entries) bs) l.buckets l.bucket-index
