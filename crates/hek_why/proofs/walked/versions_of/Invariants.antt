use Rattle.std.proofs.Common.{ℕ}
use Rattle.std.specs.Prelude.{◌==◌}
use Rattle.hek_rules.specs.World.{World, Version}
use Rattle.hek_why.proofs.Finds.{Finds}
use Rattle.hek_why.proofs.walked.versions_of.Given as goal

abbrev pub invariant-loop-index : goal.invariant-loop-index
invariant-loop-index l = Finds l.machine (λ (w : World) (v : ℕ) (x : Version). x.key == l.key) l.versions.items l.index
