use Rattle.std.proofs.Common.{ℕ}
use Rattle.hek_rules.specs.World.{World}
use Rattle.hek_why.specs.Waited.{readers_in}
use Rattle.hek_why.specs.declared.reason.Reason.TheVariants.{ReadLocked}
use Rattle.hek_why.proofs.Lists.{Maps}
use Rattle.hek_why.proofs.waits.add_versions.Given as goal

abbrev pub invariant-loop-v : goal.invariant-loop-v
invariant-loop-v l = Maps l.machine (λ (w : World) (v : ℕ). ReadLocked v (readers_in w v)) l.versions l.fn.list.items l.list.items l.v-index
