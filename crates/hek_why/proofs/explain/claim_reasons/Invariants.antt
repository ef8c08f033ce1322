use Rattle.std.proofs.Common.{ℕ, []}
use Rattle.hek_rules.specs.World.{World}
use Rattle.hek_rules.specs.declared.event.Cause.TheVariants.{Conflict}
use Rattle.hek_why.specs.Stops.{claim_at}
use Rattle.hek_why.specs.Explained.{stopped_by}
use Rattle.hek_why.proofs.Lists.{Gathers}
use Rattle.hek_why.proofs.explain.claim_reasons.Given as goal

abbrev pub invariant-loop-v : goal.invariant-loop-v
invariant-loop-v l = Gathers l.machine (λ (w : World) (v : ℕ). stopped_by v Conflict (claim_at w l.t v)) l.vs [] l.list.items l.v-index
