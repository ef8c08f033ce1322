use Rattle.std.proofs.Common.{ℕ, []}
use Rattle.hek_rules.specs.World.{World}
use Rattle.hek_rules.specs.Walk.{read_time}
use Rattle.hek_rules.specs.Visibility.{sight}
use Rattle.hek_why.specs.declared.reason.Reason.TheVariants.{Looked}
use Rattle.hek_why.proofs.Lists.{Maps}
use Rattle.hek_why.proofs.walked.looks.Given as goal

abbrev pub invariant-loop-v : goal.invariant-loop-v
invariant-loop-v l = Maps l.machine (λ (w : World) (v : ℕ). Looked v (sight w l.t (read_time w l.t) v)) l.vs [] l.list.items l.v-index
