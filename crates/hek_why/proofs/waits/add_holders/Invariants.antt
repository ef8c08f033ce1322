use Rattle.std.proofs.Common.{ℕ}
use Rattle.hek_rules.specs.World.{World}
use Rattle.hek_why.specs.Waited.{shared_bucket}
use Rattle.hek_why.specs.declared.reason.Reason.TheVariants.{Listed}
use Rattle.hek_why.proofs.Lists.{Maps}
use Rattle.hek_why.proofs.waits.add_holders.Given as goal

abbrev pub invariant-loop-h : goal.invariant-loop-h
invariant-loop-h l = Maps l.machine (λ (w : World) (h : ℕ). Listed h (shared_bucket w h l.u)) l.holders l.fn.list.items l.list.items l.h-index
