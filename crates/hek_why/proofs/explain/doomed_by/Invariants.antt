use Rattle.std.proofs.Common.{◌≡◌, ℕ, ◌++◌, drop, map}
use Rattle.hek_why.specs.declared.reason.Reason.TheVariants.{DoomedBy}
use Rattle.hek_why.proofs.explain.doomed_by.Given as goal

abbrev pub invariant-loop-u : goal.invariant-loop-u
invariant-loop-u l = l.list.items ++ map (λ (u : ℕ). DoomedBy u) (drop l.u-index l.txns) ≡ map (λ (u : ℕ). DoomedBy u) l.txns
