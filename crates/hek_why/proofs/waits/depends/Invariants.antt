use Rattle.std.proofs.Common.{◌≡◌, ℕ, ◌++◌, drop, map}
use Rattle.hek_why.specs.declared.reason.Reason.TheVariants.{Depends}
use Rattle.hek_why.proofs.waits.depends.Given as goal

abbrev pub invariant-loop-u : goal.invariant-loop-u
invariant-loop-u l = l.list.items ++ map (λ (u : ℕ). Depends u) (drop l.u-index l.txns) ≡ map (λ (u : ℕ). Depends u) l.txns
