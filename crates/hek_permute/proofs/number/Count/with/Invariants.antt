use Rattle.std.proofs.Common.{List, ℕ, [], ◌∷◌, ◌++◌}
use Rattle.hek_permute.specs.Numbers.{IsCount}
use Rattle.hek_permute.proofs.number.Count.with.Given as goal

abbrev pub invariant-loop-done : goal.invariant-loop-done
invariant-loop-done l = (before : List ℕ) → IsCount before l.fn.self.moves l.fn.self.orders → IsCount (before ++ l.done ∷ []) l.count.moves l.count.orders
