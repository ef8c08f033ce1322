use Rattle.std.proofs.Common.{List, subst, sym}
use Rattle.std.specs.List.{IsDistinct}
use Rattle.hek_txn.proofs.few_sets.FewSet.clear.Goals as goal

pub invariant_of-self : goal.invariant_of-self
unfolding IsDistinct
invariant_of-self g c = subst (λ (l : List _). IsDistinct g.T.PartialEq.eq l) (sym c.clear.ensures.items) tt
