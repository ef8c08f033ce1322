use Rattle.std.proofs.Common.{List, subst, sym}
use Rattle.std.specs.List.{IsDistinct}
use Rattle.hek_txn.proofs.few_sets.FewSet.new.Goals as goal

pub invariant_of-result : goal.invariant_of-result
unfolding IsDistinct
invariant_of-result g c = subst (λ (l : List _). IsDistinct g.T.PartialEq.eq l) (sym c.new.ensures.items) tt
