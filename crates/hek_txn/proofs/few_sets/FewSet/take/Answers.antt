use Rattle.std.proofs.Common.{List, subst, sym}
use Rattle.std.specs.List.{IsDistinct}
use Rattle.hek_txn.proofs.Held.{distinct-without}
use Rattle.hek_txn.proofs.few_sets.FewSet.take.Goals as goal

pub invariant_of-self : goal.invariant_of-self
invariant_of-self g c =
    subst (λ (l : List _). IsDistinct g.T.PartialEq.eq l) (sym c.take_behind.ensures.items)
    (distinct-without g.T.PartialEq.eq g.met.T.Eq.laws c.args.item c.self.inside.items.items c.self.invariant)
