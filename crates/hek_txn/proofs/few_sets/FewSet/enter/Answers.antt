use Rattle.std.proofs.Common.{rules, List, false, subst, sym, ap, ◌≡◌}
use Rattle.std.specs.List.{IsDistinct, list_any}
use Rattle.hek_txn.specs.Entries.{Entries}
use Rattle.hek_txn.proofs.Held.{distinct-with}
use Rattle.hek_txn.proofs.few_sets.FewSet.enter.Goals as goal

pub invariant_of-self : goal.invariant_of-self
invariant_of-self g c =
    let is_new : list_any (g.T.PartialEq.eq c.args.item) c.self.inside.items.items ≡ false = search rules in
    subst (λ (l : List _). IsDistinct g.T.PartialEq.eq l) (sym c.push_reserved.ensures.items)
    (distinct-with g.T.PartialEq.eq g.met.T.Eq.laws c.args.item c.self.inside.items.items is_new c.self.invariant)
