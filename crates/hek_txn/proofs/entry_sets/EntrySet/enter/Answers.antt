use Rattle.std.proofs.Common.{◌≡◌, true, false, cond, rules}
use Rattle.std.specs.List.{list_any}
use Rattle.hek_txn.proofs.Held.{held-pushed}
use Rattle.hek_txn.proofs.entry_sets.EntrySet.enter.Goals as goal

pub invariant_of-self : goal.invariant_of-self
invariant_of-self g c =
    let inside = c.self.inside in
    let is_new : list_any (g.T.PartialEq.eq c.args.item) inside.members.keys ≡ false = search rules in
    let into : (k : g.row.T.Denot) → list_any (g.T.PartialEq.eq k) c.insert.new.self.keys ≡ cond (g.T.PartialEq.eq c.args.item k) true (list_any (g.T.PartialEq.eq k) inside.members.keys) = search rules in
    held-pushed g.T.PartialEq.eq g.met.T.Eq.laws c.args.item inside.gone inside.items.items c.push_reserved.new.self.items inside.members.keys c.insert.new.self.keys c.push_reserved.ensures.items into is_new
    c.self.invariant
