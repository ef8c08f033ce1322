use Rattle.hek_txn.proofs.Held.{none_any, none_first}
use Rattle.hek_txn.proofs.entry_sets.EntrySet.take.Goals as goal

pub returns-in-None-clause-answer : goal.returns-in-None-clause-answer
returns-in-None-clause-answer g c = none_any (g.T.PartialEq.eq c.args.item) c.args.self.now.items c.in-None.ensures

pub returns-in-None-clause-items : goal.returns-in-None-clause-items
returns-in-None-clause-items g c = none_first (g.T.PartialEq.eq c.args.item) c.args.self.now.items c.in-None.ensures
