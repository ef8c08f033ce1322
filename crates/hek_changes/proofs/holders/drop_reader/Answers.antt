use Rattle.std.proofs.Common.{take}
use Rattle.hek_changes.proofs.SlotLaws.{none_dropped, one_dropped}
use Rattle.hek_changes.proofs.holders.drop_reader.Goals as goal

pub returns-in_default-clause-dropped : goal.returns-in_default-clause-dropped
returns-in_default-clause-dropped c = none_dropped (take c.args.known c.args.slots.now) c.args.txn c.in_default.ensures

pub returns-clause-dropped : goal.returns-clause-dropped
returns-clause-dropped c = one_dropped c.args.slots.now c.args.known c.args.txn c.in-Some.place c.requires c.in-Some.ensures
