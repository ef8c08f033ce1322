use Rattle.std.proofs.Common.{arith}
use Rattle.hek_machine.proofs.EffectRules.{able_writer, able_target, able_freed, able_own, able_taken, able_waiting}
use Rattle.hek_machine.proofs.EffectShows.{applies_write, keeps_write}
use Rattle.hek_machine.proofs.engine.Engine.write_lock.Goals as goal

pub write_lock-requires-clause-writer : goal.write_lock-requires-clause-writer
write_lock-requires-clause-writer c = able_writer c.args.self.now c.args.t c.args.v _ c.requires.able

pub write_lock-requires-clause-reader : goal.write_lock-requires-clause-reader
write_lock-requires-clause-reader c = able_own c.args.self.now c.args.t c.args.v c.requires.able

pub write_lock-requires-clause-free : goal.write_lock-requires-clause-free
write_lock-requires-clause-free c = able_taken c.args.self.now c.args.t c.args.v c.requires.able

pub write_lock-requires-clause-freed : goal.write_lock-requires-clause-freed
write_lock-requires-clause-freed c = able_freed c.args.self.now c.args.t c.args.v _ c.requires.able (able_target c.args.self.now c.args.t c.args.v c.requires.able)

pub write_lock-requires-clause-counted : goal.write_lock-requires-clause-counted
write_lock-requires-clause-counted c = able_waiting c.args.self.now c.args.t c.args.v _ c.requires.able

pub returns-clause-shows : goal.returns-clause-shows
returns-clause-shows c = let e = c.write_lock.ensures in rw e.store (applies_write c.args.self.now c.args.t c.args.v c.write_lock.new.txns e.txns e.reads e.writes)

pub returns-clause-room : goal.returns-clause-room
returns-clause-room c = let e = c.write_lock.ensures in keeps_write c.args.self.now c.args.t c.args.v c.write_lock.new.store c.write_lock.new.txns (rw e.store (omega arith)) e.txns e.read_room e.write_room
