use Rattle.hek_machine.proofs.EffectRules.{able_writer, able_version, able_freed, able_added, able_counted}
use Rattle.hek_machine.proofs.EffectShows.{applies_read, keeps_read, room_read}
use Rattle.hek_machine.proofs.engine.Engine.read_lock.Goals as goal

pub read_lock-requires-clause-writer : goal.read_lock-requires-clause-writer
read_lock-requires-clause-writer c = able_writer c.args.self.now c.args.t c.args.v _ c.requires.able

pub read_lock-requires-clause-allowed : goal.read_lock-requires-clause-allowed
read_lock-requires-clause-allowed c = able_added c.args.self.now c.args.t c.args.v c.requires.able

pub read_lock-requires-clause-freed : goal.read_lock-requires-clause-freed
read_lock-requires-clause-freed c = able_freed c.args.self.now c.args.t c.args.v _ c.requires.able (able_version c.args.self.now c.args.t c.args.v c.requires.able)

pub read_lock-requires-clause-counted : goal.read_lock-requires-clause-counted
read_lock-requires-clause-counted c = λ free. able_counted c.args.self.now c.args.t c.args.v _ c.requires.able

pub returns-clause-shows : goal.returns-clause-shows
returns-clause-shows c = let e = c.read_lock.ensures in rw e.store (applies_read c.args.self.now c.args.t c.args.v c.read_lock.new.txns e.txns e.reads)

pub returns-clause-room : goal.returns-clause-room
returns-clause-room c = let e = c.read_lock.ensures in keeps_read c.args.self.now c.args.t c.args.v c.read_lock.new.store c.read_lock.new.txns (rw e.store (room_read c.args.self.now.store c.args.self.now.txns c.args.t c.args.v)) e.txns e.room
