use Rattle.hek_machine.proofs.Reserves.{reserved_more, reserved_reads, reserved_writes, reserved_waiters, reserved_buckets}
use Rattle.hek_machine.proofs.engine.Engine.reserve_own.Goals as goal

pub returns-in_err-reserve_reads-clause-reserved : goal.returns-in_err-reserve_reads-clause-reserved
returns-in_err-reserve_reads-clause-reserved c = let e = c.reserve_reads.ensures in reserved_reads c.args.self.now c.args.t c.reserve_reads.new.self e.table e.items e.kept

pub returns-in_err-reserve_writes-clause-reserved : goal.returns-in_err-reserve_writes-clause-reserved
returns-in_err-reserve_writes-clause-reserved c =
    let e = c.reserve_reads.ensures in
    let f = c.reserve_writes.ensures in
    let m = c.args.self.now in
    reserved_more m (record m { txns = c.reserve_reads.new.self }) _ (reserved_reads m c.args.t c.reserve_reads.new.self e.table e.items e.kept)
    (reserved_writes (record m { txns = c.reserve_reads.new.self }) c.args.t c.reserve_writes.new.self f.table f.items f.kept)

pub returns-in_err-reserve_waiters-clause-reserved : goal.returns-in_err-reserve_waiters-clause-reserved
returns-in_err-reserve_waiters-clause-reserved c =
    let e = c.reserve_reads.ensures in
    let f = c.reserve_writes.ensures in
    let g = c.reserve_waiters.ensures in
    let m = c.args.self.now in
    reserved_more m (record m { txns = c.reserve_writes.new.self }) _
    (reserved_more m (record m { txns = c.reserve_reads.new.self }) (record m { txns = c.reserve_writes.new.self }) (reserved_reads m c.args.t c.reserve_reads.new.self e.table e.items e.kept)
    (reserved_writes (record m { txns = c.reserve_reads.new.self }) c.args.t c.reserve_writes.new.self f.table f.items f.kept))
    (reserved_waiters (record m { txns = c.reserve_writes.new.self }) c.args.t c.reserve_waiters.new.self g.table g.items g.kept)

pub returns-clause-reserved : goal.returns-clause-reserved
returns-clause-reserved c =
    let e = c.reserve_reads.ensures in
    let f = c.reserve_writes.ensures in
    let g = c.reserve_waiters.ensures in
    let h = c.reserve_buckets.ensures in
    let m = c.args.self.now in
    reserved_more m (record m { txns = c.reserve_waiters.new.self }) _
    (reserved_more m (record m { txns = c.reserve_writes.new.self }) (record m { txns = c.reserve_waiters.new.self })
    (reserved_more m (record m { txns = c.reserve_reads.new.self }) (record m { txns = c.reserve_writes.new.self }) (reserved_reads m c.args.t c.reserve_reads.new.self e.table e.items e.kept)
    (reserved_writes (record m { txns = c.reserve_reads.new.self }) c.args.t c.reserve_writes.new.self f.table f.items f.kept))
    (reserved_waiters (record m { txns = c.reserve_writes.new.self }) c.args.t c.reserve_waiters.new.self g.table g.items g.kept))
    (reserved_buckets (record m { txns = c.reserve_waiters.new.self }) c.args.t c.reserve_buckets.new.self h.table h.items h.kept)
