use Rattle.std.proofs.Common.{rules}
use Rattle.hek_buckets.specs.LockLists.{holders_of}
use Rattle.hek_machine.proofs.Joining.{step_reserved, joined_more}
use Rattle.hek_machine.proofs.engine.Engine.reserve_joins.Goals as goal

pub returns-in_err-reserve_waiters-clause-reserved : goal.returns-in_err-reserve_waiters-clause-reserved
returns-in_err-reserve_waiters-clause-reserved c =
    let e = c.reserve_waiters.ensures in
    step_reserved c.args.self.now c.loop-place.self c.index-holders-place.result c.reserve_waiters.new.self c.loop-place.invariant.reserved e.table e.items e.kept

pub loop-place-preserved : goal.loop-place-preserved
loop-place-preserved c =
    let e = c.in_ok-reserve_waiters.ensures in record {
      reserved = step_reserved c.args.self.now c.loop-place.self c.index-holders-place.result c.reserve_waiters.new.self c.loop-place.invariant.reserved e.table e.items e.kept;
      buckets = c.loop-place.invariant.buckets;
      joins = joined_more c.args.self.now c.loop-place.self c.args.t c.loop-place.place c.index-holders-place.result (holders_of c.args.self.now.buckets c.args.bucket).items c.reserve_waiters.new.self
          (search rules) (search rules) e.table e.items e.kept e.room c.loop-place.invariant.joins;
    }
