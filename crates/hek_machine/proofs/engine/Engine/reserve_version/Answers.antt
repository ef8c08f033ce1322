use Rattle.std.proofs.Common.{refl}
use Rattle.hek_buckets.specs.LockLists.{holders_of}
use Rattle.hek_machine.proofs.Joining.{can_make_now, on_ok}
use Rattle.hek_machine.proofs.engine.Engine.reserve_version.Goals as goal

pub returns-clause-make : goal.returns-clause-make
returns-clause-make c =
    let stored = c.in_ok-reserve_version.ensures in
    on_ok c.reserve_joins.result _ _ (can_make_now c.args.self.now c.reserve_joins.new.self c.args.t c.args.bucket c.reserve_version.new.self (holders_of c.args.self.now.buckets c.args.bucket).items stored.room
    c.reserve_joins.ensures.reserved refl) c.reserve_joins.ensures.joins
