use Rattle.hek_machine.proofs.Reserves.{reserved_holders, reserved_dependents}
use Rattle.hek_machine.proofs.engine.Engine.reserve_other.Goals as goal

pub returns-in-LockBucket-clause-reserved : goal.returns-in-LockBucket-clause-reserved
returns-in-LockBucket-clause-reserved c = let e = c.reserve.ensures in reserved_holders c.args.self.now c.in-LockBucket.bucket c.reserve.new.self e.buckets e.items e.kept

pub returns-in-DependOn-clause-reserved : goal.returns-in-DependOn-clause-reserved
returns-in-DependOn-clause-reserved c = let e = c.reserve_dependents.ensures in reserved_dependents c.args.self.now c.in-DependOn.u c.reserve_dependents.new.self e.table e.items e.kept
