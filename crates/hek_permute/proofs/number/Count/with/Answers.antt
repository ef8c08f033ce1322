use Rattle.std.proofs.Common.{arith, ◌+◌}
use Rattle.hek_permute.proofs.Counting.{counted_none}
use Rattle.hek_permute.proofs.Growth.{too_many_moves}
use Rattle.hek_permute.proofs.number.Count.with.Goals as goal

pub loop-done-init : goal.loop-done-init
loop-done-init c = λ before h. counted_none before c.args.self.moves c.args.self.orders h

pub returns-in_err-count : goal.returns-in_err-count
returns-in_err-count c = λ before h.
    rw c.from_residual.ensures
    (too_many_moves before (c.loop-done.done + 1) c.args.many (omega arith) (c.in_err-count.ensures before (c.loop-done.invariant before h)))
