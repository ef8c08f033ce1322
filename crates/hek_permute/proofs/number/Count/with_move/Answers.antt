use Rattle.std.proofs.Common.{arith, inr, ◌≡◌, ◌+◌}
use Rattle.hek_permute.proofs.Counting.{counted_once_more, orders_once_more}
use Rattle.hek_permute.proofs.number.Count.with_move.Goals as goal

pub returns-then-orders : goal.returns-then-orders
returns-then-orders c = λ before h.
    let next : c.in_ok-moves.moves ≡ c.args.self.moves + 1 = omega (arith, c.in_ok-moves.ensures) in
    inr (omega (arith, c.if-orders.true, orders_once_more before c.args.many c.args.self.moves c.in_ok-moves.moves c.args.self.orders h next))

pub returns : goal.returns
returns c = λ before h.
    let next : c.in_ok-moves.moves ≡ c.args.self.moves + 1 = omega (arith, c.in_ok-moves.ensures) in
    counted_once_more before c.args.many c.args.self.moves c.in_ok-moves.moves c.args.self.orders h next
