use Rattle.std.proofs.Common.{sym, arith}
use Rattle.hek_levels.proofs.Judged.{placed_rank}
use Rattle.hek_levels.proofs.newest.low_of.Goals as goal

pub returns-then-j-i : goal.returns-then-j-i
returns-then-j-i c log order p =
    let at = placed_rank log order _ p c.in-Transaction.x c.in-Some.j (sym c.in-Some.ensures) in
    rw c.in-Transaction.is (omega (arith, at))
