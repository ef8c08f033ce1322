use Rattle.std.proofs.Common.{ℕ, ◌<◌}
use Rattle.hek_convert_command.proofs.ChangeLaws.{LacksLeak}
use Rattle.hek_convert_command.proofs.held.has_leak.Given as goal

-- of no word before this one a lock is held by a transaction that is over
abbrev pub invariant-loop-index : goal.invariant-loop-index
invariant-loop-index l = (k : ℕ) → k < l.index → LacksLeak l.book k
