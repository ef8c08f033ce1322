use Rattle.std.proofs.Common.{◌≡◌, take}
use Rattle.hek_worker.proofs.book.copied.Given as goal

abbrev pub invariant-loop-entry : goal.invariant-loop-entry
invariant-loop-entry l = l.entries.items ≡ take l.entry-index l.history
