-- The bytes so far are taken from the input, and have no line feed.
use Rattle.std.proofs.Common.{◌≢◌, ◌≤◌, ◌^◌, All, length}
use Rattle.std.specs.Io.KnownBytes.{Consumes}
use Rattle.hek_history_log.proofs.input.read_line.Given as goal

abbrev pub invariant-loop : goal.invariant-loop
invariant-loop g l =
    (length l.bytes.items ≤ 2 ^ 24) × All (λ x. x ≢ 10) l.bytes.items × Consumes (g.B.Read.remaining l.initial.input) (g.B.Read.remaining l.input) l.bytes.items
