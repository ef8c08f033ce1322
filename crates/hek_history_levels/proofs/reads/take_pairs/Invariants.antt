use Rattle.std.proofs.Common.{◌≡◌, ◌↔◌, ◌⊎◌, ℕ, List, None}
use Rattle.hek_levels.specs.declared.log.Need.{Need}
use Rattle.hek_levels.specs.declared.log.Scan.{Scan}
use Rattle.hek_history_levels.specs.Reads.{HasRead}
use Rattle.hek_history_levels.specs.Taking.{own_left}
use Rattle.hek_history_levels.proofs.Readings.{IsPairedTo}
use Rattle.hek_history_levels.proofs.reads.take_pairs.Given as goal

abbrev pub invariant-loop-i : goal.invariant-loop-i
invariant-loop-i l =
    (scans : List Scan) (m k : ℕ) (need : Need) → HasRead l.reads.items scans m k need ↔ (HasRead l.initial.reads.items scans m k need ⊎ ((m ≡ l.n) × IsPairedTo l.pairs l.i k need × (own_left l.own k ≡ None)))
