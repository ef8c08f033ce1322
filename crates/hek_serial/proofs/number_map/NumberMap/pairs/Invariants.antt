use Rattle.std.proofs.Common.{◌≡◌, ◌++◌}
use Rattle.hek_serial.proofs.number_map.NumberMap.pairs.Given as goal

-- the entries so far and those left are all entries
abbrev pub invariant-loop-key : goal.invariant-loop-key
invariant-loop-key l =
    record {
      ends : (goal.iterator-loop-key).is_finite l.key-iterator;
      next : (goal.iterator-loop-key).can_next l.key-iterator;
      same : l.pairs.items ++ l.key-iterator ≡ l.self;
    }
