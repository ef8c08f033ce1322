use Rattle.std.proofs.Common.{◌≡◌, ◌≤◌, ◌++◌, take, length}
use Rattle.hek_serial.proofs.number_map.NumberMap.is.Given as goal

-- the entries are the pairs compared so far and those left
abbrev pub invariant-loop-key : goal.invariant-loop-key
invariant-loop-key l =
    record {
      ends : (goal.iterator-loop-key).is_finite l.key-iterator;
      next : (goal.iterator-loop-key).can_next l.key-iterator;
      some : l.seen ≤ length l.pairs;
      same : l.self ≡ take l.seen l.pairs ++ l.key-iterator;
    }
