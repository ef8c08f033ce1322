use Rattle.std.proofs.Common.{◌≡◌, drop}
use Rattle.std.specs.List.{list_any}
use Rattle.hek_levels.specs.declared.log.Turn.{Turn}
use Rattle.hek_levels.specs.Logs.{is_seen_turn}
use Rattle.hek_levels.proofs.logged.is_seen_by_one.Given as goal

abbrev pub invariant-loop-other : goal.invariant-loop-other
invariant-loop-other l = list_any (λ (b : Turn). is_seen_turn l.turn b) (drop l.other-index l.others) ≡ list_any (λ (b : Turn). is_seen_turn l.turn b) l.others
