use Rattle.std.proofs.Common.{◌≡◌, ◌+◌, drop}
use Rattle.std.specs.List.{position_or_len}
use Rattle.hek_asm.specs.Likely.{is_equals}
use Rattle.hek_asm.proofs.likely.equals_place.Given as goal

abbrev pub invariant-loop-i : goal.invariant-loop-i
invariant-loop-i l = l.i + position_or_len is_equals (drop l.i l.word) ≡ position_or_len is_equals l.word
