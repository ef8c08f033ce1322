use Rattle.std.proofs.Common.{◌≡◌, ◌+◌, drop}
use Rattle.std.specs.List.{position_or_len}
use Rattle.hek_rules.specs.Text.{ends_word}
use Rattle.hek_rules.proofs.text.word_len.Given as goal

abbrev pub invariant-loop-i : goal.invariant-loop-i
invariant-loop-i l = l.i + position_or_len ends_word (drop l.i l.line) ≡ position_or_len ends_word l.line
