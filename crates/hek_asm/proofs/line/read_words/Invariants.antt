use Rattle.std.proofs.Common.{◌≡◌, ◌+◌, ◌≤◌, ◌||◌, ◌++◌, drop, map}
use Rattle.std.specs.Prelude.{nat_le}
use Rattle.std.specs.List.{position_or_len}
use Rattle.hek_rules.specs.Text.{words_of, ends_word}
use Rattle.hek_asm.specs.Text.{has_foreign}
use Rattle.hek_asm.proofs.line.read_words.Given as goal

-- the words before `start` are read, no word that begins at `start` ends before `i`, and the bits are those of the
-- bytes before `i`
abbrev pub invariant-loop-i : goal.invariant-loop-i
invariant-loop-i l =
    (l.start ≤ l.i)
    × (map (λ w. w.now) l.words.items ++ words_of (drop l.start l.line) ≡ words_of l.line)
    × (l.i + position_or_len ends_word (drop l.i l.line) ≡ l.start + position_or_len ends_word (drop l.start l.line))
    × ((nat_le 128 l.bits || has_foreign (drop l.i l.line)) ≡ has_foreign l.line)
