use Rattle.std.proofs.Common.{◌≡◌, drop}
use Rattle.std.specs.Prelude.{find}
use Rattle.std.specs.Str.{bytes_eq}
use Rattle.hek_rules.specs.declared.event.Level.{Level}
use Rattle.hek_rules.specs.Names.{all_levels, level_word}
use Rattle.hek_rules.proofs.event.Level.named.Given as goal

abbrev pub invariant-loop-level : goal.invariant-loop-level
invariant-loop-level l = find (λ (x : Level). bytes_eq l.word (level_word x)) (drop l.level-index all_levels) ≡ find (λ (x : Level). bytes_eq l.word (level_word x)) all_levels
