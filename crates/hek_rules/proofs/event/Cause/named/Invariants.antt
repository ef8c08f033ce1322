use Rattle.std.proofs.Common.{◌≡◌, drop}
use Rattle.std.specs.Prelude.{find}
use Rattle.std.specs.Str.{bytes_eq}
use Rattle.hek_rules.specs.declared.event.Cause.{Cause}
use Rattle.hek_rules.specs.Names.{all_causes, cause_word}
use Rattle.hek_rules.proofs.event.Cause.named.Given as goal

abbrev pub invariant-loop-cause : goal.invariant-loop-cause
invariant-loop-cause l = find (λ (x : Cause). bytes_eq l.word (cause_word x)) (drop l.cause-index all_causes) ≡ find (λ (x : Cause). bytes_eq l.word (cause_word x)) all_causes
