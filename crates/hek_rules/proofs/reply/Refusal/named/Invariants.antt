use Rattle.std.proofs.Common.{◌≡◌, drop}
use Rattle.std.specs.Prelude.{find}
use Rattle.std.specs.Str.{bytes_eq}
use Rattle.hek_rules.specs.declared.reply.Refusal.{Refusal}
use Rattle.hek_rules.specs.Names.{all_refusals, refusal_name}
use Rattle.hek_rules.proofs.reply.Refusal.named.Given as goal

abbrev pub invariant-loop-refusal : goal.invariant-loop-refusal
invariant-loop-refusal l = find (λ (x : Refusal). bytes_eq l.name (refusal_name x)) (drop l.refusal-index all_refusals) ≡ find (λ (x : Refusal). bytes_eq l.name (refusal_name x)) all_refusals
