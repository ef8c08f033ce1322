use Rattle.std.proofs.Common.{◌≡◌, false, take}
use Rattle.std.specs.List.{list_any}
use Rattle.std.specs.Str.{bytes_eq}
use Rattle.hek_history_log.proofs.fields.is_known.Given as goal

abbrev pub invariant-loop-it : goal.invariant-loop-it
invariant-loop-it l = list_any (λ k. bytes_eq k.now l.name) (take l.it-index l.known) ≡ false
