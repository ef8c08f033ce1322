use Rattle.std.proofs.Common.{◌≡◌, take}
use Rattle.std.specs.Prelude.{map}
use Rattle.hek_history.specs.declared.history.Transaction.{Transaction}
use Rattle.hek_ladder.specs.Findings.{own_rules_of}
use Rattle.hek_ladder.proofs.scene.Scene.own_rules.Given as goal

abbrev pub invariant-loop-transaction : goal.invariant-loop-transaction
invariant-loop-transaction l = l.list.items ≡ map (λ (x : Transaction). own_rules_of x.level) (take l.transaction-index l.transaction-items)
