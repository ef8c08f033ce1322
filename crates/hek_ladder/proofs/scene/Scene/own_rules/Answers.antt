use Rattle.std.proofs.Common.{◌≡◌, ◌∙◌, ℕ, zero, suc, List, [], ◌∷◌, refl, ap, arith}
use Rattle.std.proofs.lemmas.Grind.{common_steps}
use Rattle.std.specs.Prelude.{slice_get, map}
use Rattle.hek_history.specs.declared.history.Transaction.{Transaction}
use Rattle.hek_levels.specs.declared.rules.Rules.{Rules}
use Rattle.hek_levels.specs.Levels.{rules_in}
use Rattle.hek_ladder.specs.Findings.{own_rules_of, own_rules_in}
use Rattle.hek_ladder.proofs.scene.Scene.own_rules.Goals as goal

-- the rules in the list are those of the levels, one by one
own-rules-of-each : (xs : List Transaction) (t : ℕ) → rules_in (slice_get (map (λ (x : Transaction). own_rules_of x.level) xs) t) ≡ own_rules_in (slice_get xs t)
own-rules-of-each [] t = refl
own-rules-of-each (x ∷ xs) zero = refl
own-rules-of-each (x ∷ xs) (suc t) = own-rules-of-each xs t

pub returns : goal.returns
returns c t =
    let xs : List Transaction = c.args.self.now.log.history.transactions.items in
    let each : c.loop-transaction.list.items ≡ map (λ (x : Transaction). own_rules_of x.level) xs = grind (arith, common_steps) in
    ap (λ (rules : List Rules). rules_in (slice_get rules t)) each ∙ own-rules-of-each xs t
