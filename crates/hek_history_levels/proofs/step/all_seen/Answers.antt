use Rattle.std.proofs.Common.{◌≡◌, ◌+◌, ◌++◌, ◌∷◌, [], ℕ, List, Some, ap, ◌∙◌, sym, subst, length, rules}
use Rattle.std.specs.Prelude.{slice_get}
use Rattle.std.proofs.lemmas.List.{length_push}
use Rattle.hek_history.specs.declared.history.Transaction.{Transaction}
use Rattle.hek_history.proofs.Fronts.{element_at}
use Rattle.hek_levels.specs.declared.log.Transaction.{Transaction as TheTransaction}
use Rattle.hek_levels.specs.declared.log.Turn.{Turn}
use Rattle.hek_history_levels.specs.Steps.{turns_at, IsSeen}
use Rattle.hek_history_levels.proofs.Pushed.{one_more}
use Rattle.hek_history_levels.proofs.step.all_seen.Goals as goal

pub loop-t-preserved : goal.loop-t-preserved
loop-t-preserved c =
    let xs = c.args.history.now.transactions.items in
    let t = c.loop-t.t in
    let y = c.in_ok-seen.field-0 in
    let P : ℕ → Transaction → TheTransaction → Type 0 = λ (k : ℕ) (a : Transaction) (b : TheTransaction). IsSeen (turns_at c.args.turns.now k) a b in
    let pushed : c.push.new.self.items ≡ c.loop-t.found.items ++ y ∷ [] = search rules in
    let there : slice_get xs t ≡ Some c.index.result.now = element_at xs t c.index.result.now (search rules) c.index.ensures in
    let here : P t c.index.result.now y = subst (λ (turns : List Turn). IsSeen turns c.index.result.now y) c.turns_at-own.ensures c.in_ok-seen.ensures in
    record {
      count = ap length pushed ∙ length_push c.loop-t.found.items y ∙ ap (λ (n : ℕ). n + 1) c.loop-t.invariant.count;
      seen = record {
        each = subst (λ (ys : List TheTransaction). (k : ℕ) (a : Transaction) (b : TheTransaction) → slice_get xs k ≡ Some a → slice_get ys k ≡ Some b → P k a b) (sym pushed)
            (one_more xs c.loop-t.found.items P t c.index.result.now y c.loop-t.invariant.count there here c.loop-t.invariant.seen.each);
      };
    }
