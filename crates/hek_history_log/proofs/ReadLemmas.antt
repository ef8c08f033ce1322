-- What was read, line after line.
use Rattle.std.proofs.Common.{◌≡◌, ◌<◌, ◌≢◌, ℕ, suc, List, [], ◌∷◌, ◌++◌, Some, false, length, nat_eq, sym, ap, subst, ◌∙◌, arith, length-append}
use Rattle.std.proofs.lemmas.List.Elements.{AllZip-push}
use Rattle.std.specs.Global.{Vec}
use Rattle.std.specs.List.{AllZip}
use Rattle.indexmap.specs.IndexSet.{contains}
use Rattle.hek_history.specs.declared.history.History.{History}
use Rattle.hek_history.specs.declared.history.Transaction.{Transaction}
use Rattle.hek_history_log.specs.Contents.{SameTransaction}
use Rattle.hek_history_log.specs.HasRead.{HasNoEntry, HasRead}
use Rattle.hek_history_log.specs.Kept.{KeepsTurns, AddsName, AddsTransaction}
use Rattle.hek_history_log.specs.declared.symbols.Symbols.{Symbols}
use Rattle.hek_history_log.specs.declared.reader.Draft.{Draft}

-- all but the sessions is as it was
pub record KeepsRead (old new : Draft) : Type 0 where
  pub history : new.history ≡ old.history
  pub symbols : new.symbols ≡ old.symbols
  pub opening : new.rows_line ≡ old.rows_line
  pub turns : KeepsTurns old.names new.names
  pub seen : new.seen ≡ old.seen

-- one more transaction, of the next name
pub reads_next : (buckets : ℕ) (rows : List (ℕ × ℕ)) (ts : List Transaction) (t : Transaction) (old named between new : Draft) → HasRead buckets rows ts old → AddsName old named (suc (length ts)) → KeepsRead named between → AddsTransaction between new t
    → HasRead buckets rows (ts ++ t ∷ []) new
reads_next buckets rows ts t old named between new had adds keeps adds_one =
    let history : between.history ≡ old.history = keeps.history ∙ adds.history in
    let line : new.rows_line ≡ old.rows_line = adds_one.opening ∙ keeps.opening ∙ adds.opening in
    let keys : new.symbols.keys ≡ old.symbols.keys = adds_one.labels.keys ∙ ap (λ (s : Symbols). s.keys) keeps.symbols ∙ ap (λ (s : Symbols). s.keys) adds.symbols in
    let values : new.symbols.values ≡ old.symbols.values = adds_one.labels.values ∙ ap (λ (s : Symbols). s.values) keeps.symbols ∙ ap (λ (s : Symbols). s.values) adds.symbols in
    let items : new.history.transactions.items ≡ old.history.transactions.items ++ adds_one.read ∷ [] = adds_one.added ∙ ap (λ (h : History). h.transactions.items ++ adds_one.read ∷ []) history in
    record {
      opening = λ z. had.opening (sym line ∙ z);
      bucket_count = adds_one.labels.buckets ∙ ap (λ (s : Symbols). s.buckets) keeps.symbols ∙ ap (λ (s : Symbols). s.buckets) adds.symbols ∙ had.bucket_count;
      opening_rows = ap (λ (v : Vec (ℕ × ℕ)). v.items) adds_one.rows ∙ ap (λ (h : History). h.rows.items) history ∙ had.opening_rows;
      transactions = subst (λ (l : List Transaction). AllZip SameTransaction l (ts ++ t ∷ [])) (sym items) (AllZip-push SameTransaction old.history.transactions.items ts adds_one.read t had.transactions adds_one.same);
      keys = subst HasNoEntry (sym keys) had.keys;
      values = subst HasNoEntry (sym values) had.values;
      twins = adds_one.turns.twins ∙ keeps.turns.twins ∙ adds.turns.twins ∙ had.twins;
      turns = adds_one.turns.turns ∙ keeps.turns.turns ∙ adds.turns.turns ∙ had.turns;
      seen = λ name above.
          let long = length-append ts (t ∷ []) in
          let new_name : suc (length ts) < name = omega (arith, long) in
          let differs : name ≢ suc (length ts) = λ e. absurd (omega arith) in
          ap (λ s. contains nat_eq s name) (adds_one.seen ∙ keeps.seen) ∙ adds.seen name differs ∙ had.seen name (omega arith);
    }
