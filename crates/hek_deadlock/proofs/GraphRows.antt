-- One more row, and the edges of all rows.
use Rattle.std.proofs.Common.{ℕ, zero, suc, ◌≡◌, ◌+◌, ◌<◌, Bool, true, false, ◌&&◌, eqb, List, [], ◌∷◌, ◌++◌, length, get_or, slice_get, Vec, Global, Option, Some, None, refl, sym, ap, ◌∙◌, subst, inl, inr, ◌⊎◌, arith}
use Rattle.std.specs.List.{All}
use Rattle.std.proofs.lemmas.Bool.{both_ways, cases_lt, eq-eqb, and_parts}
use Rattle.std.proofs.lemmas.List.Folds.{list_any_at}
use Rattle.std.proofs.lemmas.Option.{same_Some, slice_get-get_or, slice_get_past}
use Rattle.hek_rules.proofs.Mapped.{slice_get-within, get_or-slice_get}
use Rattle.hek_rules.specs.Cycles.{JoinsBelow}
use Rattle.hek_rules.specs.Listing.{is_among}
use Rattle.hek_rules.specs.World.{Txn, txn_in, is_active}
use Rattle.hek_store.specs.Stored.{Stored}
use Rattle.hek_txn.specs.TxnTable.{TxnTable}
use Rattle.hek_deadlock.specs.Edges.{is_node, is_edge}
use Rattle.hek_deadlock.specs.Places.{id_at, AreOfPlaces}
use Rattle.hek_deadlock.specs.Rows.{waits_by_rows, row_in, IsInRange}
use Rattle.hek_deadlock.proofs.Marks.{waits-row}
use Rattle.hek_deadlock.proofs.Ready.{among_below}

-- both ends of an edge are nodes
pub first_of : (a b c d : Bool) → (a && b && c && d) ≡ true → a ≡ true
first_of true b c d e = refl
first_of false b c d e = cc

pub second_of : (a b c d : Bool) → (a && b && c && d) ≡ true → b ≡ true
second_of true true c d e = refl
second_of true false c d e = cc
second_of false b c d e = cc

pub edge_from : (s : Stored) (x : TxnTable) (u t : ℕ) → is_edge s x u t ≡ true → is_node x u ≡ true
unfolding is_edge
edge_from s x u t e = first_of (is_node x u) (is_node x t) _ _ e

pub edge_to : (s : Stored) (x : TxnTable) (u t : ℕ) → is_edge s x u t ≡ true → is_node x t ≡ true
unfolding is_edge
edge_to s x u t e = second_of (is_node x u) (is_node x t) _ _ e

-- an ID past the last transaction is not a node
past_is_none : (ts : List Txn) (i : ℕ) → slice_get ts i ≡ None → is_active (txn_in ts (suc i)).state ≡ false
past_is_none ts i e = rw e refl

pub active_below : (ts : List Txn) (u : ℕ) → is_active (txn_in ts u).state ≡ true → u < length ts + 1
active_below ts zero e = omega arith
active_below ts (suc i) e =
    elim (cases_lt i (length ts)) [
      | inl lt ↦ omega arith
      | inr ge ↦ (let none : is_active (txn_in ts (suc i)).state ≡ false = past_is_none ts i (slice_get_past ts i ge) in cc)
    ]

pub node_below : (x : TxnTable) (u : ℕ) → is_node x u ≡ true → u < length x.cores + 1
node_below x u e = active_below x.cores u (and_parts _ _ (and_parts _ _ e).0).0

pub among_at : (xs : List ℕ) (i d : ℕ) → i < length xs → is_among xs (get_or xs i d) ≡ true
among_at xs i d lt = list_any_at (λ (m : ℕ). eqb m (get_or xs i d)) xs i d lt (eq-eqb (get_or xs i d) (get_or xs i d) refl)

-- the row of place j: the places of the numbers that wait for the number there
pub record IsRow (edge : ℕ → ℕ → Bool) (ids : List ℕ) (j : ℕ) (row : List ℕ) : Type 0 where
  pub range : All (λ i. i < length ids) row
  pub edges : (i : ℕ) → i < length ids → is_among row i ≡ edge (id_at ids i) (id_at ids j)

last_or : (rows : List (Vec ℕ Global)) (next : Vec ℕ Global) (t : ℕ) (row : Vec ℕ Global) → slice_get (rows ++ next ∷ []) t ≡ Some row → (slice_get rows t ≡ Some row) ⊎ ((t ≡ length rows) × (row ≡ next))
last_or [] next zero row e = inr (refl, (let s : next ≡ row = same_Some next row e in sym s))
last_or [] next (suc t) row e = cc
last_or (x ∷ xs) next zero row e = inl e
last_or (x ∷ xs) next (suc t) row e =
    elim (last_or xs next t row e) [
      | inl before ↦ inl before
      | inr last ↦ inr ((let same : t ≡ length xs = last.0 in omega arith), last.1)
    ]

pub record AreRows (edge : ℕ → ℕ → Bool) (ids : List ℕ) (rows : List (Vec ℕ Global)) : Type 0 where
  pub each : (j : ℕ) (row : Vec ℕ Global) → slice_get rows j ≡ Some row → IsRow edge ids j row.items

pub no_rows : (edge : ℕ → ℕ → Bool) (ids : List ℕ) → AreRows edge ids []
no_rows edge ids = record { each = λ j row e. cc }

pub rows_more : (edge : ℕ → ℕ → Bool) (ids : List ℕ) (rows new : List (Vec ℕ Global)) (next : Vec ℕ Global) (k : ℕ) → length rows ≡ k → new ≡ rows ++ next ∷ [] → AreRows edge ids rows → IsRow edge ids k next.items → AreRows edge ids new
rows_more edge ids rows new next k long pushed inv here = record { each = λ j row e. at j row (sym (ap (λ (xs : List (Vec ℕ Global)). slice_get xs j) pushed) ∙ e) }
  where
    at : (j : ℕ) (row : Vec ℕ Global) → slice_get (rows ++ next ∷ []) j ≡ Some row → IsRow edge ids j row.items
    at j row e =
        elim (last_or rows next j row e) [
          | inl before ↦ inv.each j row before
          | inr last ↦
              let same : j ≡ k = last.0 ∙ long in
              subst (λ (r : Vec ℕ Global). IsRow edge ids j r.items) (sym last.1) (subst (λ (v : ℕ). IsRow edge ids v next.items) (sym same) here)
        ]

within_none : (rows : List (Vec ℕ Global)) (j : ℕ) → j < length rows → slice_get rows j ≡ None → ⊥
within_none [] j lt e = omega arith
within_none (x ∷ xs) zero lt e = cc
within_none (x ∷ xs) (suc j) lt e = within_none xs j (omega arith) e

pub rows_done : (edge : ℕ → ℕ → Bool) (ids : List ℕ) (rows : List (Vec ℕ Global)) → length rows ≡ length ids → AreRows edge ids rows → AreOfPlaces edge ids rows
rows_done edge ids rows long are = record {
  count = long;
  range = (λ k d lt.
      subst (λ (n : ℕ). All (λ u. u < n) (get_or rows k d).items) (sym long) (are.each k (get_or rows k d) (slice_get-get_or rows k d lt)).range);
  edges = λ i j li lj. at i j li (omega (arith, lj, long)) (slice_get rows j) refl;
}
  where
    at : (i j : ℕ) → i < length ids → j < length rows → (o : Option (Vec ℕ Global)) → slice_get rows j ≡ o → waits_by_rows rows i j ≡ edge (id_at ids i) (id_at ids j)
    at i j li lj (Some row) e = waits-row rows j i row e ∙ (are.each j row e).edges i li
    at i j li lj None e = absurd (within_none rows j lj e)

-- edges between rows join places
pub rows_join : (rows : List (Vec ℕ Global)) (n : ℕ) → length rows ≡ n → IsInRange rows → JoinsBelow (waits_by_rows rows) n
unfolding waits_by_rows
rows_join rows n long range = subst (λ (m : ℕ). JoinsBelow (waits_by_rows rows) m) long (record {
  from = λ u t e. (at u t e (slice_get rows t) refl).0;
  to = λ u t e. (at u t e (slice_get rows t) refl).1;
})
  where
    at : (u t : ℕ) → waits_by_rows rows u t ≡ true → (o : Option (Vec ℕ Global)) → slice_get rows t ≡ o → (u < length rows) × (t < length rows)
    at u t k (Some row) e =
        let lt : t < length rows = slice_get-within rows t row e in
        let below : All (λ x. x < length rows) row.items = subst (λ (r : Vec ℕ Global). All (λ x. x < length rows) r.items) (get_or-slice_get rows t row e) (range t row lt) in
        (among_below (length rows) u row.items below (sym (waits-row rows t u row e) ∙ k), lt)
    at u t k None e = absurd (both_ways (is_among (row_in (slice_get rows t)) u) (ap (λ (o : Option (Vec ℕ Global)). is_among (row_in o) u) e) k)
