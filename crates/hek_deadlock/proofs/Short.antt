-- A cycle of waits has at most as many members as there are transactions: IDs from 1 up, each less one, are numbers
-- below the count.
use Rattle.std.proofs.Common.{ℕ, zero, suc, ◌≡◌, ◌+◌, ◌<◌, ◌≤◌, Bool, true, List, [], ◌∷◌, ◌++◌, length, map, Option, Some, None, refl, sym, subst, arith}
use Rattle.std.proofs.lemmas.List.{length-map}
use Rattle.std.specs.Option.{IfSome}
use Rattle.hek_rules.specs.Cycles.{Follows, IsClosedWalk, IsVictim, JoinsBelow}
use Rattle.hek_rules.proofs.Bound.{short_closed}
use Rattle.hek_rules.proofs.VictimLaw.{victim_found}
use Rattle.hek_store.specs.Stored.{Stored}
use Rattle.hek_txn.specs.TxnTable.{TxnTable}
use Rattle.hek_deadlock.specs.Edges.{is_edge, victim_in}
use Rattle.hek_deadlock.proofs.GraphRows.{edge_to}
use Rattle.hek_deadlock.proofs.Waiting.{node_named, joins}

-- each edge joins two numbers up to n, and leads to one above 0
pub record JoinsNamed (edge : ℕ → ℕ → Bool) (n : ℕ) : Type 0 where
  pub named : (u t : ℕ) → edge u t ≡ true → 0 < t
  pub below : JoinsBelow edge (n + 1)

-- the edges between numbers that are one less
abbrev lowered : (ℕ → ℕ → Bool) → ℕ → ℕ → Bool
lowered edge u t = edge (suc u) (suc t)

lowered_joins : (edge : ℕ → ℕ → Bool) (n : ℕ) → JoinsNamed edge n → JoinsBelow (lowered edge) n
lowered_joins edge n j = record {
  from = λ u t e. let lt = j.below.from (suc u) (suc t) e in omega (arith, lt);
  to = λ u t e. let lt = j.below.to (suc u) (suc t) e in omega (arith, lt);
}

lowered_walk : (edge : ℕ → ℕ → Bool) (n : ℕ) → JoinsNamed edge n → (x : ℕ) (ys : List ℕ) (t : ℕ) → Follows edge (suc x) (ys ++ suc t ∷ []) → (zs : List ℕ) × Follows (lowered edge) x (zs ++ t ∷ [])
lowered_walk edge n j x [] t f = ([], f)
lowered_walk edge n j x (zero ∷ ys) t f = let above = j.named (suc x) zero f.0 in absurd (omega (arith, above))
lowered_walk edge n j x (suc y ∷ ys) t f =
    let rest : (zs : List ℕ) × Follows (lowered edge) y (zs ++ t ∷ []) = lowered_walk edge n j y ys t f.1 in
    (y ∷ rest.0, (f.0, rest.1))

raised_walk : (edge : ℕ → ℕ → Bool) (x : ℕ) (ys : List ℕ) (t : ℕ) → Follows (lowered edge) x (ys ++ t ∷ []) → Follows edge (suc x) (map (λ (y : ℕ). suc y) ys ++ suc t ∷ [])
raised_walk edge x [] t f = f
raised_walk edge x (y ∷ ys) t f = (f.0, raised_walk edge y ys t f.1)

ends_named : (edge : ℕ → ℕ → Bool) (n : ℕ) → JoinsNamed edge n → (x : ℕ) (ys : List ℕ) (t : ℕ) → Follows edge x (ys ++ t ∷ []) → 0 < t
ends_named edge n j x [] t f = j.named x t f.0
ends_named edge n j x (y ∷ ys) t f = ends_named edge n j y ys t f.1

starts_below : (edge : ℕ → ℕ → Bool) (n : ℕ) → JoinsNamed edge n → (x : ℕ) (ys : List ℕ) (t : ℕ) → Follows edge x (ys ++ t ∷ []) → x < n + 1
starts_below edge n j x [] t f = j.below.from x t f.0
starts_below edge n j x (y ∷ ys) t f = j.below.from x y f.0

short_from : (edge : ℕ → ℕ → Bool) (n : ℕ) → JoinsNamed edge n → (u : ℕ) (cycle : List ℕ) → IsVictim edge u cycle → (ys : List ℕ) → Follows edge u (ys ++ u ∷ []) → length cycle ≤ n
short_from edge n j zero cycle v ys f = let above = ends_named edge n j zero ys zero f in absurd (omega (arith, above))
short_from edge n j (suc x) cycle v ys f =
    let below = starts_below edge n j (suc x) ys (suc x) f in
    let walk : (zs : List ℕ) × Follows (lowered edge) x (zs ++ x ∷ []) = lowered_walk edge n j x ys x f in
    let few : (zs : List ℕ) × Follows (lowered edge) x (zs ++ x ∷ []) × (length zs < n) = short_closed (lowered edge) n (lowered_joins edge n j) x (omega (arith, below)) walk.0 walk.1 in
    let least = v.shortest (suc x ∷ map (λ (y : ℕ). suc y) few.0) (refl, raised_walk edge x few.0 x few.1) in
    let long = length-map few.0 (λ (y : ℕ). suc y) in
    let less = few.2 in
    omega (arith, least, long, less)

short_cycle : (edge : ℕ → ℕ → Bool) (n : ℕ) → JoinsNamed edge n → (u : ℕ) (cycle : List ℕ) → IsVictim edge u cycle → length cycle ≤ n
short_cycle edge n j u cycle v = at cycle v.closed v
  where
    at : (walk : List ℕ) → IsClosedWalk edge u walk → IsVictim edge u cycle → length cycle ≤ n
    at [] c k = absurd c
    at (x ∷ ys) c k = short_from edge n j u cycle k ys (subst (λ (y : ℕ). Follows edge y (ys ++ u ∷ [])) c.0 c.1)

pub victim_short : (s : Stored) (x : TxnTable) (answer : Option (ℕ × List ℕ)) → answer ≡ victim_in s x → IfSome answer (λ a. length a.1 ≤ length x.cores)
victim_short s x None e = tt
victim_short s x (Some a) e =
    short_cycle (is_edge s x) (length x.cores)
    (record { named = λ u t k. node_named x t (edge_to s x u t k); below = joins s x })
    a.0 a.1 (victim_found (is_edge s x) (length x.cores + 1) (joins s x) a.0 a.1 (sym e))
