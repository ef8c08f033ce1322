-- One more ID is looked at, and listed if it is a node.
use Rattle.std.proofs.Common.{ℕ, ◌≡◌, ◌+◌, ◌<◌, Bool, true, false, ◌||◌, List, [], ◌∷◌, ◌++◌, length, get_or, sym, ap, ◌∙◌, subst, inl, inr, arith}
use Rattle.std.proofs.Math.Seq.{get_or-append_seam}
use Rattle.std.proofs.lemmas.Bool.{cases_Bool, cases_eq, cases_lt, ne_eqb, eq-eqb}
use Rattle.std.proofs.lemmas.List.{get_or_append_left, length-append}
use Rattle.hek_rules.specs.Listing.{is_among}
use Rattle.hek_txn.specs.TxnTable.{TxnTable}
use Rattle.hek_deadlock.specs.Edges.{is_node}
use Rattle.hek_deadlock.specs.Places.{id_at, IsRising}
use Rattle.hek_deadlock.proofs.GraphRows.{among_at}
use Rattle.hek_deadlock.proofs.Marks.{among_push, or_true, or_false}

-- the nodes among the IDs up to n
pub record AreNodes (x : TxnTable) (n : ℕ) (ids : List ℕ) : Type 0 where
  pub rising : IsRising ids
  pub below : (u : ℕ) → is_among ids u ≡ true → u < n + 1
  pub each : (u : ℕ) → u < n + 1 → is_among ids u ≡ is_node x u

rising_more : (ids : List ℕ) (t : ℕ) → IsRising ids → ((u : ℕ) → is_among ids u ≡ true → u < t) → IsRising (ids ++ t ∷ [])
rising_more ids t r below = record { less = at }
  where
    at : (i j : ℕ) → i < j → j < length (ids ++ t ∷ []) → id_at (ids ++ t ∷ []) i < id_at (ids ++ t ∷ []) j
    at i j lt within =
        elim (cases_lt j (length ids)) [
          | inl before ↦ rw (get_or_append_left ids (t ∷ []) 0 i (omega arith), get_or_append_left ids (t ∷ []) 0 j before) (r.less i j lt before)
          | inr ge ↦
              let long = length-append ids (t ∷ []) in
              let last : j ≡ length ids = omega (arith, long) in
              let first : i < length ids = omega arith in
              subst (λ (k : ℕ). id_at (ids ++ t ∷ []) i < id_at (ids ++ t ∷ []) k) (sym last)
              (rw (get_or_append_left ids (t ∷ []) 0 i first, get_or-append_seam ids t [] 0)
              (below (get_or ids i 0) (among_at ids i 0 first)))
        ]

pub nodes_more : (x : TxnTable) (n t : ℕ) (ids new : List ℕ) → AreNodes x n ids → t ≡ n + 1 → is_node x t ≡ true → new ≡ ids ++ t ∷ [] → AreNodes x (n + 1) new
nodes_more x n t ids new are same node pushed = subst (λ (ns : List ℕ). AreNodes x (n + 1) ns) (sym pushed) (record {
  rising = rising_more ids t are.rising (λ u k. let b : u < n + 1 = are.below u k in omega arith);
  below = below;
  each = each;
})
  where
    below : (u : ℕ) → is_among (ids ++ t ∷ []) u ≡ true → u < n + 1 + 1
    below u k =
        elim (cases_eq t u) [
          | inl is ↦ omega arith
          | inr ne ↦
              let old : is_among ids u ≡ true = sym (or_false (is_among ids u)) ∙ ap (λ (b : Bool). is_among ids u || b) (sym (ne_eqb t u ne)) ∙ sym (among_push ids t u) ∙ k in
              let b : u < n + 1 = are.below u old in
              omega arith
        ]

    each : (u : ℕ) → u < n + 1 + 1 → is_among (ids ++ t ∷ []) u ≡ is_node x u
    each u lt =
        among_push ids t u
        ∙ elim (cases_eq t u) [
          | inl is ↦
              ap (λ (b : Bool). is_among ids u || b) (eq-eqb t u is)
              ∙ or_true (is_among ids u)
              ∙ sym (subst (λ (v : ℕ). is_node x v ≡ true) is node)
          | inr ne ↦
              ap (λ (b : Bool). is_among ids u || b) (ne_eqb t u ne)
              ∙ or_false (is_among ids u)
              ∙ are.each u (omega arith)
        ]

pub nodes_skip : (x : TxnTable) (n t : ℕ) (ids : List ℕ) → AreNodes x n ids → t ≡ n + 1 → is_node x t ≡ false → AreNodes x (n + 1) ids
nodes_skip x n t ids are same none = record {
  rising = are.rising;
  below = λ u k. let b : u < n + 1 = are.below u k in omega arith;
  each = each;
}
  where
    absent : is_among ids t ≡ false
    absent =
        elim (cases_Bool (is_among ids t)) [
          | inl here ↦ (let b : t < n + 1 = are.below t here in absurd (omega arith))
          | inr gone ↦ gone
        ]

    each : (u : ℕ) → u < n + 1 + 1 → is_among ids u ≡ is_node x u
    each u lt =
        elim (cases_eq t u) [
          | inl is ↦ subst (λ (v : ℕ). is_among ids v ≡ is_node x v) is (absent ∙ sym none)
          | inr ne ↦ are.each u (omega arith)
        ]
