-- One more waiter is searched for, and its place is noted if it has one.
use Rattle.std.proofs.Common.{ℕ, ◌≡◌, ◌+◌, ◌<◌, ◌≤◌, Bool, ◌||◌, eqb, List, [], ◌∷◌, ◌++◌, length, take, get_or, sym, ap, ◌∙◌, subst, inl, inr, arith, Result, Ok, Err}
use Rattle.std.specs.List.Sorted.{IsBinarySearchResult}
use Rattle.std.specs.Ordering.{nat_cmp}
use Rattle.std.specs.Result.{MatchResult}
use Rattle.std.proofs.lemmas.Bool.{cases_eq, cases_lt, ne_eqb, eq-eqb}
use Rattle.std.proofs.lemmas.List.Sorted.{searched}
use Rattle.hek_rules.specs.Listing.{is_among}
use Rattle.hek_deadlock.specs.Places.{id_at, IsRising}
use Rattle.hek_deadlock.proofs.Marks.{among_push, among_more, or_false}
use Rattle.hek_deadlock.proofs.Placed.{same_place, kept}

-- the noted places are those of the waiters so far
abbrev pub AreNoted : List ℕ → List ℕ → List ℕ → Type 0
AreNoted ids waiters places = (i : ℕ) → i < length ids → is_among places i ≡ is_among waiters (id_at ids i)

found : (ids : List ℕ) → IsRising ids → (p u i : ℕ) → p < length ids → id_at ids p ≡ u → i < length ids → eqb p i ≡ eqb u (id_at ids i)
found ids r p u i lp is li =
    elim (cases_eq p i) [
      | inl same ↦ eq-eqb p i same ∙ sym (eq-eqb u (id_at ids i) (sym is ∙ ap (id_at ids) same))
      | inr ne ↦ ne_eqb p i ne ∙ sym (ne_eqb u (id_at ids i) (λ e. ne (same_place ids r p i lp li (is ∙ e))))
    ]

pub place_noted : (ids waiters old new : List ℕ) → IsRising ids → (k p u : ℕ) → k < length waiters → u ≡ get_or waiters k 0 → p < length ids → id_at ids p ≡ u → new ≡ old ++ p ∷ [] → AreNoted ids (take k waiters) old → AreNoted ids (take (k + 1) waiters) new
place_noted ids waiters old new r k p u lt at lp is pushed inv i li =
    ap (λ (ps : List ℕ). is_among ps i) pushed
    ∙ among_push old p i
    ∙ ap (λ (b : Bool). b || eqb p i) (inv i li)
    ∙ ap (λ (b : Bool). is_among (take k waiters) (id_at ids i) || b) (found ids r p u i lp is li)
    ∙ sym (among_more waiters k u (id_at ids i) lt at)

pub place_missed : (ids waiters old : List ℕ) (k u : ℕ) → k < length waiters → u ≡ get_or waiters k 0 → ((i : ℕ) → i < length ids → u ≡ id_at ids i → ⊥) → AreNoted ids (take k waiters) old → AreNoted ids (take (k + 1) waiters) old
place_missed ids waiters old k u lt at absent inv i li =
    inv i li
    ∙ sym (or_false (is_among (take k waiters) (id_at ids i)))
    ∙ ap (λ (b : Bool). is_among (take k waiters) (id_at ids i) || b) (sym (ne_eqb u (id_at ids i) (absent i li)))
    ∙ sym (among_more waiters k u (id_at ids i) lt at)

-- the result of a binary search in a rising list
pub search_says : (ids : List ℕ) (u : ℕ) (result r : Result ℕ ℕ) → result ≡ r → IsRising ids → IsBinarySearchResult (λ y. nat_cmp y u) ids result → MatchResult r (λ p. (p < length ids) × (id_at ids p ≡ u)) (λ p. (i : ℕ) → i < length ids → u ≡ id_at ids i → ⊥)
search_says ids u result r is rising position =
    at r (searched ids u r (subst (λ (v : Result ℕ ℕ). IsBinarySearchResult (λ y. nat_cmp y u) ids v) is position) (kept ids rising))
  where
    at : (r : Result ℕ ℕ) → MatchResult r (λ i. (i < length ids) × (get_or ids i 0 ≡ u)) (λ i. (i ≤ length ids) × ((k : ℕ) → k < i → get_or ids k 0 < u) × ((k : ℕ) → i ≤ k → k < length ids → u < get_or ids k 0)) → MatchResult r (λ p. (p < length ids) × (id_at ids p ≡ u)) (λ p. (i : ℕ) → i < length ids → u ≡ id_at ids i → ⊥)
    at (Ok p) m = m
    at (Err p) m = λ i li e.
        elim (cases_lt i p) [
          | inl lt ↦ (let less : id_at ids i < u = m.1 i lt in omega arith)
          | inr ge ↦ (let more : u < id_at ids i = m.2 i ge li in omega arith)
        ]
