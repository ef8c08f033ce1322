-- The points of an order: its n-th transaction reads at the place 2n, and commits right after it.
use Rattle.std.proofs.Common.{◌≡◌, ℕ, zero, suc, ◌+◌, List, [], ◌∷◌, Some, refl, sym, ap, take, arith}
use Rattle.std.specs.Prelude.{slice_get}
use Rattle.hek_history.specs.declared.history.Point.{Point}
use Rattle.hek_history.specs.declared.history.Point.TheVariants.{Begin, Commit}
use Rattle.hek_history.specs.Explanation.{At}
use Rattle.hek_history.proofs.Transcripts.{begins_apart, commits_apart, kinds_apart, no_point}
use Rattle.hek_history_laws.specs.Laws.{points_of}

abbrev pub twice : ℕ → ℕ
twice zero = zero
twice (suc n) = suc (suc (twice n))

pub twice-is : (n : ℕ) → twice n ≡ n + n
twice-is zero = omega arith
twice-is (suc n) = let e = twice-is n in omega (arith, e)

-- the turn of the transaction at a place of the history
pub record IsTurn (place : ℕ → ℕ) (order : List (ℕ × ℕ)) (p : ℕ) (turn : ℕ) : Type 0 where
  pub entry : ℕ × ℕ
  pub there : slice_get order turn ≡ Some entry
  pub named : place entry.1 ≡ p

one_point : (p q : Point) → Some p ≡ Some q → p ≡ q
one_point p q e = cc

pub turn_begun : (place : ℕ → ℕ) (order : List (ℕ × ℕ)) (i p : ℕ) → At (points_of place order) i (Begin p) → (n : ℕ) × (i ≡ twice n) × IsTurn place order p n
turn_begun place [] i p a = absurd (no_point (Begin p) a)
turn_begun place (x ∷ xs) zero p a = (zero, refl, record { entry = x; there = refl; named = begins_apart (place x.1) p (one_point (Begin (place x.1)) (Begin p) a) })
turn_begun place (x ∷ xs) (suc zero) p a = absurd (kinds_apart p (place x.1) (sym (one_point (Commit (place x.1)) (Begin p) a)))
turn_begun place (x ∷ xs) (suc (suc i)) p a =
    let r = turn_begun place xs i p a in
    let t = r.2 in
    (suc r.0, ap (λ m. suc (suc m)) r.1, record { entry = t.entry; there = t.there; named = t.named })

pub turn_committed : (place : ℕ → ℕ) (order : List (ℕ × ℕ)) (i p : ℕ) → At (points_of place order) i (Commit p) → (n : ℕ) × (i ≡ suc (twice n)) × IsTurn place order p n
turn_committed place [] i p a = absurd (no_point (Commit p) a)
turn_committed place (x ∷ xs) zero p a = absurd (kinds_apart (place x.1) p (one_point (Begin (place x.1)) (Commit p) a))
turn_committed place (x ∷ xs) (suc zero) p a = (zero, refl, record { entry = x; there = refl; named = commits_apart (place x.1) p (one_point (Commit (place x.1)) (Commit p) a) })
turn_committed place (x ∷ xs) (suc (suc i)) p a =
    let r = turn_committed place xs i p a in
    let t = r.2 in
    (suc r.0, ap (λ m. suc (suc m)) r.1, record { entry = t.entry; there = t.there; named = t.named })

one_entry : (x y : ℕ × ℕ) → Some x ≡ Some y → x ≡ y
one_entry x y e = cc

pub begins_at : (place : ℕ → ℕ) (order : List (ℕ × ℕ)) (n : ℕ) (x : ℕ × ℕ) → slice_get order n ≡ Some x → At (points_of place order) (twice n) (Begin (place x.1))
begins_at place [] n x e = cc
begins_at place (y ∷ ys) zero x e = ap (λ (z : ℕ × ℕ). Some (Begin (place z.1))) (one_entry y x e)
begins_at place (y ∷ ys) (suc n) x e = begins_at place ys n x e

pub commits_at : (place : ℕ → ℕ) (order : List (ℕ × ℕ)) (n : ℕ) (x : ℕ × ℕ) → slice_get order n ≡ Some x → At (points_of place order) (suc (twice n)) (Commit (place x.1))
commits_at place [] n x e = cc
commits_at place (y ∷ ys) zero x e = ap (λ (z : ℕ × ℕ). Some (Commit (place z.1))) (one_entry y x e)
commits_at place (y ∷ ys) (suc n) x e = commits_at place ys n x e

pub points_before : (place : ℕ → ℕ) (order : List (ℕ × ℕ)) (n : ℕ) → take (twice n) (points_of place order) ≡ points_of place (take n order)
points_before place order zero = refl
points_before place [] (suc n) = refl
points_before place (x ∷ xs) (suc n) = ap (λ ps. Begin (place x.1) ∷ Commit (place x.1) ∷ ps) (points_before place xs n)
