-- The place of a point in an explanation is the one where it stands.
use Rattle.std.proofs.Common.{◌≡◌, ℕ, zero, suc, ◌<◌, ◌≤◌, true, false, List, [], ◌∷◌, Some, refl, sym, ap, ◌∙◌, subst, inl, inr, ◌⊎◌, length, arith}
use Rattle.std.proofs.lemmas.Bool.{cases_Bool, eqb-true, eq-eqb}
use Rattle.std.proofs.lemmas.Option.{slice_get_within}
use Rattle.hek_history.specs.declared.history.History.{History}
use Rattle.hek_history.specs.declared.history.Point.{Point}
use Rattle.hek_history.specs.declared.history.Point.TheVariants.{Begin, Commit}
use Rattle.hek_history.specs.Explanation.{At, IsExplanation}
use Rattle.hek_history.specs.Moments.{is_same, place}
use Rattle.hek_history.proofs.Places.{same_place}

one_point : (p q : Point) → Some p ≡ Some q → p ≡ q
one_point p q e = cc

pub same-is_same : (p q : Point) → is_same p q ≡ true → p ≡ q
same-is_same (Begin t) (Begin x) e = ap (λ (n : ℕ). Begin n) (eqb-true t x e)
same-is_same (Begin t) (Commit x) e = cc
same-is_same (Commit t) (Begin x) e = cc
same-is_same (Commit t) (Commit x) e = ap (λ (n : ℕ). Commit n) (eqb-true t x e)

is_same-refl : (p : Point) → is_same p p ≡ true
is_same-refl (Begin t) = eq-eqb t t refl
is_same-refl (Commit t) = eq-eqb t t refl

place-here : (q : Point) (points : List Point) (p : Point) → is_same q p ≡ true → place (q ∷ points) p ≡ 0
place-here q points p e = rw e refl

place-later : (q : Point) (points : List Point) (p : Point) → is_same q p ≡ false → place (q ∷ points) p ≡ suc (place points p)
place-later q points p e = rw e refl

pub place-at : (points : List Point) (i : ℕ) (p : Point) → At points i p → place points p ≤ i
place-at [] i p a = cc
place-at (q ∷ points) zero p a =
    let same : q ≡ p = one_point q p a in
    let e : is_same q p ≡ true = subst (λ (r : Point). is_same q r ≡ true) same (is_same-refl q) in
    let f = place-here q points p e in omega arith
place-at (q ∷ points) (suc i) p a =
    elim (cases_Bool (is_same q p)) [
      | inl e ↦ let f = place-here q points p e in omega arith
      | inr e ↦ let f = place-later q points p e in let le = place-at points i p a in omega arith
    ]

pub at-place : (points : List Point) (p : Point) → place points p < length points → At points (place points p) p
at-place [] p l = absurd (omega arith)
at-place (q ∷ points) p l =
    elim (cases_Bool (is_same q p)) [
      | inl e ↦
          let here : At (q ∷ points) 0 p = ap Some (same-is_same q p e) in
          subst (λ (n : ℕ). At (q ∷ points) n p) (sym (place-here q points p e)) here
      | inr e ↦
          let is = place-later q points p e in
          let less : place points p < length points = omega arith in
          let there : At (q ∷ points) (suc (place points p)) p = at-place points p less in
          subst (λ (n : ℕ). At (q ∷ points) n p) (sym is) there
    ]

module _ (h : History) (points : List Point) (e : IsExplanation h points) where
  pub place-is : (i : ℕ) (p : Point) → At points i p → place points p ≡ i
  place-is i p a =
      let le = place-at points i p a in
      let lt = slice_get_within points i p a in
      let there = at-place points p (omega arith) in
      same_place h points e (place points p) i p there a
