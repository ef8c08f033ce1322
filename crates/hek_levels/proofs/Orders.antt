-- Places in an order.
use Rattle.std.proofs.Common.{◌≡◌, ◌==◌, ℕ, zero, suc, ◌+◌, ◌<◌, ◌≤◌, true, false, List, [], ◌∷◌, Option, Some, refl, sym, ap, ◌∙◌, inl, inr, ◌⊎◌, length, arith}
use Rattle.std.proofs.lemmas.Bool.{cases_Bool, cases_lt, eqb-true, eq-eqb}
use Rattle.std.proofs.lemmas.Option.{slice_get_within}
use Rattle.hek_levels.specs.declared.certificate.Writer.{Writer}
use Rattle.hek_levels.specs.declared.certificate.Writer.TheVariants as writer
use Rattle.hek_levels.specs.Seen.{Explanation, At, TakesPlace, place, rank, IsBefore}

pub some_is : (m n : ℕ) → ◌≡◌ {A = Option ℕ} (Some m) (Some n) → m ≡ n
some_is m n e = cc

suc_is : (m n : ℕ) → suc m ≡ suc n → m ≡ n
suc_is m n e = omega arith

pub same_at : (order : List ℕ) (i t x : ℕ) → At order i t → At order i x → t ≡ x
same_at order i t x a b = some_is t x (sym a ∙ b)

-- a place below i + 1 is below i, or i
pub cases_below : (j i : ℕ) → j < i + 1 → (j < i) ⊎ (j ≡ i)
cases_below j i l = elim (cases_lt j i) [ inl less ↦ inl less | inr ge ↦ inr (omega arith) ]

-- a place from i on is i, or after it
pub cases_from : (i j : ℕ) → i ≤ j → (i ≡ j) ⊎ (i + 1 ≤ j)
cases_from i j l = elim (cases_lt i j) [ inl less ↦ inr (omega arith) | inr ge ↦ inl (omega arith) ]

place-here : (x : ℕ) (order : List ℕ) (t : ℕ) → (x == t) ≡ true → place (x ∷ order) t ≡ 0
place-here x order t e = rw e refl

place-later : (x : ℕ) (order : List ℕ) (t : ℕ) → (x == t) ≡ false → place (x ∷ order) t ≡ suc (place order t)
place-later x order t e = rw e refl

pub place-injective : (order : List ℕ) (t x : ℕ) → place order t ≡ place order x → t ≡ x
place-injective [] t x e = e
place-injective (y ∷ order) t x e =
    elim (cases_Bool (y == t)) [
      | inl a ↦
          elim (cases_Bool (y == x)) [
            | inl b ↦ sym (eqb-true y t a) ∙ eqb-true y x b
            | inr b ↦ absurd (let f = place-here y order t a in let g = place-later y order x b in omega arith)
          ]
      | inr a ↦
          elim (cases_Bool (y == x)) [
            | inl b ↦ absurd (let f = place-later y order t a in let g = place-here y order x b in omega arith)
            | inr b ↦ place-injective order t x (suc_is _ _ (sym (place-later y order t a) ∙ e ∙ place-later y order x b))
          ]
    ]

pub place-at : (order : List ℕ) (i t : ℕ) → At order i t → place order t ≤ i
place-at [] i t a = cc
place-at (y ∷ order) zero t a = let f = place-here y order t (eq-eqb y t (some_is y t a)) in omega arith
place-at (y ∷ order) (suc i) t a =
    elim (cases_Bool (y == t)) [
      | inl e ↦ let f = place-here y order t e in omega arith
      | inr e ↦ let f = place-later y order t e in let le = place-at order i t a in omega arith
    ]

pub at-place : (order : List ℕ) (t : ℕ) → place order t < length order → At order (place order t) t
at-place [] t l = absurd (omega arith)
at-place (y ∷ order) t l =
    elim (cases_Bool (y == t)) [
      | inl e ↦ let f = place-here y order t e in rw f (ap Some (eqb-true y t e))
      | inr e ↦
          let f = place-later y order t e in
          let less : place order t < length order = omega arith in
          rw f (at-place order t less)
    ]

pub rank-injective : (order : List ℕ) (w v : Writer) → rank order w ≡ rank order v → w ≡ v
rank-injective order writer.Opening writer.Opening e = refl
rank-injective order writer.Opening (writer.Transaction x) e = absurd (omega arith)
rank-injective order (writer.Transaction t) writer.Opening e = absurd (omega arith)
rank-injective order (writer.Transaction t) (writer.Transaction x) e = ap (λ (n : ℕ). writer.Transaction n) (place-injective order t x (suc_is _ _ e))

-- who is before one that takes place does so too
pub takes : (e : Explanation) (x t : ℕ) → IsBefore e x t → TakesPlace e t → TakesPlace e x
takes e x t b o =
    let le = place-at e.order o.0 t o.1 in
    let lt = slice_get_within e.order o.0 t o.1 in
    let within : place e.order x < length e.order = omega arith in
    (place e.order x, at-place e.order x within)

-- where each stands once, it stands at its place
pub placed : (order : List ℕ) → ((i j t : ℕ) → At order i t → At order j t → i ≡ j) → (i t : ℕ) → At order i t → place order t ≡ i
placed order once i t a =
    let le = place-at order i t a in
    let lt = slice_get_within order i t a in
    let within : place order t < length order = omega arith in
    once (place order t) i t (at-place order t within) a
