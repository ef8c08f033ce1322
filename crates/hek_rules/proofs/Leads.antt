-- The computed members in between are a walk of the asked length, and the first of those walks in dictionary order.
use Rattle.std.proofs.Common.{ℕ, zero, suc, ◌≡◌, ◌<◌, Bool, true, ◌&&◌, List, [], ◌∷◌, ◌++◌, length, Some, refl, sym, subst, inl, inr, arith}
use Rattle.std.proofs.lemmas.Bool.{cases_order, both_ways, and_parts, and_from}
use Rattle.hek_rules.specs.Cycles.{Follows, IsNotAfter, JoinsBelow}
use Rattle.hek_rules.specs.Victim.{least, leads, between}
use Rattle.hek_rules.proofs.Least.{IsLeast, least_found, least_from, found_from}

pub record Next (edge : ℕ → ℕ → Bool) (n m x t y : ℕ) : Type 0 where
  pub is : least (λ y. edge x y && leads edge n m y t) n ≡ Some y
  pub least : IsLeast (λ y. edge x y && leads edge n m y t) n y
  pub joined : edge x y ≡ true
  pub on : leads edge n m y t ≡ true

pub leads_next : (edge : ℕ → ℕ → Bool) (n m x t : ℕ) → leads edge n (suc m) x t ≡ true → (y : ℕ) × Next edge n m x t y
unfolding leads
leads_next edge n m x t e =
    let s : (y : ℕ) × IsLeast (λ y. edge x y && leads edge n m y t) n y = least_found (λ y. edge x y && leads edge n m y t) n e in
    let parts : (edge x s.0 ≡ true) × (leads edge n m s.0 t ≡ true) = and_parts _ _ s.1.passes in
    (s.0, record { is = least_from (λ y. edge x y && leads edge n m y t) n s.0 s.1; least = s.1; joined = parts.0; on = parts.1 })

pub leads_from : (edge : ℕ → ℕ → Bool) (n m x t y : ℕ) → y < n → edge x y ≡ true → leads edge n m y t ≡ true → leads edge n (suc m) x t ≡ true
unfolding leads
leads_from edge n m x t y lt e on = found_from (λ y. edge x y && leads edge n m y t) n y lt (and_from _ _ e on)

pub leads-zero : (edge : ℕ → ℕ → Bool) (n x t : ℕ) → leads edge n 0 x t ≡ edge x t
unfolding leads
leads-zero edge n x t = refl

-- `leads` is true of each walk
pub leads_of_walk : (edge : ℕ → ℕ → Bool) (n : ℕ) → JoinsBelow edge n → (t x : ℕ) (ys : List ℕ) → Follows edge x (ys ++ t ∷ []) → leads edge n (length ys) x t ≡ true
unfolding leads
leads_of_walk edge n j t x [] f = f.0
leads_of_walk edge n j t x (y ∷ ys) f =
    leads_from edge n (length ys) x t y (j.to x y f.0) f.0 (leads_of_walk edge n j t y ys f.1)

-- the first of the walks from x to t with m members in between
pub record IsFirst (edge : ℕ → ℕ → Bool) (m x t : ℕ) (ys : List ℕ) : Type 0 where
  pub follows : Follows edge x (ys ++ t ∷ [])
  pub long : length ys ≡ m
  pub first : (zs : List ℕ) → Follows edge x (zs ++ t ∷ []) → length zs ≡ m → IsNotAfter ys zs

between-next : (edge : ℕ → ℕ → Bool) (n m x t y : ℕ) → Next edge n m x t y → between edge n (suc m) x t ≡ y ∷ between edge n m y t
unfolding between
between-next edge n m x t y k = rw (between, k.is) refl

more_first : (edge : ℕ → ℕ → Bool) (n : ℕ) → JoinsBelow edge n → (m x t y : ℕ) → Next edge n m x t y → (ys : List ℕ) → IsFirst edge m y t ys → (zs : List ℕ) → Follows edge x (zs ++ t ∷ []) → length zs ≡ suc m → IsNotAfter (y ∷ ys) zs
more_first edge n j m x t y k ys r [] f l = absurd (omega arith)
more_first edge n j m x t y k ys r (z ∷ zs) f l =
    let short : length zs ≡ m = omega arith in
    let on : leads edge n m z t ≡ true = subst (λ (i : ℕ). leads edge n i z t ≡ true) short (leads_of_walk edge n j t z zs f.1) in
    elim (cases_order y z) [
      | inl same ↦ inr (same, r.first zs (subst (λ (v : ℕ). Follows edge v (zs ++ t ∷ [])) (sym same) f.1) short)
      | inr r2 ↦
          elim r2 [
            | inl lt ↦ inl lt
            | inr gt ↦ absurd (both_ways _ (k.least.earlier z gt) (and_from _ _ f.0 on))
          ]
    ]

pub IsFirst-between : (edge : ℕ → ℕ → Bool) (n : ℕ) → JoinsBelow edge n → (m x t : ℕ) → leads edge n m x t ≡ true → IsFirst edge m x t (between edge n m x t)
unfolding between leads
IsFirst-between edge n j zero x t e =
    record { follows = (e, tt); long = refl; first = (λ zs f l. tt) }
IsFirst-between edge n j (suc m) x t e =
    let s : (y : ℕ) × Next edge n m x t y = leads_next edge n m x t e in
    let rest : IsFirst edge m s.0 t (between edge n m s.0 t) = IsFirst-between edge n j m s.0 t s.1.on in
    subst (λ (ys : List ℕ). IsFirst edge (suc m) x t ys) (sym (between-next edge n m x t s.0 s.1))
    (record {
      follows = (s.1.joined, rest.follows);
      long = (let l : length (between edge n m s.0 t) ≡ m = rest.long in omega arith);
      first = more_first edge n j m x t s.0 s.1 (between edge n m s.0 t) rest;
    })
