-- How the counts of waits change if one version changes.
use Rattle.std.proofs.Common.{◌≡◌, ℕ, zero, suc, ◌+◌, ◌<◌, Bool, List, [], ◌∷◌, refl, ◌∙◌, ap, arith, ⊎_elim, length}
use Rattle.std.proofs.lemmas.Bool.{cond-true, cond-false, cases_Bool}
use Rattle.std.specs.Prelude.{◌&&◌, nat_lt, slice_set, unwrap_or}
use Rattle.hek_rules.specs.World.{Version, version_in, places, is_held_by, no_version}
use Rattle.hek_rules.specs.Waits.{readers, is_waited_for}
use Rattle.hek_laws.proofs.Table.SetTxns.{slice_get-set_same}
use Rattle.hek_laws.proofs.Sound.WaitCounts.{version_in-set}
use Rattle.hek_laws.proofs.Sound.Grounded.{there}
use Rattle.hek_refinement.proofs.Pairs.{bit}

pub step : (test : ℕ → Version → Bool) (i : ℕ) (x : Version) (xs : List Version) → length (places test i (x ∷ xs)) ≡ bit (test i x) + length (places test (i + 1) xs)
step test i x xs =
    ⊎_elim
    (λ h. let e = ap length (cond-true (test i x) (i ∷ places test (i + 1) xs) (places test (i + 1) xs) h) in let b = ap bit h in omega (arith, e, b))
    (λ h. let e = ap length (cond-false (test i x) (i ∷ places test (i + 1) xs) (places test (i + 1) xs) h) in let b = ap bit h in omega (arith, e, b))
    (cases_Bool (test i x))

-- two lists have equal counts if each version passes as before
pub places-same : (old new : ℕ → Version → Bool) (i : ℕ) (xs ys : List Version) → length ys ≡ length xs →
    ((j k : ℕ) → k ≡ i + j → new k (version_in ys j) ≡ old k (version_in xs j)) → length (places new i ys) ≡ length (places old i xs)
places-same old new i [] [] e h = refl
places-same old new i [] (y ∷ ys) e h = absurd (omega (arith, e))
places-same old new i (x ∷ xs) [] e h = absurd (omega (arith, e))
places-same old new i (x ∷ xs) (y ∷ ys) e h =
    let rest = places-same old new (i + 1) xs ys (omega (arith, e)) (λ j k is. h (suc j) k (omega (arith, is))) in
    let a = step new i y ys in let b = step old i x xs in let c = ap bit (h 0 i (omega arith)) in omega (arith, rest, a, b, c)

-- counts differ by one version's test if all others pass as before
pub places-but_one : (old new : ℕ → Version → Bool) (i : ℕ) (xs ys : List Version) (v p : ℕ) → length ys ≡ length xs → v < length xs → p ≡ i + v →
    ((j k : ℕ) → k ≡ i + j → (j ≡ v → ⊥) → new k (version_in ys j) ≡ old k (version_in xs j)) →
    length (places new i ys) + bit (old p (version_in xs v)) ≡ length (places old i xs) + bit (new p (version_in ys v))
places-but_one old new i [] ys v p e l is h = absurd (omega (arith, l))
places-but_one old new i (x ∷ xs) [] v p e l is h = absurd (omega (arith, e))
places-but_one old new i (x ∷ xs) (y ∷ ys) zero p e l is h =
    let rest = places-same old new (i + 1) xs ys (omega (arith, e)) (λ j k at. h (suc j) k (omega (arith, at)) (λ q. absurd (omega (arith, q)))) in
    let a = step new i y ys in let b = step old i x xs in
    let here : p ≡ i = omega (arith, is) in
    let c = ap (λ n. bit (new n y)) here in let d = ap (λ n. bit (old n x)) here in omega (arith, rest, a, b, c, d)
places-but_one old new i (x ∷ xs) (y ∷ ys) (suc v) p e l is h =
    let rest = places-but_one old new (i + 1) xs ys v p (omega (arith, e)) (omega (arith, l)) (omega (arith, is))
    (λ j k at ne. h (suc j) k (omega (arith, at)) (λ q. ne (omega (arith, q)))) in
    let a = step new i y ys in let b = step old i x xs in let c = ap bit (h 0 i (omega arith) (λ q. absurd (omega (arith, q)))) in omega (arith, rest, a, b, c)

-- the version at a place that was set, and at other places
pub version-set_same : (vs : List Version) (v : ℕ) (x : Version) → v < length vs → version_in (slice_set vs v x) v ≡ x
version-set_same vs v x l = ap (λ o. unwrap_or o no_version) (slice_get-set_same vs v x (there vs v l))

pub version-set_other : (vs : List Version) (v j : ℕ) (x : Version) → (j ≡ v → ⊥) → version_in (slice_set vs v x) j ≡ version_in vs j
version-set_other vs v j x ne = ⊎_elim (λ p. absurd (ne p.0)) (λ e. e) (version_in-set vs v j x)

-- how many versions u writes that others read-lock
abbrev pub version_waits : List (ℕ × ℕ) → List Version → ℕ → ℕ
version_waits R vs u = length (places (is_waited_for R u) 0 vs)

-- versions and read locks that are as before, except at the version v
pub record SameBut (R S : List (ℕ × ℕ)) (vs ys : List Version) (v : ℕ) : Type 0 where
  pub there : v < length vs
  pub long : length ys ≡ length vs
  pub versions : (j : ℕ) → (j ≡ v → ⊥) → version_in ys j ≡ version_in vs j
  pub counts : (j : ℕ) → (j ≡ v → ⊥) → readers S j ≡ readers R j

pub waits-at : (R S : List (ℕ × ℕ)) (vs ys : List Version) (v u : ℕ) → SameBut R S vs ys v →
    version_waits S ys u + bit (is_waited_for R u v (version_in vs v)) ≡ version_waits R vs u + bit (is_waited_for S u v (version_in ys v))
waits-at R S vs ys v u s =
    places-but_one (is_waited_for R u) (is_waited_for S u) 0 vs ys v v s.long s.there (omega arith)
    (λ j k is ne. ap (λ (x : Version). is_held_by u x.ender && nat_lt 0 (readers S k)) (s.versions j ne)
    ∙ ap (λ n. is_held_by u (version_in vs j).ender && nat_lt 0 n) (s.counts k (λ q. ne (omega (arith, is, q)))))
