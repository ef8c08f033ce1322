-- What is among a list.
use Rattle.std.proofs.Common.{◌≡◌, ℕ, zero, suc, Bool, true, List, [], ◌∷◌, ◌++◌, Option, Some, None, refl, sym, ap, subst, inl, inr, ◌⊎◌, length, arith}
use Rattle.std.specs.Prelude.{slice_get, is_some, ◌==◌}
use Rattle.std.specs.declared.hash.FoldHasher.{FoldHasher}
use Rattle.std.specs.declared.hash.BuildHasherDefault.{BuildHasherDefault}
use Rattle.std.specs.HashMap.{HashMap, get}
use Rattle.std.specs.List.{filter}
use Rattle.std.specs.Map.{keys_of, lookup}
use Rattle.std.proofs.lemmas.Bool.{cases_Bool, eqb-true}
use Rattle.hek_levels.specs.Rows.{IsAmong}
use Rattle.hek_levels.specs.Sweeps.{IsMarked}

abbrev pub IsIn : {X : Type 0} → List X → X → Type 0
IsIn xs x = (n : ℕ) × (slice_get xs n ≡ Some x)

some-same : {X : Type 0} (x y : X) → ◌≡◌ {A = Option X} (Some x) (Some y) → x ≡ y
some-same x y e = cc

pub in-cases : {X : Type 0} (x y : X) (xs : List X) → IsIn (x ∷ xs) y → (x ≡ y) ⊎ IsIn xs y
in-cases x y xs m = go m.0 m.1
  where
    go : (n : ℕ) → slice_get (x ∷ xs) n ≡ Some y → (x ≡ y) ⊎ IsIn xs y
    go zero e = inl (some-same x y e)
    go (suc n) e = inr (n, e)

in-nothing : {X : Type 0} (x : X) → IsIn [] x → ⊥
in-nothing {X} x m = let e : ◌≡◌ {A = Option X} None (Some x) = m.1 in cc

pub in-none : {X : Type 0} (xs : List X) (x : X) → xs ≡ [] → IsIn xs x → ⊥
in-none {X} xs x e m = in-nothing x (subst (λ (ys : List X). IsIn ys x) e m)

-- nothing is among no elements
pub in-short : {X : Type 0} (xs : List X) (x : X) → length xs ≡ 0 → IsIn xs x → ⊥
in-short [] x none m = in-nothing x m
in-short (y ∷ xs) x none m = omega (arith, none)

pub in-old : (xs : List ℕ) (y x : ℕ) → IsIn xs x → IsIn (xs ++ y ∷ []) x
in-old [] y x m = absurd (in-nothing x m)
in-old (z ∷ xs) y x m =
    elim (in-cases z x xs m) [
      | inl same ↦ (zero, subst (λ (w : ℕ). ◌≡◌ {A = Option ℕ} (Some z) (Some w)) same refl)
      | inr later ↦ let r = in-old xs y x later in (suc r.0, r.1)
    ]

pub in-new : (xs : List ℕ) (y : ℕ) → IsIn (xs ++ y ∷ []) y
in-new [] y = (zero, refl)
in-new (z ∷ xs) y = let r = in-new xs y in (suc r.0, r.1)

pub in-filter : {X : Type 0} (test : X → Bool) (xs : List X) (x : X) → test x ≡ true → IsIn xs x → IsIn (filter test xs) x
in-filter test [] x so m = absurd (in-nothing x m)
in-filter {X} test (y ∷ xs) x so m =
    elim (in-cases y x xs m) [
      | inl same ↦
          let first : test y ≡ true = subst (λ (w : X). test w ≡ true) (sym same) so in
          rw first (zero, subst (λ (w : X). ◌≡◌ {A = Option X} (Some y) (Some w)) same refl)
      | inr later ↦
          let r = in-filter test xs x so later in
          elim (cases_Bool (test y)) [ inl a ↦ rw a (suc r.0, r.1) | inr a ↦ rw a r ]
    ]

-- what a look-up finds is an entry
pub in-lookup : {K X : Type 0} (test : K → Bool) (es : List (K × X)) → is_some (lookup test es) ≡ true → (e : K × X) × IsIn es e × (test e.0 ≡ true)
in-lookup test [] f = cc
in-lookup test (e ∷ es) f =
    elim (cases_Bool (test e.0)) [
      | inl so ↦ (e, (zero, refl), so)
      | inr other ↦ let r = in-lookup test es (rw other at f) in (r.0, (suc r.1.0, r.1.1), r.2)
    ]

pub in-keys : {K X : Type 0} (es : List (K × X)) (e : K × X) → IsIn es e → IsIn (keys_of es) e.0
in-keys [] e m = absurd (in-nothing e m)
in-keys {K} {X} (f ∷ es) e m =
    elim (in-cases f e es m) [
      | inl same ↦ (zero, subst (λ (w : K × X). ◌≡◌ {A = Option K} (Some f.0) (Some w.0)) same refl)
      | inr later ↦ let r = in-keys es e later in (suc r.0, r.1)
    ]

-- ---- a loop over entries whose keys are noted

abbrev pub IsNoted : (ℕ → Bool) → List (ℕ × ℕ) → List ℕ → List (ℕ × ℕ) → Type 0
IsNoted test all keys left = (e : ℕ × ℕ) → test e.0 ≡ true → IsIn all e → IsAmong keys e.0 ⊎ IsIn left e

pub noted-start : (test : ℕ → Bool) (all left : List (ℕ × ℕ)) (keys : List ℕ) → left ≡ all → IsNoted test all keys left
noted-start test all left keys same e so m = inr (subst (λ (es : List (ℕ × ℕ)). IsIn es e) (sym same) m)

pub noted-more : (test : ℕ → Bool) (all left rest : List (ℕ × ℕ)) (x : ℕ × ℕ) (old new : List ℕ) → left ≡ x ∷ rest → ((k : ℕ) → IsAmong old k → IsAmong new k) → (test x.0 ≡ true → IsAmong new x.0) →
    IsNoted test all old left → IsNoted test all new rest
noted-more test all left rest x old new is kept there known e so m =
    elim (known e so m) [
      | inl had ↦ inl (kept e.0 had)
      | inr later ↦
          elim (in-cases x e rest (subst (λ (es : List (ℕ × ℕ)). IsIn es e) is later)) [
            | inl same ↦ inl (subst (λ (f : ℕ × ℕ). IsAmong new f.0) same (there (subst (λ (f : ℕ × ℕ). test f.0 ≡ true) (sym same) so)))
            | inr more ↦ inr more
          ]
    ]

pub noted-end : (test : ℕ → Bool) (all left : List (ℕ × ℕ)) (keys : List ℕ) → left ≡ [] → IsNoted test all keys left → (e : ℕ × ℕ) → test e.0 ≡ true → IsIn all e → IsAmong keys e.0
noted-end test all left keys none known e so m = elim (known e so m) [ inl had ↦ had | inr later ↦ absurd (in-none left e none later) ]

-- one less is left
pub left-more : (P : ℕ → Type 0) (all left rest : List ℕ) (x : ℕ) → left ≡ x ∷ rest → P x → ((y : ℕ) → IsIn all y → P y ⊎ IsIn left y) → (y : ℕ) → IsIn all y → P y ⊎ IsIn rest y
left-more P all left rest x is here known y m =
    elim (known y m) [
      | inl had ↦ inl had
      | inr later ↦
          elim (in-cases x y rest (subst (λ (ys : List ℕ). IsIn ys y) is later)) [
            | inl same ↦ inl (subst P same here)
            | inr more ↦ inr more
          ]
    ]

-- what is marked is a key
pub marked-in : (map : HashMap ℕ ℕ (BuildHasherDefault FoldHasher)) (x : ℕ) → IsMarked (get ◌==◌ map) x → IsIn (keys_of map.entries) x
marked-in map x m =
    let some : is_some (lookup (λ (k : ℕ). x == k) map.entries) ≡ true = ap is_some m.1 in
    let f = in-lookup (λ (k : ℕ). x == k) map.entries some in
    subst (IsIn (keys_of map.entries)) (sym (eqb-true x f.0.0 f.2)) (in-keys map.entries f.0 f.1)
