-- The least number below a bound that passes a test.
use Rattle.std.proofs.Common.{ℕ, zero, suc, ◌≡◌, ◌+◌, ◌<◌, Bool, true, false, cond, Option, Some, None, refl, sym, ap, ◌∙◌, inl, inr, ◌⊎◌, arith, add-one}
use Rattle.std.proofs.lemmas.Bool.{cases_lt, cases_order, both_ways}
use Rattle.std.specs.Option.{option_or}
use Rattle.hek_rules.specs.Victim.{least, is_found}

pub record IsLeast (test : ℕ → Bool) (n y : ℕ) : Type 0 where
  pub below : y < n
  pub passes : test y ≡ true
  pub earlier : (z : ℕ) → z < y → test z ≡ false

step_some : (o : Option ℕ) (b : Bool) (n y : ℕ) → option_or o (cond b (Some n) None) ≡ Some y → (o ≡ Some y) ⊎ ((o ≡ None) × (b ≡ true) × (n ≡ y))
step_some (Some x) b n y e = inl e
step_some None true n y e = inr (refl, refl, cc)
step_some None false n y e = cc

step_none : (o : Option ℕ) (b : Bool) (n : ℕ) → option_or o (cond b (Some n) None) ≡ None → (o ≡ None) × (b ≡ false)
step_none (Some x) b n e = cc
step_none None true n e = cc
step_none None false n e = (refl, refl)

pub least_none : (test : ℕ → Bool) (n : ℕ) → least test n ≡ None → (z : ℕ) → z < n → test z ≡ false
unfolding least
least_none test zero e z h = absurd (omega arith)
least_none test (suc n) e z h =
    let s : (least test n ≡ None) × (test n ≡ false) = step_none (least test n) (test n) n e in
    elim (cases_lt z n) [
      | inl lt ↦ least_none test n s.0 z lt
      | inr ge ↦ let same : z ≡ n = omega arith in rw same s.1
    ]

pub IsLeast-least : (test : ℕ → Bool) (n y : ℕ) → least test n ≡ Some y → IsLeast test n y
unfolding least
IsLeast-least test zero y e = cc
IsLeast-least test (suc n) y e =
    elim (step_some (least test n) (test n) n y e) [
      | inl found ↦
          let k : IsLeast test n y = IsLeast-least test n y found in
          record { below = omega arith; passes = k.passes; earlier = k.earlier }
      | inr w ↦
          record {
            below = omega arith;
            passes = (let same : y ≡ n = sym w.2 in rw same w.1);
            earlier = (λ z h. let lt : z < n = omega arith in least_none test n w.0 z lt);
          }
    ]

pub same_least : (test : ℕ → Bool) (n x y : ℕ) → IsLeast test n x → IsLeast test n y → x ≡ y
same_least test n x y k l =
    elim (cases_order x y) [
      | inl e ↦ e
      | inr r ↦
          elim r [
            | inl lt ↦ absurd (both_ways _ (l.earlier x lt) k.passes)
            | inr gt ↦ absurd (both_ways _ (k.earlier y gt) l.passes)
          ]
    ]

pub least_from : (test : ℕ → Bool) (n y : ℕ) → IsLeast test n y → least test n ≡ Some y
least_from test n y k =
    let at : (o : Option ℕ) → least test n ≡ o → least test n ≡ Some y =
    elim [
      | None ↦ λ e. absurd (both_ways _ (least_none test n e y k.below) k.passes)
      | Some x ↦ λ e. let same : x ≡ y = same_least test n x y (IsLeast-least test n x e) k in e ∙ ap (λ v. Some v) same
    ] in
    at (least test n) refl

-- tests that agree below n have the same least number
pub least_agree : (f g : ℕ → Bool) (n : ℕ) → ((z : ℕ) → z < n → f z ≡ g z) → least f n ≡ least g n
unfolding least
least_agree f g zero h = refl
least_agree f g (suc n) h =
    let below : (z : ℕ) → z < n → f z ≡ g z = λ z lt. h z (omega arith) in
    let last : f n ≡ g n = h n (omega arith) in
    rw (least_agree f g n below, last) refl

found_some : (o : Option ℕ) → is_found o ≡ true → (y : ℕ) × (o ≡ Some y)
found_some (Some y) e = (y, refl)
found_some None e = cc

pub least_found : (test : ℕ → Bool) (n : ℕ) → is_found (least test n) ≡ true → (y : ℕ) × IsLeast test n y
least_found test n e =
    let s : (y : ℕ) × (least test n ≡ Some y) = found_some (least test n) e in
    (s.0, IsLeast-least test n s.0 s.1)

-- a least number is found if some number below n passes
pub found_from : (test : ℕ → Bool) (n y : ℕ) → y < n → test y ≡ true → is_found (least test n) ≡ true
found_from test n y lt e =
    let at : (o : Option ℕ) → least test n ≡ o → is_found o ≡ true =
    elim [
      | None ↦ λ none. absurd (both_ways _ (least_none test n none y lt) e)
      | Some x ↦ λ some. refl
    ] in
    at (least test n) refl

-- the least number below n that passes, if some number passes
pub least_of : (test : ℕ → Bool) (n y : ℕ) → y < n → test y ≡ true → (x : ℕ) × (least test n ≡ Some x) × IsLeast test n x
least_of test n y lt e =
    let s : (x : ℕ) × IsLeast test n x = least_found test n (found_from test n y lt e) in
    (s.0, least_from test n s.0 s.1, s.1)

pub least_skip : (test : ℕ → Bool) (n : ℕ) → least test n ≡ None → test n ≡ false → least test (n + 1) ≡ None
unfolding least
least_skip test n none e = rw (add-one n) (go (least test n) (test n) none e)
  where
    go : (o : Option ℕ) (b : Bool) → o ≡ None → b ≡ false → option_or o (cond b (Some n) None) ≡ None
    go (Some x) b o e = o
    go None true o e = cc
    go None false o e = refl

pub least_hit : (test : ℕ → Bool) (n y : ℕ) → y < n → least test y ≡ None → test y ≡ true → least test n ≡ Some y
least_hit test n y lt none e = least_from test n y (record { below = lt; passes = e; earlier = least_none test y none })

pub least_zero : (test : ℕ → Bool) → least test 0 ≡ None
unfolding least
least_zero test = refl
