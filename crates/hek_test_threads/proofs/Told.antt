-- What replies say of a worker's tokens, as those of one word change.
use Rattle.std.proofs.Common.{◌≡◌, ◌≢◌, ℕ, ◌<◌, ◌+◌, ◌-◌, Bool, true, false, List, Some, slice_get, slice_set, refl, sym, ap, ◌∙◌, subst, arith, length-set, get_or-set_same, get_or-set_other}
use Rattle.std.specs.Prelude.{nat_lt}
use Rattle.hek_live.specs.Rule.{bit}
use Rattle.std.proofs.lemmas.Option.{slice_get-get_or, slice_get_within, get_or_from_slice_get}
use mathlib.Core.Logic.{dite}
use native.Mathlib.Decide.{ℕ_discrete}

-- the list says which tokens there are
abbrev Tells : List Bool → (ℕ → Bool) → Type 0
Tells told p = (i : ℕ) → i < 16 → slice_get told i ≡ Some (p i)

-- the token of the word k was changed to b
pub told_set : (told : List Bool) (p q : ℕ → Bool) (k : ℕ) (b : Bool) → Tells told p → k < 16 → q k ≡ b → ((i : ℕ) → i ≢ k → q i ≡ p i) → Tells (slice_set told k b) q
told_set told p q k b old exists here others i lt = dite (ℕ_discrete i k)
    (λ e. let within = slice_get_within told k (p k) (old k exists) in
    subst (λ (j : ℕ). slice_get (slice_set told k b) j ≡ Some (q j)) (sym e)
    (slice_get-get_or (slice_set told k b) k b (omega (arith, within, length-set told k b)) ∙ ap Some (get_or-set_same told k b b within ∙ sym here)))
    (λ ne. let within = slice_get_within told i (p i) (old i lt) in
    slice_get-get_or (slice_set told k b) i b (omega (arith, within, length-set told k b))
    ∙ ap Some (get_or-set_other told k i b b ne ∙ get_or_from_slice_get told i (p i) b (old i lt) ∙ sym (others i ne)))

-- no token was
pub told_kept : (told : List Bool) (p q : ℕ → Bool) (k : ℕ) → Tells told p → q k ≡ p k → ((i : ℕ) → i ≢ k → q i ≡ p i) → Tells told q
told_kept told p q k old here others i lt = dite (ℕ_discrete i k)
    (λ e. old i lt ∙ ap Some (subst (λ (j : ℕ). p j ≡ q j) (sym e) (sym here)))
    (λ ne. old i lt ∙ ap Some (sym (others i ne)))

-- the read locks of one seat, as whether it holds one: one more
pub comes : (b : Bool) → nat_lt 0 (bit b + 1) ≡ true
comes true = refl
comes false = refl

-- one less
pub goes : (b : Bool) → nat_lt 0 (bit b - 1) ≡ false
goes true = refl
goes false = refl

-- as many
pub stays : (b : Bool) → nat_lt 0 (bit b) ≡ b
stays true = refl
stays false = refl
