-- What a `BTreeMap` of numbers does is what `put`, `take_out` and `value_of` say.
use Rattle.std.proofs.Common.{◌≡◌, ℕ, ◌≤◌, false, List, [], ◌∷◌, refl, ◌∙◌, ap, sym, arith, Some, ⊎_elim}
use Rattle.std.proofs.lemmas.Bool.{cases_Bool, eqb-true, ne_eqb}
use Rattle.std.proofs.lemmas.Bool.Decides.{nat_tests}
use Rattle.std.specs.Prelude.{◌==◌, not, if◌then◌else◌}
use Rattle.std.specs.Ordering.{nat_cmp, is_eq}
use Rattle.std.specs.BTreeMap.{is_at}
use Rattle.std.specs.Map.{remove_entry, lookup}
use Rattle.hek_rules.specs.Listing.{take_out, value_of}
use Rattle.hek_laws.proofs.Lists.Rising.{rising-filter}
use Rattle.hek_laws.specs.Rows.{AreAbove, AreRising}

tied : (k n : ℕ) → is_eq (nat_cmp k n) ≡ (n == k)
tied k n = grind (arith, nat_tests)

pub lookup-value_of : (es : List (ℕ × ℕ)) (k : ℕ) → lookup (is_at (nat_cmp k)) es ≡ value_of es k
lookup-value_of [] k = refl
lookup-value_of (e ∷ es) k =
    ap (λ b. if b then Some e.1 else lookup (is_at (nat_cmp k)) es) (tied k e.0) ∙ ap (λ o. if e.0 == k then Some e.1 else o) (lookup-value_of es k)

take_out-above : (es : List (ℕ × ℕ)) (n k : ℕ) → AreAbove n es → k ≤ n → take_out k es ≡ es
take_out-above [] n k a h = refl
take_out-above (e ∷ es) n k a h =
    let off : (e.0 == k) ≡ false = ne_eqb e.0 k (λ q. absurd (omega (arith, a.0, h, q))) in
    ap (λ b. if not b then e ∷ take_out k es else take_out k es) off ∙ ap (λ zs. e ∷ zs) (take_out-above es n k a.1 h)

pub remove-take_out : (es : List (ℕ × ℕ)) (k : ℕ) → AreRising es → remove_entry (is_at (nat_cmp k)) es ≡ take_out k es
remove-take_out [] k r = refl
remove-take_out (e ∷ es) k r =
    ap (λ b. if b then es else e ∷ remove_entry (is_at (nat_cmp k)) es) (tied k e.0)
    ∙ ⊎_elim
    (λ y. ap (λ b. if b then es else e ∷ remove_entry (is_at (nat_cmp k)) es) y
    ∙ sym (take_out-above es e.0 k r.0 (let q = eqb-true _ _ y in omega (arith, q))) ∙ sym (ap (λ b. if not b then e ∷ take_out k es else take_out k es) y))
    (λ n. ap (λ b. if b then es else e ∷ remove_entry (is_at (nat_cmp k)) es) n
    ∙ ap (λ zs. e ∷ zs) (remove-take_out es k r.1) ∙ sym (ap (λ b. if not b then e ∷ take_out k es else take_out k es) n))
    (cases_Bool (e.0 == k))

pub rising-take_out : (es : List (ℕ × ℕ)) (k : ℕ) → AreRising es → AreRising (take_out k es)
rising-take_out es k r = rising-filter (λ (p : ℕ × ℕ). not (p.0 == k)) es r
