-- Rows with rising keys: equal if they agree on each key; and a reply is right over all rows that agree on the keys
-- that it needs.
use Rattle.std.proofs.Common.{◌≡◌, ℕ, ◌<◌, ◌≤◌, ◌%◌, Bool, true, List, [], ◌∷◌, refl, ◌∙◌, ap, sym, arith, Some, None, ⊎_elim, subst}
use Rattle.std.proofs.lemmas.Bool.{cases_Bool, cases_eq, cases_order, cond-true, cond-false, cond_both, eqb-true, eqb-false, eq-eqb, ne_eqb, ltb-true, ltb-false}
use Rattle.std.specs.Prelude.{filter, nat_lt, ◌==◌, if◌then◌else◌}
use Rattle.hek_rules.specs.Listing.{put, take_out, value_of}
use Rattle.hek_rules.specs.declared.serial.Write.{Write}
use Rattle.hek_rules.specs.declared.serial.Write.TheVariants.{Put, Remove}
use Rattle.hek_rules.specs.Serial.{lay_all, rows_of}
use Rattle.hek_laws.specs.Rows.{AreAbove, AreRising}

above-lower : (k n : ℕ) (ps : List (ℕ × ℕ)) → n ≤ k → AreAbove k ps → AreAbove n ps
above-lower k n [] h a = tt
above-lower k n (p ∷ ps) h a = (omega (arith, a.0), above-lower k n ps h a.1)

pub value_of-above : (k q : ℕ) (ps : List (ℕ × ℕ)) → AreAbove k ps → q ≤ k → value_of ps q ≡ None
value_of-above k q [] a h = refl
value_of-above k q (p ∷ ps) a h =
    cond-false (p.0 == q) (Some p.1) (value_of ps q) (ne_eqb p.0 q (λ e. absurd (omega (arith, a.0, e)))) ∙ value_of-above k q ps a.1 h

pub here : (p : ℕ × ℕ) (ps : List (ℕ × ℕ)) (q : ℕ) → p.0 ≡ q → value_of (p ∷ ps) q ≡ Some p.1
here p ps q e = cond-true (p.0 == q) (Some p.1) (value_of ps q) (eq-eqb p.0 q e)

pub there : (p : ℕ × ℕ) (ps : List (ℕ × ℕ)) (q : ℕ) → (p.0 ≡ q → ⊥) → value_of (p ∷ ps) q ≡ value_of ps q
there p ps q e = cond-false (p.0 == q) (Some p.1) (value_of ps q) (ne_eqb p.0 q e)

-- rows with rising keys are equal if they agree on each key
pub same_rows : (xs ys : List (ℕ × ℕ)) → AreRising xs → AreRising ys → ((q : ℕ) → value_of xs q ≡ value_of ys q) → xs ≡ ys
same_rows [] [] rx ry h = refl
same_rows [] (y ∷ ys) rx ry h = let s : None ≡ Some y.1 = h y.0 ∙ here y ys y.0 refl in cc
same_rows (x ∷ xs) [] rx ry h = let s : Some x.1 ≡ None = sym (here x xs x.0 refl) ∙ h x.0 in cc
same_rows (x ∷ xs) (y ∷ ys) rx ry h =
    ⊎_elim
    (λ e.
    let v : Some x.1 ≡ Some y.1 = sym (here x xs x.0 refl) ∙ h x.0 ∙ here y ys x.0 (sym e) in
    let u : x.1 ≡ y.1 = cc in
    let rest = same_rows xs ys rx.1 ry.1 (λ q. ⊎_elim
    (λ s. value_of-above x.0 q xs rx.0 (omega (arith, s)) ∙ sym (value_of-above y.0 q ys ry.0 (omega (arith, s, e))))
    (λ n. sym (there x xs q (λ k. n (sym k))) ∙ h q ∙ there y ys q (λ k. n (sym k ∙ sym e))) (cases_eq q x.0)) in
    λ i. (e i, u i) ∷ rest i)
    (λ o. ⊎_elim
    (λ l. let s : Some x.1 ≡ None = sym (here x xs x.0 refl) ∙ h x.0 ∙ there y ys x.0 (λ k. absurd (omega (arith, l, k))) ∙ value_of-above y.0 x.0 ys ry.0 (omega (arith, l)) in cc)
    (λ l. let s : None ≡ Some y.1 = sym (there x xs y.0 (λ k. absurd (omega (arith, l, k))) ∙ value_of-above x.0 y.0 xs rx.0 (omega (arith, l))) ∙ h y.0 ∙ here y ys y.0 refl in cc) o)
    (cases_order x.0 y.0)

above-filter : (test : ℕ × ℕ → Bool) (k : ℕ) (ps : List (ℕ × ℕ)) → AreAbove k ps → AreAbove k (filter test ps)
above-filter test k [] a = tt
above-filter test k (p ∷ ps) a =
    let rest = above-filter test k ps a.1 in cond_both (test p) (p ∷ filter test ps) (filter test ps) (AreAbove k) (λ _. (a.0, rest)) (λ _. rest)

pub rising-filter : (test : ℕ × ℕ → Bool) (ps : List (ℕ × ℕ)) → AreRising ps → AreRising (filter test ps)
rising-filter test [] r = tt
rising-filter test (p ∷ ps) r =
    let rest = rising-filter test ps r.1 in cond_both (test p) (p ∷ filter test ps) (filter test ps) AreRising (λ _. (above-filter test p.0 ps r.0, rest)) (λ _. rest)

above-put : (k : ℕ) (ps : List (ℕ × ℕ)) (key value : ℕ) → k < key → AreAbove k ps → AreAbove k (put key value ps)
above-put k [] key value h a = (h, tt)
above-put k (p ∷ ps) key value h a =
    cond_both (nat_lt key p.0) ((key, value) ∷ p ∷ ps) _ (AreAbove k) (λ _. (h, a))
    (λ _. cond_both (key == p.0) ((key, value) ∷ ps) (p ∷ put key value ps) (AreAbove k) (λ _. (h, a.1)) (λ _. (a.0, above-put k ps key value h a.1)))

pub rising-put : (ps : List (ℕ × ℕ)) (key value : ℕ) → AreRising ps → AreRising (put key value ps)
rising-put [] key value r = (tt, tt)
rising-put (p ∷ ps) key value r =
    cond_both (nat_lt key p.0) ((key, value) ∷ p ∷ ps) _ AreRising (λ l. let lt = ltb-true _ _ l in ((lt, above-lower p.0 key ps (omega (arith, lt)) r.0), r))
    (λ ge. cond_both (key == p.0) ((key, value) ∷ ps) (p ∷ put key value ps) AreRising
    (λ e. (subst (λ n. AreAbove n ps) (sym (eqb-true _ _ e)) r.0, r.1))
    (λ n. let ne = eqb-false _ _ n in let le = ltb-false _ _ ge in (above-put p.0 ps key value (⊎_elim (λ q. absurd (ne q)) (λ o. ⊎_elim (λ q. absurd (omega (arith, q, le))) (λ q. q) o) (cases_order key p.0)) r.0, rising-put ps key value r.1)))

pub rising-lay_all : (ws : List Write) (ps : List (ℕ × ℕ)) → AreRising ps → AreRising (lay_all ws ps)
rising-lay_all [] ps r = r
rising-lay_all (Put key value ∷ ws) ps r = rising-lay_all ws (put key value ps) (rising-put ps key value r)
rising-lay_all (Remove key ∷ ws) ps r = rising-lay_all ws (take_out key ps) (rising-filter _ ps r)

-- the value of a key in rows that a test of keys filters
pub value_of-filter : (test : ℕ → Bool) (ps : List (ℕ × ℕ)) (q : ℕ) → value_of (filter (λ (p : ℕ × ℕ). test p.0) ps) q ≡ (if test q then value_of ps q else None)
value_of-filter test [] q = cond_both (test q) None None (λ o. None ≡ o) (λ _. refl) (λ _. refl)
value_of-filter test (p ∷ ps) q =
    let rest = value_of-filter test ps q in
    ⊎_elim
    (λ e.
    let at : test p.0 ≡ test q = ap test e in
    ⊎_elim
    (λ y. ap (λ zs. value_of zs q) (cond-true (test p.0) (p ∷ filter (λ (p : ℕ × ℕ). test p.0) ps) (filter (λ (p : ℕ × ℕ). test p.0) ps) y)
    ∙ here p _ q e ∙ sym (cond-true (test q) (value_of (p ∷ ps) q) None (sym at ∙ y) ∙ here p ps q e))
    (λ n. ap (λ zs. value_of zs q) (cond-false (test p.0) (p ∷ filter (λ (p : ℕ × ℕ). test p.0) ps) (filter (λ (p : ℕ × ℕ). test p.0) ps) n)
    ∙ rest ∙ cond-false (test q) (value_of ps q) None (sym at ∙ n) ∙ sym (cond-false (test q) (value_of (p ∷ ps) q) None (sym at ∙ n)))
    (cases_Bool (test p.0)))
    (λ ne.
    cond_both (test p.0) (p ∷ filter (λ (p : ℕ × ℕ). test p.0) ps) (filter (λ (p : ℕ × ℕ). test p.0) ps) (λ zs. value_of zs q ≡ (if test q then value_of ps q else None))
    (λ _. there p _ q ne ∙ rest) (λ _. rest)
    ∙ ap (λ o. if test q then o else None) (sym (there p ps q ne)))
    (cases_eq p.0 q)

-- the rows of a bucket are equal if they agree on each of its keys
pub rows_of-same : (buckets bucket : ℕ) (xs ys : List (ℕ × ℕ)) → AreRising xs → AreRising ys → ((q : ℕ) → (q % buckets == bucket) ≡ true → value_of xs q ≡ value_of ys q) → rows_of buckets bucket xs ≡ rows_of buckets bucket ys
rows_of-same buckets bucket xs ys rx ry h =
    let test : ℕ → Bool = λ q. q % buckets == bucket in
    same_rows _ _ (rising-filter (λ (p : ℕ × ℕ). test p.0) xs rx) (rising-filter (λ (p : ℕ × ℕ). test p.0) ys ry)
    (λ q. value_of-filter test xs q
    ∙ ⊎_elim (λ y. cond-true (test q) (value_of xs q) None y ∙ h q y ∙ sym (cond-true (test q) (value_of ys q) None y))
    (λ n. cond-false (test q) (value_of xs q) None n ∙ sym (cond-false (test q) (value_of ys q) None n)) (cases_Bool (test q))
    ∙ sym (value_of-filter test ys q))
