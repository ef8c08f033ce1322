-- As many transactions are in pairs with one transaction as there are such pairs.
use Rattle.std.proofs.Common.{◌≡◌, ℕ, zero, suc, ◌+◌, ◌<◌, ◌≤◌, Bool, true, false, List, [], ◌∷◌, ◌++◌, refl, ◌∙◌, ap, sym, subst, arith, length, length-append, ⊎_elim}
use Rattle.std.proofs.lemmas.Bool.{cases_Bool, cases_eq}
use Rattle.std.proofs.lemmas.Bool.Decides.{nat_tests}
use Rattle.std.specs.Prelude.{if◌then◌else◌, ◌==◌}
use Rattle.hek_rules.specs.Listing.{has, firsts_of}
use Rattle.hek_laws.specs.Lists.{Once}
use Rattle.hek_refinement.proofs.Pairs.{head-once, bit}
use Rattle.hek_why.specs.Waited.{ids_where}

-- how many of the IDs from 1 to n pass
abbrev pub count_to : (ℕ → Bool) → ℕ → ℕ
count_to f zero = 0
count_to f (suc n) = count_to f n + bit (f (suc n))

length-ids : (f : ℕ → Bool) (n : ℕ) → length (ids_where f n) ≡ count_to f n
length-ids f zero = refl
length-ids f (suc n) = by (f (suc n)) ∙ ap (λ k. k + bit (f (suc n))) (length-ids f n)
  where
    by : (b : Bool) → length (if b then ids_where f n ++ suc n ∷ [] else ids_where f n) ≡ length (ids_where f n) + bit b
    by true = length-append (ids_where f n) (suc n ∷ [])
    by false = omega arith

count-other : (f g : ℕ → Bool) (a n : ℕ) → n < a → ((t : ℕ) → (t ≡ a → ⊥) → g t ≡ f t) → count_to g n ≡ count_to f n
count-other f g a zero above same = refl
count-other f g a (suc n) above same =
    let rest = count-other f g a n (omega (arith, above)) same in
    let e : g (suc n) ≡ f (suc n) = same (suc n) (λ h. omega (arith, above, h)) in
    ap (λ k. k + bit (g (suc n))) rest ∙ ap (λ b. count_to f n + bit b) e

-- a test that also passes the last ID counts one more
count-last : (f g : ℕ → Bool) (a n : ℕ) → a ≡ suc n → f a ≡ false → g a ≡ true → ((t : ℕ) → (t ≡ a → ⊥) → g t ≡ f t) → count_to g (suc n) ≡ count_to f (suc n) + 1
count-last f g a n e out here same =
    let rest = count-other f g a n (omega (arith, e)) same in
    let gs : g (suc n) ≡ true = subst (λ (k : ℕ). g k ≡ true) e here in
    let fs : f (suc n) ≡ false = subst (λ (k : ℕ). f k ≡ false) e out in
    let gb : bit (g (suc n)) ≡ 1 = ap bit gs in
    let fb : bit (f (suc n)) ≡ 0 = ap bit fs in
    omega (arith, rest, gb, fb)

-- a test that also passes an earlier ID counts one more
count-earlier : (f g : ℕ → Bool) (a n : ℕ) → (suc n ≡ a → ⊥) → ((t : ℕ) → (t ≡ a → ⊥) → g t ≡ f t) → count_to g n ≡ count_to f n + 1 → count_to g (suc n) ≡ count_to f (suc n) + 1
count-earlier f g a n ne same rest =
    let e : bit (g (suc n)) ≡ bit (f (suc n)) = ap bit (same (suc n) ne) in
    omega (arith, rest, e)

count-one : (f g : ℕ → Bool) (a n : ℕ) → 0 < a → a ≤ n → f a ≡ false → g a ≡ true → ((t : ℕ) → (t ≡ a → ⊥) → g t ≡ f t) → count_to g n ≡ count_to f n + 1
count-one f g a zero some below out here same = absurd (omega (arith, some, below))
count-one f g a (suc n) some below out here same =
    ⊎_elim (λ e. count-last f g a n e out here same)
    (λ ne. count-earlier f g a n (λ e. ne (sym e)) same (count-one f g a n some (omega (arith, below, ne)) out here same))
    (cases_eq a (suc n))

-- tests that agree count the same
count-same : (f g : ℕ → Bool) (n : ℕ) → ((t : ℕ) → g t ≡ f t) → count_to g n ≡ count_to f n
count-same f g zero same = refl
count-same f g (suc n) same = ap (λ j. j + bit (g (suc n))) (count-same f g n same) ∙ ap (λ b. count_to f n + bit b) (same (suc n))

count-none : (n : ℕ) → count_to (λ t. false) n ≡ 0
count-none zero = refl
count-none (suc n) = let rest = count-none n in omega (arith, rest)

-- a pair at the front: of u, or of another transaction
front-one : (p : ℕ × ℕ) (ps : List (ℕ × ℕ)) (u n : ℕ) → (p.1 == u) ≡ true → Once (p ∷ ps) → ((t : ℕ) → has (p ∷ ps) t u ≡ true → (0 < t) × (t ≤ n)) →
    count_to (λ t. has ps t u) n ≡ length (firsts_of ps u) → count_to (λ t. has (p ∷ ps) t u) n ≡ length (firsts_of (p ∷ ps) u)
front-one p ps u n h once among rest =
    let here : has (p ∷ ps) p.0 u ≡ true = grind (arith, nat_tests, h) in
    let e : p.1 ≡ u = grind (arith, nat_tests, h) in
    let alone : has ps p.0 u ≡ false = subst (λ (k : ℕ). has ps p.0 k ≡ false) e (head-once p ps once) in
    let inside : (0 < p.0) × (p.0 ≤ n) = among p.0 here in
    let one : count_to (λ t. has (p ∷ ps) t u) n ≡ count_to (λ t. has ps t u) n + 1 =
    count-one (λ t. has ps t u) (λ t. has (p ∷ ps) t u) p.0 n inside.0 inside.1 alone here (λ t ne. other t ne) in
    let long : length (firsts_of (p ∷ ps) u) ≡ length (firsts_of ps u) + 1 = grind (arith, nat_tests, h) in
    omega (arith, one, rest, long)
  where
    other : (t : ℕ) → (t ≡ p.0 → ⊥) → has (p ∷ ps) t u ≡ has ps t u
    other t ne = let f : (p.0 == t) ≡ false = grind (arith, nat_tests, ne) in grind (arith, nat_tests, f)

front-none : (p : ℕ × ℕ) (ps : List (ℕ × ℕ)) (u n : ℕ) → (p.1 == u) ≡ false →
    count_to (λ t. has ps t u) n ≡ length (firsts_of ps u) → count_to (λ t. has (p ∷ ps) t u) n ≡ length (firsts_of (p ∷ ps) u)
front-none p ps u n h rest =
    count-same (λ t. has ps t u) (λ t. has (p ∷ ps) t u) n (λ t. agrees t) ∙ rest ∙ ap length (sym firsts)
  where
    agrees : (t : ℕ) → has (p ∷ ps) t u ≡ has ps t u
    agrees t = grind (arith, nat_tests, h)

    firsts : firsts_of (p ∷ ps) u ≡ firsts_of ps u
    firsts = grind (arith, nat_tests, h)

later : (p : ℕ × ℕ) (ps : List (ℕ × ℕ)) (t u : ℕ) → has ps t u ≡ true → has (p ∷ ps) t u ≡ true
later p ps t u h = grind (arith, nat_tests, h)

pairs-count : (ps : List (ℕ × ℕ)) (u n : ℕ) → Once ps → ((t : ℕ) → has ps t u ≡ true → (0 < t) × (t ≤ n)) → count_to (λ t. has ps t u) n ≡ length (firsts_of ps u)
pairs-count [] u n once among = count-none n
pairs-count (p ∷ ps) u n once among =
    let rest = pairs-count ps u n once.1 (λ t h. among t (later p ps t u h)) in
    ⊎_elim (λ h. front-one p ps u n h once among rest) (λ h. front-none p ps u n h rest) (cases_Bool (p.1 == u))

pub members-count : (ps : List (ℕ × ℕ)) (u n : ℕ) → Once ps → ((t : ℕ) → has ps t u ≡ true → (0 < t) × (t ≤ n)) → length (ids_where (λ t. has ps t u) n) ≡ length (firsts_of ps u)
members-count ps u n once among = length-ids (λ t. has ps t u) n ∙ pairs-count ps u n once among
