-- Lists of distinct members, and pairs that join and leave them.
use Rattle.std.proofs.Common.{◌≡◌, ℕ, zero, suc, ◌+◌, ◌<◌, ◌≤◌, Bool, true, false, List, [], ◌∷◌, ◌++◌, refl, ◌∙◌, ap, sym, arith, inl, inr, ⊎_elim, subst, length}
use Rattle.std.proofs.lemmas.Bool.{cases_Bool, cond-true, cond-false, cond_both, and_parts, and_from, or_cases, or_left, or_right, eqb-true, eq-eqb, ne_eqb, false≢true}
use Rattle.std.specs.Prelude.{◌==◌, ◌⊎◌, not, filter}
use Rattle.hek_rules.specs.declared.event.WriteEntry.{WriteEntry}
use Rattle.hek_rules.specs.Listing.{has, join, is_pair, firsts_of, seconds_of}
use Rattle.hek_rules.specs.Locks.{wait_for_holders}
use Rattle.hek_rules.specs.Table.{without_entry, entries_of}
use Rattle.hek_laws.specs.Lists.{In, Once}
use Rattle.hek_laws.proofs.Walks.Judged.{In-split, has-append}

-- ---- pairs by the test and by membership
pub has-In : (ps : List (ℕ × ℕ)) (a b : ℕ) → has ps a b ≡ true → In (a, b) ps
has-In [] a b h = cc
has-In (p ∷ ps) a b h =
    ⊎_elim (λ here. let parts = and_parts (p.0 == a) (p.1 == b) here in inl (λ i. (sym (eqb-true _ _ parts.0) i, sym (eqb-true _ _ parts.1) i)))
    (λ later. inr (has-In ps a b later)) (or_cases _ _ h)

pub In-has : (ps : List (ℕ × ℕ)) (a b : ℕ) → In (a, b) ps → has ps a b ≡ true
In-has [] a b i = absurd i
In-has (p ∷ ps) a b i =
    ⊎_elim (λ here. or_left (is_pair a b p) _ (and_from _ _ (eq-eqb _ _ (ap (λ (q : ℕ × ℕ). q.0) (sym here))) (eq-eqb _ _ (ap (λ (q : ℕ × ℕ). q.1) (sym here)))))
    (λ later. or_right (is_pair a b p) _ (In-has ps a b later)) i

-- a pair in a list that another pair joined was in the list, or is that other one
pub has-join_from : (ps : List (ℕ × ℕ)) (a b c d : ℕ) → has (join ps a b) c d ≡ true → (has ps c d ≡ true) ⊎ ((c ≡ a) × (d ≡ b))
has-join_from ps a b c d h =
    ⊎_elim (λ y. inl (ap (λ qs. has qs c d) (sym (cond-true (has ps a b) ps (ps ++ (a, b) ∷ []) y)) ∙ h))
    (λ n. ⊎_elim (λ q. inl q) (λ q. ⊎_elim (λ z. let p = and_parts (a == c) (b == d) z in inr (sym (eqb-true a c p.0), sym (eqb-true b d p.1))) (λ z. absurd (false≢true z)) (or_cases _ _ q))
    (or_cases _ _ (sym (ap (λ qs. has qs c d) (cond-false (has ps a b) ps (ps ++ (a, b) ∷ []) n) ∙ has-append ps ((a, b) ∷ []) c d) ∙ h))) (cases_Bool (has ps a b))

pub has-filter : (test : ℕ × ℕ → Bool) (ps : List (ℕ × ℕ)) (a b : ℕ) → has (filter test ps) a b ≡ true → has ps a b ≡ true
has-filter test [] a b h = h
has-filter test (p ∷ ps) a b h =
    ⊎_elim
    (λ y. ⊎_elim (λ here. or_left _ _ here) (λ later. or_right (is_pair a b p) _ (has-filter test ps a b later)) (or_cases _ _ (ap (λ qs. has qs a b) (sym (cond-true (test p) (p ∷ filter test ps) (filter test ps) y)) ∙ h)))
    (λ n. or_right (is_pair a b p) _ (has-filter test ps a b (ap (λ qs. has qs a b) (sym (cond-false (test p) (p ∷ filter test ps) (filter test ps) n)) ∙ h)))
    (cases_Bool (test p))

-- ---- lists of distinct members
pub once-append : {X : Type 0} (xs : List X) (x : X) → Once xs → (In x xs → ⊥) → Once (xs ++ x ∷ [])
once-append [] x o n = ((λ i. i), tt)
once-append (y ∷ ys) x o n =
    ((λ i. ⊎_elim (λ j. o.0 j) (λ j. ⊎_elim (λ e. n (inl (sym e))) (λ z. z) j) (In-split y ys (x ∷ []) i)), once-append ys x o.1 (λ i. n (inr i)))

In-filtered : {X : Type 0} (test : X → Bool) (xs : List X) (x : X) → In x (filter test xs) → In x xs
In-filtered test [] x i = i
In-filtered test (y ∷ ys) x i =
    ⊎_elim (λ q. ⊎_elim (λ e. inl e) (λ r. inr (In-filtered test ys x r)) (subst (In x) (cond-true (test y) (y ∷ filter test ys) (filter test ys) q) i))
    (λ q. inr (In-filtered test ys x (subst (In x) (cond-false (test y) (y ∷ filter test ys) (filter test ys) q) i))) (cases_Bool (test y))

pub once-filter : {X : Type 0} (test : X → Bool) (xs : List X) → Once xs → Once (filter test xs)
once-filter test [] o = tt
once-filter test (x ∷ xs) o =
    let rest = once-filter test xs o.1 in
    cond_both (test x) (x ∷ filter test xs) (filter test xs) Once (λ _. ((λ i. o.0 (In-filtered test xs x i)), rest)) (λ _. rest)

pub once-join : (ps : List (ℕ × ℕ)) (a b : ℕ) → Once ps → Once (join ps a b)
once-join ps a b o =
    cond_both (has ps a b) ps (ps ++ (a, b) ∷ []) Once (λ _. o) (λ n. once-append ps (a, b) o (λ i. false≢true (sym n ∙ In-has ps a b i)))

pub once-wait : (hs : List ℕ) (t : ℕ) (ps : List (ℕ × ℕ)) → Once ps → Once (wait_for_holders hs t ps)
once-wait [] t ps o = o
once-wait (h ∷ hs) t ps o =
    cond_both (h == t) (wait_for_holders hs t ps) (wait_for_holders hs t (join ps h t)) Once (λ _. once-wait hs t ps o) (λ _. once-wait hs t (join ps h t) (once-join ps h t o))

pub once-without_entry : (ps : List (ℕ × WriteEntry)) (t : ℕ) → Once ps → Once (without_entry ps t)
once-without_entry [] t o = tt
once-without_entry (p ∷ ps) t o =
    cond_both (p.0 == t) ps (p ∷ without_entry ps t) Once (λ _. o.1) (λ _. ((λ i. o.0 (kept ps p i)), once-without_entry ps t o.1))
  where
    kept : (qs : List (ℕ × WriteEntry)) (x : ℕ × WriteEntry) → In x (without_entry qs t) → In x qs
    kept [] x i = i
    kept (q ∷ qs) x i =
        ⊎_elim (λ y. inr (subst (In x) (cond-true (q.0 == t) qs (q ∷ without_entry qs t) y) i))
        (λ n. ⊎_elim (λ e. inl e) (λ r. inr (kept qs x r)) (subst (In x) (cond-false (q.0 == t) qs (q ∷ without_entry qs t) n) i)) (cases_Bool (q.0 == t))

-- a wait in the list after t waits for the holders was there before, or is one of t for another holder
pub wait-from : (hs : List ℕ) (t : ℕ) (ps : List (ℕ × ℕ)) (a b : ℕ) → has (wait_for_holders hs t ps) a b ≡ true → (has ps a b ≡ true) ⊎ (In a hs × (b ≡ t) × ((a == t) ≡ false))
wait-from [] t ps a b h = inl h
wait-from (x ∷ hs) t ps a b h =
    ⊎_elim
    (λ y. ⊎_elim (λ q. inl q) (λ q. inr (inr q.0, q.1, q.2)) (wait-from hs t ps a b (ap (λ qs. has qs a b) (sym (cond-true (x == t) (wait_for_holders hs t ps) (wait_for_holders hs t (join ps x t)) y)) ∙ h)))
    (λ n. ⊎_elim (λ q. ⊎_elim (λ z. inl z) (λ z. inr (inl z.0, z.1, ap (λ m. m == t) z.0 ∙ n)) (has-join_from ps x t a b q)) (λ q. inr (inr q.0, q.1, q.2))
    (wait-from hs t (join ps x t) a b (ap (λ qs. has qs a b) (sym (cond-false (x == t) (wait_for_holders hs t ps) (wait_for_holders hs t (join ps x t)) n)) ∙ h)))
    (cases_Bool (x == t))

pub firsts-In : (ps : List (ℕ × ℕ)) (a b : ℕ) → In a (firsts_of ps b) → has ps a b ≡ true
firsts-In [] a b i = absurd i
firsts-In (p ∷ ps) a b i =
    ⊎_elim
    (λ y. ⊎_elim (λ e. or_left (is_pair a b p) _ (and_from _ _ (eq-eqb _ _ (sym e)) y)) (λ r. or_right (is_pair a b p) _ (firsts-In ps a b r)) (subst (In a) (cond-true (p.1 == b) (p.0 ∷ firsts_of ps b) (firsts_of ps b) y) i))
    (λ n. or_right (is_pair a b p) _ (firsts-In ps a b (subst (In a) (cond-false (p.1 == b) (p.0 ∷ firsts_of ps b) (firsts_of ps b) n) i))) (cases_Bool (p.1 == b))

pub once-firsts : (ps : List (ℕ × ℕ)) (b : ℕ) → Once ps → Once (firsts_of ps b)
once-firsts [] b o = tt
once-firsts (p ∷ ps) b o =
    let rest = once-firsts ps b o.1 in
    cond_both (p.1 == b) (p.0 ∷ firsts_of ps b) (firsts_of ps b) Once
    (λ y. ((λ i. o.0 (subst (λ q. In q ps) (pair y) (has-In ps p.0 b (firsts-In ps p.0 b i)))), rest)) (λ _. rest)
  where
    pair : (p.1 == b) ≡ true → (p.0, b) ≡ p
    pair y = λ i. (p.0, sym (eqb-true p.1 b y) i)

-- a number that begins no pair has no second parts
pub seconds-none : (ps : List (ℕ × ℕ)) (a : ℕ) → ((b : ℕ) → has ps a b ≡ true → ⊥) → seconds_of ps a ≡ []
seconds-none [] a n = refl
seconds-none (p ∷ ps) a n =
    ⊎_elim (λ y. absurd (n p.1 (or_left (is_pair a p.1 p) _ (and_from _ _ y (eq-eqb p.1 p.1 refl)))))
    (λ f. cond-false (p.0 == a) (p.1 ∷ seconds_of ps a) (seconds_of ps a) f ∙ seconds-none ps a (λ b h. n b (or_right (is_pair a b p) _ h))) (cases_Bool (p.0 == a))

pub firsts-none : (ps : List (ℕ × ℕ)) (b : ℕ) → ((a : ℕ) → has ps a b ≡ true → ⊥) → firsts_of ps b ≡ []
firsts-none [] b n = refl
firsts-none (p ∷ ps) b n =
    ⊎_elim (λ y. absurd (n p.0 (or_left (is_pair p.0 b p) _ (and_from _ _ (eq-eqb p.0 p.0 refl) y))))
    (λ f. cond-false (p.1 == b) (p.0 ∷ firsts_of ps b) (firsts_of ps b) f ∙ firsts-none ps b (λ a h. n a (or_right (is_pair a b p) _ h))) (cases_Bool (p.1 == b))

pub entries-none : (ps : List (ℕ × WriteEntry)) (t : ℕ) → ((e : WriteEntry) → In (t, e) ps → ⊥) → entries_of ps t ≡ []
entries-none [] t n = refl
entries-none (p ∷ ps) t n =
    ⊎_elim (λ y. absurd (n p.1 (inl (λ i. (sym (eqb-true p.0 t y) i, p.1)))))
    (λ f. cond-false (p.0 == t) (p.1 ∷ entries_of ps t) (entries_of ps t) f ∙ entries-none ps t (λ e i. n e (inr i))) (cases_Bool (p.0 == t))

-- ---- different numbers from 1 to n are at most n
others : ℕ → List ℕ → List ℕ
others x = filter (λ (y : ℕ). not (y == x))

others-all : (x : ℕ) (xs : List ℕ) → (In x xs → ⊥) → length (others x xs) ≡ length xs
unfolding others
others-all x [] n = refl
others-all x (y ∷ ys) n =
    ap length (cond-true (not (y == x)) (y ∷ others x ys) (others x ys) (ap not (ne_eqb y x (λ e. n (inl (sym e)))))) ∙ ap suc (others-all x ys (λ i. n (inr i)))

others-but_one : (x : ℕ) (xs : List ℕ) → Once xs → length xs ≤ length (others x xs) + 1
unfolding others
others-but_one x [] o = omega arith
others-but_one x (y ∷ ys) o =
    ⊎_elim
    (λ same.
    let gone = ap length (cond-false (not (y == x)) (y ∷ others x ys) (others x ys) (ap not same)) in
    let all = others-all x ys (λ i. o.0 (subst (λ n. In n ys) (sym (eqb-true y x same)) i)) in
    omega (arith, gone, all))
    (λ other.
    let kept = ap length (cond-true (not (y == x)) (y ∷ others x ys) (others x ys) (ap not other)) in
    let rest = others-but_one x ys o.1 in
    omega (arith, kept, rest))
    (cases_Bool (y == x))

others-In : (x : ℕ) (xs : List ℕ) (y : ℕ) → In y (others x xs) → In y xs × (y ≡ x → ⊥)
unfolding others
others-In x [] y i = absurd i
others-In x (z ∷ zs) y i =
    ⊎_elim
    (λ same. let r = others-In x zs y (subst (In y) (cond-false (not (z == x)) (z ∷ others x zs) (others x zs) (ap not same)) i) in (inr r.0, r.1))
    (λ other. ⊎_elim (λ e. (inl e, λ q. false≢true (sym other ∙ eq-eqb z x (sym e ∙ q)))) (λ r. let q = others-In x zs y r in (inr q.0, q.1)) (subst (In y) (cond-true (not (z == x)) (z ∷ others x zs) (others x zs) (ap not other)) i))
    (cases_Bool (z == x))

pub few : (n : ℕ) (xs : List ℕ) → Once xs → ((x : ℕ) → In x xs → (0 < x) × (x ≤ n)) → length xs ≤ n
unfolding others
few zero [] o r = omega arith
few zero (x ∷ xs) o r = let q = r x (inl refl) in let l = q.0 in let m = q.1 in absurd (omega (arith, l, m))
few (suc n) xs o r =
    let less : length (others (suc n) xs) ≤ n = few n (others (suc n) xs) (once-filter (λ (y : ℕ). not (y == suc n)) xs o)
    (λ x i. let q = others-In (suc n) xs x i in let b = r x q.0 in let l = b.0 in let m = b.1 in let ne = q.1 in (l, below x n m ne)) in
    let one = others-but_one (suc n) xs o in
    omega (arith, less, one)
  where
    below : (x m : ℕ) → x ≤ suc m → (x ≡ suc m → ⊥) → x ≤ m
    below x m l ne = omega (arith, l, ne)

pub seconds-In : (ps : List (ℕ × ℕ)) (a b : ℕ) → In b (seconds_of ps a) → has ps a b ≡ true
seconds-In [] a b i = absurd i
seconds-In (p ∷ ps) a b i =
    ⊎_elim
    (λ y. ⊎_elim (λ e. or_left (is_pair a b p) _ (and_from _ _ y (eq-eqb _ _ (sym e)))) (λ r. or_right (is_pair a b p) _ (seconds-In ps a b r)) (subst (In b) (cond-true (p.0 == a) (p.1 ∷ seconds_of ps a) (seconds_of ps a) y) i))
    (λ n. or_right (is_pair a b p) _ (seconds-In ps a b (subst (In b) (cond-false (p.0 == a) (p.1 ∷ seconds_of ps a) (seconds_of ps a) n) i))) (cases_Bool (p.0 == a))
