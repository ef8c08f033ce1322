-- Counts of waits that do not grow.
use Rattle.std.proofs.Common.{◌≡◌, ℕ, zero, suc, ◌+◌, ◌≤◌, Bool, true, false, List, [], ◌∷◌, refl, ◌∙◌, ap, sym, arith, Some, None, inl, inr, ⊎_elim, length}
use Rattle.std.proofs.lemmas.Bool.{cases_Bool, cond-true, cond-false, cond_both, ltb-true, lt-ltb, and_parts, and_from}
use Rattle.std.proofs.lemmas.Bool.Decides.{nat_tests}
use Rattle.std.specs.Prelude.{filter, not, nat_lt, ◌==◌, slice_set, unwrap_or, ◌⊎◌}
use Rattle.hek_rules.specs.Listing.{leave, is_pair}
use Rattle.hek_rules.specs.World.{World, Version, Ender, EndedAt, Held, version_in, places, is_held_by, no_version}
use Rattle.hek_rules.specs.Waits.{readers, is_waited_for, waits}
use Rattle.hek_rules.specs.Locks.{with_ender}
use Rattle.hek_rules.specs.Table.{drop_read, sealed}
use Rattle.hek_laws.proofs.Table.SetTxns.{slice_get-set}

pub passed : (test : ℕ → Version → Bool) (i : ℕ) (x : Version) (xs : List Version) → test i x ≡ true → length (places test i (x ∷ xs)) ≡ length (places test (i + 1) xs) + 1
passed test i x xs h = ap length (cond-true (test i x) (i ∷ places test (i + 1) xs) (places test (i + 1) xs) h) ∙ (omega arith)

pub failed : (test : ℕ → Version → Bool) (i : ℕ) (x : Version) (xs : List Version) → test i x ≡ false → length (places test i (x ∷ xs)) ≡ length (places test (i + 1) xs)
failed test i x xs h = ap length (cond-false (test i x) (i ∷ places test (i + 1) xs) (places test (i + 1) xs) h)

-- a count does not grow if each version that passes passed before
pub places-le : (old new : ℕ → Version → Bool) (i : ℕ) (xs ys : List Version) → length ys ≡ length xs →
    ((j k : ℕ) → k ≡ i + j → new k (version_in ys j) ≡ true → old k (version_in xs j) ≡ true) → length (places new i ys) ≤ length (places old i xs)
places-le old new i [] [] e h = omega arith
places-le old new i [] (y ∷ ys) e h = absurd (omega (arith, e))
places-le old new i (x ∷ xs) [] e h = absurd (omega (arith, e))
places-le old new i (x ∷ xs) (y ∷ ys) e h =
    let rest : length (places new (i + 1) ys) ≤ length (places old (i + 1) xs) = places-le old new (i + 1) xs ys (omega (arith, e)) (λ j k is. h (suc j) k (omega (arith, is))) in
    ⊎_elim
    (λ passes. let m = passed new i y ys passes in let n = passed old i x xs (h 0 i (omega arith) passes) in omega (arith, rest, m, n))
    (λ fails. let m = failed new i y ys fails in
    ⊎_elim (λ p. let n = passed old i x xs p in omega (arith, rest, m, n)) (λ f. let n = failed old i x xs f in omega (arith, rest, m, n)) (cases_Bool (old i x)))
    (cases_Bool (new i y))

-- the version at a place after another ender is set: changed or as before
pub version_in-set : (vs : List Version) (v j : ℕ) (x : Version) → (j ≡ v) × (version_in (slice_set vs v x) j ≡ x) ⊎ (version_in (slice_set vs v x) j ≡ version_in vs j)
version_in-set vs v j x = ⊎_elim (λ p. inl (p.0, ap (λ o. unwrap_or o no_version) p.1)) (λ e. inr (ap (λ o. unwrap_or o no_version) e)) (slice_get-set vs v j x)

pub readers-filter : (test : ℕ × ℕ → Bool) (ps : List (ℕ × ℕ)) (v : ℕ) → readers (filter test ps) v ≤ readers ps v
readers-filter test [] v = omega arith
readers-filter test (p ∷ ps) v = let rest = readers-filter test ps v in grind (arith, nat_tests, rest)

pub length-set : {X : Type 0} (xs : List X) (i : ℕ) (x : X) → length (slice_set xs i x) ≡ length xs
length-set [] i x = refl
length-set (y ∷ ys) zero x = refl
length-set (y ∷ ys) (suc i) x = ap suc (length-set ys i x)

pub held-sealed : (u : ℕ) (e : Ender) → is_held_by u (sealed e) ≡ is_held_by u e
held-sealed u (EndedAt time) = refl
held-sealed u (Held None no_more) = refl
held-sealed u (Held (Some x) no_more) = refl

pub more_readers : (n m : ℕ) → n ≤ m → nat_lt 0 n ≡ true → nat_lt 0 m ≡ true
more_readers n m le h = lt-ltb 0 m (let l = ltb-true 0 n h in omega (arith, l))

-- a transaction that releases a read lock makes nobody wait
pub waits-drop_read : (w : World) (t v u : ℕ) → waits (drop_read w t v) u ≤ waits w u
waits-drop_read w t v u =
    let fewer : (vs : List Version) → length vs ≡ length w.versions → ((j : ℕ) → is_held_by u (version_in vs j).ender ≡ is_held_by u (version_in w.versions j).ender) →
    length (places (is_waited_for (leave w.read_locks t v) u) 0 vs) ≤ length (places (is_waited_for w.read_locks u) 0 w.versions) =
    λ vs e same. places-le (is_waited_for w.read_locks u) (is_waited_for (leave w.read_locks t v) u) 0 w.versions vs e
    (λ j k is h. let parts = and_parts _ _ h in
    and_from _ _ (sym (same j) ∙ parts.0) (more_readers _ _ (readers-filter (λ (p : ℕ × ℕ). not (is_pair t v p)) w.read_locks k) parts.1)) in
    let set = slice_set w.versions v (with_ender (version_in w.versions v) (sealed (version_in w.versions v).ender)) in
    let less = cond_both (readers (leave w.read_locks t v) v == 0) set w.versions (λ vs. length (places (is_waited_for (leave w.read_locks t v) u) 0 vs) ≤ length (places (is_waited_for w.read_locks u) 0 w.versions))
    (λ _. fewer set (length-set w.versions v _)
    (λ j. ⊎_elim (λ p. ap (λ (x : Version). is_held_by u x.ender) p.1 ∙ held-sealed u (version_in w.versions v).ender ∙ ap (λ n. is_held_by u (version_in w.versions n).ender) (sym p.0))
    (λ e. ap (λ (x : Version). is_held_by u x.ender) e) (version_in-set w.versions v j _)))
    (λ _. fewer w.versions refl (λ j. refl)) in
    omega (arith, less)
