-- The pairs of one transaction, bucket or version in a list of pairs, after a pair joins or leaves.
use Rattle.std.proofs.Common.{◌≡◌, ℕ, ◌+◌, ◌<◌, Bool, true, false, List, [], ◌∷◌, ◌++◌, refl, arith, Some, ⊎_elim, length}
use Rattle.std.proofs.lemmas.Bool.{cases_Bool}
use Rattle.std.proofs.lemmas.Bool.Decides.{nat_tests}
use Rattle.std.specs.Prelude.{nat_eq, slice_get}
use Rattle.std.specs.Set.{remove_key}
use Rattle.hek_rules.specs.declared.event.WriteEntry.{WriteEntry}
use Rattle.hek_rules.specs.Listing.{leave, has, seconds_of, firsts_of, is_among}
use Rattle.hek_rules.specs.Table.{without_first, entries_of, without_entry}
use Rattle.hek_laws.specs.Lists.{In, Once}
use Rattle.hek_laws.proofs.Lists.Pairs.{has-In}
use Rattle.hek_commit.specs.Stamped.{rest_of}

abbrev pub bit : Bool → ℕ
bit true = 1
bit false = 0

-- a pair that is not in the list is not found
pub has-not : (ps : List (ℕ × ℕ)) (a b : ℕ) → (In (a, b) ps → ⊥) → has ps a b ≡ false
has-not ps a b h = ⊎_elim (λ yes. absurd (h (has-In ps a b yes))) (λ no. no) (cases_Bool (has ps a b))

-- the head of a list of distinct pairs is not in its tail
pub head-once : (p : ℕ × ℕ) (ps : List (ℕ × ℕ)) → Once (p ∷ ps) → has ps p.0 p.1 ≡ false
head-once p ps h = has-not ps p.0 p.1 h.0

-- ---- members of the two sides

pub among-seconds : (ps : List (ℕ × ℕ)) (a b : ℕ) → is_among (seconds_of ps a) b ≡ has ps a b
among-seconds [] a b = refl
among-seconds (p ∷ ps) a b = let rest = among-seconds ps a b in grind (arith, nat_tests, rest)

pub among-firsts : (ps : List (ℕ × ℕ)) (a b : ℕ) → is_among (firsts_of ps b) a ≡ has ps a b
among-firsts [] a b = refl
among-firsts (p ∷ ps) a b = let rest = among-firsts ps a b in grind (arith, nat_tests, rest)

pub first-has : (ps : List (ℕ × ℕ)) (a b : ℕ) → slice_get (seconds_of ps a) 0 ≡ Some b → has ps a b ≡ true
first-has [] a b h = cc
first-has (p ∷ ps) a b h = let rest = first-has ps a b in grind (arith, nat_tests, rest, h)

pub has-readers : (ps : List (ℕ × ℕ)) (a b : ℕ) → has ps a b ≡ true → 0 < length (firsts_of ps b)
has-readers [] a b h = cc
has-readers (p ∷ ps) a b h = let rest = has-readers ps a b in grind (arith, nat_tests, rest, h)

-- ---- a pair leaves

pub leave-none : (ps : List (ℕ × ℕ)) (a b : ℕ) → has ps a b ≡ false → leave ps a b ≡ ps
leave-none [] a b h = refl
leave-none (p ∷ ps) a b h = let rest = leave-none ps a b in grind (arith, nat_tests, rest, h)

pub firsts-leave_count : (ps : List (ℕ × ℕ)) (a b : ℕ) → Once ps → length (firsts_of (leave ps a b) b) + bit (has ps a b) ≡ length (firsts_of ps b)
firsts-leave_count [] a b o = refl
firsts-leave_count (p ∷ ps) a b o =
    let rest = firsts-leave_count ps a b o.1 in let alone = head-once p ps o in grind (arith, nat_tests, rest, alone)

pub firsts-leave_other : (ps : List (ℕ × ℕ)) (a b c : ℕ) → (c ≡ b → ⊥) → firsts_of (leave ps a b) c ≡ firsts_of ps c
firsts-leave_other [] a b c ne = refl
firsts-leave_other (p ∷ ps) a b c ne = let rest = firsts-leave_other ps a b c ne in grind (arith, nat_tests, rest)

pub firsts-leave_same : (ps : List (ℕ × ℕ)) (a b : ℕ) → Once ps → firsts_of (leave ps a b) b ≡ remove_key (nat_eq a) (firsts_of ps b)
firsts-leave_same [] a b o = refl
firsts-leave_same (p ∷ ps) a b o =
    let rest = firsts-leave_same ps a b o.1 in let alone = head-once p ps o in let same = leave-none ps a b in grind (arith, nat_tests, rest, alone, same)

pub seconds-leave_other : (ps : List (ℕ × ℕ)) (a b c : ℕ) → (c ≡ a → ⊥) → seconds_of (leave ps a b) c ≡ seconds_of ps c
seconds-leave_other [] a b c ne = refl
seconds-leave_other (p ∷ ps) a b c ne = let rest = seconds-leave_other ps a b c ne in grind (arith, nat_tests, rest)

pub seconds-leave_same : (ps : List (ℕ × ℕ)) (a b : ℕ) → Once ps → seconds_of (leave ps a b) a ≡ remove_key (nat_eq b) (seconds_of ps a)
seconds-leave_same [] a b o = refl
seconds-leave_same (p ∷ ps) a b o =
    let rest = seconds-leave_same ps a b o.1 in let alone = head-once p ps o in let same = leave-none ps a b in grind (arith, nat_tests, rest, alone, same)

-- ---- a pair joins

pub firsts-add_same : (ps : List (ℕ × ℕ)) (a b : ℕ) → firsts_of (ps ++ (a, b) ∷ []) b ≡ firsts_of ps b ++ a ∷ []
firsts-add_same [] a b = grind (arith, nat_tests)
firsts-add_same (p ∷ ps) a b = let rest = firsts-add_same ps a b in grind (arith, nat_tests, rest)

pub firsts-add_other : (ps : List (ℕ × ℕ)) (a b c : ℕ) → (c ≡ b → ⊥) → firsts_of (ps ++ (a, b) ∷ []) c ≡ firsts_of ps c
firsts-add_other [] a b c ne = grind (arith, nat_tests)
firsts-add_other (p ∷ ps) a b c ne = let rest = firsts-add_other ps a b c ne in grind (arith, nat_tests, rest)

pub seconds-add_same : (ps : List (ℕ × ℕ)) (a b : ℕ) → seconds_of (ps ++ (a, b) ∷ []) a ≡ seconds_of ps a ++ b ∷ []
seconds-add_same [] a b = grind (arith, nat_tests)
seconds-add_same (p ∷ ps) a b = let rest = seconds-add_same ps a b in grind (arith, nat_tests, rest)

pub seconds-add_other : (ps : List (ℕ × ℕ)) (a b c : ℕ) → (c ≡ a → ⊥) → seconds_of (ps ++ (a, b) ∷ []) c ≡ seconds_of ps c
seconds-add_other [] a b c ne = grind (arith, nat_tests)
seconds-add_other (p ∷ ps) a b c ne = let rest = seconds-add_other ps a b c ne in grind (arith, nat_tests, rest)

-- ---- all pairs of one transaction leave

pub seconds-without_same : (ps : List (ℕ × ℕ)) (a : ℕ) → seconds_of (without_first a ps) a ≡ []
seconds-without_same [] a = refl
seconds-without_same (p ∷ ps) a = let rest = seconds-without_same ps a in grind (arith, nat_tests, rest)

pub seconds-without_other : (ps : List (ℕ × ℕ)) (a c : ℕ) → (c ≡ a → ⊥) → seconds_of (without_first a ps) c ≡ seconds_of ps c
seconds-without_other [] a c ne = refl
seconds-without_other (p ∷ ps) a c ne = let rest = seconds-without_other ps a c ne in grind (arith, nat_tests, rest)

pub firsts-without_count : (ps : List (ℕ × ℕ)) (a b : ℕ) → Once ps → length (firsts_of (without_first a ps) b) + bit (has ps a b) ≡ length (firsts_of ps b)
firsts-without_count [] a b o = refl
firsts-without_count (p ∷ ps) a b o =
    let rest = firsts-without_count ps a b o.1 in let alone = head-once p ps o in grind (arith, nat_tests, rest, alone)

-- ---- write entries

pub entries-without_same : (ps : List (ℕ × WriteEntry)) (t : ℕ) → entries_of (without_entry ps t) t ≡ rest_of (entries_of ps t)
entries-without_same [] t = refl
entries-without_same (p ∷ ps) t = let rest = entries-without_same ps t in grind (arith, nat_tests, rest)

pub entries-without_other : (ps : List (ℕ × WriteEntry)) (t u : ℕ) → (u ≡ t → ⊥) → entries_of (without_entry ps t) u ≡ entries_of ps u
entries-without_other [] t u ne = refl
entries-without_other (p ∷ ps) t u ne = let rest = entries-without_other ps t u ne in grind (arith, nat_tests, rest)

pub entries-add_same : (ps : List (ℕ × WriteEntry)) (t : ℕ) (e : WriteEntry) → entries_of (ps ++ (t, e) ∷ []) t ≡ entries_of ps t ++ e ∷ []
entries-add_same [] t e = grind (arith, nat_tests)
entries-add_same (p ∷ ps) t e = let rest = entries-add_same ps t e in grind (arith, nat_tests, rest)

pub entries-add_other : (ps : List (ℕ × WriteEntry)) (t u : ℕ) (e : WriteEntry) → (u ≡ t → ⊥) → entries_of (ps ++ (t, e) ∷ []) u ≡ entries_of ps u
entries-add_other [] t u e ne = grind (arith, nat_tests)
entries-add_other (p ∷ ps) t u e ne = let rest = entries-add_other ps t u e ne in grind (arith, nat_tests, rest)
