-- Lists of distinct members, and the keys that tell who is in them.
use Rattle.std.proofs.Common.{◌≡◌, ℕ, zero, suc, ◌+◌, ◌<◌, ◌≤◌, Bool, true, false, ◌||◌, cond, List, [], ◌∷◌, ◌++◌, length, drop, get_or, slice_get, None, refl, ◌∙◌, sym, ap, subst, arith, is_some, true≢false, drop-cons, length-append}
use Rattle.std.specs.Cmp.{IsEquivalence}
use Rattle.std.specs.List.{IsDistinct, AllByRecursion, list_any, remove}
use Rattle.std.specs.Set.{remove_key}
use Rattle.std.proofs.lemmas.Bool.{cond-true, cond-false}
use Rattle.std.proofs.lemmas.List.{drop-append-le}
use Rattle.std.proofs.lemmas.List.Folds.{list_any-append}
use Rattle.std.proofs.lemmas.Map.Keys.{IsDistinct-cons, IsDistinct-head, IsDistinct-tail}
use Rattle.hek_txn.specs.Entries.{IsHeld}

or-none : (a b : Bool) → (a || b) ≡ false → (a ≡ false) × (b ≡ false)
or-none true b e = absurd (true≢false e)
or-none false b e = (refl, e)

or-last : (a b : Bool) → (a || (b || false)) ≡ cond b true a
or-last true true = refl
or-last true false = refl
or-last false true = refl
or-last false false = refl

cond-none : (b : Bool) → false ≡ cond b false false
cond-none true = refl
cond-none false = refl

-- ---- members that all fail a test

all-at : {T : Type 0} (test : T → Bool) (xs : List T) (i : ℕ) (d : T) → AllByRecursion (λ y. test y ≡ false) xs → i < length xs → test (get_or xs i d) ≡ false
all-at test [] i d each h = absurd (omega (arith, h))
all-at test (y ∷ ys) zero d each h = each.0
all-at test (y ∷ ys) (suc i) d each h = all-at test ys i d each.1 (omega (arith, h))

all-with : {T : Type 0} (test : T → Bool) (x : T) (xs : List T) → AllByRecursion (λ y. test y ≡ false) xs → test x ≡ false → AllByRecursion (λ y. test y ≡ false) (xs ++ x ∷ [])
all-with test x [] each last = (last, tt)
all-with test x (y ∷ ys) each last = (each.0, all-with test x ys each.1 last)

all-without : {T : Type 0} (test out : T → Bool) (xs : List T) → AllByRecursion (λ y. test y ≡ false) xs → AllByRecursion (λ y. test y ≡ false) (remove_key out xs)
all-without test out [] each = tt
all-without {T} test out (y ∷ ys) each = by (out y) (all-without test out ys each.1)
  where
    by : (b : Bool) → AllByRecursion (λ z. test z ≡ false) (remove_key out ys) → AllByRecursion (λ z. test z ≡ false) (cond b ys (y ∷ remove_key out ys))
    by true rest = each.1
    by false rest = (each.0, rest)

-- taking out no member changes nothing
pub none_out : {T : Type 0} (test : T → Bool) (xs : List T) → list_any test xs ≡ false → remove_key test xs ≡ xs
none_out test [] e = refl
none_out test (x ∷ xs) e = let p = or-none (test x) (list_any test xs) e in cond-false (test x) xs (x ∷ remove_key test xs) p.0 ∙ ap (λ ys. x ∷ ys) (none_out test xs p.1)

any-drop : {T : Type 0} (test : T → Bool) (g : ℕ) (xs : List T) → list_any test xs ≡ false → list_any test (drop g xs) ≡ false
any-drop test zero xs e = e
any-drop test (suc g) [] e = refl
any-drop test (suc g) (x ∷ xs) e = any-drop test g xs (or-none (test x) (list_any test xs) e).1

any-later : {T : Type 0} (test : T → Bool) (p g : ℕ) (xs : List T) → p ≤ g → list_any test (drop p xs) ≡ false → list_any test (drop g xs) ≡ false
any-later test zero g xs le e = any-drop test g xs e
any-later test (suc p) zero xs le e = absurd (omega (arith, le))
any-later test (suc p) (suc g) [] le e = refl
any-later test (suc p) (suc g) (x ∷ xs) le e = any-later test p g xs (omega (arith, le)) e

-- a list without the item from a place on has nothing to take out there
pub none_behind : {T : Type 0} (test : T → Bool) (p g : ℕ) (xs ys : List T) → ys ≡ xs → p ≤ g → list_any test (drop p ys) ≡ false → drop g ys ≡ remove_key test (drop g xs)
none_behind test p g xs ys same le none = sym (none_out test (drop g ys) (any-later test p g ys le none)) ∙ ap (λ (zs : List _). remove_key test (drop g zs)) same

-- no members are left after the last one
drop_last : {T : Type 0} (n : ℕ) (xs : List T) → n ≡ length xs → drop n xs ≡ []
drop_last zero [] e = refl
drop_last zero (x ∷ xs) e = absurd (omega (arith, e))
drop_last (suc n) [] e = refl
drop_last (suc n) (x ∷ xs) e = drop_last n xs (omega (arith, e))

-- a list without a first member has no members
pub none_any : {T : Type 0} (test : T → Bool) (xs : List T) → None ≡ slice_get xs 0 → false ≡ list_any test xs
none_any test [] e = refl
none_any test (x ∷ xs) e = absurd (true≢false (sym (ap is_some e)))

-- taking a member out of an empty list changes nothing
pub none_first : {T : Type 0} (test : T → Bool) (xs : List T) → None ≡ slice_get xs 0 → xs ≡ remove_key test xs
none_first test [] e = refl
none_first test (x ∷ xs) e = absurd (true≢false (sym (ap is_some e)))

-- taking out what is no member, as b says, changes nothing
pub held_none : {T : Type 0} (eq : T → T → Bool) (x : T) (xs keys : List T) (b : Bool) → b ≡ list_any (eq x) keys → b ≡ false → IsHeld eq xs keys → xs ≡ remove_key (eq x) xs
held_none eq x xs keys b told none held = sym (none_out (eq x) xs (sym (held.same x) ∙ sym told ∙ none))

module _ {T : Type 0} (eq : T → T → Bool) (laws : IsEquivalence eq) where
  none-other : (x a : T) (xs : List T) → eq x a ≡ true → AllByRecursion (λ y. eq a y ≡ false) xs → list_any (eq x) xs ≡ false
  none-other x a [] same each = refl
  none-other x a (y ∷ ys) same each = ap (λ b. b || list_any (eq x) ys) (laws.congr x a y same ∙ each.0) ∙ none-other x a ys same each.1

  -- ---- one member less

  any-without : (x : T) (xs : List T) → IsDistinct eq xs → (k : T) → list_any (eq k) (remove_key (eq x) xs) ≡ cond (eq x k) false (list_any (eq k) xs)
  any-without x [] once k = cond-none (eq x k)
  any-without x (y ∷ ys) once k = by (eq x y) (eq x k) refl refl (any-without x ys (IsDistinct-tail eq y ys once) k)
    where
      by : (b c : Bool) → eq x y ≡ b → eq x k ≡ c → list_any (eq k) (remove_key (eq x) ys) ≡ cond (eq x k) false (list_any (eq k) ys) →
          list_any (eq k) (cond b ys (y ∷ remove_key (eq x) ys)) ≡ cond c false (eq k y || list_any (eq k) ys)
      by true true p q rest = none-other k y ys (laws.congr k x y (laws.symm k x ∙ q) ∙ p) (IsDistinct-head eq y ys once)
      by true false p q rest = let n : eq k y ≡ false = laws.symm k y ∙ laws.congr y x k (laws.symm y x ∙ p) ∙ q in sym (ap (λ b. b || list_any (eq k) ys) n)
      by false true p q rest =
          let n : eq k y ≡ false = laws.congr k x y (laws.symm k x ∙ q) ∙ p in
          ap (λ b. b || list_any (eq k) (remove_key (eq x) ys)) n ∙ rest ∙ ap (λ b. cond b false (list_any (eq k) ys)) q
      by false false p q rest = ap (λ b. eq k y || b) (rest ∙ ap (λ b. cond b false (list_any (eq k) ys)) q)

  pub distinct-without : (x : T) (xs : List T) → IsDistinct eq xs → IsDistinct eq (remove_key (eq x) xs)
  distinct-without x [] once = once
  distinct-without x (y ∷ ys) once = by (eq x y) (distinct-without x ys (IsDistinct-tail eq y ys once))
    where
      by : (b : Bool) → IsDistinct eq (remove_key (eq x) ys) → IsDistinct eq (cond b ys (y ∷ remove_key (eq x) ys))
      by true rest = IsDistinct-tail eq y ys once
      by false rest = IsDistinct-cons eq y (remove_key (eq x) ys) (all-without (eq y) (eq x) ys (IsDistinct-head eq y ys once)) rest

  -- a member is taken out
  pub held-without : (x : T) (xs ys keys left : List T) → ys ≡ remove_key (eq x) xs → ((k : T) → list_any (eq k) left ≡ cond (eq x k) false (list_any (eq k) keys)) → IsHeld eq xs keys → IsHeld eq ys left
  held-without x xs ys keys left cut out held = subst (λ zs. IsHeld eq zs left) (sym cut) (record {
    once = distinct-without x xs held.once;
    same = λ k. out k ∙ ap (cond (eq x k) false) (held.same k) ∙ sym (any-without x xs held.once k);
  })

  -- the first member, x, is taken out
  pub held-after : (g : ℕ) (xs keys left : List T) (x : T) → x ≡ get_or xs g x → g < length xs → ((k : T) → list_any (eq k) left ≡ cond (eq x k) false (list_any (eq k) keys)) → IsHeld eq (drop g xs) keys →
      IsHeld eq (drop (g + 1) xs) left
  held-after g xs keys left x at h out held =
      let rest : List T = drop (g + 1) xs in
      let first : drop g xs ≡ x ∷ rest =
      drop-cons xs g x h ∙ ap (λ y. y ∷ drop (suc g) xs) (sym at) ∙ ap (λ n. x ∷ drop n xs) (let e : suc g ≡ g + 1 = omega arith in e) in
      let cut : remove_key (eq x) (drop g xs) ≡ rest = ap (remove_key (eq x)) first ∙ cond-true (eq x x) rest (x ∷ remove_key (eq x) rest) (laws.refl x) in
      held-without x (drop g xs) rest keys left (sym cut) out held

  -- the only member, x, is taken out
  pub held-last : (g : ℕ) (xs none keys left : List T) (x : T) → x ≡ get_or xs g x → g + 1 ≡ length xs → none ≡ [] → ((k : T) → list_any (eq k) left ≡ cond (eq x k) false (list_any (eq k) keys)) →
      IsHeld eq (drop g xs) keys → IsHeld eq none left
  held-last g xs none keys left x at last empty out held =
      subst (λ ys. IsHeld eq ys left) (drop_last (g + 1) xs last ∙ sym empty) (held-after g xs keys left x at (omega (arith, last)) out held)

  -- the member at a place is the one to take out
  taken_at : (x : T) (g i : ℕ) (xs : List T) (d : T) → IsDistinct eq (drop g xs) → g ≤ i → i < length xs → eq x (get_or xs i d) ≡ true → drop g (remove xs i) ≡ remove_key (eq x) (drop g xs)
  taken_at x g i [] d once le h at = absurd (omega (arith, h))
  taken_at x zero zero (y ∷ ys) d once le h at = sym (cond-true (eq x y) ys (y ∷ remove_key (eq x) ys) at)
  taken_at x zero (suc i) (y ∷ ys) d once le h at =
      let z : T = get_or ys i d in
      let other : eq x y ≡ false = laws.congr x z y at ∙ laws.symm z y ∙ all-at (eq y) ys i d (IsDistinct-head eq y ys once) (omega (arith, h)) in
      ap (λ zs. y ∷ zs) (taken_at x zero i ys d (IsDistinct-tail eq y ys once) (omega arith) (omega (arith, h)) at) ∙ sym (cond-false (eq x y) ys (y ∷ remove_key (eq x) ys) other)
  taken_at x (suc g) zero (y ∷ ys) d once le h at = absurd (omega (arith, le))
  taken_at x (suc g) (suc i) (y ∷ ys) d once le h at = taken_at x g i ys d once (omega (arith, le)) (omega (arith, h)) at

  -- the member y at a place, equal to x as b says, is removed
  pub taken_behind : (x y : T) (b : Bool) (g i : ℕ) (xs ys left : List T) → ys ≡ xs → left ≡ remove ys i → y ≡ get_or ys i y → b ≡ eq y x → b ≡ true → IsDistinct eq (drop g xs) → g ≤ i → i < length xs →
      drop g left ≡ remove_key (eq x) (drop g xs)
  taken_behind x y b g i xs ys left same cut at told found once le h =
      let there : y ≡ get_or xs i y = at ∙ ap (λ (zs : List T). get_or zs i y) same in
      ap (drop g) (cut ∙ ap (λ (zs : List T). remove zs i) same)
      ∙ taken_at x g i xs y once le h (sym (ap (eq x) there) ∙ laws.symm x y ∙ sym told ∙ found)

  -- ---- one member more

  pub distinct-with : (x : T) (xs : List T) → list_any (eq x) xs ≡ false → IsDistinct eq xs → IsDistinct eq (xs ++ x ∷ [])
  distinct-with x [] new once = IsDistinct-cons eq x [] tt once
  distinct-with x (y ∷ ys) new once =
      let p = or-none (eq x y) (list_any (eq x) ys) new in
      IsDistinct-cons eq y (ys ++ x ∷ []) (all-with (eq y) x ys (IsDistinct-head eq y ys once) (laws.symm y x ∙ p.0)) (distinct-with x ys p.1 (IsDistinct-tail eq y ys once))

  held-with : (x : T) (xs keys more : List T) → ((k : T) → list_any (eq k) more ≡ cond (eq x k) true (list_any (eq k) keys)) → list_any (eq x) keys ≡ false → IsHeld eq xs keys →
      IsHeld eq (xs ++ x ∷ []) more
  held-with x xs keys more into new held = record {
    once = distinct-with x xs (sym (held.same x) ∙ new) held.once;
    same = λ k. into k
        ∙ ap (cond (eq x k) true) (held.same k)
        ∙ sym (list_any-append (eq k) xs (x ∷ []) ∙ ap (λ b. list_any (eq k) xs || (b || false)) (laws.symm k x) ∙ or-last (list_any (eq k) xs) (eq x k));
  }

  -- a new member is appended
  pub held-pushed : (x : T) (g : ℕ) (xs longer keys more : List T) → longer ≡ xs ++ x ∷ [] → ((k : T) → list_any (eq k) more ≡ cond (eq x k) true (list_any (eq k) keys)) → list_any (eq x) keys ≡ false →
      (g ≤ length xs) × IsHeld eq (drop g xs) keys → (g ≤ length longer) × IsHeld eq (drop g longer) more
  held-pushed x g xs longer keys more pushed into new held =
      let long = ap length pushed ∙ length-append xs (x ∷ []) in
      let left = ap (drop g) pushed ∙ drop-append-le g xs (x ∷ []) held.0 in
      (omega (arith, held.0, long), subst (λ ys. IsHeld eq ys more) (sym left) (held-with x (drop g xs) keys more into new held.1))
