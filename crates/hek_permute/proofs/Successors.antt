-- The next order of the same moves.
use Rattle.std.proofs.Common.{◌≡◌, ℕ, suc, zero, ◌+◌, ◌-◌, ◌<◌, ◌≤◌, Bool, true, false, cond, List, [], ◌∷◌, ◌++◌, length, get_or, refl, ap, sym, subst, ◌∙◌, inl, inr, arith}
use Rattle.std.specs.Prelude.{◌==◌, ◌⊎◌, reverse, slice_index}
use Rattle.std.proofs.Math.ListN.{set}
use Rattle.std.proofs.lemmas.List.{get_or-reverse, get_or-set_same, get_or-set_other, length-set, length-reverse}
use Rattle.std.proofs.lemmas.List.Sorted.{IsPermutation-reverse, sum_by-IsPermutation}
use Rattle.std.proofs.lemmas.List.Sums.{sum_by-cons}
use Rattle.std.proofs.lemmas.Grind.{get_or_default_zero}
use Rattle.std.proofs.lemmas.Bool.Decides.{nat_tests}
use Rattle.hek_permute.specs.Orders.{IsBelow, name_count, AreAlike, IsNext, IsLast}
use Rattle.hek_permute.specs.Falls.{FallsFrom, IsFalling, IsTurn, IsLastAbove}

-- a number occurs in a list
abbrev pub IsIn : ℕ → List ℕ → Type 0
IsIn z xs = (k : ℕ) × (k < length xs) × (slice_index xs k ≡ z)

abbrev pub IsRising : List ℕ → Type 0
IsRising xs = (i k : ℕ) → i ≤ k → k < length xs → slice_index xs i ≤ slice_index xs k

same_number : (u t : ℕ) → (u == t) ≡ true → u ≡ t
same_number u t h = grind (arith, nat_tests)

is_itself : (u : ℕ) → (u == u) ≡ true
is_itself u = grind (arith, nat_tests)

abbrev pub one_if : Bool → ℕ
one_if b = cond b 1 0

pub times_cons : (t x : ℕ) (xs : List ℕ) → name_count t (x ∷ xs) ≡ one_if (x == t) + name_count t xs
times_cons t x xs = sum_by-cons (λ u. one_if (u == t)) x xs

found_here : (z x : ℕ) (xs : List ℕ) (b : Bool) → (x == z) ≡ b → 0 < one_if b + name_count z xs → (0 < name_count z xs → IsIn z xs) → IsIn z (x ∷ xs)
found_here z x xs true e h later = (0, omega arith, same_number x z e)
found_here z x xs false e h later = let at : IsIn z xs = later (omega arith) in (suc at.0, omega (arith, at.1), at.2)

found : (z : ℕ) (xs : List ℕ) → 0 < name_count z xs → IsIn z xs
found z [] h = absurd (omega arith)
found z (x ∷ xs) h = found_here z x xs (x == z) refl (omega (arith, times_cons z x xs)) (found z xs)

one_of : (z : ℕ) (xs : List ℕ) → 0 < name_count z (z ∷ xs)
one_of z xs = omega (arith, times_cons z z xs, ap one_if (is_itself z))

-- the head of one of two lists of the same numbers occurs in the other
head_in : (xs : List ℕ) (z : ℕ) (ys : List ℕ) → AreAlike xs (z ∷ ys) → IsIn z xs
head_in xs z ys a = found z xs (omega (arith, a z, one_of z ys))

tails : (x y : ℕ) (xs ys : List ℕ) → x ≡ y → AreAlike (x ∷ xs) (y ∷ ys) → AreAlike xs ys
tails x y xs ys e a = λ t. omega (arith, a t, times_cons t x xs, times_cons t y ys, ap (λ (u : ℕ). one_if (u == t)) e)

heads : (x : ℕ) (xs ys : List ℕ) → AreAlike xs ys → AreAlike (x ∷ xs) (x ∷ ys)
heads x xs ys a = λ t. omega (arith, a t, times_cons t x xs, times_cons t x ys)

turned : (xs ys : List ℕ) → AreAlike xs ys → AreAlike ys xs
turned xs ys a = λ t. sym (a t)

joined : (xs ys zs : List ℕ) → AreAlike xs ys → AreAlike ys zs → AreAlike xs zs
joined xs ys zs a b = λ t. a t ∙ b t

-- no list of the same numbers comes after a falling one
pub greatest : (t p : List ℕ) → IsFalling t → AreAlike t p → IsBelow t p → ⊥
greatest [] [] f a b = b
greatest (h ∷ t) [] f a b = b
greatest [] (z ∷ p) f a b = let at : IsIn z [] = head_in [] z p a in omega (arith, at.1)
greatest (h ∷ t) (z ∷ p) f a (inl less) =
    let at : IsIn z (h ∷ t) = head_in (h ∷ t) z p a in
    let most : slice_index (h ∷ t) at.0 ≤ h = f 0 at.0 (omega arith) (omega arith) at.1 in
    omega (arith, at.2, most, less)
greatest (h ∷ t) (z ∷ p) f a (inr same) =
    greatest t p (λ i k low up within. f (suc i) (suc k) (omega arith) (omega arith) (omega arith)) (tails h z t p same.0 a) same.1

-- no list of the same numbers comes before a rising one
pub least : (t p : List ℕ) → IsRising t → AreAlike t p → IsBelow p t → ⊥
least [] [] f a b = b
least [] (z ∷ p) f a b = b
least (h ∷ t) [] f a b = let at : IsIn h [] = head_in [] h t (turned (h ∷ t) [] a) in omega (arith, at.1)
least (h ∷ t) (z ∷ p) f a (inl less) =
    let at : IsIn z (h ∷ t) = head_in (h ∷ t) z p a in
    let low : h ≤ slice_index (h ∷ t) at.0 = f 0 at.0 (omega arith) at.1 in
    omega (arith, at.2, low, less)
least (h ∷ t) (z ∷ p) f a (inr same) =
    least t p (λ i k low within. f (suc i) (suc k) (omega arith) (omega arith)) (tails h z t p (sym same.0) a) same.1

-- the numbers after x fall; y is the least of them above x, and the others, with x in the place of y, then rise
pub record Turns (x : ℕ) (tail : List ℕ) (y : ℕ) (up : List ℕ) : Type 0 where
  pub falling : IsFalling tail
  pub rising : IsRising up
  pub alike : AreAlike (x ∷ tail) (y ∷ up)
  pub above : x < y
  pub least : (z : ℕ) → IsIn z tail → x < z → y ≤ z

beyond : (x : ℕ) (tail : List ℕ) (y : ℕ) (up : List ℕ) (z : ℕ) → Turns x tail y up → IsIn z (x ∷ tail) → x < z → y ≤ z
beyond x tail y up z h (zero, at, is) less = absurd (omega (arith, is))
beyond x tail y up z h (suc k, at, is) less = h.least z (k, omega (arith, at), is) less

turn_first : (x : ℕ) (tail : List ℕ) (y : ℕ) (up q : List ℕ) → Turns x tail y up → AreAlike (x ∷ tail) q → IsBelow (x ∷ tail) q → IsBelow q (y ∷ up) → ⊥
turn_first x tail y up [] h a b c = b
turn_first x tail y up (z ∷ q) h a (inl less) (inl under) =
    omega (arith, beyond x tail y up z h (head_in (x ∷ tail) z q a) less)
turn_first x tail y up (z ∷ q) h a (inl less) (inr same) =
    least up q h.rising (tails y z up q (sym same.0) (joined (y ∷ up) (x ∷ tail) (z ∷ q) (turned (x ∷ tail) (y ∷ up) h.alike) a)) same.1
turn_first x tail y up (z ∷ q) h a (inr same) c = greatest tail q h.falling (tails x z tail q same.0 a) same.1

first_behind : (f : ℕ) (old new : List ℕ) (q : List ℕ) → IsNext old new → AreAlike (f ∷ old) q → IsBelow (f ∷ old) q → IsBelow q (f ∷ new) → ⊥
first_behind f old new [] h a b c = b
first_behind f old new (z ∷ q) h a (inl less) (inl under) = omega arith
first_behind f old new (z ∷ q) h a (inl less) (inr same) = omega (arith, same.0)
first_behind f old new (z ∷ q) h a (inr same) (inl under) = omega (arith, same.0)
first_behind f old new (z ∷ q) h a (inr same) (inr again) = h.first q (tails f z old q same.0 a) same.1 again.1

behind_front : (f : ℕ) (old new : List ℕ) → IsNext old new → IsNext (f ∷ old) (f ∷ new)
behind_front f old new h = record {
  alike = heads f old new h.alike;
  behind = inr (refl, h.behind);
  first = λ q a b c. first_behind f old new q h a b c;
}

at_turn : (x : ℕ) (tail : List ℕ) (y : ℕ) (up : List ℕ) → Turns x tail y up → IsNext (x ∷ tail) (y ∷ up)
at_turn x tail y up h = record {
  alike = h.alike;
  behind = inl h.above;
  first = λ q a b c. turn_first x tail y up q h a b c;
}

pub is_next : (front tail : List ℕ) (place y : ℕ) (up : List ℕ) → length front ≡ place + 1 → Turns (slice_index front place) tail y up
    → IsNext (front ++ tail) (set front place y ++ up)
is_next [] tail place y up e h = absurd (omega arith)
is_next (f ∷ []) tail zero y up e h = at_turn f tail y up h
is_next (f ∷ g ∷ fs) tail zero y up e h = absurd (omega arith)
is_next (f ∷ fs) tail (suc place) y up e h = behind_front f (fs ++ tail) (set fs place y ++ up) (is_next fs tail place y up (omega arith) h)

-- a number in the place of another
set_times : (t x : ℕ) (tail : List ℕ) (j : ℕ) → j < length tail → one_if (slice_index tail j == t) + name_count t (set tail j x) ≡ one_if (x == t) + name_count t tail
set_times t x [] j h = absurd (omega arith)
set_times t x (z ∷ tail) zero h = omega (arith, times_cons t z tail, times_cons t x tail)
set_times t x (z ∷ tail) (suc j) h = omega (arith, times_cons t z tail, times_cons t z (set tail j x), set_times t x tail j (omega arith))

reverse_times : (t : ℕ) (xs : List ℕ) → name_count t (reverse xs) ≡ name_count t xs
reverse_times t xs = sum_by-IsPermutation (λ u. one_if (u == t)) xs (reverse xs) (IsPermutation-reverse xs)

set_falls_here : (tail : List ℕ) (x j i k : ℕ) → IsFalling tail → IsLastAbove tail x j → i ≤ k → k < length tail → (i ≡ j) ⊎ (i ≡ j → ⊥) → (k ≡ j) ⊎ (k ≡ j → ⊥)
    → slice_index (set tail j x) k ≤ slice_index (set tail j x) i
set_falls_here tail x j i k f h low within (inl e) (inl g) = omega (arith, ap (λ (n : ℕ). slice_index (set tail j x) n) (e ∙ sym g))
set_falls_here tail x j i k f h low within (inl e) (inr g) =
    let at_i : slice_index (set tail j x) i ≡ x = subst (λ (n : ℕ). slice_index (set tail j x) n ≡ x) (sym e) (get_or-set_same tail j x 0 h.within) in
    let at_k : slice_index (set tail j x) k ≡ slice_index tail k = get_or-set_other tail j k x 0 g in
    let next : slice_index tail (j + 1) ≤ x = h.last (omega (arith, g)) in
    let falls : slice_index tail k ≤ slice_index tail (j + 1) = f (j + 1) k (omega arith) (omega (arith, g)) within in
    omega arith
set_falls_here tail x j i k f h low within (inr e) (inl g) =
    let at_k : slice_index (set tail j x) k ≡ x = subst (λ (n : ℕ). slice_index (set tail j x) n ≡ x) (sym g) (get_or-set_same tail j x 0 h.within) in
    let at_i : slice_index (set tail j x) i ≡ slice_index tail i = get_or-set_other tail j i x 0 e in
    let falls : slice_index tail j ≤ slice_index tail i = f i j (omega arith) (omega (arith, e)) h.within in
    let above : x < slice_index tail j = h.above in
    omega arith
set_falls_here tail x j i k f h low within (inr e) (inr g) =
    let at_k : slice_index (set tail j x) k ≡ slice_index tail k = get_or-set_other tail j k x 0 g in
    let at_i : slice_index (set tail j x) i ≡ slice_index tail i = get_or-set_other tail j i x 0 e in
    let falls : slice_index tail k ≤ slice_index tail i = f i k (omega arith) low within in
    omega arith

pub same_or_not : (i j : ℕ) → (i ≡ j) ⊎ (i ≡ j → ⊥)
same_or_not zero zero = inl refl
same_or_not zero (suc j) = inr (λ e. omega arith)
same_or_not (suc i) zero = inr (λ e. omega arith)
same_or_not (suc i) (suc j) = elim (same_or_not i j) [ inl e ↦ inl (ap suc e) | inr n ↦ inr (λ e. n (omega arith)) ]

set_falls : (tail : List ℕ) (x j : ℕ) → IsFalling tail → IsLastAbove tail x j → IsFalling (set tail j x)
set_falls tail x j f h = λ i k from low within.
    set_falls_here tail x j i k f h low (omega (arith, length-set tail j x)) (same_or_not i j) (same_or_not k j)

reverse_rises : (xs : List ℕ) → IsFalling xs → IsRising (reverse xs)
reverse_rises xs f = λ i k low within.
    let long : length (reverse xs) ≡ length xs = length-reverse xs in
    let at_i : slice_index (reverse xs) i ≡ slice_index xs (length xs - 1 - i) = get_or-reverse xs i 0 (omega arith) in
    let at_k : slice_index (reverse xs) k ≡ slice_index xs (length xs - 1 - k) = get_or-reverse xs k 0 (omega arith) in
    let falls : slice_index xs (length xs - 1 - i) ≤ slice_index xs (length xs - 1 - k) = f (length xs - 1 - k) (length xs - 1 - i) (omega arith) (omega arith) (omega arith) in
    omega arith

not_past : (tail : List ℕ) (x j k : ℕ) → IsFalling tail → IsLastAbove tail x j → k < length tail → x < slice_index tail k → j < k → ⊥
not_past tail x j k f h within less past =
    let next : slice_index tail (j + 1) ≤ x = h.last (omega arith) in
    let falls : slice_index tail k ≤ slice_index tail (j + 1) = f (j + 1) k (omega arith) (omega arith) within in
    omega arith

least_above : (tail : List ℕ) (x j z : ℕ) → IsFalling tail → IsLastAbove tail x j → IsIn z tail → x < z → slice_index tail j ≤ z
least_above tail x j z f h at less =
    let past : j < at.0 → ⊥ = not_past tail x j at.0 f h at.1 (omega (arith, at.2)) in
    let low : at.0 ≤ j = omega (arith, past) in
    let falls : slice_index tail j ≤ slice_index tail at.0 = f at.0 j (omega arith) low h.within in
    omega (arith, at.2)

pub turns : (x : ℕ) (tail : List ℕ) (j : ℕ) → IsFalling tail → IsLastAbove tail x j → Turns x tail (slice_index tail j) (reverse (set tail j x))
turns x tail j f h = record {
  falling = f;
  rising = reverse_rises (set tail j x) (set_falls tail x j f h);
  alike = λ t. omega (arith, times_cons t x tail, times_cons t (slice_index tail j) (reverse (set tail j x)), set_times t x tail j h.within, reverse_times t (set tail j x));
  above = h.above;
  least = λ z at less. least_above tail x j z f h at less;
}

pub falls_behind : (front tail : List ℕ) (n : ℕ) → length front ≡ n → FallsFrom n (front ++ tail) → IsFalling tail
falls_behind [] tail n e f = λ i k from low within. f i k (omega arith) low within
falls_behind (x ∷ front) tail zero e f = absurd (omega arith)
falls_behind (x ∷ front) tail (suc n) e f =
    falls_behind front tail n (omega arith) (λ i k from low within. f (suc i) (suc k) (omega arith) (omega arith) (omega arith))

pub is_last : (xs : List ℕ) → IsFalling xs → IsLast xs
is_last xs f = record { none = λ q a b. greatest xs q f a b }

-- the first number after a front, by its place in the whole list
pub behind : (front tail : List ℕ) (n : ℕ) → length front ≡ n → slice_index (front ++ tail) n ≡ slice_index tail 0
behind [] tail n e = subst (λ (m : ℕ). slice_index tail m ≡ slice_index tail 0) e refl
behind (x ∷ front) tail zero e = absurd (omega arith)
behind (x ∷ front) tail (suc n) e = behind front tail n (omega arith)

pub in_front : (front tail : List ℕ) (n : ℕ) → n < length front → slice_index (front ++ tail) n ≡ slice_index front n
in_front [] tail n h = absurd (omega arith)
in_front (x ∷ front) tail zero h = refl
in_front (x ∷ front) tail (suc n) h = in_front front tail n (omega arith)

pub turned_next : (old front tail : List ℕ) (place j x y : ℕ) (up : List ℕ) → old ≡ front ++ tail → length front ≡ place + 1 → IsTurn old place
    → x ≡ get_or front place x → y ≡ get_or tail j y → IsLastAbove tail x j → up ≡ reverse (set tail j x) → IsNext old (set front place y ++ up)
turned_next old front tail place j x y up is long turn at_x at_y last back =
    let falls : IsFalling tail = falls_behind front tail (place + 1) long (subst (FallsFrom (place + 1)) is turn.falls) in
    let x_is : x ≡ slice_index front place = at_x ∙ get_or_default_zero front place x (omega arith) in
    let y_is : y ≡ slice_index tail j = at_y ∙ get_or_default_zero tail j y last.within in
    let made : Turns x tail (slice_index tail j) (reverse (set tail j x)) = turns x tail j falls last in
    let meets : Turns (slice_index front place) tail y up =
    subst (λ (n : ℕ). Turns n tail y up) x_is (subst (λ (n : ℕ). Turns x tail n up) (sym y_is) (subst (λ (l : List ℕ). Turns x tail (slice_index tail j) l) (sym back) made)) in
    subst (λ (xs : List ℕ). IsNext xs (set front place y ++ up)) (sym is) (is_next front tail place y up long meets)
