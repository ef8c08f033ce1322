-- The orders of moves by their numbers.
use Rattle.std.proofs.Common.{◌≡◌, ℕ, suc, zero, ◌+◌, ◌≤◌, List, [], ◌∷◌, ◌++◌, length, sum, reverse, Some, refl, ap, sym, subst, ◌∙◌, inl, inr, arith}
use Rattle.std.specs.Prelude.{◌⊎◌, slice_get, slice_index, slice_set}
use Rattle.std.specs.List.{AllByRecursion}
use Rattle.std.proofs.lemmas.List.{reverse-append}
use Rattle.hek_permute.specs.Moves.{first_order_from}
use Rattle.hek_permute.specs.Orders.{IsBelow, AreAlike, IsNext, IsLast, IsAmong, AreFalling, AreAll}
use Rattle.hek_permute.specs.Numbers.{begun_by, begun_below, orders_of}
use Rattle.hek_permute.proofs.Successors.{same_or_not}
use Rattle.hek_permute.proofs.Begun.{place_within, HasCounts, AreRising, headed, among_append, first_counts, sound, complete, orders_rise}

pub same_moves : (counts o : List ℕ) → HasCounts counts o → AreAlike (first_order_from 1 counts) o
same_moves counts o a = λ t. first_counts counts t ∙ sym (a t)

pub moves_counted : (counts o : List ℕ) → AreAlike (first_order_from 1 counts) o → HasCounts counts o
moves_counted counts o a = λ t. sym (a t) ∙ first_counts counts t

-- the last order first
reverse_cons : (q : List ℕ) (qs : List (List ℕ)) → reverse (q ∷ qs) ≡ reverse qs ++ q ∷ []
reverse_cons q qs = reverse-append (q ∷ []) qs

all_among : (P : List ℕ → Type 0) (qs : List (List ℕ)) → ((q : List ℕ) → IsAmong q qs → P q) → AllByRecursion P qs
all_among P [] h = tt
all_among P (q ∷ qs) h = (h q (inl refl), all_among P qs (λ r a. h r (inr a)))

among_reverse : (o : List ℕ) (qs : List (List ℕ)) → IsAmong o (reverse qs) → IsAmong o qs
among_reverse o [] a = absurd a
among_reverse o (q ∷ qs) a = elim (among_append o (reverse qs) (q ∷ []) (subst (IsAmong o) (reverse_cons q qs) a)) [
  | inl b ↦ inr (among_reverse o qs b)
  | inr b ↦ elim b [ inl e ↦ inl e | inr n ↦ absurd n ]
]

last_among : (o : List ℕ) (xs ys : List (List ℕ)) → IsAmong o xs ⊎ IsAmong o ys → IsAmong o (xs ++ ys)
last_among o [] ys (inl a) = absurd a
last_among o [] ys (inr a) = a
last_among o (x ∷ xs) ys (inl (inl e)) = inl e
last_among o (x ∷ xs) ys (inl (inr a)) = inr (last_among o xs ys (inl a))
last_among o (x ∷ xs) ys (inr a) = inr (last_among o xs ys (inr a))

reverse_among : (o : List ℕ) (qs : List (List ℕ)) → IsAmong o qs → IsAmong o (reverse qs)
reverse_among o [] a = absurd a
reverse_among o (q ∷ qs) (inl e) = subst (IsAmong o) (sym (reverse_cons q qs)) (last_among o (reverse qs) (q ∷ []) (inr (inl e)))
reverse_among o (q ∷ qs) (inr a) = subst (IsAmong o) (sym (reverse_cons q qs)) (last_among o (reverse qs) (q ∷ []) (inl (reverse_among o qs a)))

all_then : (P : List ℕ → Type 0) (qs : List (List ℕ)) (o : List ℕ) → AllByRecursion P qs → P o → AllByRecursion P (qs ++ o ∷ [])
all_then P [] o h p = (p, tt)
all_then P (q ∷ qs) o h p = (h.0, all_then P qs o h.1 p)

falling_then : (qs : List (List ℕ)) (o : List ℕ) → AreFalling qs → ((q : List ℕ) → IsAmong q qs → IsBelow o q) → AreFalling (qs ++ o ∷ [])
falling_then [] o f h = (tt, tt)
falling_then (q ∷ qs) o f h = (all_then (λ (r : List ℕ). IsBelow r q) qs o f.0 (h q (inl refl)), falling_then qs o f.1 (λ r a. h r (inr a)))

reverse_falls : (qs : List (List ℕ)) → AreRising qs → AreFalling (reverse qs)
reverse_falls [] f = tt
reverse_falls (q ∷ qs) f =
    subst AreFalling (sym (reverse_cons q qs)) (falling_then (reverse qs) q (reverse_falls qs f.1) (λ r a. f.0 r (among_reverse r qs a)))

-- a list has all orders of the same moves, in the order of a dictionary
pub record AreNumbered (first : List ℕ) (all : List (List ℕ)) : Type 0 where
  pub rising : AreRising all
  pub sound : (o : List ℕ) → IsAmong o all → AreAlike first o
  pub complete : (o : List ℕ) → AreAlike first o → IsAmong o all

pub numbered : (counts : List ℕ) → AreNumbered (first_order_from 1 counts) (orders_of (sum counts) counts)
numbered counts = record {
  rising = orders_rise (sum counts) counts;
  sound = λ o a. same_moves counts o (sound (sum counts) counts refl o a);
  complete = λ o a. complete (sum counts) counts refl o (moves_counted counts o a);
}

pub are_all : (first : List ℕ) (all : List (List ℕ)) → AreNumbered first all → AreAll first (reverse all)
are_all first all h = record {
  sound = all_among (AreAlike first) (reverse all) (λ q a. h.sound q (among_reverse q all a));
  falling = reverse_falls all h.rising;
  complete = λ o a. reverse_among o all (h.complete o a);
}

never_below : (o : List ℕ) → IsBelow o o → ⊥
never_below [] h = h
never_below (x ∷ o) (inl h) = omega arith
never_below (x ∷ o) (inr h) = never_below o h.1

below_both : (a b : List ℕ) → IsBelow a b → IsBelow b a → ⊥
below_both [] [] h g = h
below_both (x ∷ a) [] h g = h
below_both [] (y ∷ b) h g = g
below_both (x ∷ a) (y ∷ b) (inl h) (inl g) = omega arith
below_both (x ∷ a) (y ∷ b) (inl h) (inr g) = omega (arith, g.0)
below_both (x ∷ a) (y ∷ b) (inr h) (inl g) = omega (arith, h.0)
below_both (x ∷ a) (y ∷ b) (inr h) (inr g) = below_both a b h.1 g.1

pub get_among : (all : List (List ℕ)) (k : ℕ) (o : List ℕ) → slice_get all k ≡ Some o → IsAmong o all
get_among [] k o h = cc
get_among (q ∷ all) zero o h = let here : Some q ≡ Some o = h in inl (cc)
get_among (q ∷ all) (suc k) o h = inr (get_among all k o h)

-- the first order of the others
next_head : (order new : List ℕ) (qs : List (List ℕ)) → AreRising qs → ((r : List ℕ) → IsAmong r qs → IsBelow order r) → IsAmong new qs
    → ((q : List ℕ) → IsAmong q qs → IsBelow order q → IsBelow q new → ⊥) → slice_get qs 0 ≡ Some new
next_head order new [] f h a none = absurd a
next_head order new (r ∷ qs) f h (inl e) none = ap (λ (o : List ℕ). Some o) (sym e)
next_head order new (r ∷ qs) f h (inr a) none = absurd (none r (inl refl) (h r (inl refl)) (f.0 new a))

next_among : (all : List (List ℕ)) (k : ℕ) (order new : List ℕ) → AreRising all → slice_get all k ≡ Some order → IsAmong new all → IsBelow order new
    → ((q : List ℕ) → IsAmong q all → IsBelow order q → IsBelow q new → ⊥) → slice_get all (suc k) ≡ Some new
next_among [] k order new f at a b none = absurd a
next_among (q ∷ all) zero order new f at (inl e) b none =
    let here : Some q ≡ Some order = at in
    let same : q ≡ order = cc in
    absurd (never_below order (subst (IsBelow order) (e ∙ same) b))
next_among (q ∷ all) zero order new f at (inr a) b none =
    let here : Some q ≡ Some order = at in
    let same : q ≡ order = cc in
    next_head order new all f.1 (λ r c. subst (λ (o : List ℕ). IsBelow o r) same (f.0 r c)) a (λ r c. none r (inr c))
next_among (q ∷ all) (suc k) order new f at (inl e) b none =
    absurd (below_both q order (f.0 order (get_among all k order at)) (subst (IsBelow order) e b))
next_among (q ∷ all) (suc k) order new f at (inr a) b none = next_among all k order new f.1 at a b (λ r c. none r (inr c))

last_among_all : (all : List (List ℕ)) (k : ℕ) (order : List ℕ) → AreRising all → slice_get all k ≡ Some order → ((q : List ℕ) → IsAmong q all → IsBelow order q → ⊥) → length all ≡ suc k
last_among_all [] k order f at none = cc
last_among_all (q ∷ []) zero order f at none = refl
last_among_all (q ∷ r ∷ all) zero order f at none =
    let here : Some q ≡ Some order = at in
    let same : q ≡ order = cc in
    absurd (none r (inr (inl refl)) (subst (λ (o : List ℕ). IsBelow o r) same (f.0 r (inl refl))))
last_among_all (q ∷ all) (suc k) order f at none = omega (arith, last_among_all all k order f.1 at (λ r a. none r (inr a)))

alike_from : (first order q : List ℕ) → AreAlike first order → AreAlike first q → AreAlike order q
alike_from first order q a b = λ t. sym (a t) ∙ b t

pub next_number : (first : List ℕ) (all : List (List ℕ)) (k : ℕ) (order new : List ℕ) → AreNumbered first all → slice_get all k ≡ Some order → IsNext order new → slice_get all (k + 1) ≡ Some new
next_number first all k order new h at next =
    let mine : AreAlike first order = h.sound order (get_among all k order at) in
    subst (λ (n : ℕ). slice_get all n ≡ Some new) (omega arith)
    (next_among all k order new h.rising at (h.complete new (λ t. mine t ∙ next.alike t)) next.behind
    (λ q a b c. next.first q (alike_from first order q mine (h.sound q a)) b c))

pub last_number : (first : List ℕ) (all : List (List ℕ)) (k : ℕ) (order : List ℕ) → AreNumbered first all → slice_get all k ≡ Some order → IsLast order → length all ≡ k + 1
last_number first all k order h at last =
    let mine : AreAlike first order = h.sound order (get_among all k order at) in
    omega (arith, last_among_all all k order h.rising at (λ q a b. last.none q (alike_from first order q mine (h.sound q a)) b))

get_front : (xs ys : List (List ℕ)) (k : ℕ) (o : List ℕ) → slice_get xs k ≡ Some o → slice_get (xs ++ ys) k ≡ Some o
get_front [] ys k o h = cc
get_front (x ∷ xs) ys zero o h = h
get_front (x ∷ xs) ys (suc k) o h = get_front xs ys k o h

get_back : (xs ys : List (List ℕ)) (k m : ℕ) (o : List ℕ) → m ≡ length xs + k → slice_get ys k ≡ Some o → slice_get (xs ++ ys) m ≡ Some o
get_back [] ys k m o e h = subst (λ (n : ℕ). slice_get ys n ≡ Some o) (omega arith) h
get_back (x ∷ xs) ys k zero o e h = absurd (omega arith)
get_back (x ∷ xs) ys k (suc m) o e h = get_back xs ys k m o (omega arith) h

get_headed : (t : ℕ) (qs : List (List ℕ)) (k : ℕ) (o : List ℕ) → slice_get qs k ≡ Some o → slice_get (headed t qs) k ≡ Some (t ∷ o)
get_headed t [] k o h = cc
get_headed t (q ∷ qs) zero o h = let here : Some q ≡ Some o = h in let same : q ≡ o = cc in ap (λ (l : List ℕ). Some (t ∷ l)) same
get_headed t (q ∷ qs) (suc k) o h = get_headed t qs k o h

get_at : (rest : List ℕ → List (List ℕ)) (counts : List ℕ) (place left k m : ℕ) (o : List ℕ) → slice_index counts place ≡ suc left → m ≡ length (begun_below rest counts place) + k
    → slice_get (rest (slice_set counts place left)) k ≡ Some o → slice_get (begun_below rest counts (suc place)) m ≡ Some (suc place ∷ o)
get_at rest counts place left k m o h e at =
    get_back (begun_below rest counts place) (begun_by rest counts place (slice_index counts place)) k m (suc place ∷ o) e
    (subst (λ (c : ℕ). slice_get (begun_by rest counts place c) k ≡ Some (suc place ∷ o)) (sym h)
    (get_headed (suc place) (rest (slice_set counts place left)) k o at))

same_most : (rest : List ℕ → List (List ℕ)) (counts : List ℕ) (fewer most m : ℕ) (o : List ℕ) → fewer ≡ most → slice_get (begun_below rest counts fewer) m ≡ Some o
    → slice_get (begun_below rest counts most) m ≡ Some o
same_most rest counts fewer most m o e h = subst (λ (k : ℕ). slice_get (begun_below rest counts k) m ≡ Some o) e h

get_within : (rest : List ℕ → List (List ℕ)) (counts : List ℕ) (fewer most m : ℕ) (o : List ℕ) → fewer ≤ most → slice_get (begun_below rest counts fewer) m ≡ Some o
    → slice_get (begun_below rest counts most) m ≡ Some o
get_within rest counts fewer zero m o low h = same_most rest counts fewer zero m o (omega arith) h
get_within rest counts fewer (suc most) m o low h = elim (same_or_not fewer (suc most)) [
  | inl e ↦ same_most rest counts fewer (suc most) m o e h
  | inr n ↦ get_front (begun_below rest counts most) (begun_by rest counts most (slice_index counts most)) m o (get_within rest counts fewer most m o (omega (arith, n)) h)
]

-- the number of an order, from that of the order without its first move
pub begun_number : (n : ℕ) (counts : List ℕ) (place left k m : ℕ) (o : List ℕ) → slice_index counts place ≡ suc left → m ≡ length (begun_below (orders_of n) counts place) + k
    → slice_get (orders_of n (slice_set counts place left)) k ≡ Some o → slice_get (orders_of (suc n) counts) m ≡ Some (suc place ∷ o)
begun_number n counts place left k m o h e at =
    get_within (orders_of n) counts (suc place) (length counts) m (suc place ∷ o) (omega (arith, place_within counts place left h))
    (get_at (orders_of n) counts place left k m o h e at)
