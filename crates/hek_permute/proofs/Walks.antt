-- All orders of a schedule's moves, played one after another.
use Rattle.std.proofs.Common.{◌≡◌, ℕ, suc, zero, ◌+◌, ◌<◌, ◌≤◌, List, [], ◌∷◌, ◌++◌, length, refl, ap, sym, subst, ◌∙◌, inl, inr, arith, replicate}
use Rattle.std.specs.Prelude.{◌⊎◌, slice_index}
use Rattle.std.specs.List.{AllByRecursion}
use Rattle.hek_permute.specs.Moves.{first_order_from}
use Rattle.hek_permute.specs.Orders.{IsBelow, AreAlike, IsNext, IsLast, IsAmong, AreFalling, AreAll}
use Rattle.hek_permute.proofs.Successors.{least}

pub below_trans : (a b c : List ℕ) → IsBelow a b → IsBelow b c → IsBelow a c
below_trans [] [] c h g = absurd h
below_trans (x ∷ a) [] c h g = absurd h
below_trans [] (y ∷ b) [] h g = g
below_trans [] (y ∷ b) (z ∷ c) h g = tt
below_trans (x ∷ a) (y ∷ b) [] h g = g
below_trans (x ∷ a) (y ∷ b) (z ∷ c) (inl h) (inl g) = inl (omega arith)
below_trans (x ∷ a) (y ∷ b) (z ∷ c) (inl h) (inr g) = inl (omega (arith, g.0))
below_trans (x ∷ a) (y ∷ b) (z ∷ c) (inr h) (inl g) = inl (omega (arith, h.0))
below_trans (x ∷ a) (y ∷ b) (z ∷ c) (inr h) (inr g) = inr (h.0 ∙ g.0, below_trans a b c h.1 g.1)

three : (x y : ℕ) → (x < y) ⊎ ((x ≡ y) ⊎ (y < x))
three zero zero = inr (inl refl)
three zero (suc y) = inl (omega arith)
three (suc x) zero = inr (inr (omega arith))
three (suc x) (suc y) = elim (three x y) [ inl h ↦ inl (omega arith) | inr m ↦ elim m [ inl e ↦ inr (inl (ap suc e)) | inr g ↦ inr (inr (omega arith)) ] ]

heads_meet : (x y : ℕ) (a b : List ℕ) → (x < y) ⊎ ((x ≡ y) ⊎ (y < x)) → IsBelow a b ⊎ ((a ≡ b) ⊎ IsBelow b a)
    → IsBelow (x ∷ a) (y ∷ b) ⊎ ((x ∷ a ≡ y ∷ b) ⊎ IsBelow (y ∷ b) (x ∷ a))
heads_meet x y a b (inl h) t = inl (inl h)
heads_meet x y a b (inr (inr g)) t = inr (inr (inl g))
heads_meet x y a b (inr (inl e)) (inl t) = inl (inr (e, t))
heads_meet x y a b (inr (inl e)) (inr (inl t)) = inr (inl (cc))
heads_meet x y a b (inr (inl e)) (inr (inr t)) = inr (inr (inr (sym e, t)))

pub compared : (a b : List ℕ) → IsBelow a b ⊎ ((a ≡ b) ⊎ IsBelow b a)
compared [] [] = inr (inl refl)
compared [] (y ∷ b) = inl tt
compared (x ∷ a) [] = inr (inr tt)
compared (x ∷ a) (y ∷ b) = heads_meet x y a b (three x y) (compared a b)

-- a list rises, from b on
abbrev pub RisesFrom : ℕ → List ℕ → Type 0
RisesFrom b [] = Unit {0}
RisesFrom b (x ∷ xs) = (b ≤ x) × RisesFrom x xs

rises_lower : (a b : ℕ) (xs : List ℕ) → a ≤ b → RisesFrom b xs → RisesFrom a xs
rises_lower a b [] h r = tt
rises_lower a b (x ∷ xs) h r = (omega (arith, r.0), r.1)

copies_rise : (n t : ℕ) (xs : List ℕ) → RisesFrom t xs → RisesFrom t (replicate n t ++ xs)
copies_rise zero t xs r = r
copies_rise (suc n) t xs r = (omega arith, copies_rise n t xs r)

first_rises : (t : ℕ) (ns : List ℕ) → RisesFrom t (first_order_from t ns)
first_rises t [] = tt
first_rises t (n ∷ ns) = copies_rise n t (first_order_from (t + 1) ns) (rises_lower t (t + 1) (first_order_from (t + 1) ns) (omega arith) (first_rises (t + 1) ns))

lowest : (b : ℕ) (xs : List ℕ) (k : ℕ) → RisesFrom b xs → k < length xs → b ≤ slice_index xs k
lowest b [] k r h = absurd (omega arith)
lowest b (x ∷ xs) zero r h = r.0
lowest b (x ∷ xs) (suc k) r h = omega (arith, r.0, lowest x xs k r.1 (omega arith))

rising : (b : ℕ) (xs : List ℕ) → RisesFrom b xs → (i k : ℕ) → i ≤ k → k < length xs → slice_index xs i ≤ slice_index xs k
rising b [] r i k low h = absurd (omega arith)
rising b (x ∷ xs) r zero zero low h = omega arith
rising b (x ∷ xs) r zero (suc k) low h = lowest x xs k r.1 (omega arith)
rising b (x ∷ xs) r (suc i) zero low h = absurd (omega arith)
rising b (x ∷ xs) r (suc i) (suc k) low h = rising x xs r.1 i k (omega arith) (omega arith)

pub none_below : (ns : List ℕ) (q : List ℕ) → AreAlike (first_order_from 1 ns) q → IsBelow q (first_order_from 1 ns) → ⊥
none_below ns q a b = least (first_order_from 1 ns) q (rising 1 (first_order_from 1 ns) (first_rises 1 ns)) a b

-- the orders before one, with the last first
pub record IsWalk (first order : List ℕ) (past : List (List ℕ)) : Type 0 where
  pub alike : AreAlike first order
  pub sound : AllByRecursion (AreAlike first) past
  pub below : AllByRecursion (λ (q : List ℕ). IsBelow q order) past
  pub falling : AreFalling past
  pub complete : (q : List ℕ) → AreAlike first q → IsBelow q order → IsAmong q past

pub walk-first : (ns order : List ℕ) → order ≡ first_order_from 1 ns → IsWalk (first_order_from 1 ns) order []
walk-first ns order is = record {
  alike = subst (AreAlike (first_order_from 1 ns)) (sym is) (λ t. refl);
  sound = tt;
  below = tt;
  falling = tt;
  complete = λ q a b. absurd (none_below ns q a (subst (IsBelow q) is b));
}

all_below : (old new : List ℕ) (past : List (List ℕ)) → IsBelow old new → AllByRecursion (λ (q : List ℕ). IsBelow q old) past → AllByRecursion (λ (q : List ℕ). IsBelow q new) past
all_below old new [] h all = tt
all_below old new (q ∷ past) h all = (below_trans q old new all.0 h, all_below old new past h all.1)

-- an order of the same moves that does not come after this one is this one or among those before it
here_or_before : (first order : List ℕ) (past : List (List ℕ)) (q : List ℕ) → ((q : List ℕ) → AreAlike first q → IsBelow q order → IsAmong q past) → AreAlike first q
    → (IsBelow order q → ⊥) → IsBelow q order ⊎ ((q ≡ order) ⊎ IsBelow order q) → IsAmong q (order ∷ past)
here_or_before first order past q all a not_behind (inl h) = inr (all q a h)
here_or_before first order past q all a not_behind (inr (inl e)) = inl e
here_or_before first order past q all a not_behind (inr (inr g)) = absurd (not_behind g)

alike_to : (first order q : List ℕ) → AreAlike first order → AreAlike first q → AreAlike order q
alike_to first order q a b = λ t. sym (a t) ∙ b t

pub walk-next : (first order new : List ℕ) (past : List (List ℕ)) → IsWalk first order past → IsNext order new → IsWalk first new (order ∷ past)
walk-next first order new past h next = record {
  alike = λ t. h.alike t ∙ next.alike t;
  sound = (h.alike, h.sound);
  below = (next.behind, all_below order new past next.behind h.below);
  falling = (h.below, h.falling);
  complete = λ q a b. here_or_before first order past q h.complete a (λ behind. next.first q (alike_to first order q h.alike a) behind b) (compared q order);
}

pub walk-last : (first order : List ℕ) (past : List (List ℕ)) → IsWalk first order past → IsLast order → AreAll first (order ∷ past)
walk-last first order past h last = record {
  sound = (h.alike, h.sound);
  falling = (h.below, h.falling);
  complete = λ q a. here_or_before first order past q h.complete a (λ behind. last.none q (alike_to first order q h.alike a) behind) (compared q order);
}
