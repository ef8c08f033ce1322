-- How many orders there are: the share of those that begin with a move of one transaction.
use Rattle.std.proofs.Common.{◌≡◌, ℕ, suc, zero, ◌+◌, ◌*◌, ◌/◌, ◌<◌, ◌≤◌, List, [], ◌∷◌, length, sum, refl, ap, sym, ◌∙◌, inl, inr, arith}
use Rattle.std.specs.Prelude.{slice_index, slice_set}
use Rattle.std.proofs.Math.Nat.{mul-div_cancel}
use Rattle.std.proofs.lemmas.List.{get_or-set_other, length-append, length-map}
use Rattle.hek_permute.specs.Numbers.{begun_by, begun_below, orders_of, order_total}
use Rattle.hek_permute.proofs.Successors.{same_or_not}
use Rattle.hek_permute.proofs.Begun.{sum_cons, sum_less, none_at}

abbrev pub ways : ℕ → List ℕ → ℕ
ways n counts = length (orders_of n counts)

-- how many orders begin with a move of the transaction at a place
abbrev pub share : ℕ → List ℕ → ℕ → ℕ
share n counts place = length (begun_by (orders_of n) counts place (slice_index counts place))

pub share_none : (n : ℕ) (counts : List ℕ) (place left : ℕ) → left ≡ 0 → length (begun_by (orders_of n) counts place left) ≡ 0
share_none n counts place zero e = refl
share_none n counts place (suc left) e = absurd (omega arith)

pub share_some : (n : ℕ) (counts : List ℕ) (place left : ℕ) → slice_index counts place ≡ suc left → share n counts place ≡ ways n (slice_set counts place left)
share_some n counts place left h =
    ap (λ (c : ℕ). length (begun_by (orders_of n) counts place c)) h ∙ length-map (orders_of n (slice_set counts place left)) (λ (o : List ℕ). suc place ∷ o)

set_twice : (counts : List ℕ) (i j a b : ℕ) → (i ≡ j → ⊥) → slice_set (slice_set counts i a) j b ≡ slice_set (slice_set counts j b) i a
set_twice [] i j a b n = refl
set_twice (c ∷ counts) zero zero a b n = absurd (n refl)
set_twice (c ∷ counts) zero (suc j) a b n = refl
set_twice (c ∷ counts) (suc i) zero a b n = refl
set_twice (c ∷ counts) (suc i) (suc j) a b n = ap (λ (cs : List ℕ). c ∷ cs) (set_twice counts i j a b (λ e. n (ap suc e)))

-- the law: of n + 1 moves, the orders that begin with a move of one transaction are as many of all as its moves are
abbrev pub IsFair : ℕ → Type 0
IsFair n = (counts : List ℕ) (place : ℕ) → sum counts ≡ suc n → share n counts place * suc n ≡ ways (suc n) counts * slice_index counts place

-- two transactions
abbrev pub ArePaired : ℕ → List ℕ → Type 0
ArePaired n counts = (i j : ℕ) → share n counts i * slice_index counts j ≡ share n counts j * slice_index counts i

-- the first move of one and then of the other
both : (n : ℕ) (counts : List ℕ) (i j a b : ℕ) → IsFair n → sum counts ≡ suc (suc n) → slice_index counts i ≡ suc a → slice_index counts j ≡ suc b → (i ≡ j → ⊥)
    → ways n (slice_set (slice_set counts i a) j b) * suc n ≡ share (suc n) counts i * slice_index counts j
both n counts i j a b fair e h g other =
    let there : slice_index (slice_set counts i a) j ≡ slice_index counts j = get_or-set_other counts i j a 0 (λ s. other (sym s)) in
    let less : sum (slice_set counts i a) ≡ suc n = omega (arith, sum_less counts i a h) in
    let law : share n (slice_set counts i a) j * suc n ≡ ways (suc n) (slice_set counts i a) * slice_index (slice_set counts i a) j = fair (slice_set counts i a) j less in
    let left : share n (slice_set counts i a) j ≡ ways n (slice_set (slice_set counts i a) j b) = share_some n (slice_set counts i a) j b (there ∙ g) in
    let right : share (suc n) counts i ≡ ways (suc n) (slice_set counts i a) = share_some (suc n) counts i a h in
    ap (λ (w : ℕ). w * suc n) (sym left) ∙ law ∙ ap (λ (c : ℕ). ways (suc n) (slice_set counts i a) * c) there ∙ ap (λ (w : ℕ). w * slice_index counts j) (sym right)

paired_others : (n : ℕ) (counts : List ℕ) (i j a b : ℕ) → IsFair n → sum counts ≡ suc (suc n) → slice_index counts i ≡ suc a → slice_index counts j ≡ suc b → (i ≡ j → ⊥)
    → share (suc n) counts i * slice_index counts j ≡ share (suc n) counts j * slice_index counts i
paired_others n counts i j a b fair e h g other =
    sym (both n counts i j a b fair e h g other)
    ∙ ap (λ (cs : List ℕ). ways n cs * suc n) (set_twice counts i j a b other)
    ∙ both n counts j i b a fair e g h (λ s. other (sym s))

no_share : (n : ℕ) (counts : List ℕ) (i j : ℕ) → slice_index counts i ≡ 0 → share n counts i * slice_index counts j ≡ share n counts j * slice_index counts i
no_share n counts i j h =
    ap (λ (w : ℕ). w * slice_index counts j) (share_none n counts i (slice_index counts i) h)
    ∙ omega arith
    ∙ ap (λ (c : ℕ). share n counts j * c) (sym h)

paired_at : (n : ℕ) (counts : List ℕ) (i j c d : ℕ) → sum counts ≡ suc n → slice_index counts i ≡ c → slice_index counts j ≡ d → (i ≡ j → ⊥)
    → ((a b : ℕ) → c ≡ suc a → d ≡ suc b → share n counts i * slice_index counts j ≡ share n counts j * slice_index counts i)
    → share n counts i * slice_index counts j ≡ share n counts j * slice_index counts i
paired_at n counts i j zero d e h g other both_left = no_share n counts i j h
paired_at n counts i j (suc a) zero e h g other both_left = sym (no_share n counts j i g)
paired_at n counts i j (suc a) (suc b) e h g other both_left = both_left a b refl refl

paired : (n : ℕ) (counts : List ℕ) → sum counts ≡ suc n
    → ((i j a b : ℕ) → slice_index counts i ≡ suc a → slice_index counts j ≡ suc b → (i ≡ j → ⊥) → share n counts i * slice_index counts j ≡ share n counts j * slice_index counts i)
    → ArePaired n counts
paired n counts e h i j = elim (same_or_not i j) [
  | inl s ↦ ap (λ (k : ℕ). share n counts i * slice_index counts k) (sym s) ∙ ap (λ (k : ℕ). share n counts k * slice_index counts i) s
  | inr other ↦ paired_at n counts i j (slice_index counts i) (slice_index counts j) e refl refl other (λ a b f g. h i j a b f g other)
]

-- no two transactions have a move each if there is one move
one_alone : (counts : List ℕ) (i j a b : ℕ) → sum counts ≡ 1 → slice_index counts i ≡ suc a → slice_index counts j ≡ suc b → (i ≡ j → ⊥) → ⊥
one_alone counts i j a b e h g other =
    let none : slice_index (slice_set counts i a) j ≡ 0 = none_at (slice_set counts i a) j (omega (arith, sum_less counts i a h)) in
    let there : slice_index (slice_set counts i a) j ≡ slice_index counts j = get_or-set_other counts i j a 0 (λ s. other (sym s)) in
    omega arith

-- the moves of the first transactions
abbrev sum_below : List ℕ → ℕ → ℕ
sum_below counts zero = 0
sum_below counts (suc most) = sum_below counts most + slice_index counts most

sum_below_cons : (c : ℕ) (counts : List ℕ) (most : ℕ) → sum_below (c ∷ counts) (suc most) ≡ c + sum_below counts most
sum_below_cons c counts zero = omega arith
sum_below_cons c counts (suc most) = omega (arith, sum_below_cons c counts most)

sum_all : (counts : List ℕ) → sum_below counts (length counts) ≡ sum counts
sum_all [] = refl
sum_all (c ∷ counts) = omega (arith, sum_below_cons c counts (length counts), sum_cons c counts, sum_all counts)

shares_below : (n : ℕ) (counts : List ℕ) (place most : ℕ) → ArePaired n counts
    → length (begun_below (orders_of n) counts most) * slice_index counts place ≡ share n counts place * sum_below counts most
shares_below n counts place zero pairs = omega arith
shares_below n counts place (suc most) pairs =
    let more : length (begun_below (orders_of n) counts (suc most)) ≡ length (begun_below (orders_of n) counts most) + share n counts most =
    length-append (begun_below (orders_of n) counts most) (begun_by (orders_of n) counts most (slice_index counts most)) in
    ap (λ (w : ℕ). w * slice_index counts place) more
    ∙ omega (arith, shares_below n counts place most pairs, pairs place most)

fair_from : (n : ℕ) (counts : List ℕ) (place : ℕ) → sum counts ≡ suc n → ArePaired n counts → share n counts place * suc n ≡ ways (suc n) counts * slice_index counts place
fair_from n counts place e pairs =
    ap (λ (k : ℕ). share n counts place * k) (sym (sum_all counts ∙ e)) ∙ sym (shares_below n counts place (length counts) pairs)

pub fair : (n : ℕ) → IsFair n
fair zero counts place e = fair_from zero counts place e (paired zero counts e (λ i j a b h g other. absurd (one_alone counts i j a b e h g other)))
fair (suc n) counts place e = fair_from (suc n) counts place e (paired (suc n) counts e (λ i j a b h g other. paired_others n counts i j a b (fair n) e h g other))

pub total_at : (counts : List ℕ) (n : ℕ) → sum counts ≡ n → order_total counts ≡ ways n counts
total_at counts n e = ap (λ (k : ℕ). ways k counts) e

pub share_is : (n : ℕ) (counts : List ℕ) (place orders moves : ℕ) → sum counts ≡ suc n → orders ≡ order_total counts → moves ≡ suc n
    → orders * slice_index counts place / moves ≡ share n counts place
share_is n counts place orders moves e o m =
    ap (λ (w : ℕ). w * slice_index counts place / moves) (o ∙ total_at counts (suc n) e)
    ∙ ap (λ (k : ℕ). ways (suc n) counts * slice_index counts place / k) m
    ∙ ap (λ (k : ℕ). k / suc n) (sym (fair n counts place e))
    ∙ mul-div_cancel (share n counts place) (omega arith)

pub share_below : (n : ℕ) (counts : List ℕ) (place most : ℕ) → place < most → share n counts place ≤ length (begun_below (orders_of n) counts most)
share_below n counts place zero h = absurd (omega arith)
share_below n counts place (suc most) h =
    let more : length (begun_below (orders_of n) counts (suc most)) ≡ length (begun_below (orders_of n) counts most) + share n counts most =
    length-append (begun_below (orders_of n) counts most) (begun_by (orders_of n) counts most (slice_index counts most)) in
    elim (same_or_not place most) [
      | inl e ↦ omega (arith, ap (share n counts) e)
      | inr other ↦ omega (arith, share_below n counts place most (omega (arith, other)))
    ]
