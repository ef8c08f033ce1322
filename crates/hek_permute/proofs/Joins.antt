-- The tallies of two parts of the orders, one right behind the other.
use Rattle.std.proofs.Common.{◌≡◌, ℕ, suc, zero, ◌+◌, ◌<◌, ◌≤◌, Bool, true, false, List, [], ◌∷◌, length, refl, ap, sym, subst, ◌∙◌, inl, inr, Some, arith}
use Rattle.std.specs.Prelude.{◌⊎◌, ◌-◌, min, slice_get, Result, Ok, Err, IfOk}
use Rattle.std.specs.List.{AllByRecursion}
use Rattle.std.proofs.lemmas.Bool.Decides.{nat_tests}
use Rattle.hek_rules.specs.Plan.{Plan}
use Rattle.hek_program.specs.declared.rule.Rule.{Rule}
use Rattle.hek_permute.specs.declared.moves.Form.{Form}
use Rattle.hek_permute.specs.Found.{Line}
use Rattle.hek_permute.specs.Moves.{Work, AreMoves}
use Rattle.hek_permute.specs.Orders.{IsBelow, AreAlike, IsAmong, AreFalling, AreAll}
use Rattle.hek_permute.specs.Tallies.{Goes, IsTally, is_between, one_if, row_of, total}
use Rattle.hek_permute.specs.Sums.{AreAdded}
use Rattle.hek_permute.specs.Wholes.{IsWhole, first_in}
use Rattle.hek_permute.proofs.Totals.{noted_total, next_total, none_yet}
use Rattle.hek_permute.proofs.Sums.{added_later, noted_row, row_noted}
use Rattle.hek_permute.proofs.Walks.{below_trans, compared}

skips : (p : Plan) (form : Form) (works : List Work) (part : Bool) (order : List ℕ) (was rows : List Line) → part ≡ false → Goes p form works part order was rows → rows ≡ was
skips p form works part order was rows is g = subst (λ (b : Bool). Goes p form works b order was rows) is g

not_before : (from to n : ℕ) → n < from → is_between from to n ≡ false
not_before from to n h = grind (arith, nat_tests)

not_behind : (from to n : ℕ) → to ≤ n → is_between from to n ≡ false
not_behind from to n h = grind (arith, nat_tests)

in_first : (from mid to n : ℕ) → mid ≤ to → n < mid → is_between from mid n ≡ is_between from to n
in_first from mid to n h low = grind (arith, nat_tests)

in_second : (from mid to n : ℕ) → from ≤ mid → mid ≤ n → is_between mid to n ≡ is_between from to n
in_second from mid to n h high = grind (arith, nat_tests)

less_or_not : (a b : ℕ) → (a < b) ⊎ (b ≤ a)
less_or_not zero zero = inr (omega arith)
less_or_not zero (suc b) = inl (omega arith)
less_or_not (suc a) zero = inr (omega arith)
less_or_not (suc a) (suc b) = elim (less_or_not a b) [ inl h ↦ inl (omega arith) | inr h ↦ inr (omega arith) ]

-- a part that begins behind these orders has no row of them
none_before : (p : Plan) (form : Form) (works : List Work) (from to : ℕ) (orders : List (List ℕ)) (rows : List Line) → length orders ≤ from → IsTally p form works from to orders rows → rows ≡ []
none_before p form works from to [] rows h t = t
none_before p form works from to (order ∷ past) rows h t =
    skips p form works (is_between from to (length past)) order t.0 rows (not_before from to (length past) (omega arith)) t.2
    ∙ none_before p form works from to past t.0 (omega arith) t.1

-- an order that goes into the second tally goes into the sum
goes_added : (p : Plan) (form : Form) (works : List Work) (part : Bool) (order : List ℕ) (xs was ys zs : List Line) → Goes p form works part order was ys → AreAdded xs ys zs
    → (sum : List Line) × AreAdded xs was sum × Goes p form works part order sum zs
goes_added p form works true order xs was ys zs g a =
    let t = added_later was xs (row_of g.0 order) ys zs (noted_row was ys g.0 order g.2) a in
    (t.0, t.1, (g.0, g.1, row_noted t.0 zs g.0 order t.2))
goes_added p form works false order xs was ys zs g a = (zs, subst (λ (l : List Line). AreAdded xs l zs) g a, refl)

abbrev Joins : Plan → Form → List Work → ℕ → ℕ → ℕ → List (List ℕ) → Type 0
Joins p form works from mid to orders =
    (xs ys zs : List Line) → IsTally p form works from mid orders xs → IsTally p form works mid to orders ys → AreAdded xs ys zs → IsTally p form works from to orders zs

joins_at : (p : Plan) (form : Form) (works : List Work) (from mid to : ℕ) (order : List ℕ) (past : List (List ℕ)) → from ≤ mid → mid ≤ to → Joins p form works from mid to past
    → (length past < mid) ⊎ (mid ≤ length past) → Joins p form works from mid to (order ∷ past)
joins_at p form works from mid to order past low high earlier (inl before) xs ys zs a b c =
    let n = length past in
    let none : b.0 ≡ [] = none_before p form works mid to past b.0 (omega arith) b.1 in
    let empty : ys ≡ [] = skips p form works (is_between mid to n) order b.0 ys (not_before mid to n before) b.2 ∙ none in
    let is : zs ≡ xs = subst (λ (l : List Line). AreAdded xs l zs) empty c in
    let goes : Goes p form works (is_between from to n) order a.0 xs = subst (λ (t : Bool). Goes p form works t order a.0 xs) (in_first from mid to n high before) a.2 in (
      a.0,
      earlier a.0 b.0 a.0 a.1 b.1 (subst (λ (l : List Line). AreAdded a.0 l a.0) (sym none) refl),
      subst (λ (l : List Line). Goes p form works (is_between from to n) order a.0 l) (sym is) goes,
    )
joins_at p form works from mid to order past low high earlier (inr behind) xs ys zs a b c =
    let n = length past in
    let kept : xs ≡ a.0 = skips p form works (is_between from mid n) order a.0 xs (not_behind from mid n behind) a.2 in
    let goes : Goes p form works (is_between from to n) order b.0 ys = subst (λ (t : Bool). Goes p form works t order b.0 ys) (in_second from mid to n low behind) b.2 in
    let s = goes_added p form works (is_between from to n) order a.0 b.0 ys zs goes (subst (λ (l : List Line). AreAdded l ys zs) kept c) in
    (s.0, earlier a.0 b.0 s.0 a.1 b.1 s.1, s.2)

-- the sum of two parts' tallies is the tally of both parts
pub tally_joined : (p : Plan) (form : Form) (works : List Work) (from mid to : ℕ) (orders : List (List ℕ)) → from ≤ mid → mid ≤ to → Joins p form works from mid to orders
tally_joined p form works from mid to [] low high xs ys zs a b c = let is : zs ≡ xs = subst (λ (l : List Line). AreAdded xs l zs) b c in is ∙ a
tally_joined p form works from mid to (order ∷ past) low high xs ys zs a b c =
    joins_at p form works from mid to order past low high (tally_joined p form works from mid to past low high) (less_or_not (length past) mid) xs ys zs a b c

goes_total : (p : Plan) (form : Form) (works : List Work) (part : Bool) (order : List ℕ) (was rows : List Line) → Goes p form works part order was rows → total rows ≡ total was + one_if part
goes_total p form works true order was rows g = noted_total was rows g.0 order g.2
goes_total p form works false order was rows g = omega (arith, ap total g)

one_longer : (order : List ℕ) (past : List (List ℕ)) → length past + 1 ≡ length (order ∷ past)
one_longer order past = omega arith

-- a tally counts each order of its part
pub tally_total : (p : Plan) (form : Form) (works : List Work) (from to : ℕ) (orders : List (List ℕ)) (rows : List Line) → IsTally p form works from to orders rows → total rows ≡ min to (length orders) - from
tally_total p form works from to [] rows t = ap total t ∙ none_yet from to
tally_total p form works from to (order ∷ past) rows t =
    next_total from to (length past) (total t.0) (total rows) (tally_total p form works from to past t.0 t.1)
    (goes_total p form works (is_between from to (length past)) order t.0 rows t.2)
    ∙ ap (λ (n : ℕ). min to n - from) (one_longer order past)

-- two lists that have the same at each place
lists_agree : (xs ys : List Work) → length xs ≡ length ys → ((i : ℕ) (x y : Work) → slice_get xs i ≡ Some x → slice_get ys i ≡ Some y → x ≡ y) → xs ≡ ys
lists_agree [] [] long at = refl
lists_agree [] (y ∷ ys) long at = absurd (omega arith)
lists_agree (x ∷ xs) [] long at = absurd (omega arith)
lists_agree (x ∷ xs) (y ∷ ys) long at =
    let head : x ≡ y = at 0 x y refl refl in
    let tail : xs ≡ ys = lists_agree xs ys (omega arith) (λ i u v here there. at (suc i) u v here there) in
    cc

moves_agree : (p : Plan) (rules : List Rule) (xs ys : List Work) → AreMoves p rules xs → AreMoves p rules ys → xs ≡ ys
moves_agree p rules xs ys h g = lists_agree xs ys (h.count ∙ sym g.count) (λ i x y here there. h.each i x here ∙ sym (g.each i y there))

not_below_self : (a : List ℕ) → IsBelow a a → ⊥
not_below_self [] h = h
not_below_self (x ∷ a) (inl h) = omega arith
not_below_self (x ∷ a) (inr h) = not_below_self a h.1

of_among : (P : List ℕ → Type 0) (o : List ℕ) (orders : List (List ℕ)) → AllByRecursion P orders → IsAmong o orders → P o
of_among P o [] all h = absurd h
of_among P o (q ∷ qs) all (inl is) = subst P (sym is) all.0
of_among P o (q ∷ qs) all (inr h) = of_among P o qs all.1 h

-- all orders of the one list are in the other
abbrev AreWithin : List (List ℕ) → List (List ℕ) → Type 0
AreWithin xs ys = (o : List ℕ) → IsAmong o xs → IsAmong o ys

-- the greatest order of a list is not below another one of it
not_above : (x y : List ℕ) (xs : List (List ℕ)) → AllByRecursion (λ (o : List ℕ). IsBelow o x) xs → IsAmong y (x ∷ xs) → IsBelow x y → ⊥
not_above x y xs below (inl is) h = not_below_self x (subst (λ (o : List ℕ). IsBelow x o) is h)
not_above x y xs below (inr at) h = not_below_self x (below_trans x y x h (of_among (λ (o : List ℕ). IsBelow o x) y xs below at))

heads_agree : (x y : List ℕ) (xs ys : List (List ℕ)) → AllByRecursion (λ (o : List ℕ). IsBelow o x) xs → AllByRecursion (λ (o : List ℕ). IsBelow o y) ys
    → IsAmong y (x ∷ xs) → IsAmong x (y ∷ ys) → IsBelow x y ⊎ ((x ≡ y) ⊎ IsBelow y x) → x ≡ y
heads_agree x y xs ys f g there here (inl h) = absurd (not_above x y xs f there h)
heads_agree x y xs ys f g there here (inr (inl e)) = e
heads_agree x y xs ys f g there here (inr (inr h)) = absurd (not_above y x ys g here h)

in_tail : (o y : List ℕ) (ys : List (List ℕ)) → IsBelow o y → IsAmong o (y ∷ ys) → IsAmong o ys
in_tail o y ys h (inl is) = absurd (not_below_self o (subst (λ (q : List ℕ). IsBelow o q) (sym is) h))
in_tail o y ys h (inr at) = at

tail_within : (x y : List ℕ) (xs ys : List (List ℕ)) → x ≡ y → AllByRecursion (λ (o : List ℕ). IsBelow o x) xs → AreWithin (x ∷ xs) (y ∷ ys) → AreWithin xs ys
tail_within x y xs ys is below within = λ o at. in_tail o y ys (subst (λ (q : List ℕ). IsBelow o q) is (of_among (λ (q : List ℕ). IsBelow q x) o xs below at)) (within o (inr at))

orders_agree : (xs ys : List (List ℕ)) → AreFalling xs → AreFalling ys → AreWithin xs ys → AreWithin ys xs → xs ≡ ys
orders_agree [] [] f g there here = refl
orders_agree [] (y ∷ ys) f g there here = absurd (here y (inl refl))
orders_agree (x ∷ xs) [] f g there here = absurd (there x (inl refl))
orders_agree (x ∷ xs) (y ∷ ys) f g there here =
    let head : x ≡ y = heads_agree x y xs ys f.0 g.0 (here y (inl refl)) (there x (inl refl)) (compared x y) in
    let tail : xs ≡ ys = orders_agree xs ys f.1 g.1 (tail_within x y xs ys head f.0 there) (tail_within y x ys xs (sym head) g.0 here) in
    cc

all_agree : (first : List ℕ) (xs ys : List (List ℕ)) → AreAll first xs → AreAll first ys → xs ≡ ys
all_agree first xs ys h g =
    orders_agree xs ys h.falling g.falling (λ o at. g.complete o (of_among (AreAlike first) o xs h.sound at)) (λ o at. h.complete o (of_among (AreAlike first) o ys g.sound at))

-- two parts of the orders, one right behind the other, and the sum of their tallies
pub whole_joined : (p : Plan) (rules : List Rule) (form : Form) (from mid to : ℕ) (xs ys zs : List Line) → from ≤ mid → mid ≤ to
    → IsWhole p rules form from mid xs → IsWhole p rules form mid to ys → AreAdded xs ys zs → IsWhole p rules form from to zs
whole_joined p rules form from mid to xs ys zs low high a b c =
    let same_moves : b.moves ≡ a.moves = moves_agree p rules b.moves a.moves b.are a.are in
    let also : AreAll (first_in form a.moves) b.orders = subst (λ (ws : List Work). AreAll (first_in form ws) b.orders) same_moves b.all in
    let same_orders : b.orders ≡ a.orders = all_agree (first_in form a.moves) b.orders a.orders also a.all in
    let second : IsTally p form a.moves mid to a.orders ys =
    subst (λ (os : List (List ℕ)). IsTally p form a.moves mid to os ys) same_orders (subst (λ (ws : List Work). IsTally p form ws mid to b.orders ys) same_moves b.tally) in
    let tally : IsTally p form a.moves from to a.orders zs = tally_joined p form a.moves from mid to a.orders low high xs ys zs a.tally second c in
    record { moves = a.moves; are = a.are; orders = a.orders; all = a.all; tally = tally; count = tally_total p form a.moves from to a.orders zs tally }

pub sum_whole : {E : Type 0} (sum : Result (List Line) E) (p : Plan) (rules : List Rule) (form : Form) (from mid to : ℕ) (xs ys : List Line) → from ≤ mid → mid ≤ to
    → IsWhole p rules form from mid xs → IsWhole p rules form mid to ys → IfOk sum (AreAdded xs ys) → IfOk sum (IsWhole p rules form from to)
sum_whole (Ok zs) p rules form from mid to xs ys low high a b c = whole_joined p rules form from mid to xs ys zs low high a b c
sum_whole (Err e) p rules form from mid to xs ys low high a b c = tt
