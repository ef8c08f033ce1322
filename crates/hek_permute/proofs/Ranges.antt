-- A part of the orders, played one after another.
use Rattle.std.proofs.Common.{◌≡◌, ℕ, suc, zero, ◌+◌, ◌-◌, ◌<◌, ◌≤◌, Bool, true, false, List, [], ◌∷◌, length, reverse, take, Some, refl, ap, sym, subst, ◌∙◌, inl, inr, arith}
use Rattle.std.specs.Prelude.{◌⊎◌, min, slice_get}
use Rattle.std.proofs.lemmas.List.{length-reverse, length-take-le, reverse-append, take_all}
use Rattle.std.proofs.lemmas.Option.{slice_get_within}
use Rattle.std.proofs.lemmas.Bool.Decides.{nat_tests}
use Rattle.hek_rules.specs.Plan.{Plan}
use Rattle.hek_program.specs.declared.rule.Rule.{Rule}
use Rattle.hek_rules.proofs.TakeLemmas.{take_push}
use Rattle.hek_permute.specs.declared.moves.Form.{Form}
use Rattle.hek_permute.specs.Found.{Line}
use Rattle.hek_permute.specs.Moves.{Work, AreMoves, counts_of}
use Rattle.hek_permute.specs.Numbers.{all_orders, order_total}
use Rattle.hek_permute.specs.Orders.{IsNext, IsLast}
use Rattle.hek_permute.specs.Tallies.{Goes, IsTally, is_between, total}
use Rattle.hek_permute.specs.Wholes.{IsWhole, first_in}
use Rattle.hek_permute.proofs.Numbered.{numbered, are_all, next_number, last_number}
use Rattle.hek_permute.proofs.Totals.{noted_total}

abbrev orders_in : Form → List Work → List (List ℕ)
orders_in form works = all_orders (counts_of form works)

before_part : (from to n : ℕ) → n < from → is_between from to n ≡ false
before_part from to n h = grind (arith, nat_tests)

after_part : (from to n : ℕ) → to ≤ n → is_between from to n ≡ false
after_part from to n h = grind (arith, nat_tests)

in_part : (from to n : ℕ) → from ≤ n → n < to → is_between from to n ≡ true
in_part from to n h g = grind (arith, nat_tests)

there_or_over : (all : List (List ℕ)) (k : ℕ) → ((o : List ℕ) × (slice_get all k ≡ Some o)) ⊎ (length all ≤ k)
there_or_over [] k = inr (omega arith)
there_or_over (q ∷ all) zero = inl (q, refl)
there_or_over (q ∷ all) (suc k) = elim (there_or_over all k) [ inl at ↦ inl at | inr over ↦ inr (omega arith) ]

-- the orders before the next one, the last first
one_more_past : (all : List (List ℕ)) (k : ℕ) (o : List ℕ) → slice_get all k ≡ Some o → reverse (take (k + 1) all) ≡ o ∷ reverse (take k all)
one_more_past all k o at = ap (λ (qs : List (List ℕ)). reverse qs) (take_push all k o at) ∙ reverse-append (take k all) (o ∷ [])

past_number : (all : List (List ℕ)) (k : ℕ) → k ≤ length all → length (reverse (take k all)) ≡ k
past_number all k h = length-reverse (take k all) ∙ length-take-le k all h

-- an order is played, or is not in the part
goes_on : (p : Plan) (form : Form) (works : List Work) (from to : ℕ) (all : List (List ℕ)) (k : ℕ) (part : Bool) (order : List ℕ) (was rows : List Line) → slice_get all k ≡ Some order
    → is_between from to k ≡ part → IsTally p form works from to (reverse (take k all)) was → Goes p form works part order was rows → IsTally p form works from to (reverse (take (k + 1) all)) rows
goes_on p form works from to all k part order was rows at is h g =
    let low : k < length all = slice_get_within all k order at in
    let number : length (reverse (take k all)) ≡ k = past_number all k (omega arith) in
    let goes : Goes p form works (is_between from to (length (reverse (take k all)))) order was rows =
    subst (λ (n : ℕ). Goes p form works (is_between from to n) order was rows) (sym number) (subst (λ (b : Bool). Goes p form works b order was rows) (sym is) g) in
    let tally : IsTally p form works from to (order ∷ reverse (take k all)) rows = (was, h, goes) in
    subst (λ (past : List (List ℕ)). IsTally p form works from to past rows) (sym (one_more_past all k order at)) tally

skips_one : (p : Plan) (form : Form) (works : List Work) (from to : ℕ) (all : List (List ℕ)) (k : ℕ) (rows : List Line) → is_between from to k ≡ false
    → IsTally p form works from to (reverse (take k all)) rows → IsTally p form works from to (reverse (take (k + 1) all)) rows
skips_one p form works from to all k rows is h = elim (there_or_over all k) [
  | inl at ↦ goes_on p form works from to all k false at.0 rows rows at.1 is h refl
  | inr over ↦ subst (λ (qs : List (List ℕ)). IsTally p form works from to (reverse qs) rows) (take_all k all over ∙ sym (take_all (k + 1) all (omega arith))) h
]

skips : (p : Plan) (form : Form) (works : List Work) (from to : ℕ) (all : List (List ℕ)) (k more : ℕ) (rows : List Line) → ((i : ℕ) → k ≤ i → i < k + more → is_between from to i ≡ false)
    → IsTally p form works from to (reverse (take k all)) rows → IsTally p form works from to (reverse (take (k + more) all)) rows
skips p form works from to all k zero rows none h =
    let same : k ≡ k + 0 = omega arith in
    subst (λ (n : ℕ). IsTally p form works from to (reverse (take n all)) rows) same h
skips p form works from to all k (suc more) rows none h =
    let same : (k + more) + 1 ≡ k + suc more = omega arith in
    subst (λ (n : ℕ). IsTally p form works from to (reverse (take n all)) rows) same
    (skips_one p form works from to all (k + more) rows (none (k + more) (omega arith) (omega arith))
    (skips p form works from to all k more rows (λ i low up. none i low (omega arith)) h))

-- none of the orders from a number on is in the part
skips_rest : (p : Plan) (form : Form) (works : List Work) (from to : ℕ) (all : List (List ℕ)) (k : ℕ) (rows : List Line) → ((i : ℕ) → k ≤ i → i < k + length all → is_between from to i ≡ false)
    → IsTally p form works from to (reverse (take k all)) rows → IsTally p form works from to (reverse all) rows
skips_rest p form works from to all k rows none h =
    let rest : IsTally p form works from to (reverse (take (k + length all) all)) rows = skips p form works from to all k (length all) rows none h in
    subst (λ (qs : List (List ℕ)). IsTally p form works from to (reverse qs) rows) (take_all (k + length all) all (omega arith)) rest

-- nothing is noted before the part
skips_first : (p : Plan) (form : Form) (works : List Work) (from to : ℕ) (all : List (List ℕ)) (k : ℕ) (rows : List Line) → k ≤ from → rows ≡ [] → IsTally p form works from to (reverse (take k all)) rows
skips_first p form works from to all k rows low none =
    let start : IsTally p form works from to (reverse (take 0 all)) rows = none in
    let same : 0 + k ≡ k = omega arith in
    subst (λ (n : ℕ). IsTally p form works from to (reverse (take n all)) rows) same
    (skips p form works from to all 0 k rows (λ i from_0 up. before_part from to i (omega arith)) start)

-- the order with the number comes next, and those of the part before it are noted
pub record IsSoFar (p : Plan) (rules : List Rule) (form : Form) (from to number : ℕ) (moves : List Work) (order : List ℕ) (rows : List Line) : Type 0 where
  pub are : AreMoves p rules moves
  pub from_on : from ≤ number
  pub at : slice_get (all_orders (counts_of form moves)) number ≡ Some order
  pub tally : IsTally p form moves from to (reverse (take number (all_orders (counts_of form moves)))) rows
  pub total : total rows ≡ min to number - from

pub at_start : (p : Plan) (rules : List Rule) (form : Form) (from to : ℕ) (moves slice : List Work) (order : List ℕ) (rows : List Line) → AreMoves p rules moves → slice ≡ moves
    → slice_get (all_orders (counts_of form slice)) from ≡ Some order → rows ≡ [] → IsSoFar p rules form from to from moves order rows
at_start p rules form from to moves slice order rows are same at none = record {
  are = are;
  from_on = omega arith;
  at = subst (λ (ws : List Work). slice_get (all_orders (counts_of form ws)) from ≡ Some order) same at;
  tally = skips_first p form moves from to (orders_in form moves) from rows (omega arith) none;
  total = ap total none ∙ omega arith;
}

-- what an order's play was given
pub played_with : (p : Plan) (form : Form) (works slice : List Work) (order given : List ℕ) (was rows : List Line) → slice ≡ works → given ≡ order
    → Goes p form slice true given was rows → Goes p form works true order was rows
played_with p form works slice order given was rows same is g =
    subst (λ (ws : List Work). Goes p form ws true order was rows) same (subst (λ (o : List ℕ). Goes p form slice true o was rows) is g)

played_tally : (p : Plan) (rules : List Rule) (form : Form) (from to number : ℕ) (moves : List Work) (order : List ℕ) (was rows : List Line) → IsSoFar p rules form from to number moves order was → number < to
    → Goes p form moves true order was rows → IsTally p form moves from to (reverse (take (number + 1) (orders_in form moves))) rows
played_tally p rules form from to number moves order was rows h low g =
    goes_on p form moves from to (orders_in form moves) number true order was rows h.at (in_part from to number h.from_on low) h.tally g

pub at_next : (p : Plan) (rules : List Rule) (form : Form) (from to number : ℕ) (moves : List Work) (order new : List ℕ) (was rows : List Line) → IsSoFar p rules form from to number moves order was → number < to
    → Goes p form moves true order was rows → IsNext order new → IsSoFar p rules form from to (number + 1) moves new rows
at_next p rules form from to number moves order new was rows h low g next = record {
  are = h.are;
  from_on = omega (arith, h.from_on);
  at = next_number (first_in form moves) (orders_in form moves) number order new (numbered (counts_of form moves)) h.at next;
  tally = played_tally p rules form from to number moves order was rows h low g;
  total = omega (arith, noted_total was rows g.0 order g.2, h.total, h.from_on);
}

whole_of : (p : Plan) (rules : List Rule) (form : Form) (from to : ℕ) (moves : List Work) (rows : List Line) → AreMoves p rules moves → IsTally p form moves from to (reverse (orders_in form moves)) rows
    → total rows ≡ min to (order_total (counts_of form moves)) - from → IsWhole p rules form from to rows
whole_of p rules form from to moves rows are tally count =
    let many : length (reverse (orders_in form moves)) ≡ order_total (counts_of form moves) = length-reverse (orders_in form moves) in
    record {
      moves = moves;
      are = are;
      orders = reverse (orders_in form moves);
      all = are_all (first_in form moves) (orders_in form moves) (numbered (counts_of form moves));
      tally = tally;
      count = omega (arith, count, many);
    }

pub at_last : (p : Plan) (rules : List Rule) (form : Form) (from to number : ℕ) (moves : List Work) (order : List ℕ) (was rows : List Line) → IsSoFar p rules form from to number moves order was → number < to
    → Goes p form moves true order was rows → IsLast order → IsWhole p rules form from to rows
at_last p rules form from to number moves order was rows h low g last =
    let many : length (orders_in form moves) ≡ number + 1 = last_number (first_in form moves) (orders_in form moves) number order (numbered (counts_of form moves)) h.at last in
    let all : take (number + 1) (orders_in form moves) ≡ orders_in form moves = take_all (number + 1) (orders_in form moves) (omega arith) in
    whole_of p rules form from to moves rows h.are
    (subst (λ (qs : List (List ℕ)). IsTally p form moves from to (reverse qs) rows) all (played_tally p rules form from to number moves order was rows h low g))
    (omega (arith, noted_total was rows g.0 order g.2, h.total, h.from_on))

pub at_end : (p : Plan) (rules : List Rule) (form : Form) (from to number : ℕ) (moves : List Work) (order : List ℕ) (rows : List Line) → IsSoFar p rules form from to number moves order rows → to ≤ number → IsWhole p rules form from to rows
at_end p rules form from to number moves order rows h over =
    whole_of p rules form from to moves rows h.are
    (skips_rest p form moves from to (orders_in form moves) number rows (λ i low up. after_part from to i (omega arith)) h.tally)
    (omega (arith, h.total, slice_get_within (orders_in form moves) number order h.at))

-- there is no order with the number of the first in the part
pub at_none : (p : Plan) (rules : List Rule) (form : Form) (from to : ℕ) (moves slice : List Work) (rows : List Line) → AreMoves p rules moves → slice ≡ moves → order_total (counts_of form slice) ≤ from → rows ≡ []
    → IsWhole p rules form from to rows
at_none p rules form from to moves slice rows are same few none =
    let many : length (orders_in form moves) ≡ order_total (counts_of form slice) = ap (λ (ws : List Work). order_total (counts_of form ws)) (sym same) in
    let tally : IsTally p form moves from to (reverse (take (length (orders_in form moves)) (orders_in form moves))) rows =
    skips_first p form moves from to (orders_in form moves) (length (orders_in form moves)) rows (omega arith) none in
    whole_of p rules form from to moves rows are
    (subst (λ (qs : List (List ℕ)). IsTally p form moves from to (reverse qs) rows) (take_all (length (orders_in form moves)) (orders_in form moves) (omega arith)) tally)
    (ap total none ∙ omega arith)
