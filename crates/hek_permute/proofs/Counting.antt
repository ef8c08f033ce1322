-- Counts of orders, and the order that has a number.
use Rattle.std.proofs.Common.{◌≡◌, ℕ, suc, zero, ◌+◌, ◌-◌, ◌*◌, ◌/◌, ◌<◌, ◌≤◌, List, [], ◌∷◌, ◌++◌, length, get_or, take, drop, sum, Some, ap, sym, subst, ◌∙◌, arith, append_assoc}
use Rattle.std.specs.Prelude.{slice_get, slice_index, slice_set}
use Rattle.std.proofs.Math.Nat.{mul-div_cancel}
use Rattle.std.proofs.lemmas.List.{length-append, append-nil}
use Rattle.std.proofs.lemmas.Grind.{get_or_default_zero}
use Rattle.hek_permute.specs.declared.moves.Form.{Form}
use Rattle.hek_permute.specs.Moves.{Work, counts_of, move_count}
use Rattle.hek_permute.specs.Numbers.{begun_by, begun_below, orders_of, all_orders, order_total, AreTooMany, IsCount, IsFirstMove}
use Rattle.hek_permute.proofs.Begun.{sum_cons, sum_less, place_within}
use Rattle.hek_permute.proofs.Ways.{share, share_none, share_some, share_is, total_at}
use Rattle.hek_permute.proofs.Numbered.{begun_number}
use Rattle.hek_permute.proofs.Growth.{one_more, sum_last, total_none, too_many_transactions}

pub orders_once_more : (before : List ℕ) (many moves next orders : ℕ) → IsCount (before ++ many ∷ []) moves orders → next ≡ moves + 1
    → orders * next / (many + 1) ≡ order_total (before ++ (many + 1) ∷ [])
orders_once_more before many moves next orders h e =
    let all : next ≡ suc (sum (before ++ many ∷ [])) = omega (arith, h.moves_are) in
    ap (λ (w : ℕ). w * next / (many + 1)) h.orders_are
    ∙ ap (λ (k : ℕ). order_total (before ++ many ∷ []) * k / (many + 1)) all
    ∙ ap (λ (k : ℕ). k / (many + 1)) (one_more before many (many + 1) (omega arith))
    ∙ mul-div_cancel (order_total (before ++ (many + 1) ∷ [])) (omega arith)

pub counted_once_more : (before : List ℕ) (many moves next orders : ℕ) → IsCount (before ++ many ∷ []) moves orders → next ≡ moves + 1
    → IsCount (before ++ (many + 1) ∷ []) next (orders * next / (many + 1))
counted_once_more before many moves next orders h e = record {
  moves_are = omega (arith, h.moves_are, sum_last before many, sum_last before (many + 1));
  orders_are = orders_once_more before many moves next orders h e;
}

pub counted_none : (before : List ℕ) (moves orders : ℕ) → IsCount before moves orders → IsCount (before ++ 0 ∷ []) moves orders
counted_none before moves orders h = record { moves_are = omega (arith, h.moves_are, sum_last before 0); orders_are = h.orders_are ∙ sym (total_none before) }

counts_whole : (form : Form) (works : List Work) (i : ℕ) (work : Work) → i < length works → work ≡ get_or works i work
    → counts_of form works ≡ (counts_of form (take i works) ++ move_count form work ∷ []) ++ counts_of form (drop (suc i) works)
counts_whole form [] i work low h = absurd (omega arith)
counts_whole form (w ∷ works) zero work low h = ap (λ (x : Work). move_count form x ∷ counts_of form works) (sym h)
counts_whole form (w ∷ works) (suc i) work low h = ap (λ (cs : List ℕ). move_count form w ∷ cs) (counts_whole form works i work (omega arith) h)

pub too_many_all : (form : Form) (works : List Work) (i : ℕ) (work : Work) → i < length works → work ≡ get_or works i work
    → AreTooMany (counts_of form (take i works) ++ move_count form work ∷ []) → AreTooMany (counts_of form works)
too_many_all form works i work low h a =
    subst AreTooMany (sym (counts_whole form works i work low h))
    (too_many_transactions (counts_of form (take i works) ++ move_count form work ∷ []) (counts_of form (drop (suc i) works)) a)

pub at_most_all : (counts : List ℕ) (place : ℕ) → slice_index counts place ≤ sum counts
at_most_all [] place = omega arith
at_most_all (c ∷ counts) zero = omega (arith, sum_cons c counts)
at_most_all (c ∷ counts) (suc place) = omega (arith, sum_cons c counts, at_most_all counts place)

-- the orders that begin with a move of a transaction before the place
abbrev pub passed : List ℕ → ℕ → ℕ → ℕ
passed counts moves place = length (begun_below (orders_of (moves - 1)) counts place)

share_here : (counts : List ℕ) (place moves orders part : ℕ) → IsCount counts moves orders → 0 < moves → part ≡ orders * slice_index counts place / moves
    → part ≡ share (moves - 1) counts place
share_here counts place moves orders part h some e =
    e ∙ share_is (moves - 1) counts place orders moves (omega (arith, h.moves_are)) h.orders_are (omega arith)

one_and_the_others : (moves all : ℕ) → moves ≡ all → 0 < moves → suc (moves - 1) ≡ all
one_and_the_others moves all e some = omega arith

next_place : (place : ℕ) → place + 1 ≡ suc place
next_place place = omega arith

joined : (order : List ℕ) (place id : ℕ) (rest : List ℕ) → id ≡ place + 1 → order ++ (suc place ∷ rest) ≡ (order ++ id ∷ []) ++ rest
joined order place id rest e =
    let same : suc place ≡ id = omega arith in
    ap (λ (t : ℕ). order ++ (t ∷ rest)) same ∙ sym (append_assoc order (id ∷ []) rest)

first_at : (counts : List ℕ) (number place left moves orders later part : ℕ) → IsCount counts moves orders → 0 < moves → slice_index counts place ≡ suc left
    → part ≡ share (moves - 1) counts place → later + passed counts moves place ≡ number → later < part → IsFirstMove counts number place later part
first_at counts number place left moves orders later part h some has e at low =
    let n : ℕ = moves - 1 in
    let less : sum (slice_set counts place left) ≡ n = omega (arith, sum_less counts place left has, h.moves_are) in
    record {
      left = left;
      has = has;
      orders_are = e ∙ share_some n counts place left has ∙ sym (total_at (slice_set counts place left) n less);
      below = low;
      begins = λ rest found.
          subst (λ (k : ℕ). slice_get (orders_of k counts) number ≡ Some (suc place ∷ rest)) (one_and_the_others moves (sum counts) h.moves_are some)
          (begun_number n counts place left later number rest has (omega arith) (subst (λ (k : ℕ). slice_get (orders_of k (slice_set counts place left)) later ≡ Some rest) less found));
    }

begins_by : (counts : List ℕ) (number place many moves orders later part : ℕ) → IsCount counts moves orders → 0 < moves → slice_index counts place ≡ many
    → part ≡ share (moves - 1) counts place → later + passed counts moves place ≡ number → later < part → IsFirstMove counts number place later part
begins_by counts number place zero moves orders later part h some has e at low =
    let none : share (moves - 1) counts place ≡ 0 = share_none (moves - 1) counts place (slice_index counts place) has in
    absurd (omega arith)
begins_by counts number place (suc left) moves orders later part h some has e at low = first_at counts number place left moves orders later part h some has e at low

pub begins : (counts : List ℕ) (number place many moves orders later part : ℕ) → IsCount counts moves orders → 0 < moves → many ≡ slice_index counts place
    → part ≡ orders * many / moves → later + passed counts moves place ≡ number → later < part → IsFirstMove counts number place later part
begins counts number place many moves orders later part h some is e at low =
    begins_by counts number place many moves orders later part h some (sym is) (share_here counts place moves orders part h some (e ∙ ap (λ (c : ℕ). orders * c / moves) is)) at low

pub passes : (counts : List ℕ) (number place many moves orders later part : ℕ) → IsCount counts moves orders → 0 < moves → many ≡ slice_index counts place
    → part ≡ orders * many / moves → later + passed counts moves place ≡ number → part ≤ later → (later - part) + passed counts moves (place + 1) ≡ number
passes counts number place many moves orders later part h some is e at low =
    let n : ℕ = moves - 1 in
    let here : part ≡ share n counts place = share_here counts place moves orders part h some (e ∙ ap (λ (c : ℕ). orders * c / moves) is) in
    let more : length (begun_below (orders_of n) counts (suc place)) ≡ length (begun_below (orders_of n) counts place) + share n counts place =
    length-append (begun_below (orders_of n) counts place) (begun_by (orders_of n) counts place (slice_index counts place)) in
    omega (arith, ap (passed counts moves) (next_place place))

-- an order has begun; the rest of it has a number among the orders of the moves that are left
pub record HasBegun (counts : List ℕ) (number : ℕ) (order left : List ℕ) (moves later orders : ℕ) : Type 0 where
  pub is_count : IsCount left moves orders
  pub below : later < orders
  pub goes_on : (rest : List ℕ) → slice_get (all_orders left) later ≡ Some rest → slice_get (all_orders counts) number ≡ Some (order ++ rest)

further : (counts : List ℕ) (number : ℕ) (order left : List ℕ) (moves later orders place next fewer id : ℕ) → HasBegun counts number order left moves later orders → 0 < moves
    → (f : IsFirstMove left later place next fewer) → id ≡ place + 1 → HasBegun counts number (order ++ id ∷ []) (slice_set left place f.left) (moves - 1) next fewer
further counts number order left moves later orders place next fewer id h some f e = record {
  is_count = record { moves_are = omega (arith, h.is_count.moves_are, sum_less left place f.left f.has); orders_are = f.orders_are };
  below = f.below;
  goes_on = λ rest found. h.goes_on (suc place ∷ rest) (f.begins rest found) ∙ ap (λ (l : List ℕ). Some l) (joined order place id rest e);
}

left_there : (left : List ℕ) (place item fewer : ℕ) → slice_index left place ≡ suc fewer → item ≡ get_or left place item → fewer ≡ item - 1
left_there left place item fewer has is =
    let there : get_or left place item ≡ slice_index left place = get_or_default_zero left place item (place_within left place fewer has) in
    omega arith

pub one_further : (counts : List ℕ) (number : ℕ) (order new left slice : List ℕ) (moves rest later orders place next fewer item id : ℕ)
    → HasBegun counts number order left moves later orders → 0 < moves → IsFirstMove slice later place next fewer → slice ≡ left → item ≡ get_or left place item
    → id ≡ place + 1 → new ≡ order ++ id ∷ [] → rest ≡ moves - 1 → HasBegun counts number new (slice_set left place (item - 1)) rest next fewer
one_further counts number order new left slice moves rest later orders place next fewer item id h some f same is e added one =
    let first : IsFirstMove left later place next fewer = subst (λ (cs : List ℕ). IsFirstMove cs later place next fewer) same f in
    subst (λ (o : List ℕ). HasBegun counts number o (slice_set left place (item - 1)) rest next fewer) (sym added)
    (subst (λ (k : ℕ). HasBegun counts number (order ++ id ∷ []) (slice_set left place (item - 1)) k next fewer) (sym one)
    (subst (λ (k : ℕ). HasBegun counts number (order ++ id ∷ []) (slice_set left place k) (moves - 1) next fewer) (left_there left place item first.left first.has is)
    (further counts number order left moves later orders place next fewer id h some first e)))

pub is_over : (counts : List ℕ) (number : ℕ) (order left : List ℕ) (moves later orders : ℕ) → HasBegun counts number order left moves later orders → moves ≡ 0 → slice_get (all_orders counts) number ≡ Some order
is_over counts number order left moves later orders h e =
    let none : sum left ≡ 0 = sym h.is_count.moves_are ∙ e in
    let one : all_orders left ≡ [] ∷ [] = ap (λ (k : ℕ). orders_of k left) none in
    let single : order_total left ≡ 1 = ap (λ (qs : List (List ℕ)). length qs) one in
    let first : later ≡ 0 = omega (arith, h.below, h.is_count.orders_are) in
    h.goes_on [] (ap (λ (k : ℕ). slice_get (all_orders left) k) first ∙ ap (λ (qs : List (List ℕ)). slice_get qs 0) one) ∙ ap (λ (l : List ℕ). Some l) (append-nil order)
