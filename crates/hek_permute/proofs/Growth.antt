-- More moves have more orders.
use Rattle.std.proofs.Common.{◌≡◌, ℕ, suc, zero, ◌+◌, ◌*◌, ◌<◌, ◌≤◌, List, [], ◌∷◌, ◌++◌, length, sum, refl, ap, sym, ◌∙◌, inl, inr, arith, append_assoc}
use Rattle.std.specs.Prelude.{◌⊎◌, slice_index, slice_set}
use Rattle.std.proofs.lemmas.List.{length-append, append-nil}
use Rattle.std.proofs.lemmas.List.Sums.{sum_by-append}
use Rattle.hek_permute.specs.Numbers.{begun_by, begun_below, orders_of, order_total, AreTooMany}
use Rattle.hek_permute.proofs.Successors.{same_or_not, behind, in_front}
use Rattle.hek_permute.proofs.Begun.{headed, sum_cons}
use Rattle.hek_permute.proofs.Ways.{ways, share, share_some, share_below, fair, total_at}

sum_append : (xs ys : List ℕ) → sum (xs ++ ys) ≡ sum xs + sum ys
sum_append xs ys = sum_by-append (λ (n : ℕ). n) xs ys

pub sum_last : (before : List ℕ) (many : ℕ) → sum (before ++ many ∷ []) ≡ sum before + many
sum_last before many = omega (arith, sum_append before (many ∷ []), sum_cons many [])

get_last : (before : List ℕ) (many : ℕ) → slice_index (before ++ many ∷ []) (length before) ≡ many
get_last before many = behind before (many ∷ []) (length before) refl

set_last : (before : List ℕ) (many fewer : ℕ) → slice_set (before ++ many ∷ []) (length before) fewer ≡ before ++ fewer ∷ []
set_last [] many fewer = refl
set_last (c ∷ before) many fewer = ap (λ (cs : List ℕ). c ∷ cs) (set_last before many fewer)

set_in_front : (counts more : List ℕ) (place left : ℕ) → place < length counts → slice_set (counts ++ more) place left ≡ slice_set counts place left ++ more
set_in_front [] more place left h = absurd (omega arith)
set_in_front (c ∷ counts) more zero left h = refl
set_in_front (c ∷ counts) more (suc place) left h = ap (λ (cs : List ℕ). c ∷ cs) (set_in_front counts more place left (omega arith))

-- the orders that begin with a move of the last transaction
last_share : (before : List ℕ) (many n : ℕ) → share n (before ++ suc many ∷ []) (length before) ≡ ways n (before ++ many ∷ [])
last_share before many n =
    share_some n (before ++ suc many ∷ []) (length before) many (get_last before (suc many)) ∙ ap (ways n) (set_last before (suc many) many)

sum_more : (before : List ℕ) (many : ℕ) → sum (before ++ suc many ∷ []) ≡ suc (sum (before ++ many ∷ []))
sum_more before many = omega (arith, sum_last before many, sum_last before (suc many))

pub one_more : (before : List ℕ) (many more : ℕ) → more ≡ suc many
    → order_total (before ++ many ∷ []) * suc (sum (before ++ many ∷ [])) ≡ order_total (before ++ more ∷ []) * more
one_more before many more e =
    let n : ℕ = sum (before ++ many ∷ []) in
    let law : share n (before ++ suc many ∷ []) (length before) * suc n ≡ ways (suc n) (before ++ suc many ∷ []) * slice_index (before ++ suc many ∷ []) (length before) =
    fair n (before ++ suc many ∷ []) (length before) (sum_more before many) in
    ap (λ (w : ℕ). w * suc n) (sym (last_share before many n))
    ∙ law
    ∙ ap (λ (c : ℕ). ways (suc n) (before ++ suc many ∷ []) * c) (get_last before (suc many))
    ∙ ap (λ (w : ℕ). w * suc many) (sym (total_at (before ++ suc many ∷ []) (suc n) (sum_more before many)))
    ∙ ap (λ (k : ℕ). order_total (before ++ k ∷ []) * k) (sym e)

grows_once : (before : List ℕ) (many : ℕ) → order_total (before ++ many ∷ []) ≤ order_total (before ++ suc many ∷ [])
grows_once before many =
    let n : ℕ = sum (before ++ many ∷ []) in
    let within : length before < length (before ++ suc many ∷ []) = omega (arith, length-append before (suc many ∷ [])) in
    let part : share n (before ++ suc many ∷ []) (length before) ≤ ways (suc n) (before ++ suc many ∷ []) =
    share_below n (before ++ suc many ∷ []) (length before) (length (before ++ suc many ∷ [])) within in
    omega (arith, last_share before many n, total_at (before ++ suc many ∷ []) (suc n) (sum_more before many))

same_or_below : (many more : ℕ) → many ≤ suc more → (many ≡ suc more) ⊎ (many ≤ more)
same_or_below many more h = elim (same_or_not many (suc more)) [ inl e ↦ inl e | inr n ↦ inr (omega (arith, n)) ]

grows : (before : List ℕ) (many more : ℕ) → many ≤ more → order_total (before ++ many ∷ []) ≤ order_total (before ++ more ∷ [])
grows before many zero h = omega (arith, ap (λ (k : ℕ). order_total (before ++ k ∷ [])) (let e : many ≡ 0 = omega arith in e))
grows before many (suc more) h = elim (same_or_below many more h) [
  | inl e ↦ omega (arith, ap (λ (k : ℕ). order_total (before ++ k ∷ [])) e)
  | inr low ↦ omega (arith, grows before many more low, grows_once before more)
]

-- a transaction without moves adds no order
none_by : (rest fewer : List ℕ → List (List ℕ)) (counts : List ℕ) (place left : ℕ) → place < length counts → ((cs : List ℕ) → rest (cs ++ 0 ∷ []) ≡ fewer cs)
    → begun_by rest (counts ++ 0 ∷ []) place left ≡ begun_by fewer counts place left
none_by rest fewer counts place zero h same = refl
none_by rest fewer counts place (suc left) h same =
    ap (λ (cs : List ℕ). headed (suc place) (rest cs)) (set_in_front counts (0 ∷ []) place left h) ∙ ap (headed (suc place)) (same (slice_set counts place left))

none_below : (rest fewer : List ℕ → List (List ℕ)) (counts : List ℕ) (most : ℕ) → most ≤ length counts → ((cs : List ℕ) → rest (cs ++ 0 ∷ []) ≡ fewer cs)
    → begun_below rest (counts ++ 0 ∷ []) most ≡ begun_below fewer counts most
none_below rest fewer counts zero h same = refl
none_below rest fewer counts (suc most) h same =
    ap (λ (qs : List (List ℕ)). qs ++ begun_by rest (counts ++ 0 ∷ []) most (slice_index (counts ++ 0 ∷ []) most)) (none_below rest fewer counts most (omega arith) same)
    ∙ ap (λ (c : ℕ). begun_below fewer counts most ++ begun_by rest (counts ++ 0 ∷ []) most c) (in_front counts (0 ∷ []) most (omega arith))
    ∙ ap (λ (qs : List (List ℕ)). begun_below fewer counts most ++ qs) (none_by rest fewer counts most (slice_index counts most) (omega arith) same)

none_more : (n : ℕ) (counts : List ℕ) → orders_of n (counts ++ 0 ∷ []) ≡ orders_of n counts
none_more zero counts = refl
none_more (suc n) counts =
    ap (begun_below (orders_of n) (counts ++ 0 ∷ [])) (let e : length (counts ++ 0 ∷ []) ≡ suc (length counts) = omega (arith, length-append counts (0 ∷ [])) in e)
    ∙ ap (λ (c : ℕ). begun_below (orders_of n) (counts ++ 0 ∷ []) (length counts) ++ begun_by (orders_of n) (counts ++ 0 ∷ []) (length counts) c) (get_last counts 0)
    ∙ append-nil (begun_below (orders_of n) (counts ++ 0 ∷ []) (length counts))
    ∙ none_below (orders_of n) (orders_of n) counts (length counts) (omega arith) (λ cs. none_more n cs)

pub total_none : (counts : List ℕ) → order_total (counts ++ 0 ∷ []) ≡ order_total counts
total_none counts =
    total_at (counts ++ 0 ∷ []) (sum counts) (omega (arith, sum_last counts 0)) ∙ ap (λ (qs : List (List ℕ)). length qs) (none_more (sum counts) counts)

total_grows : (counts more : List ℕ) → order_total counts ≤ order_total (counts ++ more)
total_grows counts [] = omega (arith, ap order_total (append-nil counts))
total_grows counts (c ∷ more) =
    omega (arith, total_none counts, grows counts 0 c (omega arith), total_grows (counts ++ c ∷ []) more, ap order_total (append_assoc counts (c ∷ []) more))

pub too_many_moves : (before : List ℕ) (many more : ℕ) → many ≤ more → AreTooMany (before ++ many ∷ []) → AreTooMany (before ++ more ∷ [])
too_many_moves before many more h (inl a) = inl (omega (arith, sum_last before many, sum_last before more))
too_many_moves before many more h (inr a) = inr (omega (arith, grows before many more h))

pub too_many_transactions : (counts more : List ℕ) → AreTooMany counts → AreTooMany (counts ++ more)
too_many_transactions counts more (inl a) = inl (omega (arith, sum_append counts more))
too_many_transactions counts more (inr a) = inr (omega (arith, total_grows counts more))
