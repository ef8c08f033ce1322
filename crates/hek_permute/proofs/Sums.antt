-- Tallies added row by row.
use Rattle.std.proofs.Common.{◌≡◌, ℕ, suc, zero, ◌<◌, List, [], ◌∷◌, ◌++◌, get_or, refl, ap, ap₂, sym, subst, ◌∙◌, inl, inr, None, Some, length, arith}
use Rattle.std.specs.Prelude.{◌⊎◌, slice_get, slice_set, Result, Ok, Err, OnOk}
use Rattle.hek_permute.specs.Found.{Found, IsSame, Line}
use Rattle.hek_permute.specs.Tallies.{IsFirstSame, IsNoted, NoneSame, row_of}
use Rattle.hek_permute.specs.Sums.{both, IsRowAdded, AreAdded}

same_turned : (x y : Found) → IsSame x y → IsSame y x
same_turned x y h = record { ends = sym h.ends; rows = sym h.rows; verdict = sym h.verdict }

same_joined : (x y z : Found) → IsSame x y → IsSame y z → IsSame x z
same_joined x y z h g = record { ends = h.ends ∙ g.ends; rows = h.rows ∙ g.rows; verdict = h.verdict ∙ g.verdict }

-- a tally has a row of the same outcome
abbrev pub HasSame : List Line → Line → Type 0
HasSame [] r = ⊥
HasSame (x ∷ xs) r = IsSame x.outcome r.outcome ⊎ HasSame xs r

both_grouped : (x y z : Line) → both x (both y z) ≡ both (both x y) z
both_grouped x y z = ap₂ (λ (a b : ℕ). record x { orders = a; waited = b }) (omega arith) (omega arith)

both_swapped : (x y z : Line) → both (both x y) z ≡ both (both x z) y
both_swapped x y z = ap₂ (λ (a b : ℕ). record x { orders = a; waited = b }) (omega arith) (omega arith)

-- a row that counts the orders of another one too is added as both are, one after the other
add_both : (rows : List Line) (x r : Line) (new : List Line) → IsSame x.outcome r.outcome → IsRowAdded rows (both x r) new
    → (was : List Line) × IsRowAdded rows x was × IsRowAdded was r new × HasSame was r
add_both [] x r new same h = (x ∷ [], refl, inl (same, h), inl same)
add_both (y ∷ ys) x r new same (inl h) =
    let near : IsSame y.outcome r.outcome = same_joined y.outcome x.outcome r.outcome h.0 same in
    (both y x ∷ ys, inl (h.0, refl), inl (near, h.1 ∙ ap (λ (z : Line). z ∷ ys) (both_grouped y x r)), inl near)
add_both (y ∷ ys) x r new same (inr h) =
    let s = add_both ys x r h.1.0 same h.1.1 in
    let far : IsSame y.outcome r.outcome → ⊥ = λ near. h.0 (same_joined y.outcome r.outcome x.outcome near (same_turned x.outcome r.outcome same)) in
    (y ∷ s.0, inr (h.0, (s.0, s.1, refl)), inr (far, (h.1.0, s.2, h.1.2)), inr s.3)

-- what is left where a row is added before another one: the other one can be added first
abbrev Swaps : List Line → Line → Line → List Line → Type 0
Swaps rows r q new = (was : List Line) × IsRowAdded rows q was × IsRowAdded was r new × HasSame was r

swap_here : (y : Line) (ys : List Line) (r q : Line) (new : List Line) → IsSame y.outcome r.outcome → IsRowAdded (both y r ∷ ys) q new → Swaps (y ∷ ys) r q new
swap_here y ys r q new same (inl h) = (both y q ∷ ys, inl (h.0, refl), inl (same, h.1 ∙ ap (λ (z : Line). z ∷ ys) (both_swapped y r q)), inl same)
swap_here y ys r q new same (inr h) = (y ∷ h.1.0, inr (h.0, (h.1.0, h.1.1, refl)), inl (same, h.1.2), inl same)

swap_later : (y : Line) (ys rest : List Line) (r q : Line) (new : List Line) → (IsSame y.outcome r.outcome → ⊥) → HasSame ys r → IsRowAdded ys r rest
    → ((more : List Line) → IsRowAdded rest q more → Swaps ys r q more) → IsRowAdded (y ∷ rest) q new → Swaps (y ∷ ys) r q new
swap_later y ys rest r q new far has a later (inl h) = (both y q ∷ ys, inl (h.0, refl), inr (far, (rest, a, h.1)), inr has)
swap_later y ys rest r q new far has a later (inr h) =
    let s = later h.1.0 h.1.1 in
    (y ∷ s.0, inr (h.0, (s.0, s.1, refl)), inr (far, (h.1.0, s.2, h.1.2)), inr s.3)

has_later : (y : Line) (ys : List Line) (r : Line) → (IsSame y.outcome r.outcome → ⊥) → HasSame (y ∷ ys) r → HasSame ys r
has_later y ys r far (inl h) = absurd (far h)
has_later y ys r far (inr h) = h

swap : (rows : List Line) (r q : Line) (mid new : List Line) → HasSame rows r → IsRowAdded rows r mid → IsRowAdded mid q new → Swaps rows r q new
swap [] r q mid new has a b = absurd has
swap (y ∷ ys) r q mid new has (inl h) b = swap_here y ys r q new h.0 (subst (λ (m : List Line). IsRowAdded m q new) h.1 b)
swap (y ∷ ys) r q mid new has (inr h) b =
    let there : HasSame ys r = has_later y ys r h.0 has in
    swap_later y ys h.1.0 r q new h.0 there h.1.1 (λ more c. swap ys r q h.1.0 more there h.1.1 c) (subst (λ (m : List Line). IsRowAdded m q new) h.1.2 b)

-- where a tally has the outcome of a row, the row can be added after others
swap_all : (qs : List Line) (rows mid new : List Line) (r : Line) → HasSame rows r → IsRowAdded rows r mid → AreAdded mid qs new
    → (was : List Line) × AreAdded rows qs was × IsRowAdded was r new
swap_all [] rows mid new r has a b = (rows, refl, subst (λ (m : List Line). IsRowAdded rows r m) (sym b) a)
swap_all (q ∷ qs) rows mid new r has a b =
    let s = swap rows r q mid b.0 has a b.1 in
    let t = swap_all qs s.0 b.0 new r s.3 s.2 b.2 in
    (t.0, (s.0, s.1, t.1), t.2)

-- a row that was added to the second tally last can be added to the sum last
pub added_later : (ys : List Line) (old : List Line) (r : Line) (more new : List Line) → IsRowAdded ys r more → AreAdded old more new
    → (was : List Line) × AreAdded old ys was × IsRowAdded was r new
added_later [] old r more new a b =
    let c : AreAdded old (r ∷ []) new = subst (λ (m : List Line). AreAdded old m new) a b in
    (old, refl, subst (λ (m : List Line). IsRowAdded old r m) (sym c.2) c.1)
added_later (y ∷ ys) old r more new (inl h) b =
    let c : AreAdded old (both y r ∷ ys) new = subst (λ (m : List Line). AreAdded old m new) h.1 b in
    let s = add_both old y r c.0 h.0 c.1 in
    let t = swap_all ys s.0 c.0 new r s.3 s.2 c.2 in
    (t.0, (s.0, s.1, t.1), t.2)
added_later (y ∷ ys) old r more new (inr h) b =
    let c : AreAdded old (y ∷ h.1.0) new = subst (λ (m : List Line). AreAdded old m new) h.1.2 b in
    let t = added_later ys c.0 r h.1.0 new h.1.1 c.2 in
    (t.0, (c.0, c.1, t.1), t.2)

pub first_same : (rows : List Line) (r : Line) (place : ℕ) (h : IsFirstSame rows r.outcome place) → IsRowAdded rows r (slice_set rows place (both h.row r))
first_same [] r place h = let none : None ≡ Some h.row = h.is in cc
first_same (x ∷ xs) r zero h =
    let at : Some x ≡ Some h.row = h.is in
    let is : h.row ≡ x = cc in
    inl (subst (λ (y : Line). IsSame y.outcome r.outcome) is h.same, ap (λ (y : Line). both y r ∷ xs) is)
first_same (x ∷ xs) r (suc place) h =
    inr (
      h.first 0 x (omega arith) refl,
      (
        slice_set xs place (both h.row r),
        first_same xs r place (record { row = h.row; is = h.is; same = h.same; first = λ i y less at same. h.first (suc i) y (omega arith) at same }),
        refl,
      ),
    )

pub none_same : (rows : List Line) (r : Line) → NoneSame rows r.outcome → IsRowAdded rows r (rows ++ r ∷ [])
none_same [] r h = refl
none_same (x ∷ xs) r h = inr (h 0 x refl, (xs ++ r ∷ [], none_same xs r (λ i y at same. h (suc i) y at same), refl))

-- an order is noted as a row with this order alone is added
pub noted_row : (old new : List Line) (o : Found) (order : List ℕ) → IsNoted old new o order → IsRowAdded old (row_of o order) new
noted_row old new o order (inl c) = subst (λ (m : List Line). IsRowAdded old (row_of o order) m) (sym c.counted) (first_same old (row_of o order) c.place c.found)
noted_row old new o order (inr a) = subst (λ (m : List Line). IsRowAdded old (row_of o order) m) (sym a.added) (none_same old (row_of o order) a.none)

first_later : (x : Line) (xs : List Line) (o : Found) (place : ℕ) → (IsSame x.outcome o → ⊥) → ((i : ℕ) (r : Line) → i < place → slice_get xs i ≡ Some r → IsSame r.outcome o → ⊥)
    → (i : ℕ) (r : Line) → i < suc place → slice_get (x ∷ xs) i ≡ Some r → IsSame r.outcome o → ⊥
first_later x xs o place far none zero r less at same =
    let here : Some x ≡ Some r = at in
    let is : r ≡ x = cc in
    far (subst (λ (y : Line). IsSame y.outcome o) is same)
first_later x xs o place far none (suc i) r less at same = none i r (omega arith) at same

none_later : (x : Line) (xs : List Line) (o : Found) → (IsSame x.outcome o → ⊥) → NoneSame xs o → NoneSame (x ∷ xs) o
none_later x xs o far none zero r at same =
    let here : Some x ≡ Some r = at in
    let is : r ≡ x = cc in
    far (subst (λ (y : Line). IsSame y.outcome o) is same)
none_later x xs o far none (suc i) r at same = none i r at same

noted_later : (x : Line) (xs rest : List Line) (o : Found) (order : List ℕ) → (IsSame x.outcome o → ⊥) → IsNoted xs rest o order → IsNoted (x ∷ xs) (x ∷ rest) o order
noted_later x xs rest o order far (inl c) = inl (record {
  place = suc c.place;
  found = record { row = c.found.row; is = c.found.is; same = c.found.same; first = first_later x xs o c.place far c.found.first };
  counted = ap (λ (l : List Line). x ∷ l) c.counted;
})
noted_later x xs rest o order far (inr a) = inr (record { none = none_later x xs o far a.none; added = ap (λ (l : List Line). x ∷ l) a.added })

none_in_nothing : (o : Found) → NoneSame [] o
none_in_nothing o i r at same = let none : None ≡ Some r = at in cc

pub row_noted : (old new : List Line) (o : Found) (order : List ℕ) → IsRowAdded old (row_of o order) new → IsNoted old new o order
row_noted [] new o order h = inr (record { none = none_in_nothing o; added = h })
row_noted (x ∷ xs) new o order (inl h) = inl (record {
  place = 0;
  found = record { row = x; is = refl; same = h.0; first = λ i r less at same. absurd (omega arith) };
  counted = h.1;
})
row_noted (x ∷ xs) new o order (inr h) =
    subst (λ (m : List Line). IsNoted (x ∷ xs) m o order) (sym h.1.2) (noted_later x xs h.1.0 o order h.0 (row_noted xs h.1.0 o order h.1.1))

row_at : (xs : List Line) (i : ℕ) (d r : Line) → slice_get xs i ≡ Some r → get_or xs i d ≡ r
row_at [] i d r h = let none : None ≡ Some r = h in cc
row_at (x ∷ xs) zero d r h = cc
row_at (x ∷ xs) (suc i) d r h = row_at xs i d r h

pub row_counted : {A E : Type 0} (r : Result A E) (old items : List Line) (other : Line) (o : Found) (place : ℕ) (was row : Line)
    → items ≡ old → o ≡ other.outcome → IsFirstSame old o place → was ≡ get_or items place was → OnOk r (row ≡ both was other)
    → OnOk r (IsRowAdded old other (slice_set items place row))
row_counted (Ok x) old items other o place was row is of h at grown =
    let here : IsFirstSame old other.outcome place = subst (λ (f : Found). IsFirstSame old f place) of h in
    let one : was ≡ here.row = at ∙ ap (λ (l : List Line). get_or l place was) is ∙ row_at old place was here.row here.is in
    let made : slice_set items place row ≡ slice_set old place (both here.row other) =
    ap (λ (l : List Line). slice_set l place row) is ∙ ap (slice_set old place) (grown ∙ ap (λ (q : Line). both q other) one) in
    subst (λ (m : List Line). IsRowAdded old other m) (sym made) (first_same old other place here)
row_counted (Err e) old items other o place was row is of h at grown = tt

pub row_last : (old items new : List Line) (other : Line) (o : Found) → items ≡ old → o ≡ other.outcome → NoneSame old o → new ≡ items ++ other ∷ [] → IsRowAdded old other new
row_last old items new other o is of none added =
    subst (λ (m : List Line). IsRowAdded old other m) (sym (added ∙ ap (λ (l : List Line). l ++ other ∷ []) is))
    (none_same old other (subst (λ (f : Found). NoneSame old f) of none))

-- what is left to be added to a sum
abbrev pub Leaves : List Line → List Line → List Line → List Line → Type 0
Leaves old others sum rest = (new : List Line) → AreAdded sum rest new → AreAdded old others new

pub leaves_all : (old others items rest : List Line) → items ≡ others → rest ≡ items → Leaves old others old rest
leaves_all old others items rest is left new h = subst (λ (l : List Line). AreAdded old l new) (left ∙ is) h

pub leaves_more : (old others sum now rest left : List Line) (row : Line) → Leaves old others sum rest → rest ≡ row ∷ left → IsRowAdded sum row now → Leaves old others now left
leaves_more old others sum now rest left row h is added new more = h new (subst (λ (l : List Line). AreAdded sum l new) (sym is) (now, added, more))

pub leaves_none : (old others sum rest : List Line) → Leaves old others sum rest → length rest ≡ 0 → AreAdded old others sum
leaves_none old others sum [] h none = h sum refl
leaves_none old others sum (row ∷ rest) h none = absurd (omega arith)
