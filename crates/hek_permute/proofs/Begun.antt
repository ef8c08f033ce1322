-- The orders with given numbers of moves: what is among them, and that they rise.
use Rattle.std.proofs.Common.{◌≡◌, ℕ, suc, zero, ◌+◌, ◌<◌, List, [], ◌∷◌, ◌++◌, length, map, sum, refl, ap, sym, subst, ◌∙◌, inl, inr, arith, replicate}
use Rattle.std.specs.Prelude.{◌==◌, ◌⊎◌, slice_index, slice_set}
use Rattle.std.proofs.lemmas.List.{get_or-set_same, get_or-set_other}
use Rattle.std.proofs.lemmas.List.Sums.{sum_by-cons}
use Rattle.std.proofs.lemmas.Bool.Decides.{nat_tests}
use Rattle.hek_permute.specs.Moves.{first_order_from}
use Rattle.hek_permute.specs.Orders.{IsBelow, name_count, IsAmong}
use Rattle.hek_permute.specs.Numbers.{begun_by, begun_below, orders_of}
use Rattle.hek_permute.proofs.Successors.{one_if, times_cons, same_or_not}

-- how many moves a transaction has; the first has the ID 1
abbrev pub count_at : List ℕ → ℕ → ℕ
count_at counts zero = 0
count_at counts (suc place) = slice_index counts place

-- an order has these many moves of each transaction
abbrev pub HasCounts : List ℕ → List ℕ → Type 0
HasCounts counts o = (t : ℕ) → name_count t o ≡ count_at counts t

one_here : (u t : ℕ) → u ≡ t → one_if (u == t) ≡ 1
one_here u t e = grind (arith, nat_tests)

one_other : (u t : ℕ) → (u ≡ t → ⊥) → one_if (u == t) ≡ 0
one_other u t n = grind (arith, nat_tests)

pub place_within : (counts : List ℕ) (place left : ℕ) → slice_index counts place ≡ suc left → place < length counts
place_within [] place left h = absurd (omega arith)
place_within (c ∷ counts) zero left h = omega arith
place_within (c ∷ counts) (suc place) left h = omega (arith, place_within counts place left h)

pub sum_cons : (c : ℕ) (counts : List ℕ) → sum (c ∷ counts) ≡ c + sum counts
sum_cons c counts = sum_by-cons (λ (n : ℕ). n) c counts

pub sum_less : (counts : List ℕ) (place left : ℕ) → slice_index counts place ≡ suc left → sum counts ≡ suc (sum (slice_set counts place left))
sum_less [] place left h = absurd (omega arith)
sum_less (c ∷ counts) zero left h = omega (arith, sum_cons c counts, sum_cons left counts)
sum_less (c ∷ counts) (suc place) left h = omega (arith, sum_cons c counts, sum_cons c (slice_set counts place left), sum_less counts place left h)

pub none_at : (counts : List ℕ) (place : ℕ) → sum counts ≡ 0 → slice_index counts place ≡ 0
none_at [] place h = refl
none_at (c ∷ counts) zero h = omega (arith, sum_cons c counts)
none_at (c ∷ counts) (suc place) h = none_at counts place (omega (arith, sum_cons c counts))

none_in_all : (counts : List ℕ) → ((place : ℕ) → slice_index counts place ≡ 0) → sum counts ≡ 0
none_in_all [] h = refl
none_in_all (c ∷ counts) h = omega (arith, h 0, sum_cons c counts, none_in_all counts (λ place. h (suc place)))

-- a transaction with one move fewer, and that move
count_less : (counts : List ℕ) (place left t : ℕ) → slice_index counts place ≡ suc left
    → count_at counts t ≡ one_if (suc place == t) + count_at (slice_set counts place left) t
count_less counts place left zero h = omega (arith, one_other (suc place) zero (λ e. omega arith))
count_less counts place left (suc t) h = elim (same_or_not place t) [
  | inl e ↦
      let here : slice_index (slice_set counts place left) place ≡ left = get_or-set_same counts place left 0 (place_within counts place left h) in
      omega (arith, one_here (suc place) (suc t) (ap suc e), ap (slice_index counts) e, ap (slice_index (slice_set counts place left)) e)
  | inr n ↦
      let other : slice_index (slice_set counts place left) t ≡ slice_index counts t = get_or-set_other counts place t left 0 (λ e. n (sym e)) in
      omega (arith, one_other (suc place) (suc t) (λ e. n (omega arith)))
]

copies_here : (n u t : ℕ) (xs : List ℕ) → u ≡ t → name_count t (replicate n u ++ xs) ≡ n + name_count t xs
copies_here zero u t xs e = omega arith
copies_here (suc n) u t xs e = omega (arith, times_cons t u (replicate n u ++ xs), one_here u t e, copies_here n u t xs e)

copies_other : (n u t : ℕ) (xs : List ℕ) → (u ≡ t → ⊥) → name_count t (replicate n u ++ xs) ≡ name_count t xs
copies_other zero u t xs e = refl
copies_other (suc n) u t xs e = omega (arith, times_cons t u (replicate n u ++ xs), one_other u t e, copies_other n u t xs e)

first_before : (b : ℕ) (counts : List ℕ) (t : ℕ) → t < b → name_count t (first_order_from b counts) ≡ 0
first_before b [] t h = refl
first_before b (c ∷ counts) t h = copies_other c b t (first_order_from (b + 1) counts) (λ e. omega arith) ∙ first_before (b + 1) counts t (omega arith)

first_at : (b t place : ℕ) (counts : List ℕ) → t ≡ b + place → name_count t (first_order_from b counts) ≡ slice_index counts place
first_at b t place [] e = refl
first_at b t zero (c ∷ counts) e =
    omega (arith, copies_here c b t (first_order_from (b + 1) counts) (omega arith), first_before (b + 1) counts t (omega arith))
first_at b t (suc place) (c ∷ counts) e =
    copies_other c b t (first_order_from (b + 1) counts) (λ same. omega arith) ∙ first_at (b + 1) t place counts (omega arith)

pub first_counts : (counts : List ℕ) → HasCounts counts (first_order_from 1 counts)
first_counts counts zero = first_before 1 counts zero (omega arith)
first_counts counts (suc place) = first_at 1 (suc place) place counts (omega arith)

-- the first move of an order, and the others
pub record IsBegun (rest : List ℕ → List (List ℕ)) (counts : List ℕ) (most : ℕ) (o : List ℕ) : Type 0 where
  pub place : ℕ
  pub left : ℕ
  pub tail : List ℕ
  pub below : place < most
  pub has : slice_index counts place ≡ suc left
  pub is : o ≡ suc place ∷ tail
  pub among : IsAmong tail (rest (slice_set counts place left))

pub among_append : (o : List ℕ) (xs ys : List (List ℕ)) → IsAmong o (xs ++ ys) → IsAmong o xs ⊎ IsAmong o ys
among_append o [] ys a = inr a
among_append o (x ∷ xs) ys (inl e) = inl (inl e)
among_append o (x ∷ xs) ys (inr a) = elim (among_append o xs ys a) [ inl b ↦ inl (inr b) | inr b ↦ inr b ]

among_front : (o : List ℕ) (xs ys : List (List ℕ)) → IsAmong o xs → IsAmong o (xs ++ ys)
among_front o [] ys a = absurd a
among_front o (x ∷ xs) ys (inl e) = inl e
among_front o (x ∷ xs) ys (inr a) = inr (among_front o xs ys a)

among_back : (o : List ℕ) (xs ys : List (List ℕ)) → IsAmong o ys → IsAmong o (xs ++ ys)
among_back o [] ys a = a
among_back o (x ∷ xs) ys a = inr (among_back o xs ys a)

abbrev pub headed : ℕ → List (List ℕ) → List (List ℕ)
headed t qs = map (λ (q : List ℕ). t ∷ q) qs

among_headed : (t : ℕ) (o : List ℕ) (qs : List (List ℕ)) → IsAmong o (headed t qs) → (q : List ℕ) × (o ≡ t ∷ q) × IsAmong q qs
among_headed t o [] a = absurd a
among_headed t o (q ∷ qs) (inl e) = (q, e, inl refl)
among_headed t o (q ∷ qs) (inr a) = let at : (r : List ℕ) × (o ≡ t ∷ r) × IsAmong r qs = among_headed t o qs a in (at.0, at.1, inr at.2)

headed_among : (t : ℕ) (q : List ℕ) (qs : List (List ℕ)) → IsAmong q qs → IsAmong (t ∷ q) (headed t qs)
headed_among t q [] a = absurd a
headed_among t q (r ∷ qs) (inl e) = inl (ap (λ (l : List ℕ). t ∷ l) e)
headed_among t q (r ∷ qs) (inr a) = inr (headed_among t q qs a)

begun_at : (rest : List ℕ → List (List ℕ)) (counts : List ℕ) (place left : ℕ) (o : List ℕ) → slice_index counts place ≡ left
    → IsAmong o (begun_by rest counts place left) → IsBegun rest counts (suc place) o
begun_at rest counts place zero o e a = absurd a
begun_at rest counts place (suc left) o e a =
    let at : (q : List ℕ) × (o ≡ suc place ∷ q) × IsAmong q (rest (slice_set counts place left)) = among_headed (suc place) o (rest (slice_set counts place left)) a in
    record { place = place; left = left; tail = at.0; below = omega arith; has = e; is = at.1; among = at.2 }

more_begun : (rest : List ℕ → List (List ℕ)) (counts : List ℕ) (most : ℕ) (o : List ℕ) → IsBegun rest counts most o → IsBegun rest counts (suc most) o
more_begun rest counts most o b = record { place = b.place; left = b.left; tail = b.tail; below = omega (arith, b.below); has = b.has; is = b.is; among = b.among }

pub is_begun : (rest : List ℕ → List (List ℕ)) (counts : List ℕ) (most : ℕ) (o : List ℕ) → IsAmong o (begun_below rest counts most) → IsBegun rest counts most o
is_begun rest counts zero o a = absurd a
is_begun rest counts (suc most) o a =
    elim (among_append o (begun_below rest counts most) (begun_by rest counts most (slice_index counts most)) a) [
      | inl b ↦ more_begun rest counts most o (is_begun rest counts most o b)
      | inr b ↦ begun_at rest counts most (slice_index counts most) o refl b
    ]

begun_among : (rest : List ℕ → List (List ℕ)) (counts : List ℕ) (most place left : ℕ) (q : List ℕ) → place < most → slice_index counts place ≡ suc left
    → IsAmong q (rest (slice_set counts place left)) → IsAmong (suc place ∷ q) (begun_below rest counts most)
begun_among rest counts zero place left q low h a = absurd (omega arith)
begun_among rest counts (suc most) place left q low h a = elim (same_or_not place most) [
  | inl e ↦ among_back (suc place ∷ q) (begun_below rest counts most) (begun_by rest counts most (slice_index counts most))
      (subst (λ (m : ℕ). IsAmong (suc place ∷ q) (begun_by rest counts m (slice_index counts m))) e
      (subst (λ (c : ℕ). IsAmong (suc place ∷ q) (begun_by rest counts place c)) (sym h) (headed_among (suc place) q (rest (slice_set counts place left)) a)))
  | inr n ↦ among_front (suc place ∷ q) (begun_below rest counts most) (begun_by rest counts most (slice_index counts most))
      (begun_among rest counts most place left q (omega (arith, n)) h a)
]

sound_begun : (n : ℕ) (counts : List ℕ) → sum counts ≡ suc n → ((cs : List ℕ) → sum cs ≡ n → (q : List ℕ) → IsAmong q (orders_of n cs) → HasCounts cs q)
    → (o : List ℕ) → IsBegun (orders_of n) counts (length counts) o → HasCounts counts o
sound_begun n counts e rec o b = λ t.
    let tail : name_count t b.tail ≡ count_at (slice_set counts b.place b.left) t =
    rec (slice_set counts b.place b.left) (omega (arith, sum_less counts b.place b.left b.has)) b.tail b.among t in
    omega (arith, ap (name_count t) b.is, times_cons t (suc b.place) b.tail, count_less counts b.place b.left t b.has)

none_count : (counts : List ℕ) → sum counts ≡ 0 → HasCounts counts []
none_count counts e zero = refl
none_count counts e (suc place) = sym (none_at counts place e)

pub sound : (n : ℕ) (counts : List ℕ) → sum counts ≡ n → (o : List ℕ) → IsAmong o (orders_of n counts) → HasCounts counts o
sound zero counts e o (inl is) = subst (HasCounts counts) (sym is) (none_count counts e)
sound zero counts e o (inr a) = absurd a
sound (suc n) counts e o a = sound_begun n counts e (λ cs d q b. sound n cs d q b) o (is_begun (orders_of n) counts (length counts) o a)

one_more : (t : ℕ) (o : List ℕ) → name_count t (t ∷ o) ≡ suc (name_count t o)
one_more t o = omega (arith, times_cons t t o, one_here t t refl)

tail_counts : (counts : List ℕ) (place left : ℕ) (o : List ℕ) → slice_index counts place ≡ suc left → HasCounts counts (suc place ∷ o) → HasCounts (slice_set counts place left) o
tail_counts counts place left o h a = λ t. omega (arith, a t, times_cons t (suc place) o, count_less counts place left t h)

pub complete : (n : ℕ) (counts : List ℕ) → sum counts ≡ n → (o : List ℕ) → HasCounts counts o → IsAmong o (orders_of n counts)
complete zero counts e [] a = inl refl
complete zero counts e (zero ∷ o) a = absurd (omega (arith, a 0, one_more 0 o))
complete zero counts e (suc place ∷ o) a = absurd (omega (arith, a (suc place), one_more (suc place) o, none_at counts place e))
complete (suc n) counts e [] a = absurd (omega (arith, none_in_all counts (λ place. sym (a (suc place)))))
complete (suc n) counts e (zero ∷ o) a = absurd (omega (arith, a 0, one_more 0 o))
complete (suc n) counts e (suc place ∷ o) a =
    let has : slice_index counts place ≡ suc (name_count (suc place) o) = sym (a (suc place)) ∙ one_more (suc place) o in
    begun_among (orders_of n) counts (length counts) place (name_count (suc place) o) o (place_within counts place (name_count (suc place) o) has) has
    (complete n (slice_set counts place (name_count (suc place) o)) (omega (arith, sum_less counts place (name_count (suc place) o) has)) o
    (tail_counts counts place (name_count (suc place) o) o has a))

-- each order comes after those before it
abbrev pub AreRising : List (List ℕ) → Type 0
AreRising [] = Unit {0}
AreRising (q ∷ qs) = ((r : List ℕ) → IsAmong r qs → IsBelow q r) × AreRising qs

rising_append : (xs ys : List (List ℕ)) → AreRising xs → AreRising ys → ((x y : List ℕ) → IsAmong x xs → IsAmong y ys → IsBelow x y) → AreRising (xs ++ ys)
rising_append [] ys f g h = g
rising_append (x ∷ xs) ys f g h = (
  λ r a. elim (among_append r xs ys a) [ inl b ↦ f.0 r b | inr b ↦ h x r (inl refl) b ],
  rising_append xs ys f.1 g (λ q y a b. h q y (inr a) b),
)

below_headed : (t : ℕ) (q r : List ℕ) (qs : List (List ℕ)) → ((s : List ℕ) → IsAmong s qs → IsBelow q s) → IsAmong r (headed t qs) → IsBelow (t ∷ q) r
below_headed t q r qs h a =
    let at : (s : List ℕ) × (r ≡ t ∷ s) × IsAmong s qs = among_headed t r qs a in
    let behind : IsBelow (t ∷ q) (t ∷ at.0) = inr (refl, h at.0 at.2) in
    subst (IsBelow (t ∷ q)) (sym at.1) behind

rising_headed : (t : ℕ) (qs : List (List ℕ)) → AreRising qs → AreRising (headed t qs)
rising_headed t [] f = tt
rising_headed t (q ∷ qs) f = (λ r a. below_headed t q r qs f.0 a, rising_headed t qs f.1)

rising_by : (rest : List ℕ → List (List ℕ)) (counts : List ℕ) (place left : ℕ) → ((cs : List ℕ) → AreRising (rest cs)) → AreRising (begun_by rest counts place left)
rising_by rest counts place zero h = tt
rising_by rest counts place (suc left) h = rising_headed (suc place) (rest (slice_set counts place left)) (h (slice_set counts place left))

heads_below : (x y xs ys : List ℕ) (a b : ℕ) → x ≡ a ∷ xs → y ≡ b ∷ ys → a < b → IsBelow x y
heads_below x y xs ys a b e f h =
    let less : IsBelow (a ∷ xs) (b ∷ ys) = inl h in
    subst (λ (q : List ℕ). IsBelow q y) (sym e) (subst (IsBelow (a ∷ xs)) (sym f) less)

head_at : (rest : List ℕ → List (List ℕ)) (counts : List ℕ) (place left : ℕ) (o : List ℕ) → IsAmong o (begun_by rest counts place left) → (q : List ℕ) × (o ≡ suc place ∷ q)
head_at rest counts place zero o a = absurd a
head_at rest counts place (suc left) o a =
    let at : (q : List ℕ) × (o ≡ suc place ∷ q) × IsAmong q (rest (slice_set counts place left)) = among_headed (suc place) o (rest (slice_set counts place left)) a in
    (at.0, at.1)

by_behind : (rest : List ℕ → List (List ℕ)) (counts : List ℕ) (place left : ℕ) (x y : List ℕ) → IsAmong x (begun_below rest counts place) → IsAmong y (begun_by rest counts place left) → IsBelow x y
by_behind rest counts place left x y a b =
    let first : IsBegun rest counts place x = is_begun rest counts place x a in
    let second : (q : List ℕ) × (y ≡ suc place ∷ q) = head_at rest counts place left y b in
    heads_below x y first.tail second.0 (suc first.place) (suc place) first.is second.1 (omega (arith, first.below))

rising_below : (rest : List ℕ → List (List ℕ)) (counts : List ℕ) (most : ℕ) → ((cs : List ℕ) → AreRising (rest cs)) → AreRising (begun_below rest counts most)
rising_below rest counts zero h = tt
rising_below rest counts (suc most) h =
    rising_append (begun_below rest counts most) (begun_by rest counts most (slice_index counts most)) (rising_below rest counts most h)
    (rising_by rest counts most (slice_index counts most) h) (λ x y a b. by_behind rest counts most (slice_index counts most) x y a b)

pub orders_rise : (n : ℕ) (counts : List ℕ) → AreRising (orders_of n counts)
orders_rise zero counts = (λ r a. absurd a, tt)
orders_rise (suc n) counts = rising_below (orders_of n) counts (length counts) (λ cs. orders_rise n cs)
