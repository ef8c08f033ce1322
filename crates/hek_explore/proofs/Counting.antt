-- Beginnings of orders that are dealt out to classes, and what the orders that begin with them weigh.
use Rattle.std.proofs.Common.{◌≡◌, ℕ, zero, suc, ◌+◌, List, [], ◌∷◌, ◌++◌, length, refl, ap, sym, subst, ◌∙◌, map, reverse, arith, Some, append_assoc, sum_by}
use Rattle.std.specs.Prelude.{slice_get, slice_set, slice_index}
use Rattle.std.proofs.lemmas.List.Sums.{sum_by-append, sum_by-cons}
use Rattle.std.proofs.lemmas.List.{reverse-append}
use Rattle.hek_permute.specs.Numbers.{begun_by, begun_below, orders_of}
use Rattle.hek_explore.specs.Deals.{Deals, Measure, weight_on, weigh}

-- ---- weights
pub weigh-more : (f : List ℕ → ℕ) (rest qs us : List (List ℕ)) → weigh f rest (qs ++ us) ≡ weigh f rest qs + weigh f rest us
weigh-more f rest qs us = sum_by-append (weight_on f rest) qs us

pub weigh-split : (f : List ℕ → ℕ) (xs ys qs : List (List ℕ)) → weigh f (xs ++ ys) qs ≡ weigh f xs qs + weigh f ys qs
weigh-split f xs ys [] = refl
weigh-split f xs ys (q ∷ qs) = omega (
  arith,
  sum_by-cons (weight_on f (xs ++ ys)) q qs,
  sum_by-cons (weight_on f xs) q qs,
  sum_by-cons (weight_on f ys) q qs,
  sum_by-append (λ s. f (reverse s ++ q)) xs ys,
  weigh-split f xs ys qs,
)

pub weigh-none : (f : List ℕ → ℕ) (qs : List (List ℕ)) → weigh f [] qs ≡ 0
weigh-none f [] = refl
weigh-none f (q ∷ qs) = omega (arith, sum_by-cons (weight_on f []) q qs, weigh-none f qs)

-- a beginning with one more move
one-more : (f : List ℕ → ℕ) (t : ℕ) (rest : List (List ℕ)) (q : List ℕ) → weight_on f rest (t ∷ q) ≡ weight_on f (map (λ o. t ∷ o) rest) q
one-more f t [] q = refl
one-more f t (s ∷ rest) q =
    let here : reverse s ++ (t ∷ q) ≡ reverse (t ∷ s) ++ q = reverse-onto s t q in
    let a : weight_on f (s ∷ rest) (t ∷ q) ≡ f (reverse s ++ (t ∷ q)) + weight_on f rest (t ∷ q) = sum_by-cons (λ s. f (reverse s ++ (t ∷ q))) s rest in
    let b : weight_on f (map (λ o. t ∷ o) (s ∷ rest)) q ≡ f (reverse (t ∷ s) ++ q) + weight_on f (map (λ o. t ∷ o) rest) q = sum_by-cons (λ s. f (reverse s ++ q)) (t ∷ s) (map (λ o. t ∷ o) rest) in
    omega (arith, a, b, ap f here, one-more f t rest q)
  where
    reverse-onto : (s : List ℕ) (t : ℕ) (q : List ℕ) → reverse s ++ (t ∷ q) ≡ reverse (t ∷ s) ++ q
    reverse-onto s t q = sym (append_assoc (reverse s) (t ∷ []) q) ∙ sym (ap (λ (l : List ℕ). l ++ q) (reverse-append (t ∷ []) s))

pub all-more : (f : List ℕ → ℕ) (t : ℕ) (rest qs : List (List ℕ)) → weigh f rest (map (λ q. t ∷ q) qs) ≡ weigh f (map (λ o. t ∷ o) rest) qs
all-more f t rest [] = refl
all-more f t rest (q ∷ qs) = omega (
  arith,
  sum_by-cons (weight_on f rest) (t ∷ q) (map (λ q. t ∷ q) qs),
  sum_by-cons (weight_on f (map (λ o. t ∷ o) rest)) q qs,
  one-more f t rest q,
  all-more f t rest qs,
)

pub weigh-end : (qs : List (List ℕ)) (counts : List ℕ) (f : List ℕ → ℕ) → weigh f (orders_of zero counts) qs ≡ sum_by f qs
weigh-end [] counts f = refl
weigh-end (q ∷ qs) counts f =
    let one : weight_on f ([] ∷ []) q ≡ f q + 0 = sum_by-cons (λ s. f (reverse s ++ q)) [] [] in
    omega (arith, sum_by-cons (weight_on f ([] ∷ [])) q qs, sum_by-cons f q qs, one, weigh-end qs counts f)

-- ---- classes
module _ {G : Type 0} (left : G → List ℕ) (Fits : G → List (List ℕ) → Type 0) where
  pub deals-alike : (n : ℕ) (gs : List G) (all other : Measure) → Deals left Fits n gs all → ((f : List ℕ → ℕ) → other f ≡ all f) → Deals left Fits n gs other
  deals-alike n [] all other d same = λ f. same f ∙ d f
  deals-alike n (g ∷ gs) all other d same = (d.0, d.1, d.2, d.3, λ f. same f ∙ d.4 f)

  -- one more class
  pub deals-push : (n : ℕ) (gs : List G) (all : Measure) (g : G) (qs : List (List ℕ)) → Deals left Fits n gs all → Fits g qs
      → Deals left Fits n (gs ++ g ∷ []) (λ f. all f + weigh f (orders_of n (left g)) qs)
  deals-push n [] all g qs d fits = (qs, (λ f. 0), fits, (λ f. refl), λ f. omega (arith, d f))
  deals-push n (x ∷ gs) all g qs d fits =
      (d.0, (λ f. d.1 f + weigh f (orders_of n (left g)) qs), d.2, deals-push n gs d.1 g qs d.3 fits, λ f. omega (arith, d.4 f))

  -- a class gets more beginnings
  pub deals-set : (n : ℕ) (gs : List G) (all : Measure) (place : ℕ) (was now : G) (qs : List (List ℕ)) → Deals left Fits n gs all → slice_get gs place ≡ Some was
      → left now ≡ left was → ((us : List (List ℕ)) → Fits was us → Fits now (us ++ qs)) → Deals left Fits n (slice_set gs place now) (λ f. all f + weigh f (orders_of n (left was)) qs)
  deals-set n [] all place was now qs d is same more = absurd cc
  deals-set n (g ∷ gs) all zero was now qs d is same more =
      let one : g ≡ was = cc in
      let fits : Fits was d.0 = subst (λ (x : G). Fits x d.0) one d.2 in (
        d.0 ++ qs,
        d.1,
        more d.0 fits,
        d.3,
        λ f.
            let here : left g ≡ left now = ap left one ∙ sym same in
            let there : left g ≡ left was = ap left one in
            let both : weigh f (orders_of n (left now)) (d.0 ++ qs) ≡ weigh f (orders_of n (left now)) d.0 + weigh f (orders_of n (left now)) qs = weigh-more f (orders_of n (left now)) d.0 qs in
            let a : weigh f (orders_of n (left g)) d.0 ≡ weigh f (orders_of n (left now)) d.0 = ap (λ (l : List ℕ). weigh f (orders_of n l) d.0) here in
            let b : weigh f (orders_of n (left was)) qs ≡ weigh f (orders_of n (left now)) qs = ap (λ (l : List ℕ). weigh f (orders_of n l) qs) (sym same) in
            omega (arith, d.4 f, both, a, b),
      )
  deals-set n (g ∷ gs) all (suc place) was now qs d is same more =
      (d.0, (λ f. d.1 f + weigh f (orders_of n (left was)) qs), d.2, deals-set n gs d.1 place was now qs d.3 is same more, λ f. omega (arith, d.4 f))

  -- the beginnings of a class of which those are counted that go on with one of the first transactions
  abbrev pub HasExtended : ℕ → G → ℕ → List G → List G → Type 0
  HasExtended n g place old new =
      (all : Measure) (qs : List (List ℕ)) → Deals left Fits n old all → Fits g qs → Deals left Fits n new (λ f. all f + weigh f (begun_below (orders_of n) (left g) place) qs)

  pub extended-none : (n : ℕ) (g : G) (old : List G) → HasExtended n g 0 old old
  extended-none n g old all qs d fits = deals-alike n old all (λ f. all f + weigh f [] qs) d (λ f. omega (arith, weigh-none f qs))

  begun-more : (f : List ℕ → ℕ) (n : ℕ) (counts : List ℕ) (place : ℕ) (qs : List (List ℕ))
      → weigh f (begun_below (orders_of n) counts (suc place)) qs ≡ weigh f (begun_below (orders_of n) counts place) qs + weigh f (begun_by (orders_of n) counts place (slice_index counts place)) qs
  begun-more f n counts place qs = weigh-split f (begun_below (orders_of n) counts place) (begun_by (orders_of n) counts place (slice_index counts place)) qs

  pub extended-skip : (n : ℕ) (g : G) (place next : ℕ) (old new : List G) → next ≡ suc place → slice_index (left g) place ≡ 0 → HasExtended n g place old new → HasExtended n g next old new
  extended-skip n g place next old new is none_left was all qs d fits =
      subst (λ (m : ℕ). Deals left Fits n new (λ f. all f + weigh f (begun_below (orders_of n) (left g) m) qs)) (sym is)
      (deals-alike n new (λ f. all f + weigh f (begun_below (orders_of n) (left g) place) qs) (λ f. all f + weigh f (begun_below (orders_of n) (left g) (suc place)) qs) (was all qs d fits)
      (λ f.
      let none : weigh f (begun_by (orders_of n) (left g) place (slice_index (left g) place)) qs ≡ 0 = ap (λ (m : ℕ). weigh f (begun_by (orders_of n) (left g) place m) qs) none_left ∙ weigh-none f qs in
      omega (arith, begun-more f n (left g) place qs, none)))

  -- the class c was put among these
  abbrev pub IsDealt : List G → List G → G → Type 0
  IsDealt old new c = (n : ℕ) (all : Measure) (qs : List (List ℕ)) → Deals left Fits n old all → Fits c qs → Deals left Fits n new (λ f. all f + weigh f (orders_of n (left c)) qs)

  pub extended-more : (n : ℕ) (g c : G) (place next fewer : ℕ) (old mid new : List G) → next ≡ suc place → slice_index (left g) place ≡ suc fewer → left c ≡ slice_set (left g) place fewer
      → ((qs : List (List ℕ)) → Fits g qs → Fits c (map (λ q. suc place ∷ q) qs)) → IsDealt mid new c → HasExtended n g place old mid → HasExtended n g next old new
  extended-more n g c place next fewer old mid new is had less grow put was all qs d fits =
      subst (λ (m : ℕ). Deals left Fits n new (λ f. all f + weigh f (begun_below (orders_of n) (left g) m) qs)) (sym is)
      (deals-alike n new
      (λ f. (all f + weigh f (begun_below (orders_of n) (left g) place) qs) + weigh f (orders_of n (left c)) (map (λ q. suc place ∷ q) qs))
      (λ f. all f + weigh f (begun_below (orders_of n) (left g) (suc place)) qs)
      (put n (λ f. all f + weigh f (begun_below (orders_of n) (left g) place) qs) (map (λ q. suc place ∷ q) qs) (was all qs d fits) (grow qs fits))
      (λ f.
      let some : weigh f (begun_by (orders_of n) (left g) place (slice_index (left g) place)) qs ≡ weigh f (map (λ o. suc place ∷ o) (orders_of n (slice_set (left g) place fewer))) qs =
      ap (λ (m : ℕ). weigh f (begun_by (orders_of n) (left g) place m) qs) had in
      let with_one : weigh f (orders_of n (left c)) (map (λ q. suc place ∷ q) qs) ≡ weigh f (map (λ o. suc place ∷ o) (orders_of n (left c))) qs = all-more f (suc place) (orders_of n (left c)) qs in
      let left_over : weigh f (map (λ o. suc place ∷ o) (orders_of n (left c))) qs ≡ weigh f (map (λ o. suc place ∷ o) (orders_of n (slice_set (left g) place fewer))) qs =
      ap (λ (l : List ℕ). weigh f (map (λ o. suc place ∷ o) (orders_of n l)) qs) less in
      omega (arith, begun-more f n (left g) place qs, some, with_one, left_over)))

  -- the first classes of a layer have become the next one, and the others are left
  pub record IsPassed (n : ℕ) (all : Measure) (next rest : List G) : Type 0 where
    pub done : Measure
    pub to_do : Measure
    pub dealt : Deals left Fits n next done
    pub others : Deals left Fits (suc n) rest to_do
    pub sum : (f : List ℕ → ℕ) → all f ≡ done f + to_do f

  pub passed-none : (n : ℕ) (all : Measure) (gs : List G) → Deals left Fits (suc n) gs all → IsPassed n all [] gs
  passed-none n all gs d = record { done = (λ f. 0); to_do = all; dealt = (λ f. refl); others = d; sum = λ f. omega arith }

  pub passed-more : (n : ℕ) (all : Measure) (old new : List G) (g : G) (rest : List G) (count : ℕ) → count ≡ length (left g) → HasExtended n g count old new → IsPassed n all old (g ∷ rest) → IsPassed n all new rest
  passed-more n all old new g rest count is more was =
      let whole : HasExtended n g (length (left g)) old new = subst (λ (m : ℕ). HasExtended n g m old new) is more in
      record {
        done = (λ f. was.done f + weigh f (orders_of (suc n) (left g)) was.others.0);
        to_do = was.others.1;
        dealt = whole was.done was.others.0 was.dealt was.others.2;
        others = was.others.3;
        sum = λ f. omega (arith, was.sum f, was.others.4 f);
      }

  pub passed-all : (n : ℕ) (all : Measure) (next : List G) → IsPassed n all next [] → Deals left Fits n next all
  passed-all n all next was = deals-alike n next was.done all was.dealt (λ f. omega (arith, was.sum f, was.others f))

  -- when no moves are left, each beginning is an order
  pub over : (g : G) (qs : List (List ℕ)) (f : List ℕ → ℕ) → weigh f (orders_of 0 (left g)) qs ≡ sum_by f qs
  over g qs f = weigh-end qs (left g) f
