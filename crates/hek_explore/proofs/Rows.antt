-- Orders in rows, each with its outcome.
use Rattle.std.proofs.Common.{◌≡◌, ℕ, zero, suc, ◌+◌, ◌<◌, Bool, true, false, List, [], ◌∷◌, ◌++◌, length, refl, ap, sym, subst, ◌∙◌, map, reverse, arith, Some, inl, inr, sum, sum_by}
use Rattle.std.proofs.lemmas.List.{length-append, length-map, map-append, reverse-reverse, append-nil}
use Rattle.std.proofs.lemmas.List.Elements.{All-append, All-cons, All-head, All-nil, All-tail}
use Rattle.std.proofs.lemmas.List.Sums.{sum_by-append, sum_by-cons}
use Rattle.std.proofs.lemmas.Option.{slice_get_within}
use Rattle.std.specs.List.{All}
use Rattle.std.specs.Prelude.{◌⊎◌, cond, count_by, if◌then◌else◌, slice_get, slice_set}
use Rattle.hek_rules.specs.Plan.{Plan}
use Rattle.hek_permute.specs.declared.moves.Form.{Form}
use Rattle.hek_permute.specs.Found.{Found, IsSame, Line}
use Rattle.hek_permute.specs.Moves.{Work, counts_of}
use Rattle.hek_permute.specs.Numbers.{all_orders, orders_of}
use Rattle.hek_permute.specs.Orders.{IsAmong, IsBelow}
use Rattle.hek_permute.proofs.Begun.{among_append}
use Rattle.hek_permute.specs.Tallies.{AreNoted, many_more, row_for, total}
use Rattle.hek_explore.specs.Counts.{AreApart, AreCountedOut, AreOf, Group, HasOutcome, IsAhead, IsBefore, IsCensusOf, IsStart, orders_in, weight_in}
use Rattle.hek_explore.specs.Deals.{DealsClasses, DealsRows, FitsClass, FitsRow, IsTallied, Measure, left_of, no_moves, weigh}
use Rattle.hek_explore.specs.Steps.{EndsWith, HasKey}
use Rattle.hek_explore.proofs.Classes.{among-all, among-made, among-more, before-all, before-trans, IsUpTo, start-deals, up-to-all, up-to-none-below}
use Rattle.hek_explore.proofs.Counting.{deals-alike, deals-push, deals-set, weigh-end}

-- ---- orders with one outcome
abbrev noted_as : Found → List ℕ → List ℕ × Found
noted_as o q = (reverse q, o)

abbrev with_outcome : Found → List (List ℕ) → List (List ℕ × Found)
with_outcome o qs = map (noted_as o) qs

orders-with : (o : Found) (qs : List (List ℕ)) → orders_in (with_outcome o qs) ≡ map (λ q. reverse q) qs
orders-with o [] = refl
orders-with o (q ∷ qs) = ap (λ l. reverse q ∷ l) (orders-with o qs)

all-or-none : (b : Bool) (n : ℕ) → (if b then n + 1 else 0) ≡ cond b 1 0 + (if b then n else 0)
all-or-none true n = omega arith
all-or-none false n = refl

none-wait : (b : Bool) → zero ≡ (if b then zero else zero)
none-wait true = refl
none-wait false = refl

waits-with : (o : Found) (qs : List (List ℕ)) → count_by (λ (x : List ℕ × Found). x.1.waited) (with_outcome o qs) ≡ (if o.waited then length qs else 0)
waits-with o [] = none-wait o.waited
waits-with o (q ∷ qs) =
    let a : count_by (λ (x : List ℕ × Found). x.1.waited) (with_outcome o (q ∷ qs)) ≡ cond o.waited 1 0 + count_by (λ (x : List ℕ × Found). x.1.waited) (with_outcome o qs) =
    sum_by-cons (λ (x : List ℕ × Found). cond x.1.waited 1 0) (reverse q, o) (with_outcome o qs) in
    let b : (if o.waited then length qs + 1 else 0) ≡ cond o.waited 1 0 + (if o.waited then length qs else 0) = all-or-none o.waited (length qs) in
    let n : length (q ∷ qs) ≡ length qs + 1 = omega arith in
    let c : (if o.waited then length (q ∷ qs) else 0) ≡ (if o.waited then length qs + 1 else 0) = ap (λ (m : ℕ). if o.waited then m else 0) n in
    omega (arith, a, b, c, waits-with o qs)

module _ (p : Plan) (form : Form) (works : List Work) where
  played-with : (r : Line) (o : Found) (key : List ℕ) (longest : ℕ) (qs : List (List ℕ)) → EndsWith p form works key o → IsSame o r.outcome → All (λ q. HasKey p form works q key longest) qs
      → All (HasOutcome p form works r) (with_outcome o qs)
  played-with r o key longest [] ends same all = All-nil (HasOutcome p form works r)
  played-with r o key longest (q ∷ qs) ends same all =
      All-cons (HasOutcome p form works r) (reverse q, o) (with_outcome o qs)
      (ends q longest (All-head (λ q. HasKey p form works q key longest) q qs all), same)
      (played-with r o key longest qs ends same (All-tail (λ q. HasKey p form works q key longest) q qs all))

  self-same : (o : Found) → IsSame o o
  self-same o = record { ends = refl; rows = refl; verdict = refl }

  turned-same : (x y : Found) → IsSame x y → IsSame y x
  turned-same x y s = record { ends = sym s.ends; rows = sym s.rows; verdict = sym s.verdict }

  -- what none of a class's beginnings comes before, none of its orders does
  none-below : (o : Found) (qs : List (List ℕ)) (first : List ℕ) → ((q : List ℕ) → IsAmong q qs → IsUpTo first (reverse q))
      → (x : List ℕ) → IsAmong x (orders_in (with_outcome o qs)) → IsBelow x first → ⊥
  none-below o qs first least x at below =
      let made : (q : List ℕ) × (x ≡ reverse q) × IsAmong q qs = among-made (λ (q : List ℕ). reverse q) x qs (subst (λ (l : List (List ℕ)). IsAmong x l) (orders-with o qs) at) in
      up-to-none-below first (reverse made.0) (least made.0 made.2) (subst (λ (l : List ℕ). IsBelow l first) made.1 below)

  new-row : (g : Group) (o : Found) (first : List ℕ) (qs : List (List ℕ)) → first ≡ g.first → EndsWith p form works g.key o → FitsClass p form works g qs → FitsRow p form works (row_for o g.orders first) qs
  new-row g o first qs own ends fits = record {
    noted = with_outcome o qs;
    are = record {
      played = played-with (row_for o g.orders first) o g.key g.longest qs ends (self-same o) fits.keys;
      orders = fits.orders ∙ sym (length-map qs (noted_as o));
      waited = ap (λ (n : ℕ). if o.waited then n else 0) fits.orders ∙ sym (waits-with o qs);
      first = subst (λ (l : List (List ℕ)). IsAmong first l) (sym (orders-with o qs))
          (subst (λ (x : List ℕ). IsAmong x (map (λ q. reverse q) qs)) (reverse-reverse g.first ∙ sym own) (among-all (λ (q : List ℕ). reverse q) (reverse g.first) qs fits.first));
      least = none-below o qs first (λ q at. subst (λ (l : List ℕ). IsUpTo l (reverse q)) (sym own) (fits.least q at));
    };
    orders = orders-with o qs;
  }

  more-row : (r : Line) (g : Group) (o : Found) (us qs : List (List ℕ)) → IsSame r.outcome o → IsBefore r.first g.first → EndsWith p form works g.key o → FitsClass p form works g qs → FitsRow p form works r us
      → FitsRow p form works (many_more r g.orders o.waited) (us ++ qs)
  more-row r g o us qs same ahead ends fits row =
      let waits : (if o.waited then g.orders else 0) ≡ count_by (λ (x : List ℕ × Found). x.1.waited) (with_outcome o qs) = ap (λ (n : ℕ). if o.waited then n else 0) fits.orders ∙ sym (waits-with o qs) in
      record {
        noted = row.noted ++ with_outcome o qs;
        are = record {
          played = All-append (HasOutcome p form works r) row.noted (with_outcome o qs) row.are.played
              (played-with r o g.key g.longest qs ends (turned-same r.outcome o same) fits.keys);
          orders = omega (arith, row.are.orders, fits.orders, length-append row.noted (with_outcome o qs), length-map qs (noted_as o));
          waited = omega (arith, row.are.waited, waits, sum_by-append (λ (x : List ℕ × Found). cond x.1.waited 1 0) row.noted (with_outcome o qs));
          first = subst (λ (l : List (List ℕ)). IsAmong r.first l) (sym (map-append (λ (x : List ℕ × Found). x.0) row.noted (with_outcome o qs)))
              (among-more r.first (orders_in row.noted) (orders_in (with_outcome o qs)) row.are.first);
          least = λ x at below.
              elim (among_append x (orders_in row.noted) (orders_in (with_outcome o qs)) (subst (λ (l : List (List ℕ)). IsAmong x l) (map-append (λ (x : List ℕ × Found). x.0) row.noted (with_outcome o qs)) at)) [
                | inl a ↦ row.are.least x a below
                | inr b ↦ none-below o qs r.first (λ q own. inr (before-all r.first g.first (reverse q) ahead (fits.least q own))) x b below
              ];
        };
        orders = map-append (λ (x : List ℕ × Found). x.0) row.noted (with_outcome o qs) ∙ ap (λ (l : List (List ℕ)). l ++ orders_in (with_outcome o qs)) row.orders
            ∙ ap (λ (l : List (List ℕ)). map (λ q. reverse q) us ++ l) (orders-with o qs) ∙ sym (map-append (λ (q : List ℕ). reverse q) us qs);
      }

  -- the first order of each row comes before this one
  abbrev pub AreBehind : List Line → List ℕ → Type 0
  AreBehind rows first = (i : ℕ) (r : Line) → slice_get rows i ≡ Some r → IsBefore r.first first

  -- a class's orders are noted
  noted-dealt : (old new : List Line) (g : Group) (o : Found) (first : List ℕ) (all : Measure) (qs : List (List ℕ)) → first ≡ g.first → AreNoted old new o g.orders first → EndsWith p form works g.key o
      → AreBehind old g.first → FitsClass p form works g qs → DealsRows p form works old all → DealsRows p form works new (λ f. all f + weigh f (orders_of 0 []) qs)
  noted-dealt old new g o first all qs own noted ends behind fits d = elim noted [
    | inl c ↦
        subst (λ (rows : List Line). DealsRows p form works rows (λ f. all f + weigh f (orders_of 0 []) qs)) (sym c.counted)
        (deals-set no_moves (FitsRow p form works) 0 old all c.place c.found.row (many_more c.found.row g.orders o.waited) qs d c.found.is refl
        (λ us row. more-row c.found.row g o us qs c.found.same (behind c.place c.found.row c.found.is) ends fits row))
    | inr a ↦
        subst (λ (rows : List Line). DealsRows p form works rows (λ f. all f + weigh f (orders_of 0 []) qs)) (sym a.added)
        (deals-push no_moves (FitsRow p form works) 0 old all (row_for o g.orders first) qs d (new-row g o first qs own ends fits))
  ]

  -- ---- rows with different outcomes
  set-get : {A : Type 0} (f : Line → A) (xs : List Line) (place i : ℕ) (was now r : Line) → slice_get xs place ≡ Some was → f now ≡ f was → slice_get (slice_set xs place now) i ≡ Some r
      → (s : Line) × (slice_get xs i ≡ Some s) × (f r ≡ f s)
  set-get f [] place i was now r is same got = absurd cc
  set-get f (x ∷ xs) zero zero was now r is same got =
      let one : x ≡ was = cc in
      let other : now ≡ r = cc in
      (x, refl, ap f (sym other) ∙ same ∙ ap f (sym one))
  set-get f (x ∷ xs) zero (suc i) was now r is same got = (r, got, refl)
  set-get f (x ∷ xs) (suc place) zero was now r is same got = (r, got, refl)
  set-get f (x ∷ xs) (suc place) (suc i) was now r is same got = set-get f xs place i was now r is same got

  push-get : (xs : List Line) (i : ℕ) (x r : Line) → slice_get (xs ++ x ∷ []) i ≡ Some r → (slice_get xs i ≡ Some r) ⊎ ((i ≡ length xs) × (r ≡ x))
  push-get [] zero x r got = inr (refl, cc)
  push-get [] (suc i) x r got = absurd cc
  push-get (y ∷ xs) zero x r got = inl got
  push-get (y ∷ xs) (suc i) x r got = elim (push-get xs i x r got) [
    | inl h ↦ inl h
    | inr h ↦ let a : i ≡ length xs = h.0 in let b : suc i ≡ length (y ∷ xs) = omega (arith, a) in inr (b, h.1)
  ]

  same-outcomes : (a b c d : Found) → a ≡ b → c ≡ d → IsSame a c → IsSame b d
  same-outcomes a b c d e f s = subst (λ (x : Found). IsSame x d) e (subst (λ (y : Found). IsSame a y) f s)

  apart-more : (old new : List Line) (o : Found) (n : ℕ) (first : List ℕ) → AreNoted old new o n first → AreApart old → AreApart new
  apart-more old new o n first noted apart i j r s less gr gs same = elim noted [
    | inl c ↦
        let now : Line = many_more c.found.row n o.waited in
        let a = set-get (λ (l : Line). l.outcome) old c.place i c.found.row now r c.found.is refl (subst (λ (rows : List Line). slice_get rows i ≡ Some r) c.counted gr) in
        let b = set-get (λ (l : Line). l.outcome) old c.place j c.found.row now s c.found.is refl (subst (λ (rows : List Line). slice_get rows j ≡ Some s) c.counted gs) in
        apart i j a.0 b.0 less a.1 b.1 (same-outcomes r.outcome a.0.outcome s.outcome b.0.outcome a.2 b.2 same)
    | inr c ↦
        elim (push-get old i (row_for o n first) r (subst (λ (rows : List Line). slice_get rows i ≡ Some r) c.added gr)) [
          | inl a ↦ elim (push-get old j (row_for o n first) s (subst (λ (rows : List Line). slice_get rows j ≡ Some s) c.added gs)) [
            | inl b ↦ apart i j r s less a b same
            | inr b ↦ c.none i r a (same-outcomes r.outcome r.outcome s.outcome o refl (ap (λ (l : Line). l.outcome) b.1) same)
          ]
          | inr a ↦ elim (push-get old j (row_for o n first) s (subst (λ (rows : List Line). slice_get rows j ≡ Some s) c.added gs)) [
            | inl b ↦ let within : j < length old = slice_get_within old j s b in absurd (omega (arith, within, a.0, less))
            | inr b ↦ absurd (omega (arith, a.0, b.0, less))
          ]
        ]
  ]

  behind-more : (old new : List Line) (g : Group) (o : Found) (n : ℕ) (first next : List ℕ) → first ≡ g.first → AreNoted old new o n first → AreBehind old g.first → IsBefore g.first next → AreBehind new next
  behind-more old new g o n first next own noted behind ahead i r got = elim noted [
    | inl c ↦
        let a = set-get (λ (l : Line). l.first) old c.place i c.found.row (many_more c.found.row n o.waited) r c.found.is refl (subst (λ (rows : List Line). slice_get rows i ≡ Some r) c.counted got) in
        up-to-all r.first a.0.first next (inl a.2) (before-trans a.0.first g.first next (behind i a.0 a.1) ahead)
    | inr c ↦
        elim (push-get old i (row_for o n first) r (subst (λ (rows : List Line). slice_get rows i ≡ Some r) c.added got)) [
          | inl a ↦ before-trans r.first g.first next (behind i r a) ahead
          | inr a ↦ up-to-all r.first g.first next (inl (ap (λ (l : Line). l.first) a.1 ∙ own)) ahead
        ]
  ]

  -- ---- the classes one after another
  -- the orders of the first classes are those of the rows, and the other classes are left
  pub record IsShared (all : Measure) (rows : List Line) (rest : List Group) : Type 0 where
    pub done : Measure
    pub to_do : Measure
    pub dealt : DealsRows p form works rows done
    pub others : DealsClasses p form works 0 rest to_do
    pub sum : (f : List ℕ → ℕ) → all f ≡ done f + to_do f

  pub record IsTalliedTo (layer : List Group) (rows : List Line) (rest : List Group) : Type 0 where
    pub shared : (all : Measure) → DealsClasses p form works 0 layer all → IsShared all rows rest
    pub apart : AreApart rows
    pub behind : (g : Group) (later : List Group) → rest ≡ g ∷ later → AreBehind rows g.first

  pub tallied-none : (layer rest : List Group) (rows : List Line) → rows ≡ [] → rest ≡ layer → IsTalliedTo layer rows rest
  tallied-none layer rest rows none same = record {
    shared = λ all d. record {
      done = (λ f. 0);
      to_do = all;
      dealt = subst (λ (l : List Line). DealsRows p form works l (λ f. 0)) (sym none) (λ f. refl);
      others = subst (λ (gs : List Group). DealsClasses p form works 0 gs all) (sym same) d;
      sum = λ f. omega arith;
    };
    apart = λ i j r s less gr gs same. let bad : slice_get [] i ≡ Some r = subst (λ (l : List Line). slice_get l i ≡ Some r) none gr in absurd cc;
    behind = λ g later is i r gr. let bad : slice_get [] i ≡ Some r = subst (λ (l : List Line). slice_get l i ≡ Some r) none gr in absurd cc;
  }

  tallied-more : (layer rest : List Group) (g : Group) (old new : List Line) (o : Found) (first : List ℕ) → first ≡ g.first → AreNoted old new o g.orders first → EndsWith p form works g.key o
      → IsAhead g rest → IsTalliedTo layer old (g ∷ rest) → IsTalliedTo layer new rest
  tallied-more layer rest g old new o first own noted ends ahead was = record {
    shared = λ all d. (
        let s : IsShared all old (g ∷ rest) = was.shared all d in
        record {
          done = (λ f. s.done f + weigh f (orders_of 0 []) s.others.0);
          to_do = s.others.1;
          dealt = noted-dealt old new g o first s.done s.others.0 own noted ends (was.behind g rest refl) s.others.2 s.dealt;
          others = s.others.3;
          sum = λ f. omega (arith, s.sum f, s.others.4 f);
        });
    apart = apart-more old new o g.orders first noted was.apart;
    behind = λ next later is. behind-more old new g o g.orders first next.first own noted (was.behind g rest refl) (subst (λ (l : List Group). IsAhead g l) is ahead);
  }

  pub tallied-next : (layer rest later : List Group) (g : Group) (old new : List Line) (o : Found) (n : ℕ) (first : List ℕ) → rest ≡ g ∷ later → n ≡ g.orders → first ≡ g.first → AreNoted old new o n first
      → EndsWith p form works g.key o → IsAhead g later → IsTalliedTo layer old rest → IsTalliedTo layer new later
  tallied-next layer rest later g old new o n first is many own noted ends ahead was =
      tallied-more layer later g old new o first own (subst (λ (m : ℕ). AreNoted old new o m first) many noted) ends ahead (subst (λ (l : List Group). IsTalliedTo layer old l) is was)

  -- ---- all orders
  sum-through : {X Y : Type 0} (f : Y → ℕ) (g : X → Y) (xs : List X) → sum_by f (map g xs) ≡ sum_by (λ x. f (g x)) xs
  sum-through f g [] = refl
  sum-through f g (x ∷ xs) = omega (arith, sum_by-cons f (g x) (map g xs), sum_by-cons (λ x. f (g x)) x xs, sum-through f g xs)

  sum-alike : {X : Type 0} (f g : X → ℕ) (xs : List X) → ((x : X) → f x ≡ g x) → sum_by f xs ≡ sum_by g xs
  sum-alike f g [] same = refl
  sum-alike f g (x ∷ xs) same = omega (arith, sum_by-cons f x xs, sum_by-cons g x xs, same x, sum-alike f g xs same)

  row-weight : (w : List ℕ → ℕ) (r : Line) (qs : List (List ℕ)) (row : FitsRow p form works r qs) → weight_in w row.noted ≡ sum_by (λ q. w (reverse q)) qs
  row-weight w r qs row =
      sym (sum-through w (λ (x : List ℕ × Found). x.0) row.noted) ∙ ap (sum_by w) row.orders ∙ sum-through w (λ (q : List ℕ). reverse q) qs

  sum-ones : {X : Type 0} (xs : List X) → sum_by (λ x. 1) xs ≡ length xs
  sum-ones [] = refl
  sum-ones (x ∷ xs) = omega (arith, sum_by-cons (λ x. 1) x xs, sum-ones xs)

  row-count : (r : Line) (qs : List (List ℕ)) (row : FitsRow p form works r qs) → r.orders ≡ sum_by (λ q. 1) qs
  row-count r qs row =
      row.are.orders ∙ sym (length-map row.noted (λ (x : List ℕ × Found). x.0)) ∙ ap (λ (l : List (List ℕ)). length l) row.orders ∙ length-map qs (λ (q : List ℕ). reverse q) ∙ sym (sum-ones qs)

  rows-count : (rows : List Line) (all : Measure) → DealsRows p form works rows all → total rows ≡ all (λ q. 1)
  rows-count [] all d = sym (d (λ q. 1))
  rows-count (r ∷ rows) all d =
      omega (arith, sum_by-cons (λ (x : Line). x.orders) r rows, rows-count rows d.1 d.3, row-count r d.0 d.2, weigh-end d.0 [] (λ q. 1), d.4 (λ q. 1))

  pub count-out : (orders : List (List ℕ)) (rows : List Line) → DealsRows p form works rows (λ f. weigh f orders ([] ∷ [])) → total rows ≡ length orders
  count-out orders rows d =
      let a : weigh (λ q. 1) orders ([] ∷ []) ≡ sum_by (λ s. 1) orders + 0 = sum_by-cons (λ (q : List ℕ). sum_by (λ s. 1) orders) [] [] in
      omega (arith, rows-count rows (λ f. weigh f orders ([] ∷ [])) d, a, sum-ones orders)

  pub record AreCollected (rows : List Line) (all : Measure) : Type 0 where
    pub noted : List (List (List ℕ × Found))
    pub long : length noted ≡ length rows
    pub each : (i : ℕ) (r : Line) (xs : List (List ℕ × Found)) → slice_get rows i ≡ Some r → slice_get noted i ≡ Some xs → AreOf p form works r xs
    pub weight : (w : List ℕ → ℕ) → sum_by (weight_in w) noted ≡ all (λ q. w (reverse q))

  collected : (rows : List Line) (all : Measure) → DealsRows p form works rows all → AreCollected rows all
  collected [] all d = record { noted = []; long = refl; each = λ i r xs gr gx. absurd cc; weight = λ w. sym (d (λ q. w (reverse q))) }
  collected (r ∷ rows) all d =
      let rest : AreCollected rows d.1 = collected rows d.1 d.3 in
      record {
        noted = d.2.noted ∷ rest.noted;
        long = omega (arith, rest.long);
        each = one-by-one r d.2.noted d.2.are rows rest.noted rest.each;
        weight = λ w. omega (
          arith,
          sum_by-cons (weight_in w) d.2.noted rest.noted,
          rest.weight w,
          row-weight w r d.0 d.2,
          weigh-end d.0 [] (λ q. w (reverse q)),
          d.4 (λ q. w (reverse q)),
        );
      }
    where
      one-by-one : (r : Line) (xs : List (List ℕ × Found)) → AreOf p form works r xs → (rows : List Line) (noted : List (List (List ℕ × Found)))
          → ((i : ℕ) (s : Line) (ys : List (List ℕ × Found)) → slice_get rows i ≡ Some s → slice_get noted i ≡ Some ys → AreOf p form works s ys)
          → (i : ℕ) (s : Line) (ys : List (List ℕ × Found)) → slice_get (r ∷ rows) i ≡ Some s → slice_get (xs ∷ noted) i ≡ Some ys → AreOf p form works s ys
      one-by-one r xs of rows noted each zero s ys gs gy =
          let a : r ≡ s = cc in
          let b : xs ≡ ys = cc in
          subst (λ (z : Line). AreOf p form works z ys) a (subst (AreOf p form works r) b of)
      one-by-one r xs of rows noted each (suc i) s ys gs gy = each i s ys gs gy

  -- the orders of all rows are all orders
  pub counted-out : (orders : List (List ℕ)) (rows : List Line) → DealsRows p form works rows (λ f. weigh f orders ([] ∷ [])) → AreCountedOut p form works orders rows
  counted-out orders rows d =
      let c : AreCollected rows (λ f. weigh f orders ([] ∷ [])) = collected rows (λ f. weigh f orders ([] ∷ [])) d in
      record {
        noted = c.noted;
        long = c.long;
        each = c.each;
        all = λ w.
            let a : weigh (λ q. w (reverse q)) orders ([] ∷ []) ≡ sum_by (λ s. w (reverse (reverse s ++ []))) orders + 0 = sum_by-cons (λ q. sum_by (λ s. w (reverse (reverse s ++ q))) orders) [] [] in
            let b : sum_by (λ s. w (reverse (reverse s ++ []))) orders ≡ sum_by w orders =
            sum-alike (λ s. w (reverse (reverse s ++ []))) w orders (λ s. ap w (ap (λ (l : List ℕ). reverse l) (append-nil (reverse s)) ∙ reverse-reverse s)) in
            omega (arith, c.weight w, a, b);
      }

-- ---- layer after layer
-- with so many moves, all orders begin with the beginnings of the layer's classes
abbrev pub IsWalked : Plan → Form → List Work → ℕ → ℕ → List Group → Type 0
IsWalked p form works most done layer = (n : ℕ) → n + done ≡ most → DealsClasses p form works n layer (λ f. weigh f (all_orders (counts_of form works)) ([] ∷ []))

pub walked-first : (p : Plan) (form : Form) (works : List Work) (most done : ℕ) (left : List ℕ) (g : Group) (layer : List Group) → left ≡ counts_of form works → most ≡ sum left → done ≡ 0
    → IsStart p form works left g → layer ≡ g ∷ [] → IsWalked p form works most done layer
walked-first p form works most done left g layer counts all none start is n e =
    let moves : n ≡ sum (counts_of form works) = omega (arith, e, none, all, ap sum counts) in
    let one : DealsClasses p form works n (g ∷ []) (λ f. weigh f (orders_of n left) ([] ∷ [])) = start-deals p form works n left g start in
    subst (λ (gs : List Group). DealsClasses p form works n gs (λ f. weigh f (all_orders (counts_of form works)) ([] ∷ []))) (sym is)
    (deals-alike left_of (FitsClass p form works) n (g ∷ []) (λ f. weigh f (orders_of n left) ([] ∷ [])) (λ f. weigh f (all_orders (counts_of form works)) ([] ∷ [])) one
    (λ f. ap (λ (m : ℕ). weigh f (orders_of m (counts_of form works)) ([] ∷ [])) (sym moves) ∙ ap (λ (l : List ℕ). weigh f (orders_of n l) ([] ∷ [])) (sym counts)))

pub walked-all : (p : Plan) (form : Form) (works : List Work) (most done : ℕ) (layer : List Group) (rows : List Line) → done ≡ most → IsWalked p form works most done layer
    → IsTallied p form works layer rows → IsCensusOf p form works rows
walked-all p form works most done layer rows over was tallied = record {
  counted = counted-out p form works (all_orders (counts_of form works)) rows
      (tallied.dealt (λ f. weigh f (all_orders (counts_of form works)) ([] ∷ [])) (was 0 (omega (arith, over))));
  count = count-out p form works (all_orders (counts_of form works)) rows
      (tallied.dealt (λ f. weigh f (all_orders (counts_of form works)) ([] ∷ [])) (was 0 (omega (arith, over))));
  apart = tallied.apart;
}
