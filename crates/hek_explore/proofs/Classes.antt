-- Beginnings of orders in classes.
use Rattle.std.proofs.Common.{◌≡◌, ℕ, zero, suc, ◌+◌, ◌≤◌, ◌<◌, List, [], ◌∷◌, ◌++◌, length, refl, ap, sym, subst, ◌∙◌, map, reverse, arith, Option, Some, None, inl, inr, get_or, replicate}
use Rattle.std.proofs.lemmas.Bool.{cases_Bool}
use Rattle.std.proofs.lemmas.Bool.Decides.{nat_tests}
use Rattle.std.proofs.lemmas.List.{length-append, length-map, reverse-append}
use Rattle.std.proofs.lemmas.List.Elements.{All-append, All-cons, All-head, All-nil, All-tail}
use Rattle.std.specs.List.{All}
use Rattle.std.specs.Prelude.{◌⊎◌, slice_get, slice_set, slice_index, nat_lt, if◌then◌else◌, Result, Ok, Err, OnOk}
use Rattle.hek_rules.specs.Checks.{clock_end}
use Rattle.hek_rules.specs.Plan.{Plan}
use Rattle.hek_machine.specs.declared.engine.Engine.{Engine}
use Rattle.hek_worker.specs.declared.entry.Entry.{Entry}
use Rattle.hek_worker.specs.History.{Replays}
use Rattle.hek_permute.specs.declared.moves.Form.{Form}
use Rattle.hek_permute.specs.declared.play.Place.{Place}
use Rattle.hek_permute.specs.Found.{Found}
use Rattle.hek_permute.specs.Moves.{Work}
use Rattle.hek_permute.specs.Numbers.{orders_of}
use Rattle.hek_permute.specs.Orders.{IsAmong, IsBelow}
use Rattle.hek_permute.specs.Outcomes.{IsOutcomeOf}
use Rattle.hek_permute.specs.Plays.{HasMoved, first_place}
use Rattle.hek_explore.specs.Counts.{AreGrown, AreLike, Group, HasLike, IsBefore, IsGrown, IsGrownAt, IsJoined, IsPut, IsPutIf, IsReplayed, IsStart, joined}
use Rattle.hek_explore.specs.Deals.{AreExtended, DealsClasses, FitsClass, IsExtended, IsNextLayer, Measure, left_of, weigh}
use Rattle.hek_explore.specs.Codes.{code_of}
use Rattle.hek_explore.specs.Steps.{AreRuled, EndsWith, HasKey, LeadsBy}
use Rattle.hek_permute.proofs.Begun.{among_append}
use Rattle.hek_explore.proofs.Counting.{deals-alike, deals-push, deals-set, HasExtended, extended-none, extended-skip, extended-more, IsDealt, IsPassed, passed-none, passed-more, passed-all}
use Rattle.hek_explore.proofs.Steps.{first-key, last-key, leads}

at-most : (a b : ℕ) → a ≤ (if nat_lt a b then b else a)
at-most a b = elim (cases_Bool (nat_lt a b)) [
  | inl h ↦ let less : a < b = grind (arith, nat_tests, h) in rw h (omega (arith, less))
  | inr h ↦ rw h (omega arith)
]

at-least : (a b : ℕ) → b ≤ (if nat_lt a b then b else a)
at-least a b = elim (cases_Bool (nat_lt a b)) [
  | inl h ↦ rw h (omega arith)
  | inr h ↦ let more : b ≤ a = grind (arith, nat_tests, h) in rw h more
]

-- ---- orders in a list
pub among-more : (o : List ℕ) (us qs : List (List ℕ)) → IsAmong o us → IsAmong o (us ++ qs)
among-more o [] qs h = absurd h
among-more o (u ∷ us) qs h = elim h [ inl a ↦ inl a | inr b ↦ inr (among-more o us qs b) ]

pub among-all : (f : List ℕ → List ℕ) (o : List ℕ) (qs : List (List ℕ)) → IsAmong o qs → IsAmong (f o) (map f qs)
among-all f o [] h = absurd h
among-all f o (q ∷ qs) h = elim h [ inl a ↦ inl (ap f a) | inr b ↦ inr (among-all f o qs b) ]

pub among-made : (f : List ℕ → List ℕ) (o : List ℕ) (qs : List (List ℕ)) → IsAmong o (map f qs) → (q : List ℕ) × (o ≡ f q) × IsAmong q qs
among-made f o [] h = absurd h
among-made f o (q ∷ qs) (inl e) = (q, e, inl refl)
among-made f o (q ∷ qs) (inr h) = let at : (r : List ℕ) × (o ≡ f r) × IsAmong r qs = among-made f o qs h in (at.0, at.1, inr at.2)

-- ---- which order comes first
abbrev pub IsUpTo : List ℕ → List ℕ → Type 0
IsUpTo xs ys = (xs ≡ ys) ⊎ IsBefore xs ys

pub before-trans : (xs ys zs : List ℕ) → IsBefore xs ys → IsBefore ys zs → IsBefore xs zs
before-trans [] ys zs h g = absurd h
before-trans (x ∷ xs) [] zs h g = absurd h
before-trans (x ∷ xs) (y ∷ ys) [] h g = absurd g
before-trans (x ∷ xs) (y ∷ ys) (z ∷ zs) (inl h) (inl g) = inl (omega arith)
before-trans (x ∷ xs) (y ∷ ys) (z ∷ zs) (inl h) (inr g) = inl (omega (arith, g.0))
before-trans (x ∷ xs) (y ∷ ys) (z ∷ zs) (inr h) (inl g) = inl (omega (arith, h.0))
before-trans (x ∷ xs) (y ∷ ys) (z ∷ zs) (inr h) (inr g) = inr (h.0 ∙ g.0, before-trans xs ys zs h.1 g.1)

pub before-all : (xs ys zs : List ℕ) → IsBefore xs ys → IsUpTo ys zs → IsBefore xs zs
before-all xs ys zs h (inl e) = subst (λ (l : List ℕ). IsBefore xs l) e h
before-all xs ys zs h (inr g) = before-trans xs ys zs h g

pub up-to-all : (xs ys zs : List ℕ) → IsUpTo xs ys → IsBefore ys zs → IsBefore xs zs
up-to-all xs ys zs (inl e) g = subst (λ (l : List ℕ). IsBefore l zs) (sym e) g
up-to-all xs ys zs (inr h) g = before-trans xs ys zs h g

before-longer : (xs ys more : List ℕ) → IsBefore xs ys → IsBefore (xs ++ more) (ys ++ more)
before-longer [] ys more h = absurd h
before-longer (x ∷ xs) [] more h = absurd h
before-longer (x ∷ xs) (y ∷ ys) more (inl h) = inl h
before-longer (x ∷ xs) (y ∷ ys) more (inr h) = inr (h.0, before-longer xs ys more h.1)

up-to-longer : (xs ys more : List ℕ) → IsUpTo xs ys → IsUpTo (xs ++ more) (ys ++ more)
up-to-longer xs ys more (inl e) = inl (ap (λ (l : List ℕ). l ++ more) e)
up-to-longer xs ys more (inr h) = inr (before-longer xs ys more h)

not-below : (xs ys : List ℕ) → IsBefore xs ys → IsBelow ys xs → ⊥
not-below [] ys h g = absurd h
not-below (x ∷ xs) [] h g = absurd h
not-below (x ∷ xs) (y ∷ ys) (inl h) (inl g) = absurd (omega arith)
not-below (x ∷ xs) (y ∷ ys) (inl h) (inr g) = absurd (omega (arith, g.0))
not-below (x ∷ xs) (y ∷ ys) (inr h) (inl g) = absurd (omega (arith, h.0))
not-below (x ∷ xs) (y ∷ ys) (inr h) (inr g) = not-below xs ys h.1 g.1

not-below-self : (xs : List ℕ) → IsBelow xs xs → ⊥
not-below-self [] g = g
not-below-self (x ∷ xs) (inl g) = absurd (omega arith)
not-below-self (x ∷ xs) (inr g) = not-below-self xs g.1

pub up-to-none-below : (xs ys : List ℕ) → IsUpTo xs ys → IsBelow ys xs → ⊥
up-to-none-below xs ys (inl e) g = not-below-self xs (subst (λ (l : List ℕ). IsBelow l xs) (sym e) g)
up-to-none-below xs ys (inr h) g = not-below xs ys h g

module _ (p : Plan) (form : Form) (works : List Work) where
  longer-key : (q : List ℕ) (key : List ℕ) (a b : ℕ) → a ≤ b → HasKey p form works q key a → HasKey p form works q key b
  longer-key q key a b h k = record { history = k.history; places = k.places; played = k.played; is = k.is; short = let few : length k.history ≤ a = k.short in omega (arith, few, h) }

  longer-keys : (key other : List ℕ) (a b : ℕ) (qs : List (List ℕ)) → key ≡ other → a ≤ b → All (λ q. HasKey p form works q key a) qs → All (λ q. HasKey p form works q other b) qs
  longer-keys key other a b [] same h all = All-nil (λ q. HasKey p form works q other b)
  longer-keys key other a b (q ∷ qs) same h all =
      All-cons (λ q. HasKey p form works q other b) q qs
      (subst (λ (k : List ℕ). HasKey p form works q k b) same (longer-key q key a b h (All-head (λ q. HasKey p form works q key a) q qs all)))
      (longer-keys key other a b qs same h (All-tail (λ q. HasKey p form works q key a) q qs all))

  joined-fits : (g c : Group) (us qs : List (List ℕ)) → AreLike g c → IsBefore g.first c.first → FitsClass p form works g us → FitsClass p form works c qs
      → FitsClass p form works (joined g c) (us ++ qs)
  joined-fits g c us qs like ahead gu cq = record {
    keys = All-append (λ q. HasKey p form works q g.key (joined g c).longest) us qs
        (longer-keys g.key g.key g.longest (joined g c).longest us refl (at-most g.longest c.longest) gu.keys)
        (longer-keys c.key g.key c.longest (joined g c).longest qs (sym like.key) (at-least g.longest c.longest) cq.keys);
    orders = omega (arith, gu.orders, cq.orders, length-append us qs);
    first = among-more (reverse g.first) us qs gu.first;
    least = λ q at. elim (among_append q us qs at) [ inl a ↦ gu.least q a | inr b ↦ inr (before-all g.first c.first (reverse q) ahead (cq.least q b)) ];
  }

  -- a class that was put among others
  pub put-dealt : (old new : List Group) (c : Group) → IsPut old new c → IsDealt left_of (FitsClass p form works) old new c
  put-dealt old new c put n all qs d fits = elim put [
    | inl j ↦
        let like : HasLike old c j.0 = j.1 in
        let set : DealsClasses p form works n (slice_set old j.0 (joined like.group c)) (λ f. all f + weigh f (orders_of n like.group.left) qs) =
        deals-set left_of (FitsClass p form works) n old all j.0 like.group (joined like.group c) qs d like.is refl (λ us g. joined-fits like.group c us qs like.like j.3.1 g fits) in
        subst (λ (gs : List Group). DealsClasses p form works n gs (λ f. all f + weigh f (orders_of n c.left) qs)) (sym (j.4 ∙ ap (λ (g : Group). slice_set old j.0 g) j.3.0))
        (deals-alike left_of (FitsClass p form works) n (slice_set old j.0 (joined like.group c)) (λ f. all f + weigh f (orders_of n like.group.left) qs) (λ f. all f + weigh f (orders_of n c.left) qs) set
        (λ f. ap (λ (l : List ℕ). all f + weigh f (orders_of n l) qs) (sym like.like.left)))
    | inr push ↦
        subst (λ (gs : List Group). DealsClasses p form works n gs (λ f. all f + weigh f (orders_of n c.left) qs)) (sym push)
        (deals-push left_of (FitsClass p form works) n old all c qs d fits)
  ]

  -- a class with one more move
  grown-keys : (g c : Group) (place : ℕ) (grown : IsGrown p form works g place c) (qs : List (List ℕ)) → All (λ q. HasKey p form works q g.key g.longest) qs
      → All (λ q. HasKey p form works q c.key c.longest) (map (λ q. suc place ∷ q) qs)
  grown-keys g c place grown [] all = All-nil (λ q. HasKey p form works q c.key c.longest)
  grown-keys g c place grown (q ∷ qs) all =
      let is : place + 1 ≡ suc place = omega arith in
      let short : g.longest + grown.more < clock_end = omega (arith, grown.short, grown.longest) in
      let one : HasKey p form works ((place + 1) ∷ q) c.key (g.longest + grown.more) = grown.leads q g.longest (All-head (λ q. HasKey p form works q g.key g.longest) q qs all) short in
      All-cons (λ q. HasKey p form works q c.key c.longest) (suc place ∷ q) (map (λ q. suc place ∷ q) qs)
      (subst (λ (n : ℕ). HasKey p form works (suc place ∷ q) c.key n) (sym grown.longest) (subst (λ (t : ℕ). HasKey p form works (t ∷ q) c.key (g.longest + grown.more)) is one))
      (grown-keys g c place grown qs (All-tail (λ q. HasKey p form works q g.key g.longest) q qs all))

  grown-least : (g c : Group) (place : ℕ) → IsGrown p form works g place c → (q o : List ℕ) → q ≡ suc place ∷ o → IsUpTo g.first (reverse o) → IsUpTo c.first (reverse q)
  grown-least g c place grown q o is below =
      let one : place + 1 ≡ suc place = omega arith in
      let longer : IsUpTo (g.first ++ suc place ∷ []) (reverse o ++ suc place ∷ []) = up-to-longer g.first (reverse o) (suc place ∷ []) below in
      subst (λ (l : List ℕ). IsUpTo l (reverse q)) (sym (grown.first ∙ ap (λ (t : ℕ). g.first ++ t ∷ []) one))
      (subst (λ (l : List ℕ). IsUpTo (g.first ++ suc place ∷ []) l) (sym (ap (λ (l : List ℕ). reverse l) is ∙ reverse-append (suc place ∷ []) o)) longer)

  grown-fits : (g c : Group) (place : ℕ) → IsGrown p form works g place c → (qs : List (List ℕ)) → FitsClass p form works g qs → FitsClass p form works c (map (λ q. suc place ∷ q) qs)
  grown-fits g c place grown qs fits = record {
    keys = grown-keys g c place grown qs fits.keys;
    orders = grown.orders ∙ fits.orders ∙ sym (length-map qs (λ q. suc place ∷ q));
    first = (
        let is : place + 1 ≡ suc place = omega arith in
        let last : reverse c.first ≡ suc place ∷ reverse g.first =
        ap (λ (l : List ℕ). reverse l) grown.first ∙ reverse-append g.first ((place + 1) ∷ []) ∙ ap (λ (t : ℕ). t ∷ reverse g.first) is in
        subst (λ (o : List ℕ). IsAmong o (map (λ q. suc place ∷ q) qs)) (sym last) (among-all (λ (q : List ℕ). suc place ∷ q) (reverse g.first) qs fits.first));
    least = λ q at. grown-least g c place grown q (among-made (λ (o : List ℕ). suc place ∷ o) q qs at).0 (among-made (λ (o : List ℕ). suc place ∷ o) q qs at).1
        (fits.least (among-made (λ (o : List ℕ). suc place ∷ o) q qs at).0 (among-made (λ (o : List ℕ). suc place ∷ o) q qs at).2);
  }

  -- ---- the moves of one class
  abbrev pub IsExtendedTo : Group → ℕ → List Group → List Group → Type 0
  IsExtendedTo g place old new = (n : ℕ) → HasExtended left_of (FitsClass p form works) n g place old new

  pub to-none : (g : Group) (old : List Group) → IsExtendedTo g 0 old old
  to-none g old n = extended-none left_of (FitsClass p form works) n g old

  pub to-skip : (g : Group) (place next : ℕ) (old new : List Group) → next ≡ place + 1 → slice_index g.left place ≡ 0 → IsExtendedTo g place old new → IsExtendedTo g next old new
  to-skip g place next old new is none was n = extended-skip left_of (FitsClass p form works) n g place next old new (omega (arith, is)) none (was n)

  pub to-more : (g c : Group) (place next : ℕ) (old mid new : List Group) → next ≡ place + 1 → IsGrown p form works g place c → IsPut mid new c → IsExtendedTo g place old mid → IsExtendedTo g next old new
  to-more g c place next old mid new is grown put was n =
      extended-more left_of (FitsClass p form works) n g c place next grown.left.fewer old mid new (omega (arith, is)) grown.left.had grown.left.is (grown-fits g c place grown) (put-dealt mid new c put) (was n)

  pub to-put : (g : Group) (place : ℕ) (old mid new : List Group) (found : Option Group) → IsGrownAt p form works g place found → IsPutIf found mid new → IsExtendedTo g place old mid
      → IsExtendedTo g (place + 1) old new
  to-put g place old mid new None none put was = subst (λ (l : List Group). IsExtendedTo g (place + 1) old l) (sym put) (to-skip g place (place + 1) old mid refl none was)
  to-put g place old mid new (Some c) grown put was = to-more g c place (place + 1) old mid new refl grown put was

  pub to-all : (g : Group) (count : ℕ) (old new : List Group) → count ≡ length g.left → IsExtendedTo g count old new → IsExtended p form works g old new
  to-all g count old new is was n all qs d fits =
      let whole : IsExtendedTo g (length g.left) old new = subst (λ (m : ℕ). IsExtendedTo g m old new) is was in
      whole n all qs d fits

  -- what the transactions from a place on lead to
  pub record AreLeft (g : Group) (place : ℕ) (rest : List (Option Group)) : Type 0 where
    pub long : length rest + place ≡ length g.left
    pub each : (i : ℕ) (found : Option Group) → slice_get rest i ≡ Some found → IsGrownAt p form works g (i + place) found

  -- what a class becomes was put among the others, as far as this
  pub record IsExtending (g : Group) (old new : List Group) (rest : List (Option Group)) : Type 0 where
    pub place : ℕ
    pub left : AreLeft g place rest
    pub so_far : IsExtendedTo g place old new

  pub extending-none : (g : Group) (old : List Group) (grown : List (Option Group)) → AreGrown p form works g grown → IsExtending g old old grown
  extending-none g old grown are = record {
    place = 0;
    left = record { long = omega (arith, are.long); each = λ i found at. subst (λ (n : ℕ). IsGrownAt p form works g n found) (let e : i ≡ i + 0 = omega arith in e) (are.each i found at) };
    so_far = to-none g old;
  }

  pub extending-more : (g : Group) (old mid new : List Group) (found : Option Group) (rest was : List (Option Group)) → was ≡ found ∷ rest → IsPutIf found mid new → IsExtending g old mid was
      → IsExtending g old new rest
  extending-more g old mid new found rest was is put so = record {
    place = so.place + 1;
    left = record {
      long = omega (arith, so.left.long, ap (λ (l : List (Option Group)). length l) is);
      each = λ i other at. subst (λ (n : ℕ). IsGrownAt p form works g n other) (let e : suc i + so.place ≡ i + (so.place + 1) = omega arith in e)
          (so.left.each (suc i) other (ap (λ (l : List (Option Group)). slice_get l (suc i)) is ∙ at));
    };
    so_far = to-put g so.place old mid new found
        (subst (λ (n : ℕ). IsGrownAt p form works g n found) (let e : 0 + so.place ≡ so.place = omega arith in e) (so.left.each 0 found (ap (λ (l : List (Option Group)). slice_get l 0) is))) put so.so_far;
  }

  pub extending-all : (g : Group) (old new : List Group) (rest : List (Option Group)) → rest ≡ [] → IsExtending g old new rest → IsExtended p form works g old new
  extending-all g old new rest none so = to-all g so.place old new (omega (arith, so.left.long, ap (λ (l : List (Option Group)). length l) none)) so.so_far

  -- ---- the classes of a layer
  abbrev pub IsPassedTo : List Group → List Group → List Group → Type 0
  IsPassedTo layer next rest = (n : ℕ) (all : Measure) → DealsClasses p form works (suc n) layer all → IsPassed left_of (FitsClass p form works) n all next rest

  pub pass-none : (layer next rest : List Group) → next ≡ [] → rest ≡ layer → IsPassedTo layer next rest
  pass-none layer next rest none same n all d =
      subst (λ (l : List Group). IsPassed left_of (FitsClass p form works) n all l rest) (sym none)
      (subst (λ (l : List Group). IsPassed left_of (FitsClass p form works) n all [] l) (sym same) (passed-none left_of (FitsClass p form works) n all layer d))

  pub pass-more : (layer old new rest later : List Group) (g : Group) → rest ≡ g ∷ later → IsExtended p form works g old new → IsPassedTo layer old rest → IsPassedTo layer new later
  pass-more layer old new rest later g is more was n all d =
      passed-more left_of (FitsClass p form works) n all old new g later (length g.left) refl (more n)
      (subst (λ (l : List Group). IsPassed left_of (FitsClass p form works) n all old l) is (was n all d))

  -- one class after another
  pub pass-each : (layer batch later old new : List Group) → AreExtended p form works batch old new → IsPassedTo layer old (batch ++ later) → IsPassedTo layer new later
  pass-each layer [] later old new same was = subst (λ (l : List Group). IsPassedTo layer l later) (sym same) was
  pass-each layer (g ∷ gs) later old new each was = pass-each layer gs later each.0 new each.2 (pass-more layer old each.0 (g ∷ (gs ++ later)) (gs ++ later) g refl each.1 was)

  pub pass-all : (layer next rest : List Group) → rest ≡ [] → IsPassedTo layer next rest → IsNextLayer p form works layer next
  pass-all layer next rest none was n all d =
      passed-all left_of (FitsClass p form works) n all next (subst (λ (l : List Group). IsPassed left_of (FitsClass p form works) n all next l) none (was n all d))

  -- ---- the first class
  start-least : (first q : List ℕ) → first ≡ [] → IsAmong q ([] ∷ []) → IsUpTo first (reverse q)
  start-least first q none (inl e) = inl (none ∙ sym (ap (λ (l : List ℕ). reverse l) e))
  start-least first q none (inr h) = absurd h

  pub start-deals : (n : ℕ) (left : List ℕ) (g : Group) → IsStart p form works left g → DealsClasses p form works n (g ∷ []) (λ f. weigh f (orders_of n left) ([] ∷ []))
  start-deals n left g start = (
    [] ∷ [],
    (λ f. 0),
    record { keys = All-cons (λ q. HasKey p form works q g.key g.longest) [] [] start.key (All-nil (λ q. HasKey p form works q g.key g.longest)); orders = start.orders; first = inl (ap (λ (l : List ℕ). reverse l) start.first); least = λ q at. start-least g.first q start.first at },
    (λ f. refl),
    λ f. omega (arith, ap (λ (l : List ℕ). weigh f (orders_of n l) ([] ∷ [])) start.left_is),
  )

pub none-left : (xs : List Group) → length xs ≡ 0 → xs ≡ []
none-left [] e = refl
none-left (x ∷ xs) e = absurd (omega arith)

-- ---- plays
read-at : (xs : List Group) (i : ℕ) (d x : Group) → slice_get xs i ≡ Some x → get_or xs i d ≡ x
read-at [] i d x h = cc
read-at (y ∷ xs) zero d x h = cc
read-at (y ∷ xs) (suc i) d x h = read-at xs i d x h

-- a class was joined to the one at the place
pub put-in : {A E : Type 0} (r : Result A E) (old items : List Group) (c : Group) (place : ℕ) (was now : Group) → items ≡ old → HasLike old c place → was ≡ get_or items place was
    → OnOk r (IsJoined was c now) → OnOk r (IsPut old (slice_set items place now) c)
put-in (Ok x) old items c place was now is like at made =
    let one : was ≡ like.group = at ∙ ap (λ (l : List Group). get_or l place was) is ∙ read-at old place was like.group like.is in
    inl (place, like, now, subst (λ (g : Group). IsJoined g c now) one made, ap (λ (l : List Group). slice_set l place now) is)
put-in (Err e) old items c place was now is like at made = tt

-- a move of a class's first beginning leads from its key to another
pub grown-leads : (p q r : Plan) (form : Form) (works : List Work) (g : Group) (t : ℕ) (places later : List Place) (h now : List Entry) (m : Engine) (key : List ℕ) → AreRuled p works
    → IsReplayed p form works g q places h → r ≡ q → HasMoved form works t places h later now → key ≡ code_of r later now → Replays r m now
    → LeadsBy p form works t g.key key (length now)
grown-leads p q r form works g t places later h now m key are so same moved is replays =
    let own : r ≡ p = same ∙ so.plan_is in
    let here : key ≡ code_of p later now = is ∙ ap (λ (x : Plan). code_of x later now) own in
    let one : LeadsBy p form works t (code_of p places h) (code_of p later now) (length now) =
    leads p form works (reverse g.first) t places later h now m are so.come moved (subst (λ (x : Plan). Replays x m now) own replays) in
    subst (λ (k : List ℕ). LeadsBy p form works t k key (length now)) so.key (subst (λ (k : List ℕ). LeadsBy p form works t (code_of p places h) k (length now)) (sym here) one)

-- the key of the play without moves
pub start-key : (p q : Plan) (form : Form) (works : List Work) (places : List Place) (h : List Entry) (m : Engine) (key : List ℕ) → AreRuled p works → q ≡ p
    → places ≡ replicate (length works) first_place → h ≡ [] → key ≡ code_of q places h → Replays q m h → HasKey p form works [] key 0
start-key p q form works places h m key are own first none is replays =
    let one : HasKey p form works [] (code_of p places h) 0 =
    first-key p form works places h m are (first, none) (subst (λ (x : Plan). Replays x m h) own replays) none in
    subst (λ (k : List ℕ). HasKey p form works [] k 0) (sym (is ∙ ap (λ (x : Plan). code_of x places h) own)) one

-- the outcome of a class's orders
pub class-ends : (p q : Plan) (form : Form) (works : List Work) (g : Group) (places : List Place) (h now : List Entry) (m : Engine) (o : Found) → AreRuled p works
    → IsReplayed p form works g q places h → Replays q m h → now ≡ h → IsOutcomeOf p now o → EndsWith p form works g.key o
class-ends p q form works g places h now m o are so replays same outcome =
    let one : EndsWith p form works (code_of p places h) o =
    last-key p form works (reverse g.first) places h m o are so.come (subst (λ (x : Plan). Replays x m h) so.plan_is replays) (subst (λ (l : List Entry). IsOutcomeOf p l o) same outcome) in
    subst (λ (k : List ℕ). EndsWith p form works k o) so.key one
