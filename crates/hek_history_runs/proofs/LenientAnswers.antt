-- Answers whose absences are not judged: they are right if what they found is there.
use Rattle.std.proofs.Common.{◌≡◌, ◌==◌, ℕ, zero, suc, ◌<◌, Bool, true, false, List, [], ◌∷◌, Option, Some, None, refl, sym, ap, ◌∙◌, ⊎_elim, subst, take, arith}
use Rattle.std.proofs.lemmas.Bool.{cases_Bool, cond-true, cond-false, cond_both, eq-eqb, eqb-true, ne_eqb, false≢true}
use Rattle.std.proofs.lemmas.List.{take-map}
use Rattle.std.specs.Prelude.{◌||◌, ◌%◌, not, is_some, map, filter, slice_get, if◌then◌else◌}
use Rattle.hek_rules.specs.declared.event.Event.{Event}
use Rattle.hek_rules.specs.declared.event.Event.TheVariants as event
use Rattle.hek_rules.specs.declared.reply.Reply.{Reply}
use Rattle.hek_rules.specs.declared.reply.Reply.TheVariants as reply
use Rattle.hek_rules.specs.Listing.{value_of}
use Rattle.hek_rules.specs.World.{World, bucket_of}
use Rattle.hek_rules.specs.Walk.{of_bucket, seen_of}
use Rattle.hek_rules.specs.Table.{Outcome, outcome, pairs_of}
use Rattle.hek_rules.specs.Serial.{lay_all as laid, writes_of, is_of, AreIn}
use Rattle.hek_laws.specs.Rows.{AreRising}
use Rattle.hek_laws.proofs.Table.Changes.{EachChange, each_outcome, is_answer as is_walk_answer}
use Rattle.hek_laws.proofs.Futures.WalkReplies.{seen-tested, pairs-from, pairs-rising}
use Rattle.hek_history.specs.declared.history.Operation.{Operation}
use Rattle.hek_history.specs.declared.history.Operation.TheVariants.{Read, Put, Insert, Update, Delete, Scan}
use Rattle.hek_history.specs.declared.history.Scope.TheVariants.{Range, Bucket}
use Rattle.hek_history.specs.Answers.{same_found, IsRight, AreRight}
use Rattle.hek_history_laws.specs.Recording.{entry_of, is_operation, is_answer, answered}
use Rattle.hek_history_laws.proofs.InOrder.{rises}
use Rattle.hek_history_laws.proofs.Answered.{AreAnswered, is_answered, first_true, writes_answered}

-- ---- listings
-- pairs by key, of one bucket
pub record IsListing (buckets bucket : ℕ) (pairs : List (ℕ × ℕ)) : Type 0 where
  pub rising : AreRising pairs
  pub inside : (key : ℕ) → is_some (value_of pairs key) ≡ true → (key % buckets == bucket) ≡ true

-- a scan answers with a listing
abbrev Lists : World → (e : Event) → Outcome → Type 0
Lists w e o = (t bucket : ℕ) (pairs : List (ℕ × ℕ)) → e ≡ event.Scan t bucket → o.reply ≡ reply.Rows pairs → IsListing w.buckets bucket pairs

unanswered : (r : Reply) (pairs : List (ℕ × ℕ)) → is_walk_answer r ≡ false → r ≡ reply.Rows pairs → ⊥
unanswered r pairs n e = false≢true (sym n ∙ ap is_walk_answer e)

each_lists : (w : World) → EachChange w (Lists w)
each_lists w = record {
  same = λ e r i m t bucket pairs q is. absurd (unanswered r pairs m.unanswered is);
  aborts = λ e r t cause i l m u bucket pairs q is. absurd (unanswered r pairs m.unanswered is);
  begins = λ t p c u bucket pairs q is. cc;
  reads = λ t key es a ok u bucket pairs q is. cc;
  scans = λ t b es a ok u bucket pairs q is.
      (let same : reply.Rows (pairs_of w.versions [] (seen_of w t (of_bucket w b))) ≡ reply.Rows pairs = is in
      let one : pairs_of w.versions [] (seen_of w t (of_bucket w b)) ≡ pairs = cc in
      let event_is : event.Scan t b ≡ event.Scan u bucket = q in
      let there : b ≡ bucket = cc in
      subst (IsListing w.buckets bucket) one (subst (λ n. IsListing w.buckets n (pairs_of w.versions [] (seen_of w t (of_bucket w b)))) there (listed t b)));
  exists = λ t key value v es a ok at u bucket pairs q is. cc;
  inserts = λ t key value es a ok at free u bucket pairs q is. cc;
  misses_update = λ t key value es a ok at u bucket pairs q is. cc;
  updates = λ t key value z es a ok at u bucket pairs q is. cc;
  misses_delete = λ t key es a ok at u bucket pairs q is. cc;
  deletes = λ t key z es a ok at u bucket pairs q is. cc;
  finishes = λ t a u bucket pairs q is. cc;
  prepares = λ t a z c u bucket pairs q is. cc;
  drops = λ t v r p i n u bucket pairs q is. absurd (unanswered r pairs n is);
  unlocks = λ t b p u bucket pairs q is. cc;
  frees = λ t x p u bucket pairs q is. cc;
  commits = λ t p z u bucket pairs q is. cc;
  stamps_begin = λ t v es p at u bucket pairs q is. cc;
  stamps_end = λ t v es p at u bucket pairs q is. cc;
  voids = λ t v es cause p at u bucket pairs q is. cc;
  gives_back = λ t v es cause r p at i n u bucket pairs q is. absurd (unanswered r pairs n is);
  ends = λ t p z u bucket pairs q is. cc;
}
  where
    listed : (t b : ℕ) → IsListing w.buckets b (pairs_of w.versions [] (seen_of w t (of_bucket w b)))
    listed t b = record {
      rising = pairs-rising w.versions [] (seen_of w t (of_bucket w b)) tt;
      inside = λ key y.
          ⊎_elim
          (λ n. subst (λ q. (q % w.buckets == b) ≡ true) n.2 (seen-tested w t n.0 (λ q. bucket_of w q == b) n.1))
          (λ z. absurd (false≢true z)) (pairs-from w.versions [] (seen_of w t (of_bucket w b)) key y);
    }

pub scan-lists : (w : World) (t bucket : ℕ) (pairs : List (ℕ × ℕ)) → (outcome w (event.Scan t bucket)).reply ≡ reply.Rows pairs → IsListing w.buckets bucket pairs
scan-lists w t bucket pairs is = each_outcome w (Lists w) (each_lists w) (event.Scan t bucket) t bucket pairs refl is

-- ---- replies
-- what a reply found is there; a reply of absence is not judged
abbrev pub IsFound : ℕ → List (ℕ × ℕ) → Event → Reply → Type 0
IsFound buckets rows (event.Read t key) (reply.Found value) = value_of rows key ≡ Some value
IsFound buckets rows (event.Scan t bucket) (reply.Rows pairs) = AreIn rows pairs × IsListing buckets bucket pairs
IsFound buckets rows (event.Insert t key value) reply.Exists = is_some (value_of rows key) ≡ true
IsFound buckets rows (event.Update t key value) reply.Done = is_some (value_of rows key) ≡ true
IsFound buckets rows (event.Delete t key) reply.Done = is_some (value_of rows key) ≡ true
IsFound buckets rows e r = Unit {0}

one_pair : (p q : Event × Reply) → Some p ≡ Some q → p ≡ q
one_pair p q e = cc

no_pair : (p : Event × Reply) → None ≡ Some p → ⊥
no_pair p e = cc

-- an answer says something of its own key alone
at-key : (key k : ℕ) (a b : Bool) → (key ≡ k → (a || b) ≡ true) → ((if key == k then a else true) || (if key == k then b else true)) ≡ true
at-key key k a b h =
    ⊎_elim
    (λ yes. ap (λ c. c || (if key == k then b else true)) (cond-true (key == k) a true yes) ∙ ap (λ c. a || c) (cond-true (key == k) b true yes) ∙ h (eqb-true key k yes))
    (λ off. ap (λ c. c || (if key == k then b else true)) (cond-false (key == k) a true off)) (cases_Bool (key == k))

in-some : (rows pairs : List (ℕ × ℕ)) (key x : ℕ) → AreIn rows pairs → value_of pairs key ≡ Some x → value_of rows key ≡ Some x
in-some rows [] key x a e = cc
in-some rows (p ∷ ps) key x a e =
    ⊎_elim
    (λ yes.
    let same : p.0 ≡ key = eqb-true p.0 key yes in
    let value : Some p.1 ≡ Some x = sym (cond-true (p.0 == key) (Some p.1) (value_of ps key) yes) ∙ e in
    ap (value_of rows) (sym same) ∙ a.0 ∙ value)
    (λ off. in-some rows ps key x a.1 (sym (cond-false (p.0 == key) (Some p.1) (value_of ps key) off) ∙ e)) (cases_Bool (p.0 == key))

tells-none : (inside : Bool) (o : Option ℕ) → o ≡ None → (if inside then same_found o None else not (is_some o)) ≡ true
tells-none true o e = ap (λ (x : Option ℕ). same_found x None) e
tells-none false o e = ap (λ (x : Option ℕ). not (is_some x)) e

tells-some : (inside : Bool) (o value : Option ℕ) (x : ℕ) → inside ≡ true → o ≡ Some x → value ≡ Some x → (if inside then same_found o value else not (is_some o)) ≡ true
tells-some inside o value x y e f =
    cond-true inside (same_found o value) (not (is_some o)) y ∙ ap (λ (z : Option ℕ). same_found z value) e ∙ ap (same_found (Some x)) f ∙ eq-eqb x x refl

or-second : (a b : Bool) → b ≡ true → (a || b) ≡ true
or-second true b y = refl
or-second false b y = y

or-first : (a b : Bool) → a ≡ true → (a || b) ≡ true
or-first true b y = refl
or-first false b y = absurd (false≢true y)

scan-allowed : (count bucket k : ℕ) (rows pairs : List (ℕ × ℕ)) → 0 < count → AreIn rows pairs → IsListing count bucket pairs → (o : Option ℕ) → value_of pairs k ≡ o →
    (let inside : Bool = if count == 0 then false else k % count == bucket in
    ((if inside then same_found (value_of pairs k) None else not (is_some (value_of pairs k))) || (if inside then same_found (value_of pairs k) (value_of rows k) else not (is_some (value_of pairs k)))) ≡ true)
scan-allowed count bucket k rows pairs some a l None e =
    or-first (if (if count == 0 then false else k % count == bucket) then same_found (value_of pairs k) None else not (is_some (value_of pairs k))) (if (if count == 0 then false else k % count == bucket) then same_found (value_of pairs k) (value_of rows k) else not (is_some (value_of pairs k)))
    (tells-none (if count == 0 then false else k % count == bucket) (value_of pairs k) e)
scan-allowed count bucket k rows pairs some a l (Some x) e =
    let none : (count == 0) ≡ false = ne_eqb count 0 (λ z. absurd (omega (arith, some, z))) in
    let inside : (if count == 0 then false else k % count == bucket) ≡ true = cond-false (count == 0) false (k % count == bucket) none ∙ l.inside k (ap is_some e) in
    or-second (if (if count == 0 then false else k % count == bucket) then same_found (value_of pairs k) None else not (is_some (value_of pairs k))) (if (if count == 0 then false else k % count == bucket) then same_found (value_of pairs k) (value_of rows k) else not (is_some (value_of pairs k)))
    (tells-some (if count == 0 then false else k % count == bucket) (value_of pairs k) (value_of rows k) x inside e (in-some rows pairs k x a e))

-- the answer of an operation is right if the reply of its entry found what is there
abbrev FoundAs : ℕ → Operation → List (ℕ × ℕ) → Event × Reply → Type 0
FoundAs buckets op rows p = IsFound buckets rows p.0 p.1 → IsRight true op (value_of rows)

found_as : (buckets t : ℕ) (op : Operation) (rows : List (ℕ × ℕ)) (p : Event × Reply) → 0 < buckets → entry_of buckets t op ≡ Some p → FoundAs buckets op rows p
found_as buckets t (Read key None) rows p some e =
    subst (FoundAs buckets (Read key None) rows) (one_pair _ p e) (λ is. record { by_key = tt; allowed = λ k. at-key key k true (same_found None (value_of rows k)) (λ _. refl) })
found_as buckets t (Read key (Some x)) rows p some e =
    subst (FoundAs buckets (Read key (Some x)) rows) (one_pair _ p e)
    (λ is. record { by_key = tt; allowed = λ k. at-key key k false (same_found (Some x) (value_of rows k)) (λ same. ap (λ n. same_found (Some x) (value_of rows n)) (sym same) ∙ ap (same_found (Some x)) is ∙ eq-eqb x x refl) })
found_as buckets t (Put key value) rows p some e = absurd (no_pair p e)
found_as buckets t (Insert key value true) rows p some e =
    subst (FoundAs buckets (Insert key value true) rows) (one_pair _ p e) (λ is. record { by_key = tt; allowed = λ k. at-key key k true (not (is_some (value_of rows k))) (λ _. refl) })
found_as buckets t (Insert key value false) rows p some e =
    subst (FoundAs buckets (Insert key value false) rows) (one_pair _ p e) (λ is. record { by_key = tt; allowed = λ k. at-key key k false (is_some (value_of rows k)) (λ same. ap (λ n. is_some (value_of rows n)) (sym same) ∙ is) })
found_as buckets t (Update key value true) rows p some e =
    subst (FoundAs buckets (Update key value true) rows) (one_pair _ p e) (λ is. record { by_key = tt; allowed = λ k. at-key key k false (is_some (value_of rows k)) (λ same. ap (λ n. is_some (value_of rows n)) (sym same) ∙ is) })
found_as buckets t (Update key value false) rows p some e =
    subst (FoundAs buckets (Update key value false) rows) (one_pair _ p e) (λ is. record { by_key = tt; allowed = λ k. at-key key k true (not (is_some (value_of rows k))) (λ _. refl) })
found_as buckets t (Delete key true) rows p some e =
    subst (FoundAs buckets (Delete key true) rows) (one_pair _ p e) (λ is. record { by_key = tt; allowed = λ k. at-key key k false (is_some (value_of rows k)) (λ same. ap (λ n. is_some (value_of rows n)) (sym same) ∙ is) })
found_as buckets t (Delete key false) rows p some e =
    subst (FoundAs buckets (Delete key false) rows) (one_pair _ p e) (λ is. record { by_key = tt; allowed = λ k. at-key key k true (not (is_some (value_of rows k))) (λ _. refl) })
found_as buckets t (Scan (Range from to) pairs) rows p some e = absurd (no_pair p e)
found_as buckets t (Scan (Bucket count bucket) pairs) rows p some e =
    let op = Scan (Bucket count bucket) pairs in
    cond_both (count == buckets) (Some (event.Scan t bucket, reply.Rows pairs.items)) None (λ (o : Option (Event × Reply)). o ≡ Some p → FoundAs buckets op rows p)
    (λ same is. subst (FoundAs buckets op rows) (one_pair _ p is)
    (λ found.
    let one : count ≡ buckets = eqb-true count buckets same in
    let listing : IsListing count bucket pairs.items = subst (λ n. IsListing n bucket pairs.items) (sym one) found.1 in
    record {
      by_key = λ n x y a b. rises pairs.items n (suc n) x y listing.rising (omega arith) a b;
      allowed = λ k. scan-allowed count bucket k rows pairs.items (subst (λ n. 0 < n) (sym one) some) found.0 listing (value_of pairs.items k) refl;
    }))
    (λ _ is. absurd (no_pair p is)) e

-- ---- operations in turn
-- an entry that passes stands at a place, and those that pass before it are the first n
record IsKept (test : Event × Reply → Bool) (h : List (Event × Reply)) (n : ℕ) (q : Event × Reply) : Type 0 where
  place : ℕ
  there : slice_get h place ≡ Some q
  passes : test q ≡ true
  before : filter test (take place h) ≡ take n (filter test h)

kept-at : (test : Event × Reply → Bool) (h : List (Event × Reply)) (n : ℕ) (q : Event × Reply) → slice_get (filter test h) n ≡ Some q → IsKept test h n q
kept-at test [] n q e = cc
kept-at test (p ∷ ps) zero q e =
    ⊎_elim
    (λ yes.
    let whole : filter test (p ∷ ps) ≡ p ∷ filter test ps = cond-true (test p) (p ∷ filter test ps) (filter test ps) yes in
    let same : p ≡ q = one_pair p q (ap (λ xs. slice_get xs zero) (sym whole) ∙ e) in
    record { place = zero; there = ap Some same; passes = ap test (sym same) ∙ yes; before = refl })
    (λ off.
    let whole : filter test (p ∷ ps) ≡ filter test ps = cond-false (test p) (p ∷ filter test ps) (filter test ps) off in
    let r = kept-at test ps zero q (ap (λ xs. slice_get xs zero) (sym whole) ∙ e) in
    record {
      place = suc r.place;
      there = r.there;
      passes = r.passes;
      before = cond-false (test p) (p ∷ filter test (take r.place ps)) (filter test (take r.place ps)) off ∙ r.before ∙ ap (take zero) (sym whole);
    })
    (cases_Bool (test p))
kept-at test (p ∷ ps) (suc m) q e =
    ⊎_elim
    (λ yes.
    let whole : filter test (p ∷ ps) ≡ p ∷ filter test ps = cond-true (test p) (p ∷ filter test ps) (filter test ps) yes in
    let r = kept-at test ps m q (ap (λ xs. slice_get xs (suc m)) (sym whole) ∙ e) in
    record {
      place = suc r.place;
      there = r.there;
      passes = r.passes;
      before = cond-true (test p) (p ∷ filter test (take r.place ps)) (filter test (take r.place ps)) yes ∙ ap (λ xs. p ∷ xs) r.before ∙ ap (take (suc m)) (sym whole);
    })
    (λ off.
    let whole : filter test (p ∷ ps) ≡ filter test ps = cond-false (test p) (p ∷ filter test ps) (filter test ps) off in
    let r = kept-at test ps (suc m) q (ap (λ xs. slice_get xs (suc m)) (sym whole) ∙ e) in
    record {
      place = suc r.place;
      there = r.there;
      passes = r.passes;
      before = cond-false (test p) (p ∷ filter test (take r.place ps)) (filter test (take r.place ps)) off ∙ r.before ∙ ap (take (suc m)) (sym whole);
    })
    (cases_Bool (test p))

map-get : {X Y : Type 0} (f : X → Y) (xs : List X) (n : ℕ) (x : X) → slice_get xs n ≡ Some x → slice_get (map f xs) n ≡ Some (f x)
map-get f [] n x e = cc
map-get f (y ∷ ys) zero x e = let same : y ≡ x = cc in ap (λ z. Some (f z)) same
map-get f (y ∷ ys) (suc n) x e = map-get f ys n x e

-- the n-th answered entry
some-get : (xs : List (Event × Reply)) (n : ℕ) (o : Option (Event × Reply)) → slice_get (map Some xs) n ≡ Some o → (q : Event × Reply) × (slice_get xs n ≡ Some q) × (o ≡ Some q)
some-get [] n o e = cc
some-get (y ∷ ys) zero o e = let same : Some y ≡ o = cc in (y, refl, sym same)
some-get (y ∷ ys) (suc n) o e = some-get ys n o e

pub found_answered : (buckets t : ℕ) (h : List (Event × Reply)) (ops : List Operation) (rows : List (ℕ × ℕ)) → 0 < buckets → AreAnswered buckets t h ops →
    ((i : ℕ) (p : Event × Reply) → slice_get h i ≡ Some p → is_of t p.0 ≡ true → IsFound buckets (laid (writes_of t (take i h)) rows) p.0 p.1) → AreRight true ops rows
found_answered buckets t h ops rows some are found n op there =
    let q = some-get (answered t h) n (entry_of buckets t op) (ap (λ xs. slice_get xs n) (sym are) ∙ map-get (entry_of buckets t) ops n op there) in
    let kept = kept-at (is_answered t) h n q.0 q.1 in
    let prefix : AreAnswered buckets t (take kept.place h) (take n ops) =
    sym (take-map (entry_of buckets t) n ops) ∙ ap (take n) are ∙ take-map Some n (answered t h) ∙ ap (map Some) (sym kept.before) in
    let mine : is_of t q.0.0 ≡ true = first_true (is_of t q.0.0) (is_operation q.0.0) (is_answer q.0.1) kept.passes in
    subst (λ rs. IsRight true op (value_of rs)) (writes_answered buckets t (take kept.place h) (take n ops) rows prefix)
    (found_as buckets t op (laid (writes_of t (take kept.place h)) rows) q.0 some q.2 (found kept.place q.0 kept.there mine))
