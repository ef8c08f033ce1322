-- The starts of slots: versions before a start are gone, and a chain from a start on has the places from there on.
use Rattle.std.proofs.Common.{◌≡◌, ℕ, zero, suc, ◌+◌, ◌-◌, ◌%◌, ◌<◌, ◌≤◌, ◌≢◌, Bool, true, false, if◌then◌else◌, ◌==◌, List, [], ◌∷◌, ◌++◌, length, slice_index_or, slice_set, refl, sym, ap, subst, ◌∙◌, ⊎_elim, arith, eqb-true, eq-eqb, get_or-set_same, get_or-set_other, length-set, length-append}
use Rattle.std.specs.Prelude.{filter, not, nat_lt, Option, Some, None}
use Rattle.std.proofs.Math.Seq.{get_or-append_seam}
use Rattle.std.proofs.lemmas.List.{get_or_append_left}
use Rattle.std.proofs.lemmas.Bool.{cond-true, cond-false, cases_Bool, cases_order, cases_eq, cases_lt, lt-ltb, le-ltb, ltb-false, not-true, not_from_false, not_from_true, or_cases, or_left, or_right, both_ways}
use Rattle.std.proofs.lemmas.Bool.Decides.{nat_tests}
use Rattle.hek_rules.specs.Words.{infinity, begin_time, end_time}
use Rattle.hek_store.specs.declared.version.Version.{Version}
use Rattle.hek_store.specs.Stored.{places, no_version, of_key}
use Rattle.hek_store.specs.Chained.{keys_of, first_link, next_links, chain}
use Rattle.hek_store.specs.Living.{is_over_by, is_over, is_replaced, is_gone, place_of, IsStart, IsLiving}
use Rattle.hek_store.specs.Places.{left}
use Rattle.hek_store.proofs.Linked.{first-within, first-after, length_next, next-after, next_are_links, chain_places, chain_none, chain-here, chain-there}
use Rattle.hek_store.proofs.Found.{length_keys, filter-places}

-- ---- the place of a first link, and the places before it

first-hit : (test : ℕ → Bool) (i m : ℕ) (ks : List ℕ) → first_link test i ks ≡ i + m + 1 → test (slice_index_or ks m 0) ≡ true
first-hit test i m [] e = absurd (omega (arith, e))
first-hit test i zero (k ∷ ks) e =
    ⊎_elim
    (λ h. h)
    (λ h. let there : first_link test (i + 1) ks ≡ i + 0 + 1 = sym (cond-false (test k) (i + 1) (first_link test (i + 1) ks) h) ∙ e in
    let after = first-after test (i + 1) ks (omega (arith, there)) in absurd (omega (arith, there, after)))
    (cases_Bool (test k))
first-hit test i (suc m) (k ∷ ks) e =
    ⊎_elim
    (λ h. let here : i + 1 ≡ i + suc m + 1 = sym (cond-true (test k) (i + 1) (first_link test (i + 1) ks) h) ∙ e in absurd (omega (arith, here)))
    (λ h. let there : first_link test (i + 1) ks ≡ i + suc m + 1 = sym (cond-false (test k) (i + 1) (first_link test (i + 1) ks) h) ∙ e in
    first-hit test (i + 1) m ks (there ∙ omega arith))
    (cases_Bool (test k))

first-miss : (test : ℕ → Bool) (i q : ℕ) (ks : List ℕ) → q < length ks → (0 < first_link test i ks → i + q + 1 < first_link test i ks) → test (slice_index_or ks q 0) ≡ false
first-miss test i q [] l far = absurd (omega (arith, l))
first-miss test i zero (k ∷ ks) l far =
    ⊎_elim
    (λ h. let here : first_link test i (k ∷ ks) ≡ i + 1 = cond-true (test k) (i + 1) (first_link test (i + 1) ks) h in
    let more = far (omega (arith, here)) in absurd (omega (arith, here, more)))
    (λ h. h)
    (cases_Bool (test k))
first-miss test i (suc q) (k ∷ ks) l far =
    ⊎_elim
    (λ h. let here : first_link test i (k ∷ ks) ≡ i + 1 = cond-true (test k) (i + 1) (first_link test (i + 1) ks) h in
    let more = far (omega (arith, here)) in absurd (omega (arith, here, more)))
    (λ h. let there : first_link test i (k ∷ ks) ≡ first_link test (i + 1) ks = cond-false (test k) (i + 1) (first_link test (i + 1) ks) h in
    first-miss test (i + 1) q ks (omega (arith, l)) (λ p. let more = far (omega (arith, there, p)) in omega (arith, there, more)))
    (cases_Bool (test k))

-- ---- the place of the next link, and the places between

next-hit : (class : ℕ → ℕ) (i p m : ℕ) (ks : List ℕ) → p < length ks → slice_index_or (next_links class i ks) p 0 ≡ i + m + 1 → class (slice_index_or ks m 0) ≡ class (slice_index_or ks p 0)
next-hit class i p m [] l e = absurd (omega (arith, l))
next-hit class i p zero (k ∷ ks) l e = let later = next-after class i p (k ∷ ks) (omega (arith, e)) in absurd (omega (arith, e, later))
next-hit class i zero (suc m) (k ∷ ks) l e = eqb-true (class (slice_index_or ks m 0)) (class k) (first-hit (λ l. class l == class k) (i + 1) m ks (e ∙ omega arith))
next-hit class i (suc p) (suc m) (k ∷ ks) l e = next-hit class (i + 1) p m ks (omega (arith, l)) (e ∙ omega arith)

next-miss : (class : ℕ → ℕ) (i p q : ℕ) (ks : List ℕ) → p < q → q < length ks → (0 < slice_index_or (next_links class i ks) p 0 → i + q + 1 < slice_index_or (next_links class i ks) p 0) →
    (class (slice_index_or ks q 0) == class (slice_index_or ks p 0)) ≡ false
next-miss class i p q [] less l far = absurd (omega (arith, l))
next-miss class i p zero (k ∷ ks) less l far = absurd (omega (arith, less))
next-miss class i zero (suc q) (k ∷ ks) less l far = first-miss (λ l. class l == class k) (i + 1) q ks (omega (arith, l)) (λ h. let more = far h in omega (arith, more))
next-miss class i (suc p) (suc q) (k ∷ ks) less l far = next-miss class (i + 1) p q ks (omega (arith, less)) (omega (arith, l)) (λ h. let more = far h in omega (arith, more))

key-at : (vs : List Version) (i : ℕ) → slice_index_or (keys_of vs) i 0 ≡ (slice_index_or vs i no_version).key
key-at [] i = refl
key-at (x ∷ xs) zero = refl
key-at (x ∷ xs) (suc i) = key-at xs i

-- ---- the place of a link

place-at : (count link : ℕ) → 0 < link → place_of count link ≡ link - 1
place-at count zero p = absurd (omega (arith, p))
place-at count (suc link) p = omega arith

-- a place before that of a link is below the link
place-before : (count link v : ℕ) → v < place_of count link → 0 < link → v + 1 < link
place-before count zero v h p = absurd (omega (arith, p))
place-before count (suc link) v h p = omega (arith, h)

place-within : (count link : ℕ) → link ≤ count → place_of count link ≤ count
place-within count zero h = omega arith
place-within count (suc link) h = omega (arith, h)

-- ---- starts

-- what is over is so at any later time
over-by : (time later : ℕ) (from until : Option ℕ) → time ≤ later → is_over_by time from until ≡ true → is_over_by later from until ≡ true
over-by time later None until h o = o
over-by time later (Some from) None h o = o
over-by time later (Some from) (Some until) h o =
    ⊎_elim
    (λ past. let come = ltb-false time until (not-true (nat_lt time until) past) in
    or_left (not (nat_lt later until)) (from == infinity) (not_from_false (nat_lt later until) (le-ltb later until (omega (arith, come, h)))))
    (λ never. or_right (not (nat_lt later until)) (from == infinity) never)
    (or_cases (not (nat_lt time until)) (from == infinity) o)

over-later : (time later : ℕ) (x : Version) → time ≤ later → is_over time x ≡ true → is_over later x ≡ true
over-later time later x h o = over-by time later (begin_time x.begin) (end_time x.end) h o

-- what is over is gone for each reader, now and later
pub gone_later : (reader : Option ℕ) (time later : ℕ) (x : Version) → time ≤ later → is_gone reader time x ≡ true → is_gone reader later x ≡ true
gone_later None time later x h o = over-later time later x h o
gone_later (Some t) time later x h o =
    ⊎_elim
    (λ over. or_left (is_over later x) (is_replaced t x) (over-later time later x h over))
    (λ replaced. or_right (is_over later x) (is_replaced t x) replaced)
    (or_cases (is_over time x) (is_replaced t x) o)

pub over_gone : (t time : ℕ) (x : Version) → is_gone None time x ≡ true → is_gone (Some t) time x ≡ true
over_gone t time x o = or_left (is_over time x) (is_replaced t x) o

pub start_later : (slots slot : ℕ) (gone later : Version → Bool) (vs : List Version) (link : ℕ) → ((x : Version) → gone x ≡ true → later x ≡ true) →
    IsStart slots slot gone vs link → IsStart slots slot later vs link
start_later slots slot gone later vs link h s = record {
  within = s.within;
  in_slot = s.in_slot;
  over = λ v before l same. h (slice_index_or vs v no_version) (s.over v before l same);
}

-- the first link of a slot is a start
pub start_first : (slots slot : ℕ) (gone : Version → Bool) (vs : List Version) (link : ℕ) → link ≡ first_link (λ k. k % slots == slot) 0 (keys_of vs) → IsStart slots slot gone vs link
start_first slots slot gone vs link is =
    let test : ℕ → Bool = λ k. k % slots == slot in
    let long = length_keys vs in
    record {
      within = let bound = first-within test 0 (keys_of vs) in omega (arith, is, long, bound);
      in_slot = λ p.
          ap (λ k. k % slots) (sym (key-at vs (link - 1)))
          ∙ eqb-true (slice_index_or (keys_of vs) (link - 1) 0 % slots) slot (first-hit test 0 (link - 1) (keys_of vs) (sym is ∙ omega (arith, p)));
      over = λ v before l same.
          let miss : test (slice_index_or (keys_of vs) v 0) ≡ false = first-miss test 0 v (keys_of vs) (omega (arith, l, long))
          (λ p. let some : 0 < link = omega (arith, is, p) in let more = place-before (length vs) link v before some in omega (arith, is, more)) in
          let hit : test (slice_index_or (keys_of vs) v 0) ≡ true = eq-eqb (slice_index_or (keys_of vs) v 0 % slots) slot (ap (λ k. k % slots) (key-at vs v) ∙ same) in
          absurd (both_ways (test (slice_index_or (keys_of vs) v 0)) miss hit);
    }

-- the link after a version that is gone is a start
pub start_next : (slots slot : ℕ) (gone : Version → Bool) (vs : List Version) (links : List ℕ) (link : ℕ) → links ≡ next_links (λ k. k % slots) 0 (keys_of vs) → 0 < link →
    gone (slice_index_or vs (link - 1) no_version) ≡ true → IsStart slots slot gone vs link → IsStart slots slot gone vs (slice_index_or links (link - 1) 0)
start_next slots slot gone vs links link linked some over s =
    let class : ℕ → ℕ = λ k. k % slots in
    let keys = keys_of vs in
    let p = link - 1 in
    let next = slice_index_or links p 0 in
    let is : next ≡ slice_index_or (next_links class 0 keys) p 0 = ap (λ ns. slice_index_or ns p 0) linked in
    let long = length_keys vs in
    let chained = length_next class 0 keys in
    let within = s.within in
    let there : p < length keys = omega (arith, some, within, long) in
    let mine : class (slice_index_or keys p 0) ≡ slot = ap class (key-at vs p) ∙ s.in_slot some in
    record {
      within = let bound = (next_are_links class keys p (omega (arith, chained, there))).0 in omega (arith, is, bound, chained, long);
      in_slot = λ q. ap class (sym (key-at vs (next - 1))) ∙ next-hit class 0 p (next - 1) keys there (sym is ∙ omega (arith, q)) ∙ mine;
      over = λ v before l same.
          ⊎_elim
          (λ e. subst (λ u. gone (slice_index_or vs u no_version) ≡ true) (sym e) over)
          (λ h. ⊎_elim
          (λ less. let at = place-at (length vs) link some in s.over v (omega (arith, at, less)) l same)
          (λ more. let miss = next-miss class 0 p v keys more (omega (arith, l, long))
          (λ q. let far = place-before (length vs) next v before (omega (arith, is, q)) in omega (arith, is, far)) in
          let hit : class (slice_index_or keys v 0) ≡ class (slice_index_or keys p 0) = ap class (key-at vs v) ∙ same ∙ sym mine in
          absurd (both_ways (class (slice_index_or keys v 0) == class (slice_index_or keys p 0)) miss (eq-eqb (class (slice_index_or keys v 0)) (class (slice_index_or keys p 0)) hit)))
          h)
          (cases_order v p);
    }

-- ---- a start after another version is added, or one at a place changes

pub start_more : (slots slot : ℕ) (gone : Version → Bool) (vs : List Version) (x : Version) (link : ℕ) → (link ≡ 0 → x.key % slots ≢ slot) → IsStart slots slot gone vs link → IsStart slots slot gone (vs ++ x ∷ []) link
start_more slots slot gone vs x link none s =
    let long : length (vs ++ x ∷ []) ≡ length vs + 1 = length-append vs (x ∷ []) in
    let within = s.within in
    let old : (v : ℕ) → v < length vs → slice_index_or (vs ++ x ∷ []) v no_version ≡ slice_index_or vs v no_version = λ v l. get_or_append_left vs (x ∷ []) no_version v l in
    record {
      within = omega (arith, long, within);
      in_slot = λ p. ap (λ y. y.key % slots) (old (link - 1) (omega (arith, p, within))) ∙ s.in_slot p;
      over = λ v before l same.
          ⊎_elim
          (λ less. let is = old v less in
          ap gone is ∙ s.over v (before-more (length vs) (length (vs ++ x ∷ [])) link v less before) less (sym (ap (λ y. y.key % slots) is) ∙ same))
          (λ far. let last : v ≡ length vs = omega (arith, l, long, far) in
          let new : slice_index_or (vs ++ x ∷ []) v no_version ≡ x = ap (λ u. slice_index_or (vs ++ x ∷ []) u no_version) last ∙ get_or-append_seam vs x [] no_version in
          absurd (none (no-link link v (length (vs ++ x ∷ [])) (length vs) within before far) (sym (ap (λ y. y.key % slots) new) ∙ same)))
          (cases_lt v (length vs));
    }
  where
    before-more : (count more link v : ℕ) → v < count → v < place_of more link → v < place_of count link
    before-more count more zero v l h = l
    before-more count more (suc link) v l h = h

    no-link : (link v more count : ℕ) → link ≤ count → v < place_of more link → count ≤ v → link ≡ 0
    no-link zero v more count w h l = refl
    no-link (suc link) v more count w h l = absurd (omega (arith, w, h, l))

-- a slot whose versions are all passed over starts at the new version
pub start_new : (slots slot : ℕ) (gone : Version → Bool) (vs : List Version) (x : Version) → x.key % slots ≡ slot → IsStart slots slot gone vs 0 → IsStart slots slot gone (vs ++ x ∷ []) (length vs + 1)
start_new slots slot gone vs x hit s =
    let long : length (vs ++ x ∷ []) ≡ length vs + 1 = length-append vs (x ∷ []) in
    let old : (v : ℕ) → v < length vs → slice_index_or (vs ++ x ∷ []) v no_version ≡ slice_index_or vs v no_version = λ v l. get_or_append_left vs (x ∷ []) no_version v l in
    record {
      within = omega (arith, long);
      in_slot = λ p.
          let place : length vs + 1 - 1 ≡ length vs = omega arith in
          ap (λ u. (slice_index_or (vs ++ x ∷ []) u no_version).key % slots) place ∙ ap (λ y. y.key % slots) (get_or-append_seam vs x [] no_version) ∙ hit;
      over = λ v before l same.
          let less = place-before (length (vs ++ x ∷ [])) (length vs + 1) v before (omega arith) in
          let within : v < length vs = omega (arith, less) in
          let is = old v within in
          ap gone is ∙ s.over v within within (sym (ap (λ y. y.key % slots) is) ∙ same);
    }

pub start_set : (slots slot : ℕ) (gone : Version → Bool) (vs : List Version) (link u : ℕ) (x : Version) → u < length vs → x.key ≡ (slice_index_or vs u no_version).key →
    (x.key % slots ≡ slot → gone (slice_index_or vs u no_version) ≡ true → gone x ≡ true) → IsStart slots slot gone vs link → IsStart slots slot gone (slice_set vs u x) link
start_set slots slot gone vs link u x there key over s =
    let long : length (slice_set vs u x) ≡ length vs = length-set vs u x in
    let keyed : (v : ℕ) → (slice_index_or (slice_set vs u x) v no_version).key ≡ (slice_index_or vs v no_version).key =
    λ v. ⊎_elim
    (λ e. ap (λ w. (slice_index_or (slice_set vs u x) w no_version).key) e ∙ ap (λ y. y.key) (get_or-set_same vs u x no_version there) ∙ key ∙ ap (λ w. (slice_index_or vs w no_version).key) (sym e))
    (λ other. ap (λ y. y.key) (get_or-set_other vs u v x no_version other))
    (cases_eq v u) in
    record {
      within = let within = s.within in omega (arith, long, within);
      in_slot = λ p. ap (λ k. k % slots) (keyed (link - 1)) ∙ s.in_slot p;
      over = λ v before l same.
          let was : gone (slice_index_or vs v no_version) ≡ true =
          s.over v (subst (λ n. v < place_of n link) long before) (omega (arith, l, long)) (sym (ap (λ k. k % slots) (keyed v)) ∙ same) in
          ⊎_elim
          (λ e. ap (λ w. gone (slice_index_or (slice_set vs u x) w no_version)) e
          ∙ ap gone (get_or-set_same vs u x no_version there)
          ∙ over (ap (λ k. k % slots) key ∙ ap (λ w. (slice_index_or vs w no_version).key % slots) (sym e) ∙ sym (ap (λ k. k % slots) (keyed v)) ∙ same)
          (ap (λ w. gone (slice_index_or vs w no_version)) (sym e) ∙ was))
          (λ other. ap gone (get_or-set_other vs u v x no_version other) ∙ was)
          (cases_eq v u);
    }

-- ---- the chain from a start on

-- no place from `from` on is dropped; all places before it are
all-left : (test : Version → Bool) (from i : ℕ) (xs : List Version) → from ≤ i → filter (λ v. not (nat_lt v from)) (places test i xs) ≡ places test i xs
all-left test from i [] h = refl
all-left test from i (x ∷ xs) h = by (test x) (places test (i + 1) xs) (not_from_false (nat_lt i from) (le-ltb i from h)) (all-left test from (i + 1) xs (omega (arith, h)))
  where
    by : (b : Bool) (ps : List ℕ) → not (nat_lt i from) ≡ true → filter (λ v. not (nat_lt v from)) ps ≡ ps → filter (λ v. not (nat_lt v from)) (if b then i ∷ ps else ps) ≡ (if b then i ∷ ps else ps)
    by true ps e r = ap (λ t. if t then i ∷ filter (λ v. not (nat_lt v from)) ps else filter (λ v. not (nat_lt v from)) ps) e ∙ ap (λ qs. i ∷ qs) r
    by false ps e r = r

first-left : (from i : ℕ) (b : Bool) (ps : List ℕ) → i < from → filter (λ v. not (nat_lt v from)) (if b then i ∷ ps else ps) ≡ filter (λ v. not (nat_lt v from)) ps
first-left from i true ps h = ap (λ t. if t then i ∷ filter (λ v. not (nat_lt v from)) ps else filter (λ v. not (nat_lt v from)) ps) (not_from_true (nat_lt i from) (lt-ltb i from h))
first-left from i false ps h = refl

none-left : (test : Version → Bool) (from i : ℕ) (xs : List Version) → i + length xs ≤ from → filter (λ v. not (nat_lt v from)) (places test i xs) ≡ []
none-left test from i [] h = refl
none-left test from i (x ∷ xs) h = first-left from i (test x) (places test (i + 1) xs) (omega (arith, h)) ∙ none-left test from (i + 1) xs (omega (arith, h))

chain-from : (class : ℕ → ℕ) (c i p : ℕ) (xs : List Version) → p < length xs → class (slice_index_or xs p no_version).key ≡ c →
    chain i (next_links class i (keys_of xs)) (i + p + 1) ≡ filter (λ v. not (nat_lt v (i + p))) (places (λ x. class x.key == c) i xs)
chain-from class c i p [] l is = absurd (omega (arith, l))
chain-from class c i zero (x ∷ xs) l is =
    let n = first_link (λ k. class k == class x.key) (i + 1) (keys_of xs) in
    let ns = next_links class (i + 1) (keys_of xs) in
    let test : Version → Bool = λ y. class y.key == c in
    let ps = places test (i + 1) xs in
    let link : i + 0 + 1 ≡ i + 1 = omega arith in
    let kept : filter (λ v. not (nat_lt v (i + 0))) (places test i (x ∷ xs)) ≡ i ∷ ps = all-left test (i + 0) i (x ∷ xs) (omega arith) ∙ cond-true (test x) (i ∷ ps) ps (eq-eqb (class x.key) c is) in
    ap (chain i (n ∷ ns)) link
    ∙ chain-here i n ns (i + 1) (eq-eqb (i + 1) (i + 1) refl)
    ∙ ap (λ d. i ∷ chain (i + 1) ns (first_link (λ k. class k == d) (i + 1) (keys_of xs))) is
    ∙ ap (λ qs. i ∷ qs) (chain_places class c (i + 1) xs)
    ∙ sym kept
chain-from class c i (suc p) (x ∷ xs) l is =
    let n = first_link (λ k. class k == class x.key) (i + 1) (keys_of xs) in
    let ns = next_links class (i + 1) (keys_of xs) in
    let test : Version → Bool = λ y. class y.key == c in
    let ps = places test (i + 1) xs in
    let other : (i + suc p + 1 == i + 1) ≡ false = grind (arith, nat_tests) in
    let link : i + suc p + 1 ≡ i + 1 + p + 1 = omega arith in
    let from : i + suc p ≡ i + 1 + p = omega arith in
    chain-there i n ns (i + suc p + 1) other
    ∙ ap (chain (i + 1) ns) link
    ∙ chain-from class c (i + 1) p xs (omega (arith, l)) is
    ∙ ap (λ m. filter (λ v. not (nat_lt v m)) ps) (sym from)
    ∙ sym (first-left (i + suc p) i (test x) ps (omega arith))

start_chain : (slots slot : ℕ) (gone : Version → Bool) (vs : List Version) (links : List ℕ) (link : ℕ) → links ≡ next_links (λ k. k % slots) 0 (keys_of vs) → IsStart slots slot gone vs link →
    chain 0 links link ≡ filter (λ v. not (nat_lt v (place_of (length vs) link))) (places (λ x. x.key % slots == slot) 0 vs)
start_chain slots slot gone vs links zero linked s = chain_none 0 links ∙ sym (none-left (λ x. x.key % slots == slot) (length vs) 0 vs (omega arith))
start_chain slots slot gone vs links (suc p) linked s =
    let class : ℕ → ℕ = λ k. k % slots in
    let link : suc p ≡ 0 + p + 1 = omega arith in
    let back : p ≡ suc p - 1 = omega arith in
    let place : 0 + p ≡ p = omega arith in
    let within = s.within in
    ap (λ ns. chain 0 ns (suc p)) linked
    ∙ ap (chain 0 (next_links class 0 (keys_of vs))) link
    ∙ chain-from class slot 0 p vs (omega (arith, within)) (ap (λ u. class (slice_index_or vs u no_version).key) back ∙ s.in_slot (omega arith))
    ∙ ap (λ m. filter (λ v. not (nat_lt v m)) (places (λ x. x.key % slots == slot) 0 vs)) place

-- two filters in either order give one list
filter-swap : (f g : ℕ → Bool) (xs : List ℕ) → filter f (filter g xs) ≡ filter g (filter f xs)
filter-swap f g [] = refl
filter-swap f g (x ∷ xs) =
    let rest = filter-swap f g xs in
    ⊎_elim
    (λ a. ⊎_elim
    (λ b. ap (filter f) (pass g xs b) ∙ pass f (filter g xs) a ∙ ap (λ ys. x ∷ ys) rest ∙ sym (ap (filter g) (pass f xs a) ∙ pass g (filter f xs) b))
    (λ b. ap (filter f) (miss g xs b) ∙ rest ∙ sym (ap (filter g) (pass f xs a) ∙ miss g (filter f xs) b))
    (cases_Bool (g x)))
    (λ a. ⊎_elim
    (λ b. ap (filter f) (pass g xs b) ∙ miss f (filter g xs) a ∙ rest ∙ sym (ap (filter g) (miss f xs a)))
    (λ b. ap (filter f) (miss g xs b) ∙ rest ∙ sym (ap (filter g) (miss f xs a)))
    (cases_Bool (g x)))
    (cases_Bool (f x))
  where
    pass : (h : ℕ → Bool) (ys : List ℕ) → h x ≡ true → filter h (x ∷ ys) ≡ x ∷ filter h ys
    pass h ys e = cond-true (h x) (x ∷ filter h ys) (filter h ys) e

    miss : (h : ℕ → Bool) (ys : List ℕ) → h x ≡ false → filter h (x ∷ ys) ≡ filter h ys
    miss h ys e = cond-false (h x) (x ∷ filter h ys) (filter h ys) e

-- the versions listed from a start on are the living ones
pub living_from : (slots key : ℕ) (gone : Version → Bool) (vs : List Version) (links : List ℕ) (link : ℕ) (listed : List ℕ) → links ≡ next_links (λ k. k % slots) 0 (keys_of vs) →
    IsStart slots (key % slots) gone vs link → listed ≡ left vs key links link → IsLiving vs key gone listed
living_from slots key gone vs links link listed linked s is =
    let test : ℕ → Bool = λ v. (slice_index_or vs v no_version).key == key in
    let far : ℕ → Bool = λ v. not (nat_lt v (place_of (length vs) link)) in
    let ps = places (λ x. x.key % slots == key % slots) 0 vs in
    record {
      from = place_of (length vs) link;
      left = is
          ∙ ap (filter test) (start_chain slots (key % slots) gone vs links link linked s)
          ∙ filter-swap test far ps
          ∙ ap (filter far) (filter-places test (λ k. k % slots) key 0 vs (λ p l. let here : 0 + p ≡ p = omega arith in ap test here));
      over = λ v before l same. s.over v before l (ap (λ k. k % slots) same);
    }

-- all versions of a key are living ones, with none left out
pub living_all : (vs : List Version) (key : ℕ) (gone : Version → Bool) (listed : List ℕ) → listed ≡ of_key vs key → IsLiving vs key gone listed
living_all vs key gone listed is = record { from = 0; left = is ∙ sym (none (of_key vs key)); over = λ v l. absurd (omega (arith, l)) }
  where
    none : (xs : List ℕ) → filter (λ v. not (nat_lt v 0)) xs ≡ xs
    none [] = refl
    none (x ∷ xs) = cond-true (not (nat_lt x 0)) (x ∷ filter (λ v. not (nat_lt v 0)) xs) (filter (λ v. not (nat_lt v 0)) xs) (ap not (le-ltb x 0 (omega arith))) ∙ ap (λ ys. x ∷ ys) (none xs)
