-- The reads and writes of a whole transcript, and its searches for a deadlock.
use Rattle.std.proofs.Common.{◌≡◌, ℕ, zero, suc, ◌+◌, ◌-◌, ◌<◌, ◌≤◌, List, [], ◌∷◌, ◌++◌, Bool, true, false, Option, Some, None, refl, ap, sym, subst, ◌∙◌, arith, length, IsTrue, drop, slice_get, add-one}
use Rattle.std.specs.Prelude.{if◌then◌else◌}
use Rattle.std.specs.List.{AllByRecursion, AllZip, zip, flat_map}
use Rattle.std.proofs.lemmas.Bool.{lt-ltb, le-ltb}
use Rattle.hek_rules.specs.declared.event.Cause.{Cause}
use Rattle.hek_rules.specs.declared.event.Event.{Event}
use Rattle.hek_rules.specs.declared.event.Event.TheVariants.{Finish, Precommit, Detect}
use Rattle.hek_rules.specs.declared.reply.Reply.{Reply}
use Rattle.hek_rules.specs.declared.reply.Reply.TheVariants.{Ready, Waiting, Precommitted, NoCycle, Victim, Aborted}
use Rattle.hek_worker.specs.declared.stage.Stage.TheVariants.{Working, Preparing, Looking, Releasing}
use Rattle.hek_worker.specs.declared.stage.Position.{Position}
use Rattle.hek_worker.specs.Grammar.{event_at, after_work, after_precommit, after_look, worked, answers, at, end_at, or_finish}
use Rattle.hek_worker.specs.Forms.{look, is_search_reply}
use Rattle.hek_worker.proofs.Wholes.{good, spot, Whole, lands, moved}
use Rattle.hek_worker.proofs.Pieces.{no_end, went_on, one_turn, none_less, one_less}

-- the next read or write, and those left after it
pub next_work : (work : List Event) (i : ℕ) (e : Event) (es : List Event) → drop i work ≡ e ∷ es → (slice_get work i ≡ Some e) × (i < length work) × (drop (suc i) work ≡ es)
next_work [] zero e es h = absurd (cc)
next_work [] (suc i) e es h = absurd (cc)
next_work (w ∷ ws) zero e es h =
    let one : w ≡ e = cc in
    let rest : ws ≡ es = cc in
    (ap (λ (z : Event). Some z) one, omega arith, rest)
next_work (w ∷ ws) (suc i) e es h = let k = next_work ws i e es h in (k.0, omega (arith, k.1), k.2)

pub no_work : (work : List Event) (i : ℕ) → drop i work ≡ [] → (slice_get work i ≡ None) × (length work ≤ i)
no_work [] zero h = (refl, omega arith)
no_work [] (suc i) h = (refl, omega arith)
no_work (w ∷ ws) zero h = absurd (cc)
no_work (w ∷ ws) (suc i) h = let k = no_work ws i h in (k.0, omega (arith, k.1))

pub not_aborted : (e : Event) (c : Cause) → answers e (Aborted c) ≡ false
not_aborted Detect c = refl
not_aborted e c = refl

answered : (b : Bool) (o : Option Position) (m : Position) → (if b then o else None) ≡ Some m → (b ≡ true) × (o ≡ Some m)
answered true o m h = (refl, h)
answered false o m h = absurd (cc)

-- a read or write of a transaction that goes on has a reply of its kind
pub went_work : (t : ℕ) (work : List Event) (i n : ℕ) (r : Reply) (m : Position) → after_work t work i n r ≡ Some m → IsTrue (good m.stage)
    → (answers (event_at t work (Working i)) r ≡ true) × (worked work i n ≡ Some m)
went_work t work i n (Aborted c) m h g = let bad : IsTrue (good (Releasing true)) = moved (λ (p : Position). IsTrue (good p.stage)) (Releasing true) n m h g in absurd (cc)
went_work t work i n r m h g = answered (answers (event_at t work (Working i)) r) (worked work i n) m h

pub work_on : (t : ℕ) (work : List Event) (i n : ℕ) (r : Reply) → answers (event_at t work (Working i)) r ≡ true → after_work t work i n r ≡ worked work i n
work_on t work i n (Aborted c) h = let bad = not_aborted (event_at t work (Working i)) c in absurd (cc)
work_on t work i n r h = rw h refl

pub worked_more : (work : List Event) (i n : ℕ) → i < length work → worked work i n ≡ Some (spot (Working (suc i)) n)
worked_more work i n h = rw (lt-ltb i (length work) h, add-one i) refl

pub worked_all : (work : List Event) (i n : ℕ) → length work ≤ i → worked work i n ≡ Some (spot Preparing n)
worked_all work i n h = rw (le-ltb i (length work) h) refl

ready : (t : ℕ) (r : Reply) → answers (Finish t) r ≡ true → r ≡ Ready
ready t Ready h = refl
ready t r h = absurd (cc)

pub record Works (t : ℕ) (work : List Event) (n left : ℕ) (todo : List Event) (xs : List (Event × Reply)) : Type 0 where
  pub replies : List Reply
  pub rest : List (Event × Reply)
  pub order : xs ≡ zip todo replies ++ (Finish t, Ready) ∷ rest
  pub done : AllZip (λ e r. IsTrue (answers e r)) todo replies
  pub next : Whole t work (spot Preparing n) rest (end_at left)

pub works : (t : ℕ) (work : List Event) (n left : ℕ) (todo : List Event) (i : ℕ) (xs : List (Event × Reply)) → drop i work ≡ todo → Whole t work (spot (Working i) n) xs (end_at left)
    → Works t work n left todo xs
works t work n left [] i [] is h = let bad = no_end (Working i) n left h in absurd (cc)
works t work n left (e ∷ es) i [] is h = let bad = no_end (Working i) n left h in absurd (cc)
works t work n left [] i (x ∷ xs) is h =
    let none = no_work work i is in
    let event : event_at t work (Working i) ≡ Finish t = ap (or_finish t) none.0 in
    let went = went_work t work i n x.1 h.1.0 h.1.1 h.1.2 in
    let reply : x.1 ≡ Ready = ready t x.1 (sym (ap (λ (e : Event). answers e x.1) event) ∙ went.0) in
    let m : h.1.0 ≡ spot Preparing n = lands Preparing n h.1.0 (sym (worked_all work i n none.1) ∙ went.1) in
    let at : x.0 ≡ Finish t = h.0 ∙ event in
    let same : (x.0, x.1) ≡ (Finish t, Ready) = cc in
    record {
      replies = [];
      rest = xs;
      order = ap (λ (z : Event × Reply). z ∷ xs) same;
      done = tt;
      next = subst (λ (p : Position). Whole t work p xs (end_at left)) m h.1.3;
    }
works t work n left (e ∷ es) i (x ∷ xs) is h =
    let some = next_work work i e es is in
    let event : event_at t work (Working i) ≡ e = ap (or_finish t) some.0 in
    let went = went_work t work i n x.1 h.1.0 h.1.1 h.1.2 in
    let m : h.1.0 ≡ spot (Working (suc i)) n = lands (Working (suc i)) n h.1.0 (sym (worked_more work i n some.1) ∙ went.1) in
    let s = works t work n left es (suc i) xs some.2 (subst (λ (p : Position). Whole t work p xs (end_at left)) m h.1.3) in
    let at : x.0 ≡ e = h.0 ∙ event in
    let same : (x.0, x.1) ≡ (e, x.1) = cc in
    record {
      replies = x.1 ∷ s.replies;
      rest = s.rest;
      order = ap (λ (z : Event × Reply). z ∷ xs) same ∙ ap (λ (ys : List (Event × Reply)). (e, x.1) ∷ ys) s.order;
      done = (sym (ap (λ (f : Event). answers f x.1) event) ∙ went.0, s.done);
      next = s.next;
    }

pub worked_back : (t : ℕ) (work : List Event) (n left : ℕ) (todo : List Event) (i : ℕ) (replies : List Reply) (rest : List (Event × Reply)) → drop i work ≡ todo
    → AllZip (λ e r. IsTrue (answers e r)) todo replies → Whole t work (spot Preparing n) rest (end_at left)
    → Whole t work (spot (Working i) n) (zip todo replies ++ (Finish t, Ready) ∷ rest) (end_at left)
worked_back t work n left [] i [] rest is all w =
    let none = no_work work i is in
    let event : event_at t work (Working i) ≡ Finish t = ap (or_finish t) none.0 in
    let fits : answers (event_at t work (Working i)) Ready ≡ true = ap (λ (e : Event). answers e Ready) event in
    (sym event, (spot Preparing n, work_on t work i n Ready fits ∙ worked_all work i n none.1, refl, w))
worked_back t work n left [] i (r ∷ rs) rest is all w = absurd all
worked_back t work n left (e ∷ es) i [] rest is all w = absurd all
worked_back t work n left (e ∷ es) i (r ∷ rs) rest is all w =
    let some = next_work work i e es is in
    let event : event_at t work (Working i) ≡ e = ap (or_finish t) some.0 in
    let fits : answers (event_at t work (Working i)) r ≡ true = ap (λ (f : Event). answers f r) event ∙ all.0 in
    (sym event, (spot (Working (suc i)) n, work_on t work i n r fits ∙ worked_more work i n some.1, refl, worked_back t work n left es (suc i) rs rest some.2 all.1 w))

-- searches for a deadlock

pub record Looks (t : ℕ) (work : List Event) (n left : ℕ) (xs : List (Event × Reply)) : Type 0 where
  pub looks : List (ℕ × Reply)
  pub ended : ℕ
  pub rest : List (Event × Reply)
  pub turns : ℕ
  pub order : xs ≡ flat_map (look t) looks ++ (Precommit t, Precommitted ended) ∷ rest
  pub searches : AllByRecursion (λ x. IsTrue (is_search_reply x.1)) looks
  pub count : length looks + turns ≡ n
  pub next : Whole t work (spot (Releasing false) turns) rest (end_at left)

pub record Search (t : ℕ) (work : List Event) (n left : ℕ) (xs : List (Event × Reply)) : Type 0 where
  pub found : Reply
  pub rest : List (Event × Reply)
  pub order : xs ≡ (Detect, found) ∷ rest
  pub is : IsTrue (is_search_reply found)
  pub next : Looks t work n left rest

precommitted : (t : ℕ) (work : List Event) (n left time : ℕ) (x : Event × Reply) (xs : List (Event × Reply)) → x.0 ≡ Precommit t → x.1 ≡ Precommitted time
    → Whole t work (spot (Releasing false) n) xs (end_at left) → Looks t work n left (x ∷ xs)
precommitted t work n left time x xs at is w =
    let same : (x.0, x.1) ≡ (Precommit t, Precommitted time) = cc in
    record { looks = []; ended = time; rest = xs; turns = n; order = ap (λ (z : Event × Reply). z ∷ xs) same; searches = tt; count = none_less n; next = w }

looked : (t : ℕ) (work : List Event) (n left k : ℕ) (x : Event × Reply) (xs : List (Event × Reply)) → x.0 ≡ Precommit t → x.1 ≡ Waiting k → (n ≡ 0 → ⊥)
    → Search t work (n - 1) left xs → Looks t work n left (x ∷ xs)
looked t work n left k x xs at is some s =
    let same : (x.0, x.1) ≡ (Precommit t, Waiting k) = cc in
    let l = s.next in
    let count : length l.looks + l.turns ≡ n - 1 = l.count in
    record {
      looks = (k, s.found) ∷ l.looks;
      ended = l.ended;
      rest = l.rest;
      turns = l.turns;
      order = ap (λ (z : Event × Reply). z ∷ xs) same ∙ ap (λ (ys : List (Event × Reply)). (Precommit t, Waiting k) ∷ ys) s.order
          ∙ ap (λ (ys : List (Event × Reply)). (Precommit t, Waiting k) ∷ (Detect, s.found) ∷ ys) l.order;
      searches = (s.is, l.searches);
      count = one_less (length l.looks) l.turns n some count;
      next = l.next;
    }

look_one : (t : ℕ) (work : List Event) (n left : ℕ) (x : Event × Reply) (xs : List (Event × Reply)) (r : Reply) (m : Position) → x.0 ≡ Precommit t → x.1 ≡ r → after_precommit n r ≡ Some m → IsTrue (good m.stage)
    → Whole t work m xs (end_at left) → ((k : ℕ) → Whole t work (spot Looking k) xs (end_at left) → Search t work k left xs) → Looks t work n left (x ∷ xs)
look_one t work n left x xs (Waiting k) m at is h g w on =
    let go = went_on Looking n m h g in
    looked t work n left k x xs at is go.0 (on (n - 1) (subst (λ (p : Position). Whole t work p xs (end_at left)) go.1 w))
look_one t work n left x xs (Precommitted time) m at is h g w on = precommitted t work n left time x xs at is (moved (λ (p : Position). Whole t work p xs (end_at left)) (Releasing false) n m h w)
look_one t work n left x xs (Aborted c) m at is h g w on = let bad : IsTrue (good (Releasing true)) = moved (λ (p : Position). IsTrue (good p.stage)) (Releasing true) n m h g in absurd (cc)
look_one t work n left x xs r m at is h g w on = absurd (cc)

search_one : (t : ℕ) (work : List Event) (n left : ℕ) (x : Event × Reply) (xs : List (Event × Reply)) (r : Reply) (m : Position) → x.0 ≡ Detect → x.1 ≡ r → after_look n r ≡ Some m
    → Whole t work m xs (end_at left) → ((k : ℕ) → Whole t work (spot Preparing k) xs (end_at left) → Looks t work k left xs) → Search t work n left (x ∷ xs)
search_one t work n left x xs NoCycle m at is h w on =
    let same : (x.0, x.1) ≡ (Detect, NoCycle) = cc in
    record { found = NoCycle; rest = xs; order = ap (λ (z : Event × Reply). z ∷ xs) same; is = refl; next = on n (moved (λ (p : Position). Whole t work p xs (end_at left)) Preparing n m h w) }
search_one t work n left x xs (Victim u cycle) m at is h w on =
    let same : (x.0, x.1) ≡ (Detect, Victim u cycle) = cc in
    record { found = Victim u cycle; rest = xs; order = ap (λ (z : Event × Reply). z ∷ xs) same; is = refl; next = on n (moved (λ (p : Position). Whole t work p xs (end_at left)) Preparing n m h w) }
search_one t work n left x xs r m at is h w on = absurd (cc)

both : (t : ℕ) (work : List Event) (left : ℕ) (xs : List (Event × Reply))
    → ((n : ℕ) → Whole t work (spot Preparing n) xs (end_at left) → Looks t work n left xs) × ((n : ℕ) → Whole t work (spot Looking n) xs (end_at left) → Search t work n left xs)
both t work left [] =
    (λ n h. let bad = no_end Preparing n left h in absurd (cc), λ n h. let bad = no_end Looking n left h in absurd (cc))
both t work left (x ∷ xs) = (
  λ n h. look_one t work n left x xs x.1 h.1.0 h.0 refl h.1.1 h.1.2 h.1.3 (both t work left xs).1,
  λ n h. search_one t work n left x xs x.1 h.1.0 h.0 refl h.1.1 h.1.3 (both t work left xs).0,
)

pub looks : (t : ℕ) (work : List Event) (n left : ℕ) (xs : List (Event × Reply)) → Whole t work (spot Preparing n) xs (end_at left) → Looks t work n left xs
looks t work n left xs h = (both t work left xs).0 n h

found_on : (n : ℕ) (r : Reply) → IsTrue (is_search_reply r) → after_look n r ≡ Some (spot Preparing n)
found_on n NoCycle h = refl
found_on n (Victim t cycle) h = refl
found_on n r h = absurd (cc)

pub looked_back : (t : ℕ) (work : List Event) (left ended : ℕ) (looks : List (ℕ × Reply)) (rest : List (Event × Reply)) (n m : ℕ) → length looks + m ≡ n → AllByRecursion (λ x. IsTrue (is_search_reply x.1)) looks
    → Whole t work (spot (Releasing false) m) rest (end_at left)
    → Whole t work (spot Preparing n) (flat_map (look t) looks ++ (Precommit t, Precommitted ended) ∷ rest) (end_at left)
looked_back t work left ended [] rest n m is all w =
    let same : m ≡ n = omega arith in
    let v : Whole t work (spot (Releasing false) n) rest (end_at left) = subst (λ (k : ℕ). Whole t work (spot (Releasing false) k) rest (end_at left)) same w in
    (refl, (spot (Releasing false) n, refl, refl, v))
looked_back t work left ended (l ∷ ls) rest n m is all w =
    let next : suc (length ls + m) ≡ n = omega arith in (
      refl,
      (
        spot Looking (length ls + m),
        one_turn Looking n (length ls + m) next,
        refl,
        (
          refl,
          (
            spot Preparing (length ls + m),
            found_on (length ls + m) l.1 all.0,
            refl,
            looked_back t work left ended ls rest (length ls + m) m refl all.1 w,
          ),
        ),
      ),
    )
