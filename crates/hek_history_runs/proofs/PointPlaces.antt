-- The places of the points of a transcript: those of each of its entries stand together, in order.
use Rattle.std.proofs.Common.{◌≡◌, ℕ, zero, suc, ◌+◌, ◌<◌, ◌≤◌, true, false, List, [], ◌∷◌, ◌++◌, length, Some, refl, ◌∙◌, ap, sym, arith, inl, inr, ⊎_elim, take}
use Rattle.std.proofs.lemmas.Bool.{cases_Bool, cond-true, cond-false, and_parts}
use Rattle.std.proofs.lemmas.List.{length-append}
use Rattle.std.specs.Prelude.{◌&&◌, ◌⊎◌, slice_get, if◌then◌else◌}
use Rattle.hek_rules.specs.declared.event.Event.{Event}
use Rattle.hek_rules.specs.declared.event.Event.TheVariants as event
use Rattle.hek_rules.specs.declared.reply.Reply.{Reply}
use Rattle.hek_rules.specs.declared.reply.Reply.TheVariants as reply
use Rattle.hek_rules.specs.Recorded.{Recorded}
use Rattle.hek_history.specs.declared.history.Point.{Point}
use Rattle.hek_history.specs.declared.history.Point.TheVariants.{Begin, Commit}
use Rattle.hek_history.specs.Explanation.{At}
use Rattle.hek_history.proofs.Transcripts.{begins_apart, commits_apart, kinds_apart, no_point}
use Rattle.hek_history_runs.specs.Points.{is_snapshot, commits, points_at, points_in}

-- ---- one list after another
after-all : {X : Type 0} (xs ys : List X) (m : ℕ) → slice_get (xs ++ ys) (length xs + m) ≡ slice_get ys m
after-all [] ys m = let e : 0 + m ≡ m = omega arith in ap (slice_get ys) e
after-all (x ∷ xs) ys m = let e : suc (length xs) + m ≡ suc (length xs + m) = omega arith in ap (slice_get (x ∷ (xs ++ ys))) e ∙ after-all xs ys m

within : {X : Type 0} (xs ys : List X) (m : ℕ) (x : X) → slice_get xs m ≡ Some x → slice_get (xs ++ ys) m ≡ Some x
within [] ys m x e = cc
within (y ∷ xs) ys zero x e = e
within (y ∷ xs) ys (suc m) x e = within xs ys m x e

either-part : {X : Type 0} (xs ys : List X) (i : ℕ) (x : X) → slice_get (xs ++ ys) i ≡ Some x → (slice_get xs i ≡ Some x) ⊎ ((m : ℕ) × (i ≡ length xs + m) × (slice_get ys m ≡ Some x))
either-part [] ys i x e = let same : i ≡ 0 + i = omega arith in inr (i, same, e)
either-part (y ∷ xs) ys zero x e = inl e
either-part (y ∷ xs) ys (suc i) x e = ⊎_elim (λ l. inl l) (λ r. let at = r.1 in let same : suc i ≡ suc (length xs) + r.0 = omega (arith, at) in inr (r.0, same, r.2)) (either-part xs ys i x e)

module _ (place : ℕ → ℕ) (s : Recorded) where
  -- how many points the first n entries have
  abbrev pub offset : List (Event × Reply) → ℕ → ℕ
  offset h n = length (points_in place s (take n h))

  -- a point is one of those of an entry
  pub record IsPointOf (h : List (Event × Reply)) (i : ℕ) (p : Point) : Type 0 where
    pub entry : ℕ
    pub is : Event × Reply
    pub there : slice_get h entry ≡ Some is
    pub turn : ℕ
    pub place_is : i ≡ offset h entry + turn
    pub point : slice_get (points_at place s is.0 is.1) turn ≡ Some p

  pub point-of : (h : List (Event × Reply)) (i : ℕ) (p : Point) → At (points_in place s h) i p → IsPointOf h i p
  point-of [] i p a = absurd (no_point p a)
  point-of (q ∷ qs) i p a =
      ⊎_elim
      (λ here. record { entry = zero; is = q; there = refl; turn = i; place_is = (let same : i ≡ 0 + i = omega arith in same); point = here })
      (λ later.
      let r = point-of qs later.0 p later.2 in
      record {
        entry = suc r.entry;
        is = r.is;
        there = r.there;
        turn = r.turn;
        place_is =
            (let sum = length-append (points_at place s q.0 q.1) (points_in place s (take r.entry qs)) in
            let at = later.1 in
            let deep = r.place_is in
            omega (arith, sum, at, deep));
        point = r.point;
      })
      (either-part (points_at place s q.0 q.1) (points_in place s qs) i p a)

  pub point-at : (h : List (Event × Reply)) (n m : ℕ) (q : Event × Reply) (p : Point) → slice_get h n ≡ Some q → slice_get (points_at place s q.0 q.1) m ≡ Some p → At (points_in place s h) (offset h n + m) p
  point-at [] n m q p e f = cc
  point-at (x ∷ xs) zero m q p e f =
      let same : x ≡ q = cc in
      let index : 0 + m ≡ m = omega arith in
      ap (slice_get (points_in place s (x ∷ xs))) index ∙ within (points_at place s x.0 x.1) (points_in place s xs) m p (ap (λ (z : Event × Reply). slice_get (points_at place s z.0 z.1) m) same ∙ f)
  point-at (x ∷ xs) (suc n) m q p e f =
      let rest = point-at xs n m q p e f in
      let sum = length-append (points_at place s x.0 x.1) (points_in place s (take n xs)) in
      let index : offset (x ∷ xs) (suc n) + m ≡ length (points_at place s x.0 x.1) + (offset xs n + m) = omega (arith, sum) in
      ap (slice_get (points_in place s (x ∷ xs))) index ∙ after-all (points_at place s x.0 x.1) (points_in place s xs) (offset xs n + m) ∙ rest

  -- the points before those of an entry are those of the entries before it
  pub points-before : (h : List (Event × Reply)) (n : ℕ) → take (offset h n) (points_in place s h) ≡ points_in place s (take n h)
  points-before h zero = refl
  points-before [] (suc n) = refl
  points-before (x ∷ xs) (suc n) = more (points_at place s x.0 x.1) (points_in place s (take n xs)) (points_in place s xs) (points-before xs n)
    where
      more : (ps qs rs : List Point) → take (length qs) rs ≡ qs → take (length (ps ++ qs)) (ps ++ rs) ≡ ps ++ qs
      more [] qs rs e = e
      more (p ∷ ps) qs rs e = ap (λ zs. p ∷ zs) (more ps qs rs e)

  -- an entry's points come before those of a later one
  pub offset-rises : (h : List (Event × Reply)) (a b : ℕ) (q : Event × Reply) → a < b → slice_get h a ≡ Some q → offset h a + length (points_at place s q.0 q.1) ≤ offset h b
  offset-rises [] a b q l e = cc
  offset-rises (x ∷ xs) a zero q l e = absurd (omega (arith, l))
  offset-rises (x ∷ xs) zero (suc b) q l e =
      let same : x ≡ q = cc in
      let sum = length-append (points_at place s x.0 x.1) (points_in place s (take b xs)) in
      let len : length (points_at place s q.0 q.1) ≡ length (points_at place s x.0 x.1) = ap (λ (z : Event × Reply). length (points_at place s z.0 z.1)) (sym same) in
      omega (arith, sum, len)
  offset-rises (x ∷ xs) (suc a) (suc b) q l e =
      let rest = offset-rises xs a b q (omega (arith, l)) e in
      let one = length-append (points_at place s x.0 x.1) (points_in place s (take a xs)) in
      let two = length-append (points_at place s x.0 x.1) (points_in place s (take b xs)) in
      omega (arith, rest, one, two)

  -- ---- which entry has a point
  -- the entry at which a transaction reads
  pub record Reads (q : Event × Reply) (p turn : ℕ) : Type 0 where
    pub txn : ℕ
    pub time : ℕ
    pub committed : commits s txn ≡ true
    pub named : place txn ≡ p
    pub first : turn ≡ 0
    pub how : ((q ≡ (event.Begin txn, reply.Began time)) × (is_snapshot s txn ≡ true)) ⊎ ((q ≡ (event.Precommit txn, reply.Precommitted time)) × (is_snapshot s txn ≡ false))

  pub record Ends (q : Event × Reply) (p turn : ℕ) : Type 0 where
    pub txn : ℕ
    pub time : ℕ
    pub committed : commits s txn ≡ true
    pub named : place txn ≡ p
    pub turn_is : turn ≡ (if is_snapshot s txn then 0 else 1)
    pub how : q ≡ (event.Precommit txn, reply.Precommitted time)

  one_point : (p q : Point) → Some p ≡ Some q → p ≡ q
  one_point p q e = cc

  only-read : (x p turn : ℕ) → slice_get (Begin x ∷ []) turn ≡ Some (Begin p) → (x ≡ p) × (turn ≡ 0)
  only-read x p zero e = (begins_apart x p (one_point (Begin x) (Begin p) e), refl)
  only-read x p (suc m) e = absurd (no_point (Begin p) e)

  not-read : (x p turn : ℕ) → slice_get (Commit x ∷ []) turn ≡ Some (Begin p) → ⊥
  not-read x p zero e = kinds_apart p x (sym (one_point (Commit x) (Begin p) e))
  not-read x p (suc m) e = no_point (Begin p) e

  read-both : (x p turn : ℕ) → slice_get (Begin x ∷ Commit x ∷ []) turn ≡ Some (Begin p) → (x ≡ p) × (turn ≡ 0)
  read-both x p zero e = (begins_apart x p (one_point (Begin x) (Begin p) e), refl)
  read-both x p (suc m) e = absurd (not-read x p m e)

  only-end : (x p turn : ℕ) → slice_get (Commit x ∷ []) turn ≡ Some (Commit p) → (x ≡ p) × (turn ≡ 0)
  only-end x p zero e = (commits_apart x p (one_point (Commit x) (Commit p) e), refl)
  only-end x p (suc m) e = absurd (no_point (Commit p) e)

  not-end : (x p turn : ℕ) → slice_get (Begin x ∷ []) turn ≡ Some (Commit p) → ⊥
  not-end x p zero e = kinds_apart x p (one_point (Begin x) (Commit p) e)
  not-end x p (suc m) e = no_point (Commit p) e

  end-both : (x p turn : ℕ) → slice_get (Begin x ∷ Commit x ∷ []) turn ≡ Some (Commit p) → (x ≡ p) × (turn ≡ 1)
  end-both x p zero e = absurd (kinds_apart x p (one_point (Begin x) (Commit p) e))
  end-both x p (suc m) e = let r = only-end x p m e in (r.0, ap suc r.1)

  pub reads-from : (e : Event) (r : Reply) (p turn : ℕ) → slice_get (points_at place s e r) turn ≡ Some (Begin p) → Reads (e, r) p turn
  reads-from (event.Begin t) (reply.Began time) p turn a =
      ⊎_elim
      (λ yes.
      let q = and_parts (commits s t) (is_snapshot s t) yes in
      let only = only-read (place t) p turn (ap (λ ps. slice_get ps turn) (sym (cond-true (commits s t && is_snapshot s t) (Begin (place t) ∷ []) [] yes)) ∙ a) in
      record { txn = t; time = time; committed = q.0; named = only.0; first = only.1; how = inl (refl, q.1) })
      (λ off. absurd (no_point (Begin p) (ap (λ ps. slice_get ps turn) (sym (cond-false (commits s t && is_snapshot s t) (Begin (place t) ∷ []) [] off)) ∙ a)))
      (cases_Bool (commits s t && is_snapshot s t))
  reads-from (event.Precommit t) (reply.Precommitted time) p turn a =
      let both = if is_snapshot s t then Commit (place t) ∷ [] else Begin (place t) ∷ Commit (place t) ∷ [] in
      ⊎_elim
      (λ yes.
      let here = ap (λ ps. slice_get ps turn) (sym (cond-true (commits s t) both [] yes)) ∙ a in
      ⊎_elim
      (λ snap. absurd (not-read (place t) p turn (ap (λ ps. slice_get ps turn) (sym (cond-true (is_snapshot s t) (Commit (place t) ∷ []) (Begin (place t) ∷ Commit (place t) ∷ []) snap)) ∙ here)))
      (λ plain.
      let only = read-both (place t) p turn (ap (λ ps. slice_get ps turn) (sym (cond-false (is_snapshot s t) (Commit (place t) ∷ []) (Begin (place t) ∷ Commit (place t) ∷ []) plain)) ∙ here) in
      record { txn = t; time = time; committed = yes; named = only.0; first = only.1; how = inr (refl, plain) })
      (cases_Bool (is_snapshot s t)))
      (λ off. absurd (no_point (Begin p) (ap (λ ps. slice_get ps turn) (sym (cond-false (commits s t) both [] off)) ∙ a)))
      (cases_Bool (commits s t))
  reads-from e r p turn a = absurd (no_point (Begin p) a)

  pub ends-from : (e : Event) (r : Reply) (p turn : ℕ) → slice_get (points_at place s e r) turn ≡ Some (Commit p) → Ends (e, r) p turn
  ends-from (event.Begin t) (reply.Began time) p turn a =
      ⊎_elim
      (λ yes. absurd (not-end (place t) p turn (ap (λ ps. slice_get ps turn) (sym (cond-true (commits s t && is_snapshot s t) (Begin (place t) ∷ []) [] yes)) ∙ a)))
      (λ off. absurd (no_point (Commit p) (ap (λ ps. slice_get ps turn) (sym (cond-false (commits s t && is_snapshot s t) (Begin (place t) ∷ []) [] off)) ∙ a)))
      (cases_Bool (commits s t && is_snapshot s t))
  ends-from (event.Precommit t) (reply.Precommitted time) p turn a =
      let both = if is_snapshot s t then Commit (place t) ∷ [] else Begin (place t) ∷ Commit (place t) ∷ [] in
      ⊎_elim
      (λ yes.
      let here = ap (λ ps. slice_get ps turn) (sym (cond-true (commits s t) both [] yes)) ∙ a in
      ⊎_elim
      (λ snap.
      let only = only-end (place t) p turn (ap (λ ps. slice_get ps turn) (sym (cond-true (is_snapshot s t) (Commit (place t) ∷ []) (Begin (place t) ∷ Commit (place t) ∷ []) snap)) ∙ here) in
      record { txn = t; time = time; committed = yes; named = only.0; turn_is = only.1 ∙ sym (cond-true (is_snapshot s t) 0 1 snap); how = refl })
      (λ plain.
      let only = end-both (place t) p turn (ap (λ ps. slice_get ps turn) (sym (cond-false (is_snapshot s t) (Commit (place t) ∷ []) (Begin (place t) ∷ Commit (place t) ∷ []) plain)) ∙ here) in
      record { txn = t; time = time; committed = yes; named = only.0; turn_is = only.1 ∙ sym (cond-false (is_snapshot s t) 0 1 plain); how = refl })
      (cases_Bool (is_snapshot s t)))
      (λ off. absurd (no_point (Commit p) (ap (λ ps. slice_get ps turn) (sym (cond-false (commits s t) both [] off)) ∙ a)))
      (cases_Bool (commits s t))
  ends-from e r p turn a = absurd (no_point (Commit p) a)

  -- ---- the points of an entry of a committed transaction
  pub begin-points : (t time : ℕ) → commits s t ≡ true → is_snapshot s t ≡ true → points_at place s (event.Begin t) (reply.Began time) ≡ Begin (place t) ∷ []
  begin-points t time c n = cond-true (commits s t && is_snapshot s t) (Begin (place t) ∷ []) [] (ap (λ b. b && is_snapshot s t) c ∙ n)

  pub end-points : (t time : ℕ) → commits s t ≡ true → is_snapshot s t ≡ true → points_at place s (event.Precommit t) (reply.Precommitted time) ≡ Commit (place t) ∷ []
  end-points t time c n =
      cond-true (commits s t) (if is_snapshot s t then Commit (place t) ∷ [] else Begin (place t) ∷ Commit (place t) ∷ []) [] c
      ∙ cond-true (is_snapshot s t) (Commit (place t) ∷ []) (Begin (place t) ∷ Commit (place t) ∷ []) n

  pub both-points : (t time : ℕ) → commits s t ≡ true → is_snapshot s t ≡ false → points_at place s (event.Precommit t) (reply.Precommitted time) ≡ Begin (place t) ∷ Commit (place t) ∷ []
  both-points t time c n =
      cond-true (commits s t) (if is_snapshot s t then Commit (place t) ∷ [] else Begin (place t) ∷ Commit (place t) ∷ []) [] c
      ∙ cond-false (is_snapshot s t) (Commit (place t) ∷ []) (Begin (place t) ∷ Commit (place t) ∷ []) n
