-- A snapshot transaction writes a key for the first time only if no other writer of the key ended since its begin.
use Rattle.std.proofs.Common.{◌≡◌, ℕ, ◌<◌, ◌≤◌, Bool, true, false, List, Some, None, refl, ◌∙◌, ap, sym, arith, inl, inr, ⊎_elim, subst}
use Rattle.std.proofs.lemmas.Bool.{cases_Bool, cond-false, false≢true, lt-ltb, ltb-false, ltb-true, eqb-true, eq-eqb, or_cases, or_parts, and_parts, and_from}
use Rattle.std.specs.Prelude.{not, ◌==◌, ◌&&◌, ◌⊎◌, nat_lt, is_some, slice_get}
use Rattle.hek_rules.specs.declared.event.Level.TheVariants.{Snapshot}
use Rattle.hek_rules.specs.declared.event.State.{State}
use Rattle.hek_rules.specs.declared.event.State.TheVariants as state
use Rattle.hek_rules.specs.declared.event.Effect.{Effect}
use Rattle.hek_rules.specs.declared.word.BeginRecord.{BeginRecord}
use Rattle.hek_rules.specs.declared.word.BeginRecord.TheVariants.{At, By}
use Rattle.hek_rules.specs.Words.{infinity}
use Rattle.hek_rules.specs.Listing.{has}
use Rattle.hek_rules.specs.World.{World, Ender, EndedAt, Held, txn_in, version_in, bucket_of, is_made_by, is_held_by, is_prepared, is_preparing, is_present}
use Rattle.hek_rules.specs.Visibility.{sight, is_seen}
use Rattle.hek_rules.specs.Walk.{Allow, Purpose, ToWrite, looks_at, read_time, walk, last, seen_of, of_key, apply_all}
use Rattle.hek_rules.specs.Table.{is_claimed, is_claim, is_made_by_other, is_made_later}
use Rattle.hek_rules.specs.Serial.{writes_of}
use Rattle.hek_laws.specs.Lists.{In}
use Rattle.hek_laws.specs.Sound.{IsSoundCreator}
use Rattle.hek_laws.proofs.Lists.Overlay.{wrote}
use Rattle.hek_laws.proofs.Futures.Living.{with_one, Covers}
use Rattle.hek_laws.proofs.Futures.Stood.{ended_by, made_then, kept_then, stood, stood_at, stood-range, sight-stood}
use Rattle.hek_laws.proofs.Futures.FoundValues.{In-last, last-In, filter-In, places-In}
use Rattle.hek_laws.proofs.Futures.Survivors.{History, is_settled, Future, Viable}
use Rattle.hek_laws.proofs.Futures.Invariant.{Kept, Structure}
use Rattle.hek_laws.proofs.Futures.Prepares.{lives-less}
use Rattle.hek_laws.proofs.Futures.Updates.{list_any-none}
use Rattle.hek_laws.proofs.Futures.Walker.{covers, creator_fits, ender_fits, target-seen}
use Rattle.hek_laws.proofs.Futures.WalkReplies.{seen-tested}
use Rattle.hek_history_runs.proofs.Past.{stood_in, IsMaker, maker-range}
use Rattle.hek_history_runs.proofs.Winners.{Trace, Writers, end-early}

-- a version that t neither made nor holds stands with t if it stands without
stood-without : (time t : ℕ) (E : ℕ → Bool) (c : BeginRecord) (e : Ender) → is_made_by t c ≡ false → is_held_by t e ≡ false → stood time (with_one E t) c e ≡ stood time E c e
stood-without time t E c e m n = ap (λ b. b && kept_then time (with_one E t) e) (made c m) ∙ ap (λ b. made_then time E c && b) (kept e n)
  where
    made : (c : BeginRecord) → is_made_by t c ≡ false → made_then time (with_one E t) c ≡ made_then time E c
    made (At begin) m = refl
    made (By u) m = cond-false (u == t) true (E u) m

    kept : (e : Ender) → is_held_by t e ≡ false → kept_then time (with_one E t) e ≡ kept_then time E e
    kept (EndedAt end) n = refl
    kept (Held None b) n = refl
    kept (Held (Some u) b) n = ap not (cond-false (u == t) true (E u) n)

-- a transaction that has drawn its end time, and is still there, has not aborted
drawn-prepared : (x : State) → (is_preparing x ≡ true) ⊎ (is_settled x ≡ true) → is_present x ≡ true → is_prepared x ≡ true
drawn-prepared state.Preparing d p = refl
drawn-prepared state.Committed d p = refl
drawn-prepared state.NotBegun d p = cc
drawn-prepared state.Terminated d p = cc
drawn-prepared state.Active d p = ⊎_elim (λ y. absurd (false≢true y)) (λ y. absurd (false≢true y)) d
drawn-prepared (state.Aborted cause) d p = ⊎_elim (λ y. absurd (false≢true y)) (λ y. absurd (false≢true y)) d

and_then_false : (a b : Bool) → (a && b) ≡ false → a ≡ true → b ≡ false
and_then_false true b h y = h
and_then_false false b h y = absurd (false≢true y)

and_first_false : (a b : Bool) → (a && b) ≡ false → b ≡ true → a ≡ false
and_first_false true b h y = absurd (false≢true (sym h ∙ y))
and_first_false false b h y = refl

module _ (w : World) (h : History) (s : Structure w h) (A : ℕ → Bool) (f : Future w h A) where
  prepared-member : (u : ℕ) → A u ≡ true → is_present (txn_in w.txns u).state ≡ true → is_prepared (txn_in w.txns u).state ≡ true
  prepared-member u a p = drawn-prepared (txn_in w.txns u).state (⊎_elim (λ y. inl y) (λ c. inr (s.settled.settled u c)) (or_cases _ _ (f.drawn u a))) p

  -- a version that x made, which ended after the time, is one that was made later
  maker-later : (x time : ℕ) (c : BeginRecord) → A x ≡ true → IsSoundCreator w c → time < (txn_in w.txns x).end → IsMaker w.txns x c → is_made_later w.txns time c ≡ true
  maker-later x time (At begin) a q less m =
      let early = end-early w h s x in
      let same : begin ≡ (txn_in w.txns x).end = m in
      and_from (nat_lt time begin) (nat_lt begin infinity) (lt-ltb time begin (omega (arith, less, same))) (lt-ltb begin infinity (omega (arith, early, same)))
  maker-later x time (By u) a q less m =
      let same : u ≡ x = m in
      and_from (is_prepared (txn_in w.txns u).state) (nat_lt time (txn_in w.txns u).end) (prepared-member u (ap A same ∙ a) q)
      (ap (λ n. nat_lt time (txn_in w.txns n).end) same ∙ lt-ltb time (txn_in w.txns x).end less)

  -- a version that stood later, and was not made since, stood before
  stood-earlier : (time then : ℕ) (c : BeginRecord) (e : Ender) → time ≤ then → then < infinity → IsSoundCreator w c → is_made_later w.txns time c ≡ false → stood then (ended_by w.txns then A) c e ≡ true → stood time (ended_by w.txns time A) c e ≡ true
  stood-earlier time then c e le l q free y =
      let p = and_parts (made_then then (ended_by w.txns then A) c) (kept_then then (ended_by w.txns then A) e) y in
      and_from (made_then time (ended_by w.txns time A) c) (kept_then time (ended_by w.txns time A) e) (made c q free p.0) (kept e p.1)
    where
      made : (c : BeginRecord) → IsSoundCreator w c → is_made_later w.txns time c ≡ false → made_then then (ended_by w.txns then A) c ≡ true → made_then time (ended_by w.txns time A) c ≡ true
      made (At begin) q free y =
          let not_after : nat_lt then begin ≡ false = was_false (nat_lt then begin) y in
          let past : begin ≤ then = ltb-false then begin not_after in
          ap not (and_first_false (nat_lt time begin) (nat_lt begin infinity) free (lt-ltb begin infinity (omega (arith, past, l))))
        where
          was_false : (b : Bool) → not b ≡ true → b ≡ false
          was_false true y = absurd (false≢true y)
          was_false false y = refl
      made (By u) q free y =
          let m = (and_parts (A u) (not (nat_lt then (txn_in w.txns u).end)) y).0 in
          and_from (A u) (not (nat_lt time (txn_in w.txns u).end)) m (ap not (and_then_false (is_prepared (txn_in w.txns u).state) (nat_lt time (txn_in w.txns u).end) free (prepared-member u m q)))

      kept : (e : Ender) → kept_then then (ended_by w.txns then A) e ≡ true → kept_then time (ended_by w.txns time A) e ≡ true
      kept (EndedAt end) y = let less = ltb-true then end y in lt-ltb time end (omega (arith, less, le))
      kept (Held None b) y = refl
      kept (Held (Some u) b) y =
          ⊎_elim (λ m.
          let p : not (not (nat_lt then (txn_in w.txns u).end)) ≡ true = ap (λ b. not (b && not (nat_lt then (txn_in w.txns u).end))) (sym m) ∙ y in
          let less = ltb-true then (txn_in w.txns u).end (twice (nat_lt then (txn_in w.txns u).end) p) in
          ap (λ b. not (A u && not b)) (lt-ltb time (txn_in w.txns u).end (omega (arith, less, le))) ∙ none (A u))
          (λ n. ap (λ b. not (b && not (nat_lt time (txn_in w.txns u).end))) n) (cases_Bool (A u))
        where
          twice : (b : Bool) → not (not b) ≡ true → b ≡ true
          twice true y = refl
          twice false y = absurd (false≢true y)

          none : (b : Bool) → not (b && false) ≡ true
          none true = refl
          none false = refl

module _ (rows : List (ℕ × ℕ)) (w : World) (h : History) (k : Kept rows w h) (t key : ℕ) (p : Purpose) (es : List Effect) (ok : walk w t p (bucket_of w key) (of_key w key) ≡ Allow es)
    (A : ℕ → Bool) (f : Future w h A) (v : Viable w A t) (after : (u : ℕ) → has (apply_all t w es).dependents u t ≡ true → A u ≡ true) (snapshot : (txn_in w.txns t).level ≡ Snapshot) where
  s : Structure w h
  s = k.structure

  abbrev rt : ℕ
  rt = (txn_in w.txns t).begin

  read : read_time w t ≡ rt
  read = ap (λ l. looks_at l rt w.clock) snapshot

  -- t sees exactly the versions that stood when it began
  pub sees-stood : (n : ℕ) → In n (of_key w key) → is_seen (sight w t (read_time w t) n) ≡ stood_at w.versions rt (with_one (ended_by w.txns rt A) t) n
  sees-stood n m =
      subst (λ time. is_seen (sight w t time n) ≡ stood_at w.versions rt (with_one (ended_by w.txns rt A) t) n) (sym read)
      (sight-stood A w.txns t rt w.clock (version_in w.versions n).creator (version_in w.versions n).ender
      (λ _. creator_fits rows w h k t p (bucket_of w key) (λ q. q == key) es ok A f v after _ (s.creators n)) (ender_fits rows w h k t p (bucket_of w key) (λ q. q == key) es ok A f v after _ (s.enders n)) (λ y. s.own n t v.active y)
      (subst (λ time. Covers A (sight w t time n)) read (covers rows w h k t p (bucket_of w key) (λ q. q == key) es ok A f v after n m)))

  module _ (old : Writers w h A) (new_key : wrote (writes_of t h) key ≡ false) where
    -- of a key that t has not written, it sees what stood without it
    sees-without : (n : ℕ) → In n (of_key w key) → (version_in w.versions n).key ≡ key → is_seen (sight w t (read_time w t) n) ≡ stood_in w A rt n
    sees-without n m e =
        let off = s.off t key v.active new_key in
        sees-stood n m ∙ stood-without rt t (ended_by w.txns rt A) (version_in w.versions n).creator (version_in w.versions n).ender (off.made n e) (off.held n e)

    -- no other writer of the key has ended since the begin, if t sees no version and no version is a claim
    pub insert-fresh : last (seen_of w t (of_key w key)) ≡ None → is_claimed w t (of_key w key) ≡ false → (x : ℕ) → A x ≡ true → wrote (writes_of x h) key ≡ true → rt < (txn_in w.txns x).end → ⊥
    insert-fresh missed free x a y less =
        ⊎_elim
        (λ m.
        let n = member (maker-range w.versions w.txns x trace.place (end-early w h s x) m) in
        false≢true (sym (unclaimed n) ∙ maker-later w h s A f x rt (version_in w.versions trace.place).creator a (s.creators trace.place) less m))
        (λ q.
        let later : rt ≤ q.0 = (let e = q.1 in omega (arith, less, e)) in
        let early : q.0 < infinity = (let e = q.1 in let l = end-early w h s x in omega (arith, e, l)) in
        let n = member (stood-range w.versions q.0 (ended_by w.txns q.0 A) trace.place (lt-ltb q.0 infinity early) q.2) in
        let stood_then = stood-earlier w h s A f rt q.0 (version_in w.versions trace.place).creator (version_in w.versions trace.place).ender later early (s.creators trace.place) (unclaimed n) q.2 in
        In-last (seen_of w t (of_key w key)) trace.place (filter-In (λ (j : ℕ). is_seen (sight w t (read_time w t) j)) (of_key w key) trace.place n (sees-without trace.place n trace.key_is ∙ stood_then)) missed)
        trace.left
      where
        trace : Trace w A x key
        trace = old.traces x key a y

        member : is_some (slice_get w.versions trace.place) ≡ true → In trace.place (of_key w key)
        member r = places-In (λ n z. z.key == key) 0 w.versions trace.place trace.place (omega arith) r (eq-eqb _ _ trace.key_is)

        unclaimed : In trace.place (of_key w key) → is_made_later w.txns rt (version_in w.versions trace.place).creator ≡ false
        unclaimed n =
            let c : is_claim w t (txn_in w.txns t).level (version_in w.versions trace.place).creator ≡ false = list_any-none (λ n. is_claim w t (txn_in w.txns t).level (version_in w.versions n).creator) (of_key w key) trace.place free n in
            let d : is_claim w t Snapshot (version_in w.versions trace.place).creator ≡ false = subst (λ l. is_claim w t l (version_in w.versions trace.place).creator ≡ false) snapshot c in
            subst (λ time. is_made_later w.txns time (version_in w.versions trace.place).creator ≡ false) read (or_parts (is_made_by_other w.txns t (version_in w.versions trace.place).creator) (is_made_later w.txns (read_time w t) (version_in w.versions trace.place).creator) d).1

module _ (rows : List (ℕ × ℕ)) (w : World) (h : History) (k : Kept rows w h) (t key : ℕ) (es : List Effect) (ok : walk w t ToWrite (bucket_of w key) (of_key w key) ≡ Allow es)
    (A : ℕ → Bool) (f : Future w h A) (v : Viable w A t) (after : (u : ℕ) → has (apply_all t w es).dependents u t ≡ true → A u ≡ true) (snapshot : (txn_in w.txns t).level ≡ Snapshot)
    (old : Writers w h A) (new_key : wrote (writes_of t h) key ≡ false) where
  -- no other writer of the key has ended since the begin, if t sees a version and may write over it
  pub target-fresh : (z : ℕ) → last (seen_of w t (of_key w key)) ≡ Some z → (x : ℕ) → A x ≡ true → wrote (writes_of x h) key ≡ true → (txn_in w.txns t).begin < (txn_in w.txns x).end → ⊥
  target-fresh z target x a y less =
      let at : (version_in w.versions z).key ≡ key = eqb-true _ _ (seen-tested w t z (λ q. q == key) (last-In _ z target)) in
      let off = k.structure.off t key v.active new_key in
      let seen = target-seen rows w h k t (bucket_of w key) (λ q. q == key) es ok A f v after z target in
      let living = lives-less t A (version_in w.versions z).creator (version_in w.versions z).ender (off.made z at) seen.2 in
      false≢true
      (sym (old.newest x key z (txn_in w.txns t).begin a y at living less)
      ∙ sym (sees-without rows w h k t key ToWrite es ok A f v after snapshot old new_key z seen.0 at) ∙ seen.1)
