-- All replies to a snapshot transaction, to its writes too, are those of the rows at its begin, under its own writes.
use Rattle.std.proofs.Common.{◌≡◌, ℕ, Bool, true, false, List, [], ◌∷◌, ◌++◌, append_assoc, Some, None, Option, refl, ◌∙◌, ap, sym, arith, inl, inr, ⊎_elim, subst}
use Rattle.std.proofs.lemmas.Bool.{cond-true, cond-false, false≢true, eqb-true, or_cases, and_parts}
use Rattle.std.specs.Prelude.{◌==◌, ◌⊎◌, is_some}
use Rattle.hek_rules.specs.declared.event.Level.TheVariants.{Serializable, Snapshot}
use Rattle.hek_rules.specs.declared.event.State.{State}
use Rattle.hek_rules.specs.declared.event.State.TheVariants as state
use Rattle.hek_rules.specs.declared.event.Event.{Event}
use Rattle.hek_rules.specs.declared.event.Event.TheVariants as event
use Rattle.hek_rules.specs.declared.event.Effect.{Effect}
use Rattle.hek_rules.specs.declared.reply.Reply.{Reply}
use Rattle.hek_rules.specs.declared.reply.Reply.TheVariants as reply
use Rattle.hek_rules.specs.Listing.{value_of}
use Rattle.hek_rules.specs.World.{World, Txn, txn_in, version_in, bucket_of, is_not_begun, is_preparing, is_aborted}
use Rattle.hek_rules.specs.Locks.{add_version}
use Rattle.hek_rules.specs.Walk.{Allow, Purpose, ToRead, ToWrite, walk, last, seen_of, of_key, of_bucket, apply_all}
use Rattle.hek_rules.specs.Table.{Outcome, begin, finish, commit, end, abort, prepare, drop_read, found, pairs_of}
use Rattle.hek_rules.specs.Serial.{lay_all, write_of, writes_of, is_of, found_in, serial_reply, IsSerial, AreRight}
use Rattle.hek_rules.specs.Run.{next, run, transcript, reply as reply_to}
use Rattle.hek_laws.specs.Rows.{AreRising}
use Rattle.hek_laws.proofs.Table.SetTxns.{txn_in-set_other, each_txn-set}
use Rattle.hek_laws.proofs.Table.Unchanged.{apply_all-times}
use Rattle.hek_laws.proofs.Table.Cases.{IsIn}
use Rattle.hek_laws.proofs.Table.Changes.{EachChange, each_outcome, IsMute, is_walk, is_refusal}
use Rattle.hek_laws.proofs.Worlds.Fixed.{fixed-next}
use Rattle.hek_laws.proofs.Worlds.Histories.{append-nil}
use Rattle.hek_laws.proofs.Futures.Survivors.{History, is_drawn, is_settled, Future, Viable, Goes, before}
use Rattle.hek_laws.proofs.Futures.PullBack.{each_goes}
use Rattle.hek_laws.proofs.Futures.Invariant.{Kept, Structure, IsSilent}
use Rattle.hek_laws.proofs.Futures.Parts.{cases_same}
use Rattle.hek_laws.proofs.Futures.Quiet.{TxnsBack, txns-same, txns-set, txns-abort}
use Rattle.hek_laws.proofs.Futures.Carried.{calm-next}
use Rattle.hek_laws.proofs.Futures.AsOfBegin.{rows_until, AsOfBegin, Snapshots, AreRight-more, past-future, back-viable, back-member, same-rows}
use Rattle.hek_laws.proofs.Futures.OwnWalks.{Around, snapshot-read, found-then, listed-then}
use Rattle.hek_laws.proofs.Runs.Whole.{Whole, kept, whole-next}
use Rattle.hek_history_runs.proofs.Winners.{drawn-begun}

-- what t, at snapshot, was answered, in each future in which it may commit
abbrev pub RightThen : List (ℕ × ℕ) → World → History → Type 0
RightThen rows w h =
    (A : ℕ → Bool) → Future w h A → (t : ℕ) → (txn_in w.txns t).level ≡ Snapshot → (A t ≡ true) ⊎ Viable w A t → AreRight Serializable w.buckets t (rows_until h A (txn_in w.txns t).begin rows) h

-- ---- replies that ask for nothing
unasked : (r : Reply) → IsSerial None r
unasked (reply.Refused why) = tt
unasked r = tt

serial-plain : (b : ℕ) (rows : List (ℕ × ℕ)) (e : Event) (r : Reply) → is_walk e ≡ false → IsSerial (serial_reply b rows e) r
serial-plain b rows (event.Read t x) r h = cc
serial-plain b rows (event.Scan t x) r h = cc
serial-plain b rows (event.Insert t x y) r h = cc
serial-plain b rows (event.Update t x y) r h = cc
serial-plain b rows (event.Delete t x) r h = cc
serial-plain b rows e r h = unasked r

serial-refused : (o : Option Reply) (r : Reply) → is_refusal r ≡ true → IsSerial o r
serial-refused o (reply.Refused why) h = tt
serial-refused o r h = cc

serial-silent : (b t : ℕ) (rows : List (ℕ × ℕ)) (h : History) → IsSilent t h → AreRight Serializable b t rows h
serial-silent b t rows [] s = tt
serial-silent b t rows (p ∷ ps) s = (λ m. serial-refused (serial_reply b rows p.0) p.1 (s.0 m), serial-silent b t (lay_all (write_of t p.0 p.1) rows) ps s.1)

-- ---- replies of walks
some-found : (value : Option ℕ) (x : ℕ) → reply.Found x ≡ found_in value → is_some value ≡ true
some-found None x e = cc
some-found (Some y) x e = refl

none-found : (value : Option ℕ) → reply.Absent ≡ found_in value → is_some value ≡ false
none-found None e = refl
none-found (Some y) e = cc

module _ (rows : List (ℕ × ℕ)) (up : AreRising rows) (w : World) (h : History) (k : Kept rows w h) (snaps : Snapshots rows w h) (old : RightThen rows w h) where
  s : Structure w h
  s = k.structure

  abbrev Goal : Event → Outcome → Type 0
  Goal e o = Around w h o.world e o.reply → (A : ℕ → Bool) → Future o.world (h ++ (e, o.reply) ∷ []) A → (t : ℕ) → (txn_in w.txns t).level ≡ Snapshot → (A t ≡ true) ⊎ Viable o.world A t →
      AreRight Serializable o.world.buckets t (rows_until (h ++ (e, o.reply) ∷ []) A (txn_in o.world.txns t).begin rows) (h ++ (e, o.reply) ∷ [])

  abbrev Now : (ℕ → Bool) → ℕ → List (ℕ × ℕ)
  Now A t = lay_all (writes_of t h) (rows_until h (before w h A) (txn_in w.txns t).begin rows)

  -- what is owed of the reply of the event
  abbrev Owed : World → Event → Reply → Type 0
  Owed new e r = (ar : Around w h new e r) (A : ℕ → Bool) → Future new (h ++ (e, r) ∷ []) A → (t : ℕ) → (txn_in w.txns t).level ≡ Snapshot → is_of t e ≡ true → (A t ≡ true) ⊎ Viable new A t → IsSerial (serial_reply w.buckets (Now A t) e) r

  was : (new : World) (e : Event) (r : Reply) → Around w h new e r → (A : ℕ → Bool) → Future new (h ++ (e, r) ∷ []) A → (t : ℕ) → (txn_in w.txns t).level ≡ Snapshot → AsOfBegin rows w h (before w h A) t
  was new e r ar A f t l = snaps (before w h A) (past-future rows w new h e r s ar.calm ar.goes ar.fixed ar.told A f t) t l

  -- an event at which t does not begin
  step : (new : World) (e : Event) (r : Reply) (ar : Around w h new e r) (A : ℕ → Bool) (f : Future new (h ++ (e, r) ∷ []) A) (t : ℕ) → (txn_in w.txns t).level ≡ Snapshot →
      ((txn_in new.txns t).state ≡ state.Active → (txn_in w.txns t).state ≡ state.Active) → (is_of t e ≡ true → (A t ≡ true) ⊎ Viable new A t → IsSerial (serial_reply w.buckets (Now A t) e) r) → (A t ≡ true) ⊎ Viable new A t →
      AreRight Serializable new.buckets t (rows_until (h ++ (e, r) ∷ []) A (txn_in new.txns t).begin rows) (h ++ (e, r) ∷ [])
  step new e r ar A f t l back owed y =
      let later : History = h ++ (e, r) ∷ [] in
      let start : ℕ = (txn_in w.txns t).begin in
      let past = past-future rows w new h e r s ar.calm ar.goes ar.fixed ar.told A f t in
      let member : (before w h A t ≡ true) ⊎ Viable w (before w h A) t =
      ⊎_elim (λ a. back-member rows w new h e r s ar.calm ar.goes ar.fixed ar.told A f t a) (λ v. inr (back-viable rows w new h e r s ar.calm ar.goes ar.fixed ar.told A f t back v)) y in
      let begun : is_not_begun (txn_in w.txns t).state ≡ false =
      ⊎_elim (λ a. drawn-begun w h s t (and_parts (A t) (is_drawn w h t) a).1) (λ v. ap is_not_begun v.active) member in
      let early : rows_until later A start rows ≡ rows_until h (before w h A) start rows =
      same-rows rows w new h e r s ar.calm ar.goes ar.fixed ar.told A f t start (let b = s.times.begins_below t in omega (arith, b)) in
      subst (λ n. AreRight Serializable new.buckets t (rows_until later A n rows) later) (sym (ar.calm.begin t begun))
      (subst (λ n. AreRight Serializable n t (rows_until later A start rows) later) (sym ar.fixed.buckets)
      (subst (λ rs. AreRight Serializable w.buckets t rs later) (sym early)
      (AreRight-more Serializable w.buckets t (rows_until h (before w h A) start rows) h e r (old (before w h A) past t l member) (λ m. (λ _. owed m y, tt)))))

  -- an event at which no transaction begins
  quiet : (new : World) (e : Event) (r : Reply) → TxnsBack w new → Owed new e r → Goal e (record { reply = r; world = new })
  quiet new e r b owed ar A f t l y = step new e r ar A f t l (b.active t) (λ m z. owed ar A f t l m z) y

  plain : (new : World) (e : Event) (r : Reply) → is_walk e ≡ false → Owed new e r
  plain new e r n ar A f t l m y = serial-plain w.buckets (Now A t) e r n

  live-member : (new : World) (e : Event) (r : Reply) → Around w h new e r → (A : ℕ → Bool) → Future new (h ++ (e, r) ∷ []) A → (t : ℕ) → A t ≡ true → (is_preparing (txn_in new.txns t).state ≡ true) ⊎ (is_settled (txn_in new.txns t).state ≡ true)
  live-member new e r ar A f t a = ⊎_elim (λ p. inl p) (λ c. inr ((ar.told t).settled c)) (or_cases _ _ (f.drawn t a))

  mute : (new : World) (e : Event) (r : Reply) → IsMute new e r → Owed new e r
  mute new e r m ar A f t l o y =
      ⊎_elim (λ p. ⊎_elim (serial-plain w.buckets (Now A t) e r) (serial-refused (serial_reply w.buckets (Now A t) e) r) p)
      (λ q. absurd (⊎_elim (λ a. ⊎_elim (λ p. first (txn_in new.txns t).state p q) (λ p. second (txn_in new.txns t).state p q) (live-member new e r ar A f t a)) (λ v. false≢true (sym (ap is_aborted v.active) ∙ q)) y))
      (m.nothing_owed t o)
    where
      first : (x : State) → is_preparing x ≡ true → is_aborted x ≡ true → ⊥
      first state.Preparing p q = false≢true q
      first x p q = cc

      second : (x : State) → is_settled x ≡ true → is_aborted x ≡ true → ⊥
      second state.Committed p q = false≢true q
      second state.Terminated p q = false≢true q
      second x p q = cc

  -- the answer of a walk of x
  answer : (x : ℕ) (new : World) (e : Event) (r : Reply) → new.txns ≡ w.txns → (txn_in w.txns x).state ≡ state.Active → ((u : ℕ) → is_of u e ≡ true → x ≡ u) →
      ((ar : Around w h new e r) (A : ℕ → Bool) (f : Future new (h ++ (e, r) ∷ []) A) (l : (txn_in w.txns x).level ≡ Snapshot) → Viable new A x → IsSerial (serial_reply w.buckets (Now A x) e) r) → Owed new e r
  answer x new e r same a by right ar A f t l m y =
      ⊎_elim
      (λ c. absurd (⊎_elim (λ p. false≢true (sym (ap is_preparing active) ∙ p)) (λ p. false≢true (sym (ap is_settled active) ∙ p)) (live-member new e r ar A f t c)))
      (λ v. subst (λ n. IsSerial (serial_reply w.buckets (Now A n) e) r) q (right ar A f (ap (λ n. (txn_in w.txns n).level) q ∙ l) (subst (Viable new A) (sym q) v))) y
    where
      q : x ≡ t
      q = by t m

      active : (txn_in new.txns t).state ≡ state.Active
      active = ap (λ ts. (txn_in ts t).state) same ∙ ap (λ n. (txn_in w.txns n).state) (sym (by t m)) ∙ a

  -- the value that a walk over the versions of a key found
  value-is : (x key : ℕ) (p : Purpose) (es : List Effect) (new : World) (e : Event) (r : Reply) (ok : walk w x p (bucket_of w key) (of_key w key) ≡ Allow es) → new.txns ≡ w.txns → new.dependents ≡ (apply_all x w es).dependents →
      (ar : Around w h new e r) (A : ℕ → Bool) (f : Future new (h ++ (e, r) ∷ []) A) (l : (txn_in w.txns x).level ≡ Snapshot) → Viable new A x → found w (last (seen_of w x (of_key w key))) ≡ found_in (value_of (Now A x) key)
  value-is x key p es new e r ok same deps ar A f l v =
      found-then rows up w h k new e r ar A f x l (was new e r ar A f x l) p (bucket_of w key) (λ q. q == key) es ok same deps key refl v

  there : (x key v : ℕ) (value : Option ℕ) → last (seen_of w x (of_key w key)) ≡ Some v → found w (last (seen_of w x (of_key w key))) ≡ found_in value → is_some value ≡ true
  there x key v value is e = some-found value (version_in w.versions v).value (sym (ap (found w) is) ∙ e)

  gone : (x key : ℕ) (value : Option ℕ) → last (seen_of w x (of_key w key)) ≡ None → found w (last (seen_of w x (of_key w key))) ≡ found_in value → is_some value ≡ false
  gone x key value is e = none-found value (sym (ap (found w) is) ∙ e)

  begin-goal : (x : ℕ) → IsIn w x state.NotBegun → Goal (event.Begin x) (record { reply = reply.Began w.clock; world = begin w x })
  begin-goal x p ar A f t l y =
      ⊎_elim
      (λ q.
      let rs = rows_until (h ++ (event.Begin x, reply.Began w.clock) ∷ []) A (txn_in (begin w x).txns t).begin rows in
      AreRight-more Serializable w.buckets t rs h (event.Begin x) (reply.Began w.clock) (serial-silent w.buckets t rs h (s.unbegun t (ap (λ n. (txn_in w.txns n).state) (sym q) ∙ p.state))) (λ m. (λ _. tt, tt)))
      (λ ne. step (begin w x) (event.Begin x) (reply.Began w.clock) ar A f t l
      (λ z. ap (λ (y : Txn). y.state) (sym (txn_in-set_other w.txns x t _ (λ e. ne (sym e)))) ∙ z) (λ m z. tt) y)
      (cases_same x t)

  prepare-goal : (x : ℕ) → Goal (event.Precommit x) (record { reply = reply.Precommitted w.clock; world = prepare w x })
  prepare-goal x ar A f t l y =
      step (prepare w x) (event.Precommit x) (reply.Precommitted w.clock) ar A f t l
      (each_txn-set (λ n y. y.state ≡ state.Active → (txn_in w.txns n).state ≡ state.Active) w.txns x (record (txn_in w.txns x) { state = state.Preparing; end = w.clock }) (λ n q. q) (λ q. let m : state.Preparing ≡ state.Active = q in cc) t)
      (λ m z. tt) y

  each_goal : EachChange w Goal
  each_goal = record {
    same = λ e r i m. quiet w e r (txns-same w w refl) (mute w e r m);
    aborts = λ e r t cause i l m. quiet (abort w t cause) e r (txns-abort w t cause) (mute (abort w t cause) e r m);
    begins = λ t p c. begin-goal t p;
    reads = λ t key es a ok.
        (let new = apply_all t w es in let e : Event = event.Read t key in let r = found w (last (seen_of w t (of_key w key))) in let same = (apply_all-times t w es).txns in
        quiet new e r (txns-same w new same) (answer t new e r same a.state (λ u m. eqb-true t u m)
        (λ ar A f l v. snapshot-read w.buckets (Now A t) t key w (last (seen_of w t (of_key w key))) (value-is t key ToRead es new e r ok same refl ar A f l v))));
    scans = λ t bucket es a ok.
        (let new = apply_all t w es in let e : Event = event.Scan t bucket in let r = reply.Rows (pairs_of w.versions [] (seen_of w t (of_bucket w bucket))) in let same = (apply_all-times t w es).txns in
        quiet new e r (txns-same w new same) (answer t new e r same a.state (λ u m. eqb-true t u m)
        (λ ar A f l v. ap (λ ps. reply.Rows ps) (listed-then rows up w h k new e r ar A f t l (was new e r ar A f t l) ToRead bucket (λ q. bucket_of w q == bucket) es ok same refl v))));
    exists = λ t key value v es a ok is.
        (let new = apply_all t w es in let e : Event = event.Insert t key value in let same = (apply_all-times t w es).txns in
        quiet new e reply.Exists (txns-same w new same) (answer t new e reply.Exists same a.state (λ u m. eqb-true t u m)
        (λ ar A f l vi. let here = there t key v (value_of (Now A t) key) is (value-is t key ToRead es new e reply.Exists ok same refl ar A f l vi) in sym (cond-true (is_some (value_of (Now A t) key)) reply.Exists reply.Done here))));
    inserts = λ t key value es a ok is free.
        (let new = add_version (apply_all t w es) t key value in let e : Event = event.Insert t key value in let same = (apply_all-times t w es).txns in
        quiet new e reply.Done (txns-same w new same) (answer t new e reply.Done same a.state (λ u m. eqb-true t u m)
        (λ ar A f l vi. let none = gone t key (value_of (Now A t) key) is (value-is t key ToRead es new e reply.Done ok same refl ar A f l vi) in sym (cond-false (is_some (value_of (Now A t) key)) reply.Exists reply.Done none))));
    misses_update = λ t key value es a ok is.
        (let new = apply_all t w es in let e : Event = event.Update t key value in let same = (apply_all-times t w es).txns in
        quiet new e reply.Absent (txns-same w new same) (answer t new e reply.Absent same a.state (λ u m. eqb-true t u m)
        (λ ar A f l vi. let none = gone t key (value_of (Now A t) key) is (value-is t key ToWrite es new e reply.Absent ok same refl ar A f l vi) in sym (cond-false (is_some (value_of (Now A t) key)) reply.Done reply.Absent none))));
    updates = λ t key value z es a ok is.
        (let new = add_version (apply_all t w es) t key value in let e : Event = event.Update t key value in let same = (apply_all-times t w es).txns in
        quiet new e reply.Done (txns-same w new same) (answer t new e reply.Done same a.state (λ u m. eqb-true t u m)
        (λ ar A f l vi. let here = there t key z (value_of (Now A t) key) is (value-is t key ToWrite es new e reply.Done ok same refl ar A f l vi) in sym (cond-true (is_some (value_of (Now A t) key)) reply.Done reply.Absent here))));
    misses_delete = λ t key es a ok is.
        (let new = apply_all t w es in let e : Event = event.Delete t key in let same = (apply_all-times t w es).txns in
        quiet new e reply.Absent (txns-same w new same) (answer t new e reply.Absent same a.state (λ u m. eqb-true t u m)
        (λ ar A f l vi. let none = gone t key (value_of (Now A t) key) is (value-is t key ToWrite es new e reply.Absent ok same refl ar A f l vi) in sym (cond-false (is_some (value_of (Now A t) key)) reply.Done reply.Absent none))));
    deletes = λ t key z es a ok is.
        (let new = apply_all t w es in let e : Event = event.Delete t key in let same = (apply_all-times t w es).txns in
        quiet new e reply.Done (txns-same w new same) (answer t new e reply.Done same a.state (λ u m. eqb-true t u m)
        (λ ar A f l vi. let here = there t key z (value_of (Now A t) key) is (value-is t key ToWrite es new e reply.Done ok same refl ar A f l vi) in sym (cond-true (is_some (value_of (Now A t) key)) reply.Done reply.Absent here))));
    finishes = λ t a. quiet (finish w t) (event.Finish t) reply.Ready (txns-set w (finish w t) t (record (txn_in w.txns t) { no_more_waits = true }) refl refl (λ q. q) (λ q. q)) (plain (finish w t) (event.Finish t) reply.Ready refl);
    prepares = λ t a z c. prepare-goal t;
    drops = λ t v r p i n. quiet (drop_read w t v) (event.Release t) r (txns-same w (drop_read w t v) refl) (plain (drop_read w t v) (event.Release t) r refl);
    unlocks = λ t b p. quiet _ (event.Release t) (reply.ReleasedBucket b) (txns-same w _ refl) (plain _ (event.Release t) (reply.ReleasedBucket b) refl);
    frees = λ t u p. quiet _ (event.Release t) (reply.ReleasedWaiter u) (txns-same w _ refl) (plain _ (event.Release t) (reply.ReleasedWaiter u) refl);
    commits = λ t p z. quiet (commit w t) (event.Commit t) reply.Committed (txns-set w (commit w t) t (record (txn_in w.txns t) { state = state.Committed }) refl refl (λ q. let m : state.Committed ≡ state.Active = q in cc) (λ q. absurd (false≢true q))) (plain (commit w t) (event.Commit t) reply.Committed refl);
    stamps_begin = λ t v es p is. quiet _ (event.Stamp t) (reply.StampedBegin v) (txns-same w _ refl) (plain _ (event.Stamp t) (reply.StampedBegin v) refl);
    stamps_end = λ t v es p is. quiet _ (event.Stamp t) (reply.StampedEnd v) (txns-same w _ refl) (plain _ (event.Stamp t) (reply.StampedEnd v) refl);
    voids = λ t v es cause p is. quiet _ (event.Stamp t) (reply.StampedBegin v) (txns-same w _ refl) (plain _ (event.Stamp t) (reply.StampedBegin v) refl);
    gives_back = λ t v es cause r p is i n. quiet _ (event.Stamp t) r (txns-same w _ refl) (plain _ (event.Stamp t) r refl);
    ends = λ t p z. quiet (end w t) (event.End t) reply.Over (txns-set w (end w t) t (record (txn_in w.txns t) { state = state.Terminated }) refl refl (λ q. let m : state.Terminated ≡ state.Active = q in cc) (λ q. absurd (false≢true q))) (plain (end w t) (event.End t) reply.Over refl);
  }

pub right-next : (rows : List (ℕ × ℕ)) (up : AreRising rows) (w : World) (h : History) (e : Event) → Whole rows w h → RightThen rows w h → RightThen rows (next w e) (h ++ (e, reply_to w e) ∷ [])
right-next rows up w h e whole old A f t l y =
    let k = kept rows w h whole in
    let s = k.structure in
    let fixed = fixed-next w e in
    each_outcome w (Goal rows up w h k whole.snapshots old) (each_goal rows up w h k whole.snapshots old) e (record {
      calm = calm-next w h s e;
      goes = each_outcome w (λ e o. Goes w h o.world (h ++ (e, o.reply) ∷ [])) (each_goes w h s.dependences s.settled) e;
      fixed = fixed;
      told = (whole-next rows up w h e whole).told;
    }) A f t (sym (fixed.level t) ∙ l) y

pub right-run : (rows : List (ℕ × ℕ)) (up : AreRising rows) (w : World) (h : History) (es : List Event) → Whole rows w h → RightThen rows w h → RightThen rows (run w es) (h ++ transcript w es)
right-run rows up w h [] whole old = subst (RightThen rows w) (sym (append-nil h)) old
right-run rows up w h (e ∷ es) whole old =
    subst (RightThen rows (run (next w e) es)) (append_assoc h ((e, reply_to w e) ∷ []) (transcript (next w e) es))
    (right-run rows up (next w e) (h ++ (e, reply_to w e) ∷ []) es (whole-next rows up w h e whole) (right-next rows up w h e whole old))
