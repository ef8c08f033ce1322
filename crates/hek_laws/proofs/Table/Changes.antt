-- Every event leaves the world as it is, or makes one of these changes.
use Rattle.std.proofs.Common.{◌≡◌, ℕ, ◌+◌, ◌<◌, Bool, true, false, List, [], ◌∷◌, Option, Some, None, refl, ap, sym, ◌∙◌, subst, inl, inr, arith}
use Rattle.std.proofs.lemmas.Bool.{cond_both, eqb-true, and_parts, or_left, false≢true}
use Rattle.std.proofs.lemmas.Option.{slice_get_within}
use Rattle.std.specs.Prelude.{◌==◌, ◌⊎◌, if◌then◌else◌}
use Rattle.hek_laws.proofs.Table.SetTxns.{each_txn-doom, txn_in-set_same}
use Rattle.hek_rules.specs.declared.event.State.{State}
use Rattle.hek_rules.specs.declared.event.Cause.{Cause}
use Rattle.hek_rules.specs.declared.event.Cause.TheVariants.{Cascade, Conflict, Deadlock, Asked}
use Rattle.hek_rules.specs.declared.event.Event.{Event}
use Rattle.hek_rules.specs.declared.event.WriteEntry.{WriteEntry}
use Rattle.hek_rules.specs.declared.event.WriteEntry.TheVariants.{BeginOf, EndOf}
use Rattle.hek_rules.specs.declared.reply.Reply.{Reply}
use Rattle.hek_rules.specs.declared.reply.Refusal.{Refusal}
use Rattle.hek_rules.specs.World.{World, Txn, no_txn, txn_in, set_txn, is_held_by, version_in, bucket_of, EndedAt, declared, is_aborted, is_active, is_preparing, is_live}
use Rattle.hek_rules.specs.declared.word.BeginRecord.TheVariants.{At}
use Rattle.hek_rules.specs.Words.{infinity}
use Rattle.hek_rules.specs.Listing.{seconds_of, leave}
use Rattle.hek_rules.specs.Locks.{add_version, set_ender}
use Rattle.hek_rules.specs.Waits.{waits, commit_deps}
use Rattle.hek_rules.specs.Walk.{Judgement, Refuse, Allow, ToRead, ToWrite, walk, apply_all, last, seen_of, of_key, of_bucket}
use Rattle.hek_rules.specs.declared.event.Effect.{Effect}
use Rattle.hek_rules.specs.Table.{Outcome, outcome, unchanged, refused, holds_nothing, begin, finish, commit, end, abort, aborted, prepare, drop_read, given_back, set_creator, without_entry, after_read, after_scan, after_insert, after_update, after_delete, is_claimed, stamp_committed, stamp_aborted, detect_rule, release_first, release_bucket, release_waiter, entries_of, found, pairs_of}
use Rattle.hek_rules.specs.Checks.{clock_end}
use Rattle.hek_rules.specs.WaitGraph.{victim, is_node, is_edge}
use Rattle.hek_rules.specs.Cycles.{IsVictim, JoinsBelow, IsClosedWalk}
use Rattle.hek_rules.proofs.VictimLaw.{victim_found}
use Rattle.hek_rules.specs.Serial.{write_of, end_drawn, committed_by, is_of}
use Rattle.hek_rules.specs.declared.event.State.TheVariants as state
use Rattle.hek_rules.specs.declared.event.Event.TheVariants as event
use Rattle.hek_rules.specs.declared.reply.Reply.TheVariants as reply
use Rattle.hek_laws.proofs.Table.Cases.{EachRule, IsBy, IsIn, IsActive, IsPreparing, IsLive, IsPast, IsDecided, is_past, each_event}
use Rattle.std.specs.Prelude.{zero, suc, length, slice_get, unwrap_or, is_some}

-- whether a walk gave this reply
abbrev pub is_answer : Reply → Bool
is_answer (reply.Found value) = true
is_answer reply.Absent = true
is_answer (reply.Rows pairs) = true
is_answer reply.Done = true
is_answer reply.Exists = true
is_answer r = false

abbrev pub is_refusal : Reply → Bool
is_refusal (reply.Refused why) = true
is_refusal r = false

abbrev pub is_walk : Event → Bool
is_walk (event.Read t key) = true
is_walk (event.Scan t bucket) = true
is_walk (event.Insert t key value) = true
is_walk (event.Update t key value) = true
is_walk (event.Delete t key) = true
is_walk e = false

aborted-state : (w : World) (t : ℕ) (cause : Cause) → declared w.txns t ≡ true → is_aborted (txn_in (abort w t cause).txns t).state ≡ true
aborted-state w t cause k =
    each_txn-doom (λ n x. n ≡ t → is_aborted x.state ≡ true) (set_txn w.txns t (record (txn_in w.txns t) { state = state.Aborted cause })) (seconds_of w.dependents t) (λ n x h e. h e)
    (λ n e. subst (λ m. is_aborted (txn_in (set_txn w.txns t (record (txn_in w.txns t) { state = state.Aborted cause })) m).state ≡ true) (sym e)
    (ap (λ (y : Txn). is_aborted y.state) (txn_in-set_same w.txns t _ k))) t refl

-- an event and its reply commit nothing, draw no end time and write nothing
pub record IsIdle (e : Event) (r : Reply) : Type 0 where
  pub commits : committed_by e r ≡ []
  pub draws : (t : ℕ) → end_drawn t e r ≡ None
  pub writes : (t : ℕ) → write_of t e r ≡ []

-- the reply is not that of a walk, and no transaction that can still commit gets an answer by it
pub record IsMute (new : World) (e : Event) (r : Reply) : Type 0 where
  pub unanswered : is_answer r ≡ false
  pub nothing_owed : (x : ℕ) → is_of x e ≡ true → ((is_walk e ≡ false) ⊎ (is_refusal r ≡ true)) ⊎ (is_aborted (txn_in new.txns x).state ≡ true)
  pub begun : (x : ℕ) → is_of x e ≡ true → (txn_in new.txns x).state ≡ state.NotBegun → is_refusal r ≡ true

-- P holds of each event and its outcome, by what it changes
pub record EachChange (w : World) (P : Event → Outcome → Type 0) : Type 0 where
  pub same : (e : Event) (r : Reply) → IsIdle e r → IsMute w e r → P e (record { reply = r; world = w })
  pub aborts : (e : Event) (r : Reply) (t : ℕ) (cause : Cause) → IsIdle e r → IsLive w t → IsMute (abort w t cause) e r → P e (record { reply = r; world = abort w t cause })
  pub begins : (t : ℕ) → IsIn w t state.NotBegun → (w.clock ≡ clock_end → ⊥) → P (event.Begin t) (record { reply = reply.Began w.clock; world = begin w t })
  pub reads : (t key : ℕ) (es : List Effect) → IsActive w t false → walk w t ToRead (bucket_of w key) (of_key w key) ≡ Allow es →
      P (event.Read t key) (record { reply = found w (last (seen_of w t (of_key w key))); world = apply_all t w es })
  pub scans : (t bucket : ℕ) (es : List Effect) → IsActive w t false → walk w t ToRead bucket (of_bucket w bucket) ≡ Allow es →
      P (event.Scan t bucket) (record { reply = reply.Rows (pairs_of w.versions [] (seen_of w t (of_bucket w bucket))); world = apply_all t w es })
  pub exists : (t key value v : ℕ) (es : List Effect) → IsActive w t false → walk w t ToRead (bucket_of w key) (of_key w key) ≡ Allow es → last (seen_of w t (of_key w key)) ≡ Some v →
      P (event.Insert t key value) (record { reply = reply.Exists; world = apply_all t w es })
  pub inserts : (t key value : ℕ) (es : List Effect) → IsActive w t false → walk w t ToRead (bucket_of w key) (of_key w key) ≡ Allow es → last (seen_of w t (of_key w key)) ≡ None → is_claimed w t (of_key w key) ≡ false →
      P (event.Insert t key value) (record { reply = reply.Done; world = add_version (apply_all t w es) t key value })
  pub misses_update : (t key value : ℕ) (es : List Effect) → IsActive w t false → walk w t ToWrite (bucket_of w key) (of_key w key) ≡ Allow es → last (seen_of w t (of_key w key)) ≡ None →
      P (event.Update t key value) (record { reply = reply.Absent; world = apply_all t w es })
  pub updates : (t key value v : ℕ) (es : List Effect) → IsActive w t false → walk w t ToWrite (bucket_of w key) (of_key w key) ≡ Allow es → last (seen_of w t (of_key w key)) ≡ Some v →
      P (event.Update t key value) (record { reply = reply.Done; world = add_version (apply_all t w es) t key value })
  pub misses_delete : (t key : ℕ) (es : List Effect) → IsActive w t false → walk w t ToWrite (bucket_of w key) (of_key w key) ≡ Allow es → last (seen_of w t (of_key w key)) ≡ None →
      P (event.Delete t key) (record { reply = reply.Absent; world = apply_all t w es })
  pub deletes : (t key v : ℕ) (es : List Effect) → IsActive w t false → walk w t ToWrite (bucket_of w key) (of_key w key) ≡ Allow es → last (seen_of w t (of_key w key)) ≡ Some v →
      P (event.Delete t key) (record { reply = reply.Done; world = apply_all t w es })
  pub finishes : (t : ℕ) → IsActive w t false → P (event.Finish t) (record { reply = reply.Ready; world = finish w t })
  pub prepares : (t : ℕ) → IsActive w t true → waits w t ≡ 0 → (w.clock ≡ clock_end → ⊥) → P (event.Precommit t) (record { reply = reply.Precommitted w.clock; world = prepare w t })
  pub drops : (t v : ℕ) (r : Reply) → IsPast w t → IsIdle (event.Release t) r → is_answer r ≡ false → P (event.Release t) (record { reply = r; world = drop_read w t v })
  pub unlocks : (t b : ℕ) → IsPast w t → P (event.Release t) (record { reply = reply.ReleasedBucket b; world = record w { bucket_locks = leave w.bucket_locks t b } })
  pub frees : (t u : ℕ) → IsPast w t → P (event.Release t) (record { reply = reply.ReleasedWaiter u; world = record w { waiters = leave w.waiters t u } })
  pub commits : (t : ℕ) → IsPreparing w t → commit_deps w t ≡ 0 → P (event.Commit t) (record { reply = reply.Committed; world = commit w t })
  pub stamps_begin : (t v : ℕ) (es : List WriteEntry) → IsIn w t state.Committed → entries_of w.writes t ≡ BeginOf v ∷ es → P (event.Stamp t) (record { reply = reply.StampedBegin v; world = record w { versions = set_creator w.versions v (At (txn_in w.txns t).end); writes = without_entry w.writes t } })
  pub stamps_end : (t v : ℕ) (es : List WriteEntry) → IsIn w t state.Committed → entries_of w.writes t ≡ EndOf v ∷ es → P (event.Stamp t) (record { reply = reply.StampedEnd v; world = record w { versions = set_ender w.versions v (EndedAt (txn_in w.txns t).end); writes = without_entry w.writes t } })
  pub voids : (t v : ℕ) (es : List WriteEntry) (cause : Cause) → IsIn w t (state.Aborted cause) → entries_of w.writes t ≡ BeginOf v ∷ es → P (event.Stamp t) (record { reply = reply.StampedBegin v; world = record w { versions = set_creator w.versions v (At infinity); writes = without_entry w.writes t } })
  pub gives_back : (t v : ℕ) (es : List WriteEntry) (cause : Cause) (r : Reply) → IsIn w t (state.Aborted cause) → entries_of w.writes t ≡ EndOf v ∷ es → IsIdle (event.Stamp t) r → is_answer r ≡ false → P (event.Stamp t) (record { reply = r; world = record w { versions = set_ender w.versions v (given_back t (version_in w.versions v).ender); writes = without_entry w.writes t } })
  pub ends : (t : ℕ) → IsDecided w t → holds_nothing w t ≡ true → P (event.End t) (record { reply = reply.Over; world = end w t })

idle_refused : (e : Event) (why : Refusal) → IsIdle e (reply.Refused why)
idle_refused e why = record { commits = commits e; draws = λ t. draws t e; writes = λ t. writes t e }
  where
    commits : (e : Event) → committed_by e (reply.Refused why) ≡ []
    commits (event.Commit x) = refl
    commits _ = refl

    draws : (t : ℕ) (e : Event) → end_drawn t e (reply.Refused why) ≡ None
    draws t (event.Precommit x) = refl
    draws t _ = refl

    writes : (t : ℕ) (e : Event) → write_of t e (reply.Refused why) ≡ []
    writes t (event.Insert x k v) = refl
    writes t (event.Update x k v) = refl
    writes t (event.Delete x k) = refl
    writes t _ = refl

idle_aborted : (e : Event) (why : Cause) → IsIdle e (reply.Aborted why)
idle_aborted e why = record { commits = commits e; draws = λ t. draws t e; writes = λ t. writes t e }
  where
    commits : (e : Event) → committed_by e (reply.Aborted why) ≡ []
    commits (event.Commit x) = refl
    commits _ = refl

    draws : (t : ℕ) (e : Event) → end_drawn t e (reply.Aborted why) ≡ None
    draws t (event.Precommit x) = refl
    draws t _ = refl

    writes : (t : ℕ) (e : Event) → write_of t e (reply.Aborted why) ≡ []
    writes t (event.Insert x k v) = refl
    writes t (event.Update x k v) = refl
    writes t (event.Delete x k) = refl
    writes t _ = refl

known_live : (ts : List Txn) (t : ℕ) → is_live (txn_in ts t).state ≡ true → declared ts t ≡ true
known_live ts zero h = cc
known_live ts (suc i) h = read (slice_get ts i) h
  where
    read : (o : Option Txn) → is_live (unwrap_or o no_txn).state ≡ true → is_some o ≡ true
    read None h = cc
    read (Some x) h = refl

pub declared-below : (ts : List Txn) (t : ℕ) → declared ts t ≡ true → t < length ts + 1
declared-below ts zero h = omega arith
declared-below ts (suc i) h = read (slice_get ts i) refl h
  where
    read : (o : Option Txn) → slice_get ts i ≡ o → is_some o ≡ true → suc i < length ts + 1
    read None is h = cc
    read (Some x) is h = let within : i < length ts = slice_get_within ts i x is in omega arith

live-from_active : (s : State) → is_active s ≡ true → is_live s ≡ true
live-from_active s h = or_left (is_active s) (is_preparing s) h

node-live : (w : World) (u : ℕ) → is_node w u ≡ true → IsLive w u
node-live w u h =
    let l = live-from_active (txn_in w.txns u).state (and_parts _ _ (and_parts _ _ h).0).0 in
    record { known = known_live w.txns u l; live = l }

-- an edge joins two nodes
edge-nodes : (w : World) (u t : ℕ) → is_edge w u t ≡ true → (is_node w u ≡ true) × (is_node w t ≡ true)
edge-nodes w u t h = let parts = and_parts _ _ (and_parts _ _ (and_parts _ _ h).0).0 in (parts.0, parts.1)

edge-joins : (w : World) → JoinsBelow (is_edge w) (length w.txns + 1)
edge-joins w = record {
  from = λ u t h. declared-below w.txns u (node-live w u (edge-nodes w u t h).0).known;
  to = λ u t h. declared-below w.txns t (node-live w t (edge-nodes w u t h).1).known;
}

on-walk : (w : World) (u : ℕ) (cycle : List ℕ) → IsClosedWalk (is_edge w) u cycle → is_node w u ≡ true
on-walk w u [] h = absurd h
on-walk w u (x ∷ []) h = subst (λ n. is_node w n ≡ true) h.0 (edge-nodes w x u h.1.0).0
on-walk w u (x ∷ y ∷ ys) h = subst (λ n. is_node w n ≡ true) h.0 (edge-nodes w x y h.1.0).0

victim-live : (w : World) (found : ℕ × List ℕ) → victim w ≡ Some found → IsLive w found.0
victim-live w found h =
    let is : IsVictim (is_edge w) found.0 found.1 = victim_found (is_edge w) (length w.txns + 1) (edge-joins w) found.0 found.1 h in
    node-live w found.0 (on-walk w found.0 found.1 is.closed)

-- the property P of an outcome, as a record from which its arguments are found
record Leaves (P : Event → Outcome → Type 0) (e : Event) (o : Outcome) : Type 0 where
  now : P e o

module _ (w : World) (P : Event → Outcome → Type 0) (c : EachChange w P) where
  plain : (e : Event) (r : Reply) → committed_by e r ≡ [] → ((t : ℕ) → end_drawn t e r ≡ None) → ((t : ℕ) → write_of t e r ≡ []) → is_answer r ≡ false → is_walk e ≡ false → ((x : ℕ) → is_of x e ≡ true → (txn_in w.txns x).state ≡ state.NotBegun → ⊥) → Leaves P e (record { reply = r; world = w })
  plain e r a b d n k begun = record { now = c.same e r (record { commits = a; draws = b; writes = d }) (record { unanswered = n; nothing_owed = λ x h. inl (inl k); begun = λ x h q. absurd (begun x h q) }) }

  refuses : (e : Event) (why : Refusal) → Leaves P e (refused w why)
  refuses e why = record { now = c.same e _ (idle_refused e why) (record { unanswered = refl; nothing_owed = λ x h. inl (inr refl); begun = λ x h q. refl }) }

  fails : (e : Event) (t : ℕ) (cause : Cause) → IsLive w t → IsBy t e → Leaves P e (aborted w t cause)
  fails e t cause l by = record { now = c.aborts e _ t cause (idle_aborted e cause) l (record { unanswered = refl; nothing_owed = λ x h. inr (subst (λ n. is_aborted (txn_in (abort w t cause).txns n).state ≡ true) (sym (by.only x h)) (aborted-state w t cause l.known)); begun = λ x h q. absurd (false≢true (ap is_aborted (sym q) ∙ subst (λ n. is_aborted (txn_in (abort w t cause).txns n).state ≡ true) (sym (by.only x h)) (aborted-state w t cause l.known))) }) }

  live : {t : ℕ} {done : Bool} → IsActive w t done → IsLive w t
  live a = record { known = a.known; live = ap is_live a.state }

  reads : (t key : ℕ) → IsActive w t false → (j : Judgement) → walk w t ToRead (bucket_of w key) (of_key w key) ≡ j → Leaves P (event.Read t key) (after_read w t (last (seen_of w t (of_key w key))) j)
  reads t key a (Refuse cause) is = fails _ t cause (live a) (record { only = λ x h. sym (eqb-true _ _ h) })
  reads t key a (Allow es) is = record { now = c.reads t key es a is }

  scans : (t bucket : ℕ) → IsActive w t false → (j : Judgement) → walk w t ToRead bucket (of_bucket w bucket) ≡ j → Leaves P (event.Scan t bucket) (after_scan w t (seen_of w t (of_bucket w bucket)) j)
  scans t bucket a (Refuse cause) is = fails _ t cause (live a) (record { only = λ x h. sym (eqb-true _ _ h) })
  scans t bucket a (Allow es) is = record { now = c.scans t bucket es a is }

  inserts : (t key value : ℕ) → IsActive w t false → (o : Option ℕ) → last (seen_of w t (of_key w key)) ≡ o → (j : Judgement) → walk w t ToRead (bucket_of w key) (of_key w key) ≡ j → Leaves P (event.Insert t key value) (after_insert w t key value o j)
  inserts t key value a o s (Refuse cause) is = fails _ t cause (live a) (record { only = λ x h. sym (eqb-true _ _ h) })
  inserts t key value a (Some v) s (Allow es) is = record { now = c.exists t key value v es a is s }
  inserts t key value a None s (Allow es) is =
      cond_both (is_claimed w t (of_key w key)) (aborted w t Conflict) (record { reply = reply.Done; world = add_version (apply_all t w es) t key value }) (Leaves P _)
      (λ _. fails _ t Conflict (live a) (record { only = λ x h. sym (eqb-true _ _ h) })) (λ free. record { now = c.inserts t key value es a is s free })

  updates : (t key value : ℕ) → IsActive w t false → (o : Option ℕ) → last (seen_of w t (of_key w key)) ≡ o → (j : Judgement) → walk w t ToWrite (bucket_of w key) (of_key w key) ≡ j → Leaves P (event.Update t key value) (after_update w t key value o j)
  updates t key value a o s (Refuse cause) is = fails _ t cause (live a) (record { only = λ x h. sym (eqb-true _ _ h) })
  updates t key value a None s (Allow es) is = record { now = c.misses_update t key value es a is s }
  updates t key value a (Some v) s (Allow es) is = record { now = c.updates t key value v es a is s }

  deletes : (t key : ℕ) → IsActive w t false → (o : Option ℕ) → last (seen_of w t (of_key w key)) ≡ o → (j : Judgement) → walk w t ToWrite (bucket_of w key) (of_key w key) ≡ j → Leaves P (event.Delete t key) (after_delete w t o j)
  deletes t key a o s (Refuse cause) is = fails _ t cause (live a) (record { only = λ x h. sym (eqb-true _ _ h) })
  deletes t key a None s (Allow es) is = record { now = c.misses_delete t key es a is s }
  deletes t key a (Some v) s (Allow es) is = record { now = c.deletes t key v es a is s }

  waiters : (t : ℕ) (us : List ℕ) → IsPast w t → Leaves P (event.Release t) (release_waiter w t us)
  waiters t [] p = plain _ _ refl (λ _. refl) (λ _. refl) refl refl (λ x h q. false≢true (ap is_past (sym (ap (λ n. (txn_in w.txns n).state) (eqb-true t x h) ∙ q)) ∙ p.past))
  waiters t (u ∷ us) p = record { now = c.frees t u p }

  buckets : (t : ℕ) (bs : List ℕ) → IsPast w t → Leaves P (event.Release t) (release_bucket w t bs)
  buckets t [] p = waiters t (seconds_of w.waiters t) p
  buckets t (b ∷ bs) p = record { now = c.unlocks t b p }

  releases : (t : ℕ) (vs : List ℕ) → IsPast w t → Leaves P (event.Release t) (release_first w t vs)
  releases t [] p = buckets t (seconds_of w.bucket_locks t) p
  releases t (v ∷ vs) p = record { now = c.drops t v _ p (record { commits = refl; draws = λ _. refl; writes = λ _. refl }) refl }

  stamps : (t : ℕ) (es : List WriteEntry) → IsIn w t state.Committed → entries_of w.writes t ≡ es → Leaves P (event.Stamp t) (stamp_committed w t es)
  stamps t [] p is = plain _ _ refl (λ _. refl) (λ _. refl) refl refl (λ x h q. let z : state.NotBegun ≡ state.Committed = sym (ap (λ n. (txn_in w.txns n).state) (eqb-true t x h) ∙ q) ∙ p.state in cc)
  stamps t (BeginOf v ∷ es) p is = record { now = c.stamps_begin t v es p is }
  stamps t (EndOf v ∷ es) p is = record { now = c.stamps_end t v es p is }

  unstamps : (t : ℕ) (cause : Cause) (es : List WriteEntry) → IsIn w t (state.Aborted cause) → entries_of w.writes t ≡ es → Leaves P (event.Stamp t) (stamp_aborted w t es)
  unstamps t cause [] p is = plain _ _ refl (λ _. refl) (λ _. refl) refl refl (λ x h q. let z : state.NotBegun ≡ state.Aborted cause = sym (ap (λ n. (txn_in w.txns n).state) (eqb-true t x h) ∙ q) ∙ p.state in cc)
  unstamps t cause (BeginOf v ∷ es) p is = record { now = c.voids t v es cause p is }
  unstamps t cause (EndOf v ∷ es) p is = record { now = c.gives_back t v es cause _ p is (record { commits = refl; draws = λ _. refl; writes = λ _. refl }) (told-plain (is_held_by t (version_in w.versions v).ender)) }
    where
      told-plain : (b : Bool) → is_answer (if b then reply.StampedEnd v else reply.Left v) ≡ false
      told-plain true = refl
      told-plain false = refl

  detects : (o : Option (ℕ × List ℕ)) → victim w ≡ o → Leaves P event.Detect (detect_rule w o)
  detects None is = plain _ _ refl (λ _. refl) (λ _. refl) refl refl (λ x h q. false≢true h)
  detects (Some found) is = record { now = c.aborts _ _ found.0 Deadlock (record { commits = refl; draws = λ _. refl; writes = λ _. refl }) (victim-live w found is) (record { unanswered = refl; nothing_owed = λ x h. inl (inl refl); begun = λ x h q. absurd (false≢true h) }) }

  each_row : EachRule w (Leaves P)
  each_row = record {
    refusal = refuses;
    repeated = λ e t cause p by. record { now = c.same e _ (idle_aborted e cause) (record { unanswered = refl; nothing_owed = λ x h. inr (subst (λ n. is_aborted (txn_in w.txns n).state ≡ true) (sym (by.only x h)) (ap is_aborted p.state)); begun = λ x h q. absurd (false≢true (ap is_aborted (sym q) ∙ subst (λ n. is_aborted (txn_in w.txns n).state ≡ true) (sym (by.only x h)) (ap is_aborted p.state))) }) };
    cascade = λ e t l _ by. fails e t Cascade l by;
    begin = λ t p not_full. record { now = c.begins t p not_full };
    read = λ t key a. reads t key a _ refl;
    scan = λ t bucket a. scans t bucket a _ refl;
    insert = λ t key value a. inserts t key value a _ refl _ refl;
    update = λ t key value a. updates t key value a _ refl _ refl;
    delete = λ t key a. deletes t key a _ refl _ refl;
    finish = λ t a. record { now = c.finishes t a };
    precommit = λ t a not_full. cond_both (waits w t == 0) (record { reply = reply.Precommitted w.clock; world = prepare w t }) (unchanged w (reply.Waiting (waits w t))) (Leaves P _)
        (λ z. record { now = c.prepares t a (eqb-true _ _ z) not_full }) (λ _. plain _ _ refl (λ _. refl) (λ _. refl) refl refl (λ x h q. let z : state.NotBegun ≡ state.Active = sym (ap (λ n. (txn_in w.txns n).state) (eqb-true t x h) ∙ q) ∙ a.state in cc));
    fail = λ t l. record { now = c.aborts _ _ t Asked (record { commits = refl; draws = λ _. refl; writes = λ _. refl }) l (record { unanswered = refl; nothing_owed = λ x h. inl (inl refl); begun = λ x h q. absurd (false≢true (ap is_aborted (sym q) ∙ subst (λ n. is_aborted (txn_in (abort w t Asked).txns n).state ≡ true) (eqb-true t x h) (aborted-state w t Asked l.known))) }) };
    release = λ t p. releases t (seconds_of w.read_locks t) p;
    commit = λ t p. cond_both (commit_deps w t == 0) (record { reply = reply.Committed; world = commit w t }) (unchanged w (reply.WaitingCommits (commit_deps w t))) (Leaves P _) (λ z. record { now = c.commits t p (eqb-true _ _ z) }) (λ _. plain _ _ refl (λ _. refl) (λ _. refl) refl refl (λ x h q. let z : state.NotBegun ≡ state.Preparing = sym (ap (λ n. (txn_in w.txns n).state) (eqb-true t x h) ∙ q) ∙ p.state in cc));
    stamp_committed = λ t p. stamps t (entries_of w.writes t) p refl;
    stamp_aborted = λ t cause p. unstamps t cause (entries_of w.writes t) p refl;
    end = λ t p nothing. record { now = c.ends t p nothing };
    detect = detects (victim w) refl;
  }

  pub each_outcome : (e : Event) → P e (outcome w e)
  each_outcome e = (each_event each_row e).now
