-- Each event in regrouped worlds.
use Rattle.std.proofs.Common.{◌≡◌, ℕ, List, [], ◌∷◌, Some, None, Option, refl, ap, subst}
use Rattle.std.specs.Prelude.{◌==◌, not, if◌then◌else◌}
use Rattle.hek_rules.specs.declared.event.Cause.{Cause}
use Rattle.hek_rules.specs.declared.event.Cause.TheVariants.{Cascade, Conflict, Deadlock, Asked}
use Rattle.hek_rules.specs.declared.event.Effect.{Effect}
use Rattle.hek_rules.specs.declared.event.Event.{Event}
use Rattle.hek_rules.specs.declared.event.Event.TheVariants as event
use Rattle.hek_rules.specs.declared.event.State.TheVariants as state
use Rattle.hek_rules.specs.declared.event.WriteEntry.{WriteEntry}
use Rattle.hek_rules.specs.declared.event.WriteEntry.TheVariants.{BeginOf, EndOf}
use Rattle.hek_rules.specs.declared.reply.Reply.{Reply}
use Rattle.hek_rules.specs.declared.reply.Reply.TheVariants as reply
use Rattle.hek_rules.specs.declared.reply.Refusal.TheVariants as refusal
use Rattle.hek_rules.specs.declared.check.Check.{Check}
use Rattle.hek_rules.specs.declared.check.Check.TheVariants.{Refused, Doomed, StillAborted, Passed}
use Rattle.hek_rules.specs.Events.{txn_of}
use Rattle.hek_rules.specs.Listing.{leave, seconds_of}
use Rattle.hek_rules.specs.World.{World, Version, Txn, txn_in, set_txn, version_in, declared, bucket_of, is_committed}
use Rattle.hek_rules.specs.Waits.{waits, commit_deps, readers}
use Rattle.hek_rules.specs.Locks.{set_ender, add_version}
use Rattle.hek_rules.specs.Checks.{check_of}
use Rattle.hek_rules.specs.Walk.{Judgement, Refuse, Allow, Purpose, ToRead, ToWrite, walk, apply_all, seen_of, last, of_key, of_bucket}
use Rattle.hek_rules.specs.WaitGraph.{victim}
use Rattle.hek_rules.specs.Table.{Outcome, outcome, outcome_of, checked, answered, rule, unchanged, aborted, abort, doom, found, after_read, after_scan, is_claimed, after_insert, after_update, after_delete, precommit_rule, prepare, commit_rule, commit, writer_left, sealed, drop_read, release_read, release_waiter, release_bucket, release_first, release_rule, entries_of, without_entry, stamp_committed, stamp_aborted, stamp_rule, holds_nothing, detect_rule}
use Rattle.hek_similar.specs.Holdings.{Regrouped, holding}
use Rattle.hek_similar.proofs.Agree.{two_tests}
use Rattle.hek_similar.proofs.Holdings.Pairs.{like-leave, like-without_first, like-without_entry, like-count, like-seconds, like-entries}
use Rattle.hek_similar.proofs.Holdings.Judged.{Held, lists, held, regrouped, holding-is, same-walk}
use Rattle.hek_similar.proofs.Holdings.Effects.{effects-regrouped, version-regrouped}
use Rattle.hek_similar.proofs.Holdings.Counts.{same-waits, same-deps, same-victim, same-idle}

-- equal replies, regrouped worlds
pub record Equal (o p : Outcome) : Type 0 where
  pub reply : o.reply ≡ p.reply
  pub world : Regrouped o.world p.world

module _ (w y : World) (h : Held (lists w) (lists y)) where
  abbrev x : World
  x = holding w y

  start : Regrouped w x
  start = regrouped w x refl refl refl refl h

  unchanged-equal : (r : Reply) → Equal (unchanged w r) (unchanged x r)
  unchanged-equal r = record { reply = refl; world = start }

  abort-regrouped : (t : ℕ) (cause : Cause) → Regrouped (abort w t cause) (abort x t cause)
  abort-regrouped t cause =
      regrouped (abort w t cause) (abort x t cause) refl refl refl
      (ap (doom (set_txn w.txns t (record (txn_in w.txns t) { state = state.Aborted cause }))) (like-seconds w.dependents y.dependents h.dependents t))
      (record { read_locks = h.read_locks; writes = h.writes; bucket_locks = h.bucket_locks; waiters = h.waiters; dependents = like-without_first t w.dependents y.dependents h.dependents })

  aborted-equal : (t : ℕ) (cause : Cause) → Equal (aborted w t cause) (aborted x t cause)
  aborted-equal t cause = record { reply = refl; world = abort-regrouped t cause }

  -- the transactions and the clock change alike
  timed-equal : (r : Reply) (clock : ℕ) (ts : List Txn) → Equal (record { reply = r; world = record w { clock = clock; txns = ts } }) (record { reply = r; world = record x { clock = clock; txns = ts } })
  timed-equal r clock ts = record { reply = refl; world = regrouped (record w { clock = clock; txns = ts }) (record x { clock = clock; txns = ts }) refl refl refl refl h }

  -- ---- reads and writes
  done : (t : ℕ) (es : List Effect) → Regrouped (apply_all t w es) (apply_all t x es)
  done t es = effects-regrouped t w x es start

  grown : (t key value : ℕ) (es : List Effect) → Regrouped (add_version (apply_all t w es) t key value) (add_version (apply_all t x es) t key value)
  grown t key value es = version-regrouped t (apply_all t w es) (apply_all t x es) key value (done t es)

  found-same : (target : Option ℕ) → found w target ≡ found x target
  found-same None = refl
  found-same (Some v) = refl

  after_read-equal : (t : ℕ) (target : Option ℕ) (j : Judgement) → Equal (after_read w t target j) (after_read x t target j)
  after_read-equal t target (Refuse cause) = aborted-equal t cause
  after_read-equal t target (Allow es) = record { reply = found-same target; world = done t es }

  after_scan-equal : (t : ℕ) (seen : List ℕ) (j : Judgement) → Equal (after_scan w t seen j) (after_scan x t seen j)
  after_scan-equal t seen (Refuse cause) = aborted-equal t cause
  after_scan-equal t seen (Allow es) = record { reply = refl; world = done t es }

  after_insert-equal : (t key value : ℕ) (target : Option ℕ) (j : Judgement) → Equal (after_insert w t key value target j) (after_insert x t key value target j)
  after_insert-equal t key value target (Refuse cause) = aborted-equal t cause
  after_insert-equal t key value (Some v) (Allow es) = record { reply = refl; world = done t es }
  after_insert-equal t key value None (Allow es) =
      two_tests (is_claimed w t (of_key w key)) (is_claimed x t (of_key x key)) _ _ _ _ Equal refl (λ _. aborted-equal t Conflict) (λ _. record { reply = refl; world = grown t key value es })

  after_update-equal : (t key value : ℕ) (target : Option ℕ) (j : Judgement) → Equal (after_update w t key value target j) (after_update x t key value target j)
  after_update-equal t key value target (Refuse cause) = aborted-equal t cause
  after_update-equal t key value None (Allow es) = record { reply = refl; world = done t es }
  after_update-equal t key value (Some v) (Allow es) = record { reply = refl; world = grown t key value es }

  after_delete-equal : (t : ℕ) (target : Option ℕ) (j : Judgement) → Equal (after_delete w t target j) (after_delete x t target j)
  after_delete-equal t target (Refuse cause) = aborted-equal t cause
  after_delete-equal t None (Allow es) = record { reply = refl; world = done t es }
  after_delete-equal t (Some v) (Allow es) = record { reply = refl; world = done t es }

  -- what comes after a walk
  walked : (t : ℕ) (aim : Purpose) (bucket : ℕ) (vs : List ℕ) (f g : Judgement → Outcome) → ((j : Judgement) → Equal (f j) (g j)) → Equal (f (walk w t aim bucket vs)) (g (walk x t aim bucket vs))
  walked t aim bucket vs f g both = subst (λ j. Equal (f (walk w t aim bucket vs)) (g j)) (same-walk w y h t aim bucket vs) (both (walk w t aim bucket vs))

  -- ---- phases
  precommit-equal : (t : ℕ) → Equal (precommit_rule w t) (precommit_rule x t)
  precommit-equal t =
      subst (λ n. Equal (precommit_rule w t) (if n == 0 then record { reply = reply.Precommitted w.clock; world = prepare x t } else unchanged x (reply.Waiting n))) (same-waits w y h t)
      (two_tests (waits w t == 0) (waits w t == 0) _ _ _ _ Equal refl
      (λ _. timed-equal (reply.Precommitted w.clock) (prepare w t).clock (prepare w t).txns) (λ _. unchanged-equal (reply.Waiting (waits w t))))

  commit-equal : (t : ℕ) → Equal (commit_rule w t) (commit_rule x t)
  commit-equal t =
      subst (λ n. Equal (commit_rule w t) (if n == 0 then record { reply = reply.Committed; world = commit x t } else unchanged x (reply.WaitingCommits n))) (same-deps w y h t)
      (two_tests (commit_deps w t == 0) (commit_deps w t == 0) _ _ _ _ Equal refl
      (λ _. record { reply = refl; world = regrouped (commit w t) (commit x t) refl refl refl refl (record { read_locks = h.read_locks; writes = h.writes; bucket_locks = h.bucket_locks; waiters = h.waiters; dependents = like-without_first t w.dependents y.dependents h.dependents }) })
      (λ _. unchanged-equal (reply.WaitingCommits (commit_deps w t))))

  -- ---- release
  read-released : (t v : ℕ) → Equal (release_read w t v) (release_read x t v)
  read-released t v =
      let left = like-leave w.read_locks y.read_locks t v h.read_locks in
      let count : readers (leave w.read_locks t v) v ≡ readers (leave y.read_locks t v) v = like-count (leave w.read_locks t v) (leave y.read_locks t v) left v in
      record {
        reply = ap (λ n. reply.ReleasedRead v (writer_left n (version_in w.versions v).ender)) count;
        world = regrouped (drop_read w t v) (drop_read x t v) refl refl
            (ap (λ n. if n == 0 then set_ender w.versions v (sealed (version_in w.versions v).ender) else w.versions) count) refl
            (record { read_locks = left; writes = h.writes; bucket_locks = h.bucket_locks; waiters = h.waiters; dependents = h.dependents });
      }

  waiter-released : (t : ℕ) (us : List ℕ) → Equal (release_waiter w t us) (release_waiter x t us)
  waiter-released t [] = unchanged-equal reply.Nothing
  waiter-released t (u ∷ us) = record {
    reply = refl;
    world = regrouped (record w { waiters = leave w.waiters t u }) (record x { waiters = leave y.waiters t u }) refl refl refl refl
        (record { read_locks = h.read_locks; writes = h.writes; bucket_locks = h.bucket_locks; waiters = like-leave w.waiters y.waiters t u h.waiters; dependents = h.dependents });
  }

  bucket-released : (t : ℕ) (bs : List ℕ) → Equal (release_bucket w t bs) (release_bucket x t bs)
  bucket-released t [] = subst (λ l. Equal (release_bucket w t []) (release_waiter x t l)) (like-seconds w.waiters y.waiters h.waiters t) (waiter-released t (seconds_of w.waiters t))
  bucket-released t (b ∷ bs) = record {
    reply = refl;
    world = regrouped (record w { bucket_locks = leave w.bucket_locks t b }) (record x { bucket_locks = leave y.bucket_locks t b }) refl refl refl refl
        (record { read_locks = h.read_locks; writes = h.writes; bucket_locks = like-leave w.bucket_locks y.bucket_locks t b h.bucket_locks; waiters = h.waiters; dependents = h.dependents });
  }

  first-released : (t : ℕ) (vs : List ℕ) → Equal (release_first w t vs) (release_first x t vs)
  first-released t [] = subst (λ l. Equal (release_first w t []) (release_bucket x t l)) (like-seconds w.bucket_locks y.bucket_locks h.bucket_locks t) (bucket-released t (seconds_of w.bucket_locks t))
  first-released t (v ∷ vs) = read-released t v

  release-equal : (t : ℕ) → Equal (release_rule w t) (release_rule x t)
  release-equal t = subst (λ l. Equal (release_rule w t) (release_first x t l)) (like-seconds w.read_locks y.read_locks h.read_locks t) (first-released t (seconds_of w.read_locks t))

  -- ---- stamp
  stamped : (r : Reply) (t : ℕ) (vs : List Version) → Equal (record { reply = r; world = record w { versions = vs; writes = without_entry w.writes t } }) (record { reply = r; world = record x { versions = vs; writes = without_entry y.writes t } })
  stamped r t vs = record {
    reply = refl;
    world = regrouped (record w { versions = vs; writes = without_entry w.writes t }) (record x { versions = vs; writes = without_entry y.writes t }) refl refl refl refl
        (record { read_locks = h.read_locks; writes = like-without_entry w.writes y.writes t h.writes; bucket_locks = h.bucket_locks; waiters = h.waiters; dependents = h.dependents });
  }

  committed-equal : (t : ℕ) (es : List WriteEntry) → Equal (stamp_committed w t es) (stamp_committed x t es)
  committed-equal t [] = unchanged-equal reply.Nothing
  committed-equal t (BeginOf v ∷ es) = stamped _ t _
  committed-equal t (EndOf v ∷ es) = stamped _ t _

  stamp_aborted-equal : (t : ℕ) (es : List WriteEntry) → Equal (stamp_aborted w t es) (stamp_aborted x t es)
  stamp_aborted-equal t [] = unchanged-equal reply.Nothing
  stamp_aborted-equal t (BeginOf v ∷ es) = stamped _ t _
  stamp_aborted-equal t (EndOf v ∷ es) = stamped _ t _

  stamp-equal : (t : ℕ) → Equal (stamp_rule w t) (stamp_rule x t)
  stamp-equal t =
      subst (λ es. Equal (stamp_rule w t) (if is_committed (txn_in w.txns t).state then stamp_committed x t es else stamp_aborted x t es)) (like-entries w.writes y.writes h.writes t)
      (two_tests (is_committed (txn_in w.txns t).state) (is_committed (txn_in w.txns t).state) _ _ _ _ Equal refl
      (λ _. committed-equal t (entries_of w.writes t)) (λ _. stamp_aborted-equal t (entries_of w.writes t)))

  -- ---- detect, and each event
  detected : (f : Option (ℕ × List ℕ)) → Equal (detect_rule w f) (detect_rule x f)
  detected None = unchanged-equal reply.NoCycle
  detected (Some f) = record { reply = refl; world = abort-regrouped f.0 Deadlock }

  rule-equal : (t : ℕ) (e : Event) → Equal (rule w t e) (rule x t e)
  rule-equal t (event.Begin u) = timed-equal _ _ _
  rule-equal t (event.Read u key) = walked t ToRead (bucket_of w key) (of_key w key) (after_read w t (last (seen_of w t (of_key w key)))) (after_read x t (last (seen_of x t (of_key x key)))) (after_read-equal t (last (seen_of w t (of_key w key))))
  rule-equal t (event.Scan u bucket) = walked t ToRead bucket (of_bucket w bucket) (after_scan w t (seen_of w t (of_bucket w bucket))) (after_scan x t (seen_of x t (of_bucket x bucket))) (after_scan-equal t (seen_of w t (of_bucket w bucket)))
  rule-equal t (event.Insert u key value) = walked t ToRead (bucket_of w key) (of_key w key) (after_insert w t key value (last (seen_of w t (of_key w key)))) (after_insert x t key value (last (seen_of x t (of_key x key)))) (after_insert-equal t key value (last (seen_of w t (of_key w key))))
  rule-equal t (event.Update u key value) = walked t ToWrite (bucket_of w key) (of_key w key) (after_update w t key value (last (seen_of w t (of_key w key)))) (after_update x t key value (last (seen_of x t (of_key x key)))) (after_update-equal t key value (last (seen_of w t (of_key w key))))
  rule-equal t (event.Delete u key) = walked t ToWrite (bucket_of w key) (of_key w key) (after_delete w t (last (seen_of w t (of_key w key)))) (after_delete x t (last (seen_of x t (of_key x key)))) (after_delete-equal t (last (seen_of w t (of_key w key))))
  rule-equal t (event.Finish u) = timed-equal _ _ _
  rule-equal t (event.Precommit u) = precommit-equal t
  rule-equal t (event.Release u) = release-equal t
  rule-equal t (event.Commit u) = commit-equal t
  rule-equal t (event.Fail u) = record { reply = refl; world = abort-regrouped t Asked }
  rule-equal t (event.Stamp u) = stamp-equal t
  rule-equal t (event.End u) = timed-equal _ _ _
  rule-equal t event.Detect = subst (λ f. Equal (detect_rule w (victim w)) (detect_rule x f)) (same-victim w y h) (detected (victim w))

  answered-equal : (t : ℕ) (e : Event) (k : Check) → Equal (answered w t e k) (answered x t e k)
  answered-equal t e (Refused why) = unchanged-equal (reply.Refused why)
  answered-equal t e Doomed = aborted-equal t Cascade
  answered-equal t e (StillAborted cause) = unchanged-equal (reply.Aborted cause)
  answered-equal t e Passed = rule-equal t e

  checked-equal : (t : ℕ) (e : Event) → Equal (checked w t e) (checked x t e)
  checked-equal t e =
      subst (λ b. Equal (checked w t e) (if not (declared w.txns t) then unchanged x (reply.Refused refusal.UnknownTxn) else answered x t e (check_of (txn_in w.txns t) b w.clock e))) (same-idle w y h t)
      (two_tests (not (declared w.txns t)) (not (declared w.txns t)) _ _ _ _ Equal refl
      (λ _. unchanged-equal (reply.Refused refusal.UnknownTxn)) (λ _. answered-equal t e (check_of (txn_in w.txns t) (holds_nothing w t) w.clock e)))

  outcome_of-equal : (e : Event) (o : Option ℕ) → Equal (outcome_of w e o) (outcome_of x e o)
  outcome_of-equal e (Some t) = checked-equal t e
  outcome_of-equal e None = rule-equal 0 e

  outcome-beside : (e : Event) → Equal (outcome w e) (outcome x e)
  outcome-beside e = outcome_of-equal e (txn_of e)

pub outcome-equal : (w x : World) (e : Event) → Regrouped w x → Equal (outcome w e) (outcome x e)
outcome-equal w x e g = subst (λ y. Equal (outcome w e) (outcome y e)) (holding-is w x g) (outcome-beside w x (held w x g) e)
