-- Each event in a renumbered world.
use Rattle.std.proofs.Common.{◌≡◌, ℕ, List, [], ◌∷◌, Some, None, Option, refl, ◌∙◌, ap, length}
use Rattle.std.specs.Prelude.{map, ◌==◌, ◌%◌, ◌||◌, not, if◌then◌else◌, slice_set}
use Rattle.hek_rules.specs.declared.event.Cause.TheVariants.{Conflict}
use Rattle.hek_rules.specs.declared.event.Effect.{Effect}
use Rattle.hek_rules.specs.declared.event.Event.{Event}
use Rattle.hek_rules.specs.declared.event.Event.TheVariants as event
use Rattle.hek_rules.specs.declared.event.WriteEntry.{WriteEntry}
use Rattle.hek_rules.specs.declared.event.WriteEntry.TheVariants.{BeginOf, EndOf}
use Rattle.hek_rules.specs.declared.reply.Reply.{Reply}
use Rattle.hek_rules.specs.declared.reply.Reply.TheVariants as reply
use Rattle.hek_rules.specs.declared.reply.Refusal.TheVariants as refusal
use Rattle.hek_rules.specs.declared.check.Check.{Check}
use Rattle.hek_rules.specs.declared.check.Check.TheVariants.{Refused, Doomed, StillAborted, Passed}
use Rattle.hek_rules.specs.declared.word.BeginRecord.TheVariants.{At}
use Rattle.hek_rules.specs.Words.{infinity}
use Rattle.hek_rules.specs.Events.{txn_of}
use Rattle.hek_rules.specs.Listing.{put, leave, seconds_of}
use Rattle.hek_rules.specs.World.{World, Version, EndedAt, txn_in, version_in, declared, is_held_by, bucket_of, is_committed}
use Rattle.hek_rules.specs.Waits.{waits, commit_deps, readers}
use Rattle.hek_rules.specs.Locks.{set_ender, with_ender, add_version}
use Rattle.hek_rules.specs.Checks.{check_of}
use Rattle.hek_rules.specs.Walk.{Judgement, Refuse, Allow, Purpose, ToRead, ToWrite, walk, apply_all, seen_of, last, of_key, of_bucket}
use Rattle.hek_rules.specs.WaitGraph.{victim}
use Rattle.hek_rules.specs.Table.{Outcome, outcome, outcome_of, checked, answered, rule, unchanged, aborted, found, after_read, pairs_of, after_scan, scan_rule, is_claim, is_claimed, after_insert, after_update, after_delete, precommit_rule, prepare, commit_rule, commit, writer_left, sealed, drop_read, release_read, release_waiter, release_bucket, release_first, release_rule, entries_of, without_entry, stamp_committed, given_back, stamp_aborted, stamp_rule, holds_nothing, detect_rule}
use Rattle.hek_similar.specs.Places.{Renumbering, IsRenumbering, ScansGroup, renumbered, renumbered_versions, renumbered_lock, renumbered_entry, renumbered_write, renumbered_reply}
use Rattle.hek_similar.proofs.Places.Renumbered.{Trades, trades, readers-to, leave-to, seconds-to, entries-to, without-to}
use Rattle.hek_similar.proofs.Places.Ordered.{key-order, bucket-order}
use Rattle.hek_similar.proofs.Places.Judged.{through, effect-to, judgement-to, target-to, last-to, word, seen-to, walk-to}
use Rattle.hek_similar.proofs.Places.Effects.{rebuilt, same-rebuilt, changed, effects-done, grown-done}
use Rattle.hek_similar.proofs.Places.Counts.{waits-to, victim-to, idle-to}

-- the outcome with the new places
abbrev pub outcome-to : Renumbering → Outcome → Outcome
outcome-to r o = record { reply = renumbered_reply r o.reply; world = renumbered r o.world }

abbrev pub answer : Reply → World → Outcome
answer a w = record { reply = a; world = w }

same-answer : (a b : Reply) (w x : World) → a ≡ b → w ≡ x → answer a w ≡ answer b x
same-answer a b w x e f = ap (λ c. answer c w) e ∙ ap (answer b) f

module _ (r : Renumbering) (w : World) (i : IsRenumbering r w) where
  abbrev x : World
  x = renumbered r w

  trade : Trades r (length w.versions)
  trade = trades r w i

  -- ---- what a walk found, and what it was judged
  found-to : (target : Option ℕ) → found x (target-to r target) ≡ renumbered_reply r (found w target)
  found-to None = refl
  found-to (Some v) = ap (λ y. reply.Found y.value) (word r w trade v)

  pub pairs-to : (pairs : List (ℕ × ℕ)) (vs : List ℕ) → pairs_of x.versions pairs (map r.to vs) ≡ pairs_of w.versions pairs vs
  pairs-to pairs [] = refl
  pairs-to pairs (v ∷ vs) =
      ap (λ y. pairs_of x.versions (put y.key y.value pairs) (map r.to vs)) (word r w trade v)
      ∙ pairs-to (put (version_in w.versions v).key (version_in w.versions v).value pairs) vs

  claimed-to : (t : ℕ) (vs : List ℕ) → is_claimed x t (map r.to vs) ≡ is_claimed w t vs
  claimed-to t [] = refl
  claimed-to t (v ∷ vs) =
      ap (λ y. is_claim w t (txn_in w.txns t).level y.creator || is_claimed x t (map r.to vs)) (word r w trade v)
      ∙ ap (λ b. is_claim w t (txn_in w.txns t).level (version_in w.versions v).creator || b) (claimed-to t vs)

  done : (t : ℕ) (es : List Effect) → apply_all t x (map (effect-to r) es) ≡ renumbered r (apply_all t w es)
  done t es = effects-done r w trade t es

  grown : (t key value : ℕ) (es : List Effect) → add_version (apply_all t x (map (effect-to r) es)) t key value ≡ renumbered r (add_version (apply_all t w es) t key value)
  grown t key value es = grown-done r w trade t key value es

  after_read-to : (t : ℕ) (target : Option ℕ) (j : Judgement) → after_read x t (target-to r target) (judgement-to r j) ≡ outcome-to r (after_read w t target j)
  after_read-to t target (Refuse cause) = refl
  after_read-to t target (Allow es) = same-answer _ _ _ _ (found-to target) (done t es)

  after_scan-to : (t : ℕ) (seen : List ℕ) (j : Judgement) → after_scan x t (map r.to seen) (judgement-to r j) ≡ outcome-to r (after_scan w t seen j)
  after_scan-to t seen (Refuse cause) = refl
  after_scan-to t seen (Allow es) = same-answer _ _ _ _ (ap reply.Rows (pairs-to [] seen)) (done t es)

  after_insert-to : (t key value : ℕ) (target : Option ℕ) (j : Judgement) → after_insert x t key value (target-to r target) (judgement-to r j) ≡ outcome-to r (after_insert w t key value target j)
  after_insert-to t key value target (Refuse cause) = refl
  after_insert-to t key value (Some v) (Allow es) = ap (answer reply.Exists) (done t es)
  after_insert-to t key value None (Allow es) =
      ap (λ b. if b then aborted x t Conflict else answer reply.Done (add_version (apply_all t x (map (effect-to r) es)) t key value)) (ap (is_claimed x t) (key-order r w i key) ∙ claimed-to t (of_key w key))
      ∙ ap (λ y. if is_claimed w t (of_key w key) then aborted x t Conflict else answer reply.Done y) (grown t key value es)
      ∙ through (outcome-to r) (is_claimed w t (of_key w key)) (aborted w t Conflict) (answer reply.Done (add_version (apply_all t w es) t key value))

  after_update-to : (t key value : ℕ) (target : Option ℕ) (j : Judgement) → after_update x t key value (target-to r target) (judgement-to r j) ≡ outcome-to r (after_update w t key value target j)
  after_update-to t key value target (Refuse cause) = refl
  after_update-to t key value None (Allow es) = ap (answer reply.Absent) (done t es)
  after_update-to t key value (Some v) (Allow es) = ap (answer reply.Done) (grown t key value es)

  after_delete-to : (t : ℕ) (target : Option ℕ) (j : Judgement) → after_delete x t (target-to r target) (judgement-to r j) ≡ outcome-to r (after_delete w t target j)
  after_delete-to t target (Refuse cause) = refl
  after_delete-to t None (Allow es) = ap (answer reply.Absent) (done t es)
  after_delete-to t (Some v) (Allow es) = ap (answer reply.Done) (done t es)

  last_seen-to : (t key : ℕ) → last (seen_of x t (of_key x key)) ≡ target-to r (last (seen_of w t (of_key w key)))
  last_seen-to t key = ap (λ l. last (seen_of x t l)) (key-order r w i key) ∙ ap last (seen-to r w trade t (of_key w key)) ∙ last-to r (seen_of w t (of_key w key))

  judged-to : (t : ℕ) (aim : Purpose) (key : ℕ) → walk x t aim (bucket_of x key) (of_key x key) ≡ judgement-to r (walk w t aim (bucket_of w key) (of_key w key))
  judged-to t aim key = ap (walk x t aim (bucket_of w key)) (key-order r w i key) ∙ walk-to r w trade t aim (bucket_of w key) (of_key w key)

  -- what comes after a walk over the versions of a key
  at-key : (t : ℕ) (aim : Purpose) (key : ℕ) (f g : Option ℕ → Judgement → Outcome) → ((target : Option ℕ) (j : Judgement) → f (target-to r target) (judgement-to r j) ≡ outcome-to r (g target j)) →
      f (last (seen_of x t (of_key x key))) (walk x t aim (bucket_of x key) (of_key x key)) ≡ outcome-to r (g (last (seen_of w t (of_key w key))) (walk w t aim (bucket_of w key) (of_key w key)))
  at-key t aim key f g h =
      ap (λ o. f o (walk x t aim (bucket_of x key) (of_key x key))) (last_seen-to t key)
      ∙ ap (f (target-to r (last (seen_of w t (of_key w key))))) (judged-to t aim key)
      ∙ h (last (seen_of w t (of_key w key))) (walk w t aim (bucket_of w key) (of_key w key))

  scan-to : (t bucket : ℕ) → ((k l : ℕ) → k % w.buckets ≡ bucket → l % w.buckets ≡ bucket → r.group k ≡ r.group l) → scan_rule x t bucket ≡ outcome-to r (scan_rule w t bucket)
  scan-to t bucket g =
      ap (λ l. after_scan x t (seen_of x t l) (walk x t ToRead bucket l)) (bucket-order r w i bucket g)
      ∙ ap (λ l. after_scan x t l (walk x t ToRead bucket (map r.to (of_bucket w bucket)))) (seen-to r w trade t (of_bucket w bucket))
      ∙ ap (after_scan x t (map r.to (seen_of w t (of_bucket w bucket)))) (walk-to r w trade t ToRead bucket (of_bucket w bucket))
      ∙ after_scan-to t (seen_of w t (of_bucket w bucket)) (walk w t ToRead bucket (of_bucket w bucket))

  -- ---- phases
  precommit-to : (t : ℕ) → precommit_rule x t ≡ outcome-to r (precommit_rule w t)
  precommit-to t =
      ap (λ n. if n == 0 then answer (reply.Precommitted w.clock) (prepare x t) else unchanged x (reply.Waiting n)) (waits-to r w trade t)
      ∙ through (outcome-to r) (waits w t == 0) (answer (reply.Precommitted w.clock) (prepare w t)) (unchanged w (reply.Waiting (waits w t)))

  commit-to : (t : ℕ) → commit_rule x t ≡ outcome-to r (commit_rule w t)
  commit-to t = through (outcome-to r) (commit_deps w t == 0) (answer reply.Committed (commit w t)) (unchanged w (reply.WaitingCommits (commit_deps w t)))

  -- ---- release
  dropped : (t v : ℕ) → drop_read x t (r.to v) ≡ renumbered r (drop_read w t v)
  dropped t v =
      let left : leave x.read_locks t (r.to v) ≡ map (renumbered_lock r) (leave w.read_locks t v) = leave-to r (length w.versions) trade w.read_locks t v in
      let count : readers (leave x.read_locks t (r.to v)) (r.to v) ≡ readers (leave w.read_locks t v) v
      = ap (λ l. readers l (r.to v)) left ∙ readers-to r (length w.versions) trade (leave w.read_locks t v) v in
      let now : List Version = set_ender w.versions v (sealed (version_in w.versions v).ender) in
      same-rebuilt x (if readers (leave x.read_locks t (r.to v)) (r.to v) == 0 then set_ender x.versions (r.to v) (sealed (version_in x.versions (r.to v)).ender) else x.versions)
      (renumbered_versions r (if readers (leave w.read_locks t v) v == 0 then now else w.versions)) (leave x.read_locks t (r.to v)) (map (renumbered_lock r) (leave w.read_locks t v)) x.writes x.writes
      (ap (λ n. if n == 0 then set_ender x.versions (r.to v) (sealed (version_in x.versions (r.to v)).ender) else x.versions) count
      ∙ ap (λ l. if readers (leave w.read_locks t v) v == 0 then l else x.versions) (changed r w trade v (λ y. with_ender y (sealed y.ender)))
      ∙ through (renumbered_versions r) (readers (leave w.read_locks t v) v == 0) now w.versions)
      left refl

  read_released : (t v : ℕ) → release_read x t (r.to v) ≡ outcome-to r (release_read w t v)
  read_released t v =
      same-answer _ _ _ _
      (ap (λ n. reply.ReleasedRead (r.to v) (writer_left n (version_in x.versions (r.to v)).ender))
      (ap (λ l. readers l (r.to v)) (leave-to r (length w.versions) trade w.read_locks t v) ∙ readers-to r (length w.versions) trade (leave w.read_locks t v) v)
      ∙ ap (λ y. reply.ReleasedRead (r.to v) (writer_left (readers (leave w.read_locks t v) v) y.ender)) (word r w trade v))
      (dropped t v)

  waiter_released : (t : ℕ) (us : List ℕ) → release_waiter x t us ≡ outcome-to r (release_waiter w t us)
  waiter_released t [] = refl
  waiter_released t (u ∷ us) = refl

  bucket_released : (t : ℕ) (bs : List ℕ) → release_bucket x t bs ≡ outcome-to r (release_bucket w t bs)
  bucket_released t [] = waiter_released t (seconds_of w.waiters t)
  bucket_released t (b ∷ bs) = refl

  first_released : (t : ℕ) (vs : List ℕ) → release_first x t (map r.to vs) ≡ outcome-to r (release_first w t vs)
  first_released t [] = bucket_released t (seconds_of w.bucket_locks t)
  first_released t (v ∷ vs) = read_released t v

  release-to : (t : ℕ) → release_rule x t ≡ outcome-to r (release_rule w t)
  release-to t = ap (release_first x t) (seconds-to r w.read_locks t) ∙ first_released t (seconds_of w.read_locks t)

  -- ---- stamp
  -- an entry of t is stamped: its version changes, and it goes
  stamped : (t v : ℕ) (f : Version → Version) →
      rebuilt x (slice_set x.versions (r.to v) (f (version_in x.versions (r.to v)))) x.read_locks (without_entry x.writes t) ≡ renumbered r (rebuilt w (slice_set w.versions v (f (version_in w.versions v))) w.read_locks (without_entry w.writes t))
  stamped t v f =
      same-rebuilt x (slice_set x.versions (r.to v) (f (version_in x.versions (r.to v)))) (renumbered_versions r (slice_set w.versions v (f (version_in w.versions v)))) x.read_locks x.read_locks (without_entry x.writes t) (map (renumbered_write r) (without_entry w.writes t))
      (changed r w trade v f) refl (without-to r w.writes t)

  committed-to : (t : ℕ) (es : List WriteEntry) → stamp_committed x t (map (renumbered_entry r) es) ≡ outcome-to r (stamp_committed w t es)
  committed-to t [] = refl
  committed-to t (BeginOf v ∷ es) = ap (answer (reply.StampedBegin (r.to v))) (stamped t v (λ y. record y { creator = At (txn_in w.txns t).end }))
  committed-to t (EndOf v ∷ es) = ap (answer (reply.StampedEnd (r.to v))) (stamped t v (λ y. with_ender y (EndedAt (txn_in w.txns t).end)))

  aborted-to : (t : ℕ) (es : List WriteEntry) → stamp_aborted x t (map (renumbered_entry r) es) ≡ outcome-to r (stamp_aborted w t es)
  aborted-to t [] = refl
  aborted-to t (BeginOf v ∷ es) = ap (answer (reply.StampedBegin (r.to v))) (stamped t v (λ y. record y { creator = At infinity }))
  aborted-to t (EndOf v ∷ es) =
      same-answer _ _ _ _
      (ap (λ y. if is_held_by t y.ender then reply.StampedEnd (r.to v) else reply.Left (r.to v)) (word r w trade v)
      ∙ through (renumbered_reply r) (is_held_by t (version_in w.versions v).ender) (reply.StampedEnd v) (reply.Left v))
      (stamped t v (λ y. with_ender y (given_back t y.ender)))

  stamp-to : (t : ℕ) → stamp_rule x t ≡ outcome-to r (stamp_rule w t)
  stamp-to t =
      ap (λ es. if is_committed (txn_in w.txns t).state then stamp_committed x t es else stamp_aborted x t es) (entries-to r w.writes t)
      ∙ ap (λ o. if is_committed (txn_in w.txns t).state then o else stamp_aborted x t (map (renumbered_entry r) (entries_of w.writes t))) (committed-to t (entries_of w.writes t))
      ∙ ap (λ o. if is_committed (txn_in w.txns t).state then outcome-to r (stamp_committed w t (entries_of w.writes t)) else o) (aborted-to t (entries_of w.writes t))
      ∙ through (outcome-to r) (is_committed (txn_in w.txns t).state) (stamp_committed w t (entries_of w.writes t)) (stamp_aborted w t (entries_of w.writes t))

  -- ---- detect, and each event
  detected : (found : Option (ℕ × List ℕ)) → detect_rule x found ≡ outcome-to r (detect_rule w found)
  detected None = refl
  detected (Some f) = refl

  rule-to : (t : ℕ) (e : Event) → ScansGroup r.group w.buckets e → rule x t e ≡ outcome-to r (rule w t e)
  rule-to t (event.Begin u) g = refl
  rule-to t (event.Read u key) g = at-key t ToRead key (after_read x t) (after_read w t) (after_read-to t)
  rule-to t (event.Scan u bucket) g = scan-to t bucket g
  rule-to t (event.Insert u key value) g = at-key t ToRead key (after_insert x t key value) (after_insert w t key value) (after_insert-to t key value)
  rule-to t (event.Update u key value) g = at-key t ToWrite key (after_update x t key value) (after_update w t key value) (after_update-to t key value)
  rule-to t (event.Delete u key) g = at-key t ToWrite key (after_delete x t) (after_delete w t) (after_delete-to t)
  rule-to t (event.Finish u) g = refl
  rule-to t (event.Precommit u) g = precommit-to t
  rule-to t (event.Release u) g = release-to t
  rule-to t (event.Commit u) g = commit-to t
  rule-to t (event.Fail u) g = refl
  rule-to t (event.Stamp u) g = stamp-to t
  rule-to t (event.End u) g = refl
  rule-to t event.Detect g = ap (detect_rule x) (victim-to r w trade) ∙ detected (victim w)

  answered-to : (t : ℕ) (e : Event) (k : Check) → ScansGroup r.group w.buckets e → answered x t e k ≡ outcome-to r (answered w t e k)
  answered-to t e (Refused why) g = refl
  answered-to t e Doomed g = refl
  answered-to t e (StillAborted cause) g = refl
  answered-to t e Passed g = rule-to t e g

  checked-to : (t : ℕ) (e : Event) → ScansGroup r.group w.buckets e → checked x t e ≡ outcome-to r (checked w t e)
  checked-to t e g =
      ap (λ b. if not (declared w.txns t) then unchanged x (reply.Refused refusal.UnknownTxn) else answered x t e (check_of (txn_in w.txns t) b w.clock e)) (idle-to r w t)
      ∙ ap (λ o. if not (declared w.txns t) then unchanged x (reply.Refused refusal.UnknownTxn) else o) (answered-to t e (check_of (txn_in w.txns t) (holds_nothing w t) w.clock e) g)
      ∙ through (outcome-to r) (not (declared w.txns t)) (unchanged w (reply.Refused refusal.UnknownTxn)) (answered w t e (check_of (txn_in w.txns t) (holds_nothing w t) w.clock e))

  outcome_of-to : (e : Event) (o : Option ℕ) → ScansGroup r.group w.buckets e → outcome_of x e o ≡ outcome-to r (outcome_of w e o)
  outcome_of-to e (Some t) g = checked-to t e g
  outcome_of-to e None g = rule-to 0 e g

  pub outcome-is : (e : Event) → ScansGroup r.group w.buckets e → outcome x e ≡ outcome-to r (outcome w e)
  outcome-is e g = outcome_of-to e (txn_of e) g
