-- Every event is refused, repeats a cause, cascades, or passes the checks and follows one of the rules: a property of
-- each of these outcomes holds of every event's outcome.
use Rattle.std.proofs.Common.{◌≡◌, ℕ, Bool, true, false, refl, ap, sym}
use Rattle.std.specs.Prelude.{not, ◌&&◌, ◌||◌, ◌==◌}
use Rattle.std.proofs.lemmas.Bool.{cond_both, eqb-true, eqb-false, and_parts, not-false, not-true}
use Rattle.hek_rules.specs.declared.event.State.{State}
use Rattle.hek_rules.specs.declared.event.State.TheVariants as state
use Rattle.hek_rules.specs.declared.event.Cause.{Cause}
use Rattle.hek_rules.specs.declared.event.Cause.TheVariants.{Cascade}
use Rattle.hek_rules.specs.declared.event.Event.{Event}
use Rattle.hek_rules.specs.declared.event.Event.TheVariants as event
use Rattle.hek_rules.specs.declared.reply.Reply.TheVariants as reply
use Rattle.hek_rules.specs.declared.reply.Refusal.{Refusal}
use Rattle.hek_rules.specs.declared.reply.Refusal.TheVariants as refusal
use Rattle.hek_rules.specs.World.{World, txn_in, declared, is_not_begun, is_active, is_preparing, is_committed, is_terminated, is_live, is_decided}
use Rattle.hek_rules.specs.Table.{Outcome, outcome, checked, answered, rule, holds_nothing, refused, unchanged, aborted, begin_rule, read_rule, scan_rule, insert_rule, update_rule, delete_rule, finish_rule, precommit_rule, release_rule, commit_rule, fail_rule, stamp_rule, stamp_committed, stamp_aborted, end_rule, detect_rule, entries_of}
use Rattle.hek_rules.specs.declared.check.Check.{Check}
use Rattle.hek_rules.specs.declared.check.Check.TheVariants.{Refused, StillAborted}
use Rattle.hek_rules.specs.Checks.{begins, draws, repeats_cause, is_open, clock_end, in_phase, missed}
use Rattle.hek_rules.specs.WaitGraph.{victim}
use Rattle.hek_rules.specs.Serial.{is_of}

-- t is declared and in this state
pub record IsIn (w : World) (t : ℕ) (s : State) : Type 0 where
  pub known : declared w.txns t ≡ true
  pub state : (txn_in w.txns t).state ≡ s

-- t is Active and not doomed, and has finished or not
pub record IsActive (w : World) (t : ℕ) (done : Bool) : Type 0 where
  pub known : declared w.txns t ≡ true
  pub state : (txn_in w.txns t).state ≡ state.Active
  pub hopeful : (txn_in w.txns t).abort_now ≡ false
  pub no_more_waits : (txn_in w.txns t).no_more_waits ≡ done

pub record IsPreparing (w : World) (t : ℕ) : Type 0 where
  pub known : declared w.txns t ≡ true
  pub state : (txn_in w.txns t).state ≡ state.Preparing
  pub hopeful : (txn_in w.txns t).abort_now ≡ false

-- t is Active or Preparing
pub record IsLive (w : World) (t : ℕ) : Type 0 where
  pub known : declared w.txns t ≡ true
  pub live : is_live (txn_in w.txns t).state ≡ true

abbrev pub is_past : State → Bool
is_past s = is_preparing s || is_decided s

-- t is Preparing, Committed or Aborted
pub record IsPast (w : World) (t : ℕ) : Type 0 where
  pub known : declared w.txns t ≡ true
  pub past : is_past (txn_in w.txns t).state ≡ true

-- t is Committed or Aborted
pub record IsDecided (w : World) (t : ℕ) : Type 0 where
  pub known : declared w.txns t ≡ true
  pub over : is_decided (txn_in w.txns t).state ≡ true

-- the event is of no transaction but t
pub record IsBy (t : ℕ) (e : Event) : Type 0 where
  pub only : (x : ℕ) → is_of x e ≡ true → x ≡ t

-- P holds of each rule: of the event and its outcome
pub record EachRule (w : World) (P : Event → Outcome → Type 0) : Type 0 where
  pub refusal : (e : Event) (why : Refusal) → P e (refused w why)
  pub repeated : (e : Event) (t : ℕ) (cause : Cause) → IsIn w t (state.Aborted cause) → IsBy t e → P e (unchanged w (reply.Aborted cause))
  pub cascade : (e : Event) (t : ℕ) → IsLive w t → (txn_in w.txns t).abort_now ≡ true → IsBy t e → P e (aborted w t Cascade)
  pub begin : (t : ℕ) → IsIn w t state.NotBegun → (w.clock ≡ clock_end → ⊥) → P (event.Begin t) (begin_rule w t)
  pub read : (t key : ℕ) → IsActive w t false → P (event.Read t key) (read_rule w t key)
  pub scan : (t bucket : ℕ) → IsActive w t false → P (event.Scan t bucket) (scan_rule w t bucket)
  pub insert : (t key value : ℕ) → IsActive w t false → P (event.Insert t key value) (insert_rule w t key value)
  pub update : (t key value : ℕ) → IsActive w t false → P (event.Update t key value) (update_rule w t key value)
  pub delete : (t key : ℕ) → IsActive w t false → P (event.Delete t key) (delete_rule w t key)
  pub finish : (t : ℕ) → IsActive w t false → P (event.Finish t) (finish_rule w t)
  pub precommit : (t : ℕ) → IsActive w t true → (w.clock ≡ clock_end → ⊥) → P (event.Precommit t) (precommit_rule w t)
  pub fail : (t : ℕ) → IsLive w t → P (event.Fail t) (fail_rule w t)
  pub release : (t : ℕ) → IsPast w t → P (event.Release t) (release_rule w t)
  pub commit : (t : ℕ) → IsPreparing w t → P (event.Commit t) (commit_rule w t)
  pub stamp_committed : (t : ℕ) → IsIn w t state.Committed → P (event.Stamp t) (stamp_committed w t (entries_of w.writes t))
  pub stamp_aborted : (t : ℕ) (cause : Cause) → IsIn w t (state.Aborted cause) → P (event.Stamp t) (stamp_aborted w t (entries_of w.writes t))
  pub end : (t : ℕ) → IsDecided w t → holds_nothing w t ≡ true → P (event.End t) (end_rule w t)
  pub detect : P event.Detect (detect_rule w (victim w))

-- an event of t has passed the checks
record HasPassed (w : World) (t : ℕ) (e : Event) : Type 0 where
  known : declared w.txns t ≡ true
  hopeful : (is_live (txn_in w.txns t).state && (txn_in w.txns t).abort_now) ≡ false
  phase : in_phase (txn_in w.txns t) (holds_nothing w t) e ≡ true
  clock : (draws e && w.clock == clock_end) ≡ false

-- a state that passes a test is the state that the test is for
pub active-is : (s : State) → is_active s ≡ true → s ≡ state.Active
active-is state.Active h = refl
active-is s h = cc

preparing-is : (s : State) → is_preparing s ≡ true → s ≡ state.Preparing
preparing-is state.Preparing h = refl
preparing-is s h = cc

not_begun-is : (s : State) → is_not_begun s ≡ true → s ≡ state.NotBegun
not_begun-is state.NotBegun h = refl
not_begun-is s h = cc

committed-is : (s : State) → is_committed s ≡ true → s ≡ state.Committed
committed-is state.Committed h = refl
committed-is s h = cc

-- a conjunction that fails has a second part that fails, if the first holds
second_false : (a b : Bool) → (a && b) ≡ false → a ≡ true → b ≡ false
second_false true b h e = h
second_false false b h e = cc

module _ {w : World} {P : Event → Outcome → Type 0} (rows : EachRule w P) where
  -- the property of the answer to an event of t, by what its checks come to
  abbrev Answers : ℕ → Event → Check → Type 0
  Answers t e c = P e (answered w t e c)

  out : (t : ℕ) (e : Event) → IsBy t e → declared w.txns t ≡ true → (s : State) → (txn_in w.txns t).state ≡ s → Answers t e (missed s e)
  out t e by k (state.Aborted cause) is =
      cond_both (repeats_cause e) (StillAborted cause) (Refused refusal.WrongPhase) (Answers t e)
      (λ _. rows.repeated e t cause (record { known = k; state = is }) by) (λ _. rows.refusal e refusal.WrongPhase)
  out t e by k state.NotBegun is = rows.refusal e refusal.WrongPhase
  out t e by k state.Active is = rows.refusal e refusal.WrongPhase
  out t e by k state.Preparing is = rows.refusal e refusal.WrongPhase
  out t e by k state.Committed is = rows.refusal e refusal.WrongPhase
  out t e by k state.Terminated is = rows.refusal e refusal.WrongPhase

  checks : (t : ℕ) (e : Event) → IsBy t e → (HasPassed w t e → P e (rule w t e)) → P e (checked w t e)
  checks t e by passes =
      cond_both (not (declared w.txns t)) _ _ (P e) (λ _. rows.refusal e refusal.UnknownTxn)
      (λ k. cond_both (begins e && not (is_not_begun (txn_in w.txns t).state)) _ _ (Answers t e) (λ _. rows.refusal e refusal.BegunTwice)
      (λ _. cond_both (not (begins e) && is_not_begun (txn_in w.txns t).state) _ _ (Answers t e) (λ _. rows.refusal e refusal.NotBegun)
      (λ _. cond_both (is_terminated (txn_in w.txns t).state) _ _ (Answers t e) (λ _. rows.refusal e refusal.Ended)
      (λ _. cond_both (is_live (txn_in w.txns t).state && (txn_in w.txns t).abort_now) _ _ (Answers t e)
      (λ d. rows.cascade e t (record { known = not-false _ k; live = (and_parts _ _ d).0 }) (and_parts _ _ d).1 by)
      (λ d. cond_both (not (in_phase (txn_in w.txns t) (holds_nothing w t) e)) _ _ (Answers t e) (λ _. out t e by (not-false _ k) _ refl)
      (λ p. cond_both (draws e && w.clock == clock_end) _ _ (Answers t e) (λ _. rows.refusal e refusal.ClockFull)
      (λ c. passes (record { known = not-false _ k; hopeful = d; phase = not-false _ p; clock = c }))))))))

  active : (t : ℕ) (e : Event) → HasPassed w t e → (done : Bool) → is_active (txn_in w.txns t).state ≡ true → (txn_in w.txns t).no_more_waits ≡ done → IsActive w t done
  active t e p done a f =
      let is = active-is _ a in
      record { known = p.known; state = is; hopeful = second_false _ _ p.hopeful (ap is_live is); no_more_waits = f }

  unfinished : (t : ℕ) (e : Event) → HasPassed w t e → is_open (txn_in w.txns t) ≡ true → IsActive w t false
  unfinished t e p o = let parts = and_parts _ _ o in active t e p false parts.0 (not-true _ parts.1)

  stamps : (t : ℕ) → IsDecided w t → P (event.Stamp t) (stamp_rule w t)
  stamps t o = cond_both (is_committed (txn_in w.txns t).state) _ _ (P (event.Stamp t)) (λ c. rows.stamp_committed t (record { known = o.known; state = committed-is _ c })) (λ c. aborts _ refl o.over c)
    where
      aborts : (s : State) → (txn_in w.txns t).state ≡ s → is_decided s ≡ true → is_committed s ≡ false → P (event.Stamp t) (stamp_aborted w t (entries_of w.writes t))
      aborts (state.Aborted cause) is a c = rows.stamp_aborted t cause (record { known = o.known; state = is })
      aborts state.Committed is a c = cc
      aborts s is a c = cc

  pub each_event : (e : Event) → P e (outcome w e)
  each_event (event.Begin t) = checks t _ (record { only = λ x h. sym (eqb-true _ _ h) }) (λ p. rows.begin t (record { known = p.known; state = not_begun-is _ p.phase }) (eqb-false _ _ p.clock))
  each_event (event.Read t key) = checks t _ (record { only = λ x h. sym (eqb-true _ _ h) }) (λ p. rows.read t key (unfinished t _ p p.phase))
  each_event (event.Scan t bucket) = checks t _ (record { only = λ x h. sym (eqb-true _ _ h) }) (λ p. rows.scan t bucket (unfinished t _ p p.phase))
  each_event (event.Insert t key value) = checks t _ (record { only = λ x h. sym (eqb-true _ _ h) }) (λ p. rows.insert t key value (unfinished t _ p p.phase))
  each_event (event.Update t key value) = checks t _ (record { only = λ x h. sym (eqb-true _ _ h) }) (λ p. rows.update t key value (unfinished t _ p p.phase))
  each_event (event.Delete t key) = checks t _ (record { only = λ x h. sym (eqb-true _ _ h) }) (λ p. rows.delete t key (unfinished t _ p p.phase))
  each_event (event.Finish t) = checks t _ (record { only = λ x h. sym (eqb-true _ _ h) }) (λ p. rows.finish t (unfinished t _ p p.phase))
  each_event (event.Precommit t) = checks t _ (record { only = λ x h. sym (eqb-true _ _ h) })
      (λ p. let parts = and_parts _ _ p.phase in rows.precommit t (active t _ p true parts.0 parts.1) (eqb-false _ _ p.clock))
  each_event (event.Release t) = checks t _ (record { only = λ x h. sym (eqb-true _ _ h) }) (λ p. rows.release t (record { known = p.known; past = p.phase }))
  each_event (event.Commit t) = checks t _ (record { only = λ x h. sym (eqb-true _ _ h) })
      (λ p. let is = preparing-is _ p.phase in rows.commit t (record { known = p.known; state = is; hopeful = second_false _ _ p.hopeful (ap is_live is) }))
  each_event (event.Fail t) = checks t _ (record { only = λ x h. sym (eqb-true _ _ h) }) (λ p. rows.fail t (record { known = p.known; live = p.phase }))
  each_event (event.Stamp t) = checks t _ (record { only = λ x h. sym (eqb-true _ _ h) }) (λ p. stamps t (record { known = p.known; over = p.phase }))
  each_event (event.End t) = checks t _ (record { only = λ x h. sym (eqb-true _ _ h) })
      (λ p. let parts = and_parts _ _ p.phase in rows.end t (record { known = p.known; over = parts.0 }) parts.1)
  each_event event.Detect = rows.detect
