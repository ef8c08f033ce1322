-- Each event in similar worlds: its checks come to the same, and so does its rule.
use Rattle.std.proofs.Common.{◌≡◌, ℕ, ◌<◌, Bool, true, false, List, refl, ap, subst, arith}
use Rattle.std.proofs.lemmas.Bool.{cond_both, not-false, ne_eqb}
use Rattle.std.specs.Prelude.{not, ◌&&◌, ◌==◌}
use Rattle.hek_rules.specs.declared.event.State.{State}
use Rattle.hek_rules.specs.declared.event.State.TheVariants as state
use Rattle.hek_rules.specs.declared.event.Cause.TheVariants.{Cascade, Asked}
use Rattle.hek_rules.specs.declared.event.Event.{Event}
use Rattle.hek_rules.specs.declared.event.Event.TheVariants as event
use Rattle.hek_rules.specs.declared.check.Check.{Check}
use Rattle.hek_rules.specs.declared.check.Check.TheVariants.{Refused, Doomed, StillAborted, Passed}
use Rattle.hek_rules.specs.World.{World, Version, Txn, txn_in, declared, is_not_begun, is_preparing, is_terminated, is_live}
use Rattle.hek_rules.specs.Checks.{check_of, in_phase, missed, repeats_cause, begins, clock_end}
use Rattle.hek_rules.specs.Table.{outcome, checked, answered, rule, holds_nothing}
use Rattle.hek_similar.specs.Laws.{SimilarWorldsAnswerAlike}
use Rattle.hek_similar.proofs.Lists.{same-txn}
use Rattle.hek_similar.proofs.Alike.{Alike, Past, sound-past}
use Rattle.hek_similar.proofs.Checks.{same-declared, same-check}
use Rattle.hek_similar.proofs.Counts.{beside}
use Rattle.hek_similar.proofs.Agree.{Agree, similar-alike, similar-beside, unchanged-agree, two_tests}
use Rattle.hek_similar.proofs.Phases.{begin-agree, finish-agree, precommit-agree, commit-agree, end-agree, aborted-agree, detect-agree, release-agree, stamp-agree}
use Rattle.hek_similar.proofs.Data.{read-agree, scan-agree, insert-agree, update-agree, delete-agree}

preparing-is : (s : State) → is_preparing s ≡ true → s ≡ state.Preparing
preparing-is state.Preparing h = refl
preparing-is s h = cc

-- an event out of its phase doesn't pass
missed-fails : (s : State) (e : Event) → missed s e ≡ Passed → ⊥
missed-fails (state.Aborted cause) e = cond_both (repeats_cause e) _ _ (λ k. k ≡ Passed → ⊥) (λ _ h. cc) (λ _ h. cc)
missed-fails s e = λ h. cc

-- an event that passes the checks is in its phase
passed-phase : (x : Txn) (idle : Bool) (c : ℕ) (e : Event) → check_of x idle c e ≡ Passed → in_phase x idle e ≡ true
passed-phase x idle c e =
    let P : Check → Type 0 = λ k. k ≡ Passed → in_phase x idle e ≡ true in
    cond_both (begins e && not (is_not_begun x.state)) _ _ P (λ _ h. cc)
    (λ _. cond_both (not (begins e) && is_not_begun x.state) _ _ P (λ _ h. cc)
    (λ _. cond_both (is_terminated x.state) _ _ P (λ _ h. cc)
    (λ _. cond_both (is_live x.state && x.abort_now) _ _ P (λ _ h. cc)
    (λ _. cond_both (not (in_phase x idle e)) _ _ P (λ _ h. absurd (missed-fails x.state e h)) (λ f h. not-false _ f)))))

module _ (w : World) (c : ℕ) (us : List Version) (ss : List Txn) (a : Alike w.versions us w.txns ss) (p : Past w.clock w.versions w.txns) (q : Past c us ss)
    (some : (w.clock == clock_end) ≡ false) (left : (c == clock_end) ≡ false) where
  abbrev x : World
  x = beside w c us ss

  answered-agree : (t : ℕ) (e : Event) (k : Check) → (k ≡ Passed → Agree (rule w t e) (rule x t e)) → Agree (answered w t e k) (answered x t e k)
  answered-agree t e (Refused why) h = unchanged-agree w c us ss a _ _ refl
  answered-agree t e Doomed h = aborted-agree w c us ss a t Cascade
  answered-agree t e (StillAborted cause) h = unchanged-agree w c us ss a _ _ refl
  answered-agree t e Passed h = h refl

  checked-agree : (t : ℕ) (e : Event) → (in_phase (txn_in w.txns t) (holds_nothing w t) e ≡ true → Agree (rule w t e) (rule x t e)) → Agree (checked w t e) (checked x t e)
  checked-agree t e h =
      let k : Check = check_of (txn_in w.txns t) (holds_nothing w t) w.clock e in
      two_tests (not (declared w.txns t)) (not (declared ss t)) _ _ _ _ Agree (ap not (same-declared w.txns ss t a.txns))
      (λ _. unchanged-agree w c us ss a _ _ refl)
      (λ _. subst (λ n. Agree (answered w t e k) (answered x t e n)) (same-check (txn_in w.txns t) (txn_in ss t) (holds_nothing w t) w.clock c e (same-txn w.txns ss a.txns t) some left)
      (answered-agree t e k (λ f. h (passed-phase (txn_in w.txns t) (holds_nothing w t) w.clock e f))))

  pub event-agree : (e : Event) → Agree (outcome w e) (outcome x e)
  event-agree (event.Begin t) = checked-agree t (event.Begin t) (λ _. begin-agree w c us ss a t p q)
  event-agree (event.Read t key) = checked-agree t (event.Read t key) (λ o. read-agree w c us ss a p q t o key)
  event-agree (event.Scan t bucket) = checked-agree t (event.Scan t bucket) (λ o. scan-agree w c us ss a p q t o bucket)
  event-agree (event.Insert t key value) = checked-agree t (event.Insert t key value) (λ o. insert-agree w c us ss a p q t o key value)
  event-agree (event.Update t key value) = checked-agree t (event.Update t key value) (λ o. update-agree w c us ss a p q t o key value)
  event-agree (event.Delete t key) = checked-agree t (event.Delete t key) (λ o. delete-agree w c us ss a p q t o key)
  event-agree (event.Finish t) = checked-agree t (event.Finish t) (λ _. finish-agree w c us ss a t)
  event-agree (event.Precommit t) = checked-agree t (event.Precommit t) (λ _. precommit-agree w c us ss a t p q)
  event-agree (event.Release t) = checked-agree t (event.Release t) (λ _. release-agree w c us ss a t)
  event-agree (event.Commit t) = checked-agree t (event.Commit t) (λ h. commit-agree w c us ss a t (preparing-is _ h))
  event-agree (event.Fail t) = checked-agree t (event.Fail t) (λ _. record { reply = refl; world = (aborted-agree w c us ss a t Asked).world })
  event-agree (event.Stamp t) = checked-agree t (event.Stamp t) (λ _. stamp-agree w c us ss a p q t)
  event-agree (event.End t) = checked-agree t (event.End t) (λ _. end-agree w c us ss a t)
  event-agree event.Detect = detect-agree w c us ss a

pub not-full : (n : ℕ) → n < clock_end → (n == clock_end) ≡ false
not-full n l = ne_eqb n clock_end (λ e. omega arith)

pub worlds-alike : SimilarWorldsAnswerAlike
worlds-alike w x e s here there some left =
    let agree : Agree (outcome w e) (outcome x e) = subst (λ y. Agree (outcome w e) (outcome y e)) (similar-beside w x s)
    (event-agree w x.clock x.versions x.txns (similar-alike w x s) (sound-past w here) (sound-past x there) (not-full w.clock some) (not-full x.clock left) e) in
    (agree.reply, agree.world)
