-- Histories that are told alike go on alike from alike worlds: what counts names no place.
use Rattle.std.proofs.Common.{◌≡◌, ℕ, ◌+◌, ◌≤◌, false, List, [], ◌∷◌, ◌++◌, Some, None, Option, refl, ◌∙◌, ap, sym, subst, length, arith}
use Rattle.std.proofs.lemmas.Bool.{and_right, cond_both}
use Rattle.std.proofs.lemmas.List.Elements.{All-head, All-tail}
use Rattle.std.specs.List.{All}
use Rattle.std.specs.Prelude.{not, ◌&&◌, ◌==◌, if◌then◌else◌}
use Rattle.hek_rules.specs.declared.event.Cause.TheVariants.{Conflict}
use Rattle.hek_rules.specs.declared.event.Event.{Event}
use Rattle.hek_rules.specs.declared.event.Event.TheVariants as event
use Rattle.hek_rules.specs.declared.reply.Reply.{Reply}
use Rattle.hek_rules.specs.declared.reply.Reply.TheVariants as reply
use Rattle.hek_rules.specs.declared.reply.Refusal.TheVariants as refusal
use Rattle.hek_rules.specs.declared.check.Check.{Check}
use Rattle.hek_rules.specs.declared.check.Check.TheVariants.{Refused, Doomed, StillAborted, Passed}
use Rattle.hek_rules.specs.World.{World, txn_in, declared, bucket_of}
use Rattle.hek_rules.specs.Checks.{check_of, clock_end}
use Rattle.hek_rules.specs.Locks.{add_version}
use Rattle.hek_rules.specs.Waits.{commit_deps}
use Rattle.hek_rules.specs.Walk.{Judgement, Refuse, Allow, apply_all, of_key, of_bucket, seen_of, last, walk, ToRead, ToWrite}
use Rattle.hek_rules.specs.Table.{Outcome, aborted, unchanged, refused, found, after_read, after_scan, is_claimed, after_insert, after_update, after_delete, commit, checked, answered, rule, holds_nothing}
use Rattle.hek_rules.specs.Run.{next, reply as reply_to, transcript}
use Rattle.hek_rules.specs.Serial.{is_of}
use Rattle.hek_laws.specs.Runs.{IsPlaced, IsReachable}
use Rattle.hek_laws.proofs.Worlds.Fixed.{fixed-next}
use Rattle.hek_laws.proofs.Runs.Reachable.{reachable-sound, next-reachable}
use Rattle.hek_similar.specs.Similar.{Similar, timeless_reply}
use Rattle.hek_similar.specs.Places.{Renumbering, ScansGroup, renumbered_reply}
use Rattle.hek_similar.specs.Alike.{Alike, bare_reply}
use Rattle.hek_similar.specs.Verdicts.{counts, judged_part, drawn_by, drawn_in, ToldAlike}
use Rattle.hek_similar.specs.Laws.{ToldAlikeGoOnInAlikeWorlds}
use Rattle.hek_similar.proofs.Judging.{without-first}
use Rattle.hek_similar.proofs.Told.{draw-timeless, drawn-append, part-append}
use Rattle.hek_similar.proofs.Events.{worlds-alike}
use Rattle.hek_similar.proofs.Runs.{clock-next}
use Rattle.hek_similar.proofs.Places.Alike.{between-sound, between-answers, alike-worlds}

-- ---- replies without a place
abbrev NamesNone : Reply → Type 0
NamesNone a = (r : Renumbering) → renumbered_reply r a ≡ a

module _ (w : World) where
  abbrev Plain : Outcome → Type 0
  Plain o = NamesNone o.reply

  answered-plain : (t : ℕ) (e : Event) (k : Check) → Plain (rule w t e) → Plain (answered w t e k)
  answered-plain t e (Refused why) h = λ r. refl
  answered-plain t e Doomed h = λ r. refl
  answered-plain t e (StillAborted cause) h = λ r. refl
  answered-plain t e Passed h = h

  checked-plain : (t : ℕ) (e : Event) → Plain (rule w t e) → Plain (checked w t e)
  checked-plain t e h =
      cond_both (not (declared w.txns t)) (refused w refusal.UnknownTxn) (answered w t e (check_of (txn_in w.txns t) (holds_nothing w t) w.clock e)) Plain
      (λ _ r. refl) (λ _. answered-plain t e (check_of (txn_in w.txns t) (holds_nothing w t) w.clock e) h)

  found-plain : (target : Option ℕ) → NamesNone (found w target)
  found-plain None r = refl
  found-plain (Some v) r = refl

  read-plain : (t : ℕ) (target : Option ℕ) (j : Judgement) → Plain (after_read w t target j)
  read-plain t target (Refuse cause) = λ r. refl
  read-plain t target (Allow es) = found-plain target

  scan-plain : (t : ℕ) (seen : List ℕ) (j : Judgement) → Plain (after_scan w t seen j)
  scan-plain t seen (Refuse cause) = λ r. refl
  scan-plain t seen (Allow es) = λ r. refl

  insert-plain : (t key value : ℕ) (target : Option ℕ) (j : Judgement) → Plain (after_insert w t key value target j)
  insert-plain t key value target (Refuse cause) = λ r. refl
  insert-plain t key value (Some v) (Allow es) = λ r. refl
  insert-plain t key value None (Allow es) =
      cond_both (is_claimed w t (of_key w key)) (aborted w t Conflict) (record { reply = reply.Done; world = add_version (apply_all t w es) t key value }) Plain (λ _ r. refl) (λ _ r. refl)

  update-plain : (t key value : ℕ) (target : Option ℕ) (j : Judgement) → Plain (after_update w t key value target j)
  update-plain t key value target (Refuse cause) = λ r. refl
  update-plain t key value None (Allow es) = λ r. refl
  update-plain t key value (Some v) (Allow es) = λ r. refl

  delete-plain : (t : ℕ) (target : Option ℕ) (j : Judgement) → Plain (after_delete w t target j)
  delete-plain t target (Refuse cause) = λ r. refl
  delete-plain t None (Allow es) = λ r. refl
  delete-plain t (Some v) (Allow es) = λ r. refl

  commit-plain : (t : ℕ) → Plain (rule w t (event.Commit t))
  commit-plain t = cond_both (commit_deps w t == 0) (record { reply = reply.Committed; world = commit w t }) (unchanged w (reply.WaitingCommits (commit_deps w t))) Plain (λ _ r. refl) (λ _ r. refl)

-- ---- one event
draw-renumbered : (r : Renumbering) (e : Event) (a : Reply) → drawn_by e (renumbered_reply r a) ≡ drawn_by e a
draw-renumbered r (event.Precommit t) (reply.ReleasedRead v writer) = refl
draw-renumbered r (event.Precommit t) (reply.StampedBegin v) = refl
draw-renumbered r (event.Precommit t) (reply.StampedEnd v) = refl
draw-renumbered r (event.Precommit t) (reply.Left v) = refl
draw-renumbered r (event.Precommit t) a = refl
draw-renumbered r e a = refl

module _ (w x : World) (e : Event) (r : Renumbering) (same : timeless_reply (renumbered_reply r (reply_to w e)) ≡ timeless_reply (reply_to x e)) where
  same-draw : drawn_by e (reply_to w e) ≡ drawn_by e (reply_to x e)
  same-draw =
      sym (draw-timeless e (renumbered_reply r (reply_to w e)) ∙ draw-renumbered r e (reply_to w e))
      ∙ ap (drawn_by e) same ∙ draw-timeless e (reply_to x e)

  -- an event whose reply names no place
  plain-part : (t : ℕ) (ps qs : List (Event × Reply)) → NamesNone (reply_to w e) → judged_part t ps ≡ judged_part t qs → judged_part t ((e, reply_to w e) ∷ ps) ≡ judged_part t ((e, reply_to x e) ∷ qs)
  plain-part t ps qs plain rest =
      ap (λ a. if is_of t e && counts e a then (e, a) ∷ judged_part t ps else judged_part t ps) (sym (ap timeless_reply (plain r)) ∙ same)
      ∙ ap (λ l. if is_of t e && counts e (timeless_reply (reply_to x e)) then (e, timeless_reply (reply_to x e)) ∷ l else l) rest

  -- an event that never counts
  idle-part : (t : ℕ) (ps qs : List (Event × Reply)) → ((a : Reply) → counts e a ≡ false) → judged_part t ps ≡ judged_part t qs → judged_part t ((e, reply_to w e) ∷ ps) ≡ judged_part t ((e, reply_to x e) ∷ qs)
  idle-part t ps qs idle rest =
      without-first t (e, reply_to w e) ps (and_right (is_of t e) _ (idle (timeless_reply (reply_to w e))))
      ∙ rest
      ∙ sym (without-first t (e, reply_to x e) qs (and_right (is_of t e) _ (idle (timeless_reply (reply_to x e)))))

same-part : (w x : World) (e : Event) (r : Renumbering) → timeless_reply (renumbered_reply r (reply_to w e)) ≡ timeless_reply (reply_to x e) →
    (t : ℕ) (ps qs : List (Event × Reply)) → judged_part t ps ≡ judged_part t qs → judged_part t ((e, reply_to w e) ∷ ps) ≡ judged_part t ((e, reply_to x e) ∷ qs)
same-part w x (event.Read u key) r same t ps qs = plain-part w x (event.Read u key) r same t ps qs (checked-plain w u (event.Read u key) (read-plain w u (last (seen_of w u (of_key w key))) (walk w u ToRead (bucket_of w key) (of_key w key))))
same-part w x (event.Scan u bucket) r same t ps qs = plain-part w x (event.Scan u bucket) r same t ps qs (checked-plain w u (event.Scan u bucket) (scan-plain w u (seen_of w u (of_bucket w bucket)) (walk w u ToRead bucket (of_bucket w bucket))))
same-part w x (event.Insert u key value) r same t ps qs = plain-part w x (event.Insert u key value) r same t ps qs (checked-plain w u (event.Insert u key value) (insert-plain w u key value (last (seen_of w u (of_key w key))) (walk w u ToRead (bucket_of w key) (of_key w key))))
same-part w x (event.Update u key value) r same t ps qs = plain-part w x (event.Update u key value) r same t ps qs (checked-plain w u (event.Update u key value) (update-plain w u key value (last (seen_of w u (of_key w key))) (walk w u ToWrite (bucket_of w key) (of_key w key))))
same-part w x (event.Delete u key) r same t ps qs = plain-part w x (event.Delete u key) r same t ps qs (checked-plain w u (event.Delete u key) (delete-plain w u (last (seen_of w u (of_key w key))) (walk w u ToWrite (bucket_of w key) (of_key w key))))
same-part w x (event.Commit u) r same t ps qs = plain-part w x (event.Commit u) r same t ps qs (checked-plain w u (event.Commit u) (commit-plain w u))
same-part w x e r same t ps qs = idle-part w x e r same t ps qs (λ a. refl)

-- ---- runs
runs-told : (group : ℕ → ℕ) (w x : World) (events : List Event) → Alike group w x → IsReachable w → IsReachable x → All (IsPlaced w.buckets) events → All (ScansGroup group w.buckets) events → w.clock + length events ≤ clock_end → x.clock + length events ≤ clock_end →
    ToldAlike (transcript w events) (transcript x events)
runs-told group w x [] a here there placed scans some left = record { drawn = refl; parts = λ t. refl }
runs-told group w x (e ∷ es) a here there placed scans some left =
    let r : Renumbering = a.renumbering in
    let buckets : w.buckets ≡ x.buckets = a.regrouped.buckets ∙ ap (λ (y : World). y.buckets) a.similar.same in
    let first : IsPlaced w.buckets e = All-head (IsPlaced w.buckets) e es placed in
    let other : IsPlaced x.buckets e = subst (λ n. IsPlaced n e) buckets first in
    let rest : All (IsPlaced (next w e).buckets) es = subst (λ n. All (IsPlaced n) es) (sym (fixed-next w e).buckets) (All-tail (IsPlaced w.buckets) e es placed) in
    let scan : ScansGroup group w.buckets e = All-head (ScansGroup group w.buckets) e es scans in
    let scans_on : All (ScansGroup group (next w e).buckets) es = subst (λ n. All (ScansGroup group n) es) (sym (fixed-next w e).buckets) (All-tail (ScansGroup group w.buckets) e es scans) in
    let k : (next w e).clock ≤ w.clock + 1 = clock-next w e (reachable-sound w here).buckets first in
    let l : (next x e).clock ≤ x.clock + 1 = clock-next x e (reachable-sound x there).buckets other in
    let one : (bare_reply (reply_to w e) ≡ bare_reply (reply_to x e)) × Alike group (next w e) (next x e)
    = alike-worlds group w x e a (reachable-sound w here) (reachable-sound x there) scan (omega arith) (omega arith) in
    let clock : w.clock ≡ a.between.clock = a.regrouped.clock in
    let moved : (timeless_reply (reply_to a.between e) ≡ timeless_reply (reply_to x e)) × Similar (next a.between e) (next x e)
    = worlds-alike a.between x e a.similar (between-sound group w x a (reachable-sound w here)) (reachable-sound x there) (omega arith) (omega arith) in
    let same : timeless_reply (renumbered_reply r (reply_to w e)) ≡ timeless_reply (reply_to x e) = ap timeless_reply (between-answers group w x a e scan) ∙ moved.0 in
    let more : ToldAlike (transcript (next w e) es) (transcript (next x e) es)
    = runs-told group (next w e) (next x e) es one.1 (next-reachable w e here first) (next-reachable x e there other) rest scans_on (omega arith) (omega arith) in
    record {
      drawn = ap (λ ts. ts ++ drawn_in (transcript (next w e) es)) (same-draw w x e r same) ∙ ap (λ ts. drawn_by e (reply_to x e) ++ ts) more.drawn;
      parts = λ t. same-part w x e r same t (transcript (next w e) es) (transcript (next x e) es) (more.parts t);
    }

pub told-go_on_alike : ToldAlikeGoOnInAlikeWorlds
told-go_on_alike group w x h g events a here there placed scans some left told =
    let more : ToldAlike (transcript w events) (transcript x events) = runs-told group w x events a here there placed scans some left in
    record {
      drawn = drawn-append h (transcript w events)
          ∙ ap (λ ts. ts ++ drawn_in (transcript w events)) told.drawn
          ∙ ap (λ ts. drawn_in g ++ ts) more.drawn
          ∙ sym (drawn-append g (transcript x events));
      parts = λ t. part-append t h (transcript w events)
          ∙ ap (λ ps. ps ++ judged_part t (transcript w events)) (told.parts t)
          ∙ ap (λ ps. judged_part t g ++ ps) (more.parts t)
          ∙ sym (part-append t g (transcript x events));
    }
