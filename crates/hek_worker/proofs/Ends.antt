-- How a transcript begins and ends.
use Rattle.std.proofs.Common.{◌≡◌, ◌≢◌, ◌⊎◌, inl, inr, ℕ, ◌+◌, ◌-◌, List, [], ◌∷◌, ◌++◌, Bool, true, false, Option, Some, None, refl, ap, sym, subst, ◌∙◌, length, IsTrue, drop}
use Rattle.std.specs.Prelude.{◌==◌, nat_lt, if◌then◌else◌}
use Rattle.std.specs.List.{AllByRecursion}
use Rattle.hek_rules.specs.declared.event.Event.{Event}
use Rattle.hek_rules.specs.declared.event.Event.TheVariants.{Begin, End}
use Rattle.hek_rules.specs.declared.reply.Reply.{Reply}
use Rattle.hek_rules.specs.declared.reply.Reply.TheVariants.{Began, Waiting, Precommitted, ReleasedRead, ReleasedBucket, ReleasedWaiter, Nothing, Committed, WaitingCommits, Failed, StampedBegin, StampedEnd, Left, Over, NoCycle, Victim, Aborted}
use Rattle.hek_worker.specs.declared.stage.Stage.{Stage}
use Rattle.hek_worker.specs.declared.stage.Stage.TheVariants.{Start, Working, Preparing, Looking, GivingUp, Releasing, Committing, Stamping, Ending, Ended}
use Rattle.hek_worker.specs.declared.stage.Position.{Position}
use Rattle.hek_worker.specs.Grammar.{Leads, IsTranscript, event_at, position_after, after_start, after_work, after_precommit, after_look, after_fail, after_release, after_commit, after_stamp, answers, at, end_at, or_finish, is_work}
use Rattle.hek_worker.specs.Forms.{BeginsAndEnds}
use Rattle.hek_worker.proofs.Wholes.{spot, lands, waits_or}
use Rattle.hek_worker.proofs.Pieces.{no_end, last_one}
use Rattle.hek_worker.proofs.Works.{next_work, no_work}
use Rattle.hek_worker.proofs.Fulls.{AreWork, drop_work}

-- whether a stage is neither the first nor the last
abbrev on_way : Stage → Bool
on_way Start = false
on_way Ended = false
on_way s = true

-- whether an event is neither begin nor the end
abbrev inner : Event → Bool
inner (Begin t) = false
inner (End t) = false
inner e = true

is_on : (s : Stage) (n : ℕ) (m : Position) → at s n ≡ Some m → IsTrue (on_way s) → IsTrue (on_way m.stage)
is_on s n m h o = subst (λ (p : Position). IsTrue (on_way p.stage)) (sym (lands s n m h)) o

start_on : (n : ℕ) (r : Reply) (m : Position) → after_start n r ≡ Some m → IsTrue (on_way m.stage)
start_on n (Began time) m h = is_on (Working 0) n m h refl
start_on n (Aborted c) m h = is_on (Releasing true) n m h refl
start_on n r m h = absurd (cc)

work_goes_on : (b c : Bool) (i n : ℕ) (m : Position) → (if b then (if c then at (Working (i + 1)) n else at Preparing n) else None) ≡ Some m → IsTrue (on_way m.stage)
work_goes_on true true i n m h = is_on (Working (i + 1)) n m h refl
work_goes_on true false i n m h = is_on Preparing n m h refl
work_goes_on false c i n m h = absurd (cc)

work_on_way : (t : ℕ) (work : List Event) (i n : ℕ) (r : Reply) (m : Position) → after_work t work i n r ≡ Some m → IsTrue (on_way m.stage)
work_on_way t work i n (Aborted c) m h = is_on (Releasing true) n m h refl
work_on_way t work i n r m h = work_goes_on (answers (event_at t work (Working i)) r) (nat_lt i (length work)) i n m h

wait_on : (s : Stage) (n : ℕ) (m : Position) → (if n == 0 then at GivingUp 0 else at s (n - 1)) ≡ Some m → IsTrue (on_way s) → IsTrue (on_way m.stage)
wait_on s n m h o =
    elim (waits_or (n == 0) s n m h) [
      | inl k ↦ subst (λ (p : Position). IsTrue (on_way p.stage)) (sym k.1) refl
      | inr k ↦ subst (λ (p : Position). IsTrue (on_way p.stage)) (sym k.1) o
    ]

precommit_on : (n : ℕ) (r : Reply) (m : Position) → after_precommit n r ≡ Some m → IsTrue (on_way m.stage)
precommit_on n (Waiting k) m h = wait_on Looking n m h refl
precommit_on n (Precommitted time) m h = is_on (Releasing false) n m h refl
precommit_on n (Aborted c) m h = is_on (Releasing true) n m h refl
precommit_on n r m h = absurd (cc)

look_on : (n : ℕ) (r : Reply) (m : Position) → after_look n r ≡ Some m → IsTrue (on_way m.stage)
look_on n NoCycle m h = is_on Preparing n m h refl
look_on n (Victim u cycle) m h = is_on Preparing n m h refl
look_on n r m h = absurd (cc)

fail_on : (n : ℕ) (r : Reply) (m : Position) → after_fail n r ≡ Some m → IsTrue (on_way m.stage)
fail_on n Failed m h = is_on (Releasing true) n m h refl
fail_on n (Aborted c) m h = is_on (Releasing true) n m h refl
fail_on n r m h = absurd (cc)

release_on_way : (cut : Bool) (n : ℕ) (r : Reply) (m : Position) → after_release cut n r ≡ Some m → IsTrue (on_way m.stage)
release_on_way cut n (ReleasedRead v u) m h = is_on (Releasing cut) n m h refl
release_on_way cut n (ReleasedBucket b) m h = is_on (Releasing cut) n m h refl
release_on_way cut n (ReleasedWaiter u) m h = is_on (Releasing cut) n m h refl
release_on_way true n Nothing m h = is_on (Stamping true) n m h refl
release_on_way false n Nothing m h = is_on Committing n m h refl
release_on_way true n (Aborted c) m h = absurd (cc)
release_on_way false n (Aborted c) m h = is_on (Releasing true) n m h refl
release_on_way cut n r m h = absurd (cc)

commit_on : (n : ℕ) (r : Reply) (m : Position) → after_commit n r ≡ Some m → IsTrue (on_way m.stage)
commit_on n (WaitingCommits k) m h = wait_on Committing n m h refl
commit_on n Committed m h = is_on (Stamping false) n m h refl
commit_on n (Aborted c) m h = is_on (Releasing true) n m h refl
commit_on n r m h = absurd (cc)

stamp_on_way : (cut : Bool) (n : ℕ) (r : Reply) (m : Position) → after_stamp cut n r ≡ Some m → IsTrue (on_way m.stage)
stamp_on_way cut n (StampedBegin v) m h = is_on (Stamping cut) n m h refl
stamp_on_way cut n (StampedEnd v) m h = is_on (Stamping cut) n m h refl
stamp_on_way cut n (Left v) m h = is_on (Stamping cut) n m h refl
stamp_on_way cut n Nothing m h = is_on Ending n m h refl
stamp_on_way cut n r m h = absurd (cc)

work_inner : (t : ℕ) (e : Event) → IsTrue (is_work t e) → IsTrue (inner e)
work_inner t (Begin u) h = absurd (cc)
work_inner t (End u) h = absurd (cc)
work_inner t e h = refl

working_inner : (t : ℕ) (work : List Event) (i : ℕ) (es : List Event) → drop i work ≡ es → AreWork t es → IsTrue (inner (event_at t work (Working i)))
working_inner t work i [] is all = let none = no_work work i is in ap (λ (o : Option Event). inner (or_finish t o)) none.0
working_inner t work i (e ∷ es) is all = let some = next_work work i e es is in ap (λ (o : Option Event). inner (or_finish t o)) some.0 ∙ work_inner t e all.0

-- a step from a stage between the first and the last: the end, or an event in between
step_on : (t : ℕ) (work : List Event) (s : Stage) (n : ℕ) (r : Reply) (m : Position) → AreWork t work → IsTrue (on_way s) → position_after t work s n r ≡ Some m
    → (s ≡ Ending) ⊎ (IsTrue (inner (event_at t work s)) × IsTrue (on_way m.stage))
step_on t work Start n r m all o h = absurd (cc)
step_on t work (Working i) n r m all o h = inr (working_inner t work i (drop i work) refl (drop_work t work i all), work_on_way t work i n r m h)
step_on t work Preparing n r m all o h = inr (refl, precommit_on n r m h)
step_on t work Looking n r m all o h = inr (refl, look_on n r m h)
step_on t work GivingUp n r m all o h = inr (refl, fail_on n r m h)
step_on t work (Releasing cut) n r m all o h = inr (refl, release_on_way cut n r m h)
step_on t work Committing n r m all o h = inr (refl, commit_on n r m h)
step_on t work (Stamping cut) n r m all o h = inr (refl, stamp_on_way cut n r m h)
step_on t work Ending n r m all o h = inl refl
step_on t work Ended n r m all o h = absurd (cc)

pub record Ends (t : ℕ) (xs : List (Event × Reply)) : Type 0 where
  pub between : List (Event × Reply)
  pub order : xs ≡ between ++ (End t, Over) ∷ []
  pub once : AllByRecursion (λ x. (x.0 ≢ Begin t) × (x.0 ≢ End t)) between

not_first : (t : ℕ) (e : Event) → IsTrue (inner e) → e ≢ Begin t
not_first t e h is = let bad : IsTrue (inner (Begin t)) = subst (λ (f : Event). IsTrue (inner f)) is h in cc

not_last : (t : ℕ) (e : Event) → IsTrue (inner e) → e ≢ End t
not_last t e h is = let bad : IsTrue (inner (End t)) = subst (λ (f : Event). IsTrue (inner f)) is h in cc

ends_more : (t : ℕ) (x : Event × Reply) (xs : List (Event × Reply)) → IsTrue (inner x.0) → Ends t xs → Ends t (x ∷ xs)
ends_more t x xs h e = record {
  between = x ∷ e.between;
  order = ap (λ (ys : List (Event × Reply)). x ∷ ys) e.order;
  once = ((not_first t x.0 h, not_last t x.0 h), e.once);
}

on_its_way : (s : Stage) (n left : ℕ) → spot s n ≡ end_at left → IsTrue (on_way s) → ⊥
on_its_way s n left h o = let is : s ≡ Ended = no_end s n left h in let bad : IsTrue (on_way Ended) = subst (λ (z : Stage). IsTrue (on_way z)) is o in cc

ends : (t : ℕ) (work : List Event) (left : ℕ) (p : Position) (xs : List (Event × Reply)) → AreWork t work → IsTrue (on_way p.stage) → Leads t work p xs (end_at left) → Ends t xs
ends t work left p [] all o h = absurd (on_its_way p.stage p.turns left h o)
ends t work left p (x ∷ xs) all o h =
    elim (step_on t work p.stage p.turns x.1 h.1.0 all o h.1.1) [
      | inl is ↦
          let last : Leads t work (spot Ending p.turns) (x ∷ xs) (end_at left) = subst (λ (s : Stage). Leads t work (spot s p.turns) (x ∷ xs) (end_at left)) is h in
          record { between = []; order = last_one t work p.turns left (x ∷ xs) last; once = tt }
      | inr k ↦
          let in_between : IsTrue (inner x.0) = subst (λ (e : Event). IsTrue (inner e)) (sym h.0) k.0 in
          ends_more t x xs in_between (ends t work left h.1.0 xs all k.1 h.1.2)
    ]

pub begins_and_ends : (t : ℕ) (work : List Event) (turns : ℕ) (xs : List (Event × Reply)) → AreWork t work → IsTranscript t work turns xs → BeginsAndEnds t xs
begins_and_ends t work turns [] all h = let bad = no_end Start turns h.0 h.1 in absurd (cc)
begins_and_ends t work turns (x ∷ xs) all h =
    let lead = h.1 in
    let e = ends t work h.0 lead.1.0 xs all (start_on turns x.1 lead.1.0 lead.1.1) lead.1.2 in
    let first : (x.0, x.1) ≡ (Begin t, x.1) = ap (λ (f : Event). (f, x.1)) lead.0 in
    record {
      reply = x.1;
      between = e.between;
      order = ap (λ (z : Event × Reply). z ∷ xs) first ∙ ap (λ (ys : List (Event × Reply)). (Begin t, x.1) ∷ ys) e.order;
      once = e.once;
    }
