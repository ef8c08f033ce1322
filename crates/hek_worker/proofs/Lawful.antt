-- The laws of transcripts.
use Rattle.std.proofs.Common.{◌≡◌, inl, inr, ℕ, ◌+◌, List, [], ◌∷◌, ◌++◌, Bool, true, false, cond, Option, Some, refl, ap, sym, subst, ◌∙◌, arith, IsTrue, drop, slice_get, append_assoc}
use Rattle.std.specs.Prelude.{◌↔◌}
use Rattle.std.proofs.lemmas.List.Elements.{filter_passes, recursion_from_All}
use Rattle.hek_rules.specs.declared.event.Cause.{Cause}
use Rattle.hek_rules.specs.declared.event.Event.{Event}
use Rattle.hek_rules.specs.declared.event.Event.TheVariants.{Read, Scan, Insert, Update, Delete, Finish, Precommit, Release, Commit, Fail, Stamp, End, Detect}
use Rattle.hek_rules.specs.declared.reply.Reply.{Reply}
use Rattle.hek_rules.specs.declared.reply.Reply.TheVariants.{Waiting, ReleasedRead, ReleasedBucket, ReleasedWaiter, Nothing, Committed, WaitingCommits, Failed, StampedBegin, StampedEnd, Left, Over, Aborted}
use Rattle.hek_worker.specs.declared.stage.Stage.{Stage}
use Rattle.hek_worker.specs.declared.stage.Stage.TheVariants.{Start, Working, Preparing, Looking, GivingUp, Releasing, Committing, Stamping, Ending, Ended}
use Rattle.hek_worker.specs.declared.stage.Position.{Position}
use Rattle.hek_worker.specs.Grammar.{Leads, IsTranscript, AreTranscripts, event_at, position_after, after_precommit, after_fail, after_release, after_commit, after_stamp, after_end, at, begin_at, end_at, or_finish, is_work, work_of}
use Rattle.hek_worker.specs.Forms.{IsFull, IsAborted, IsGivenUp, HasForm, BeginsAndEnds, KeepsOrder, KeepsTurns, IsLawful, waits_at, wait_count, is_fail, fails, is_commit_reply, has_commit, events_in, may_abort, is_given_up}
use Rattle.hek_worker.proofs.Transcripts.{none_refused}
use Rattle.hek_worker.proofs.Wholes.{good, may_stop, spot, Whole, Aborts, Tires, Stops, lands, moved, whole_or_stops, whole_leads, whole_cut, leads_append}
use Rattle.hek_worker.proofs.Pieces.{no_end, is_rest, rest_leads}
use Rattle.hek_worker.proofs.Works.{next_work, no_work}
use Rattle.hek_worker.proofs.Fulls.{AreWork, drop_work, full_from, full_back, left_of, stands_next}
use Rattle.hek_worker.proofs.Ends.{begins_and_ends}
use Rattle.hek_worker.proofs.Counts.{Recorded, Sums, told, todo, open_at, one_if, sums_append, sums_one}

-- what an aborted transaction does neither waits, fails, commits, reads nor writes

abbrev over : Stage → Bool
over (Releasing cut) = cut
over (Stamping cut) = cut
over Ending = true
over Ended = true
over s = false

abbrev IsCalm : ℕ → Event → Reply → Type 0
IsCalm t e r = (waits_at e r ≡ false) × (is_fail e ≡ false) × (is_commit_reply r ≡ false) × (is_work t e ≡ false)

is_decided : (s : Stage) (n : ℕ) (m : Position) → at s n ≡ Some m → IsTrue (over s) → IsTrue (over m.stage)
is_decided s n m h o = subst (λ (p : Position). IsTrue (over p.stage)) (sym (lands s n m h)) o

calm_release : (t n : ℕ) (r : Reply) (m : Position) → after_release true n r ≡ Some m → IsTrue (over m.stage) × IsCalm t (Release t) r
calm_release t n (ReleasedRead v u) m h = (is_decided (Releasing true) n m h refl, (refl, refl, refl, refl))
calm_release t n (ReleasedBucket b) m h = (is_decided (Releasing true) n m h refl, (refl, refl, refl, refl))
calm_release t n (ReleasedWaiter u) m h = (is_decided (Releasing true) n m h refl, (refl, refl, refl, refl))
calm_release t n Nothing m h = (is_decided (Stamping true) n m h refl, (refl, refl, refl, refl))
calm_release t n r m h = absurd (cc)

calm_stamp : (t n : ℕ) (r : Reply) (m : Position) → after_stamp true n r ≡ Some m → IsTrue (over m.stage) × IsCalm t (Stamp t) r
calm_stamp t n (StampedBegin v) m h = (is_decided (Stamping true) n m h refl, (refl, refl, refl, refl))
calm_stamp t n (StampedEnd v) m h = (is_decided (Stamping true) n m h refl, (refl, refl, refl, refl))
calm_stamp t n (Left v) m h = (is_decided (Stamping true) n m h refl, (refl, refl, refl, refl))
calm_stamp t n Nothing m h = (is_decided Ending n m h refl, (refl, refl, refl, refl))
calm_stamp t n r m h = absurd (cc)

calm_end : (t n : ℕ) (r : Reply) (m : Position) → after_end n r ≡ Some m → IsTrue (over m.stage) × IsCalm t (End t) r
calm_end t n Over m h = (is_decided Ended n m h refl, (refl, refl, refl, refl))
calm_end t n r m h = absurd (cc)

calm_step : (t : ℕ) (work : List Event) (s : Stage) (n : ℕ) (r : Reply) (m : Position) → IsTrue (over s) → position_after t work s n r ≡ Some m → IsTrue (over m.stage) × IsCalm t (event_at t work s) r
calm_step t work (Releasing true) n r m o h = calm_release t n r m h
calm_step t work (Releasing false) n r m o h = absurd (cc)
calm_step t work (Stamping true) n r m o h = calm_stamp t n r m h
calm_step t work (Stamping false) n r m o h = absurd (cc)
calm_step t work Ending n r m o h = calm_end t n r m h
calm_step t work Ended n r m o h = absurd (cc)
calm_step t work s n r m o h = absurd (cc)

none_if : (b : Bool) → b ≡ false → one_if b ≡ 0
none_if b h = rw h refl

none_made : (b : Bool) (e : Event) → b ≡ false → cond b (e ∷ []) [] ≡ []
none_made b e h = rw h refl

calm_one : (t : ℕ) (x : Event × Reply) → IsCalm t x.0 x.1 → Sums t (x ∷ []) 0 false false []
calm_one t x c = sums_one t x 0 false false [] (none_if (waits_at x.0 x.1) c.0) c.1 c.2 (none_made (is_work t x.0) x.0 c.3)

calm : (t : ℕ) (work : List Event) (p : Position) (xs : List (Event × Reply)) (q : Position) → IsTrue (over p.stage) → Leads t work p xs q → Sums t xs 0 false false []
calm t work p [] q o h = record { turns = refl; stays = refl; ends = refl; work = refl }
calm t work p (x ∷ xs) q o h =
    let c = calm_step t work p.stage p.turns x.1 h.1.0 o h.1.1 in
    let here : IsCalm t x.0 x.1 = subst (λ (e : Event). IsCalm t e x.1) (sym h.0) c.1 in
    sums_append t (x ∷ []) xs 0 0 false false false false [] [] (calm_one t x here) (calm t work h.1.0 xs q c.0 h.1.2)

-- the event at which a transcript stops

abbrev Stopped : ℕ → List Event → Stage → Event → Type 0
Stopped t work s e = (is_fail e ≡ false) × IsTrue (may_abort e) × ((left : List Event) × (cond (is_work t e) (e ∷ left) left ≡ todo work s))

work_stops : (t : ℕ) (e : Event) → IsTrue (is_work t e) → (is_fail e ≡ false) × IsTrue (may_abort e)
work_stops t (Read u k) h = (refl, refl)
work_stops t (Scan u b) h = (refl, refl)
work_stops t (Insert u k v) h = (refl, refl)
work_stops t (Update u k v) h = (refl, refl)
work_stops t (Delete u k) h = (refl, refl)
work_stops t e h = absurd (cc)

working_stops : (t : ℕ) (work : List Event) (i : ℕ) (es : List Event) → drop i work ≡ es → AreWork t es → Stopped t work (Working i) (event_at t work (Working i))
working_stops t work i [] is all =
    let none = no_work work i is in
    let event : event_at t work (Working i) ≡ Finish t = ap (or_finish t) none.0 in
    let made : [] ≡ drop i work = sym is in
    subst (Stopped t work (Working i)) (sym event) (refl, refl, ([], made))
working_stops t work i (e ∷ es) is all =
    let some = next_work work i e es is in
    let event : event_at t work (Working i) ≡ e = ap (or_finish t) some.0 in
    let k = work_stops t e all.0 in
    let made : cond (is_work t e) (e ∷ es) es ≡ drop i work = rw (all.0, is) refl in
    subst (Stopped t work (Working i)) (sym event) (k.0, k.1, (es, made))

stops_at : (t : ℕ) (work : List Event) (s : Stage) → AreWork t work → IsTrue (may_stop s) → Stopped t work s (event_at t work s)
stops_at t work Start all h = (refl, refl, (work, refl))
stops_at t work (Working i) all h = working_stops t work i (drop i work) refl (drop_work t work i all)
stops_at t work Preparing all h = (refl, refl, ([], refl))
stops_at t work (Releasing false) all h = (refl, refl, ([], refl))
stops_at t work (Releasing true) all h = absurd (cc)
stops_at t work Committing all h = (refl, refl, ([], refl))
stops_at t work s all h = absurd (cc)

stops_open : (s : Stage) → IsTrue (may_stop s) → IsTrue (open_at s)
stops_open Start h = refl
stops_open (Working i) h = refl
stops_open Preparing h = refl
stops_open (Releasing false) h = refl
stops_open (Releasing true) h = absurd (cc)
stops_open Committing h = refl
stops_open s h = absurd (cc)

no_wait : (e : Event) (c : Cause) → waits_at e (Aborted c) ≡ false
no_wait Detect c = refl
no_wait e c = refl

no_commit_waits : (e : Event) → waits_at e Committed ≡ false
no_commit_waits Detect = refl
no_commit_waits e = refl

waits_on : (e : Event) (r : Reply) → waits_at e r ≡ true → is_commit_reply r ≡ false
waits_on e Committed h = let bad = no_commit_waits e in absurd (cc)
waits_on e r h = refl

-- a transcript that fails

pub record Fails (t : ℕ) (work : List Event) (n left : ℕ) (xs : List (Event × Reply)) : Type 0 where
  pub answer : Reply
  pub rest : List (Event × Reply)
  pub order : xs ≡ (Fail t, answer) ∷ rest
  pub given : IsTrue (is_given_up answer)
  pub later : Leads t work (spot (Releasing true) n) rest (end_at left)

fails_one : (t : ℕ) (work : List Event) (n left : ℕ) (xs : List (Event × Reply)) (r : Reply) (m : Position) → after_fail n r ≡ Some m → Leads t work m xs (end_at left)
    → IsTrue (is_given_up r) × Leads t work (spot (Releasing true) n) xs (end_at left)
fails_one t work n left xs Failed m h l = (refl, moved (λ (p : Position). Leads t work p xs (end_at left)) (Releasing true) n m h l)
fails_one t work n left xs (Aborted c) m h l = (refl, moved (λ (p : Position). Leads t work p xs (end_at left)) (Releasing true) n m h l)
fails_one t work n left xs r m h l = absurd (cc)

pair_is : (x : Event × Reply) (e : Event) (r : Reply) → x.0 ≡ e → x.1 ≡ r → x ≡ (e, r)
pair_is x e r h k = let is : (x.0, x.1) ≡ (e, r) = cc in is

it_fails : (t : ℕ) (work : List Event) (n left : ℕ) (xs : List (Event × Reply)) → Leads t work (spot GivingUp n) xs (end_at left) → Fails t work n left xs
it_fails t work n left [] h = let bad = no_end GivingUp n left h in absurd (cc)
it_fails t work n left (x ∷ xs) h =
    let k = fails_one t work n left xs x.1 h.1.0 h.1.1 h.1.2 in
    record { answer = x.1; rest = xs; order = ap (λ (z : Event × Reply). z ∷ xs) (pair_is x (Fail t) x.1 h.0 refl); given = k.0; later = k.1 }

given_commit : (r : Reply) → IsTrue (is_given_up r) → is_commit_reply r ≡ false
given_commit Committed h = absurd (cc)
given_commit r h = refl

-- the laws of a transcript, whether it stops or not

pub record Laws (t : ℕ) (work : List Event) (turns : ℕ) (xs : List (Event × Reply)) : Type 0 where
  pub order : KeepsOrder t work xs
  pub waiting : KeepsTurns turns xs
  pub form : HasForm t work turns xs
  pub full : IsTrue (has_commit xs) → IsFull t work turns xs

order_cut : (b : Bool) (e : Event) (F left T W : List Event) → F ++ T ≡ W → cond b (e ∷ left) left ≡ T → W ≡ (F ++ (cond b (e ∷ []) [] ++ [])) ++ left
order_cut true e F left T W h k = sym h ∙ ap (λ (ys : List Event). F ++ ys) (sym k) ∙ sym (append_assoc F (e ∷ []) left)
order_cut false e F left T W h k = sym h ∙ ap (λ (ys : List Event). F ++ ys) (sym k) ∙ sym (append_assoc F [] left)

calm_turns : (turns w m k : ℕ) (f : Bool) (xs : List (Event × Reply)) → w + m ≡ turns → k ≡ 0 → f ≡ false → wait_count xs ≡ w + (k + 0) → fails xs ≡ f → KeepsTurns turns xs
calm_turns turns w m k f xs h none calm is stays = record {
  most = omega arith;
  gives_up = (λ (y : fails xs ≡ true). absurd (cc), λ (z : wait_count xs ≡ turns + 1). absurd (omega arith));
}

last_turns : (turns w m : ℕ) (xs : List (Event × Reply)) → w + m ≡ turns → m ≡ 0 → wait_count xs ≡ w + (1 + 0) → fails xs ≡ true → KeepsTurns turns xs
last_turns turns w m xs h none is gives = record {
  most = omega arith;
  gives_up = (λ y. omega arith, λ z. gives);
}

front_sums : (t : ℕ) (work : List Event) (p : Position) (xs : List (Event × Reply)) (q : Position) → Recorded t work p xs q → IsTrue (open_at q.stage) → Sums t xs (wait_count xs) false false (work_of t (events_in xs))
front_sums t work p xs q h o = record { turns = refl; stays = h.stays; ends = (h.before o).1; work = refl }

-- a front, the event at which a transcript stops, and what comes after it
all_sums : (t : ℕ) (work : List Event) (p mid : Position) (front rest : List (Event × Reply)) (x : Event × Reply) (k : ℕ) (f : Bool) → Recorded t work p front mid → IsTrue (open_at mid.stage)
    → one_if (waits_at x.0 x.1) ≡ k → is_fail x.0 ≡ false → is_commit_reply x.1 ≡ false → Sums t rest 0 f false []
    → Sums t (front ++ x ∷ rest) (wait_count front + (k + 0)) f false (work_of t (events_in front) ++ (cond (is_work t x.0) (x.0 ∷ []) [] ++ []))
all_sums t work p mid front rest x k f h o w calm_here ends r =
    let one = sums_one t x k false false (cond (is_work t x.0) (x.0 ∷ []) []) w calm_here ends refl in
    let two = sums_append t (x ∷ []) rest k 0 false f false false (cond (is_work t x.0) (x.0 ∷ []) []) [] one r in
    sums_append t front (x ∷ rest) (wait_count front) (k + 0) false f false false (work_of t (events_in front)) (cond (is_work t x.0) (x.0 ∷ []) [] ++ []) (front_sums t work p front mid h o) two

cut_order : (t : ℕ) (work : List Event) (xs : List (Event × Reply)) (made left : List Event) → work_of t (events_in xs) ≡ made → work ≡ made ++ left → has_commit xs ≡ false → KeepsOrder t work xs
cut_order t work xs made left is h none = record {
  left = left;
  order = h ∙ ap (λ (ys : List Event). ys ++ left) (sym is);
  all = λ (y : has_commit xs ≡ true). absurd (cc);
}

aborted_laws : (t : ℕ) (work : List Event) (turns left : ℕ) (xs : List (Event × Reply)) (s : Stops t work (begin_at turns) xs (end_at left)) → AreWork t work
    → Aborts s.mid.stage s.mid.turns s.x.1 s.bad → Laws t work turns xs
aborted_laws t work turns left xs s all a =
    let c : Cause = a.0 in
    let stop : IsTrue (may_stop s.mid.stage) = a.3 in
    let here = stops_at t work s.mid.stage all stop in
    let stopped : Stopped t work s.mid.stage s.x.0 = subst (Stopped t work s.mid.stage) (sym s.event) here in
    let later : Leads t work (spot (Releasing true) s.mid.turns) s.rest (end_at left) = subst (λ (p : Position). Leads t work p s.rest (end_at left)) a.2 s.later in
    let known = told t work (begin_at turns) s.front s.mid all refl s.whole in
    let wait : one_if (waits_at s.x.0 s.x.1) ≡ 0 = none_if (waits_at s.x.0 s.x.1) (ap (λ (r : Reply). waits_at s.x.0 r) a.1 ∙ no_wait s.x.0 c) in
    let ends : is_commit_reply s.x.1 ≡ false = ap is_commit_reply a.1 in
    let sums = all_sums t work (begin_at turns) s.mid s.front s.rest s.x 0 false known (stops_open s.mid.stage stop) wait stopped.0 ends (calm t work (spot (Releasing true) s.mid.turns) s.rest (end_at left) refl later) in
    let mine : Sums t xs (wait_count s.front + (0 + 0)) false false (work_of t (events_in s.front) ++ (cond (is_work t s.x.0) (s.x.0 ∷ []) [] ++ [])) =
    subst (λ (ys : List (Event × Reply)). Sums t ys (wait_count s.front + (0 + 0)) false false (work_of t (events_in s.front) ++ (cond (is_work t s.x.0) (s.x.0 ∷ []) [] ++ []))) (sym s.order) sums in
    let cut = order_cut (is_work t s.x.0) s.x.0 (work_of t (events_in s.front)) stopped.2.0 (todo work s.mid.stage) work known.made stopped.2.1 in
    let form : IsAborted t work turns xs = record {
      front = s.front;
      next = s.x.0;
      cause = c;
      rest = s.rest;
      order = s.order ∙ ap (λ (z : Event × Reply). s.front ++ z ∷ s.rest) (pair_is s.x s.x.0 (Aborted c) refl a.1);
      stands = stands_next t work turns s.front s.mid s.x.0 all s.whole stop s.event;
      early = stopped.1;
      left = is_rest t work s.mid.turns left s.rest later;
    } in
    record {
      order = cut_order t work xs (work_of t (events_in s.front) ++ (cond (is_work t s.x.0) (s.x.0 ∷ []) [] ++ [])) stopped.2.0 mine.work cut mine.ends;
      waiting = calm_turns turns (wait_count s.front) s.mid.turns 0 false xs known.turns refl refl mine.turns mine.stays;
      form = inr (inl form);
      full = λ y. let none : has_commit xs ≡ false = mine.ends in absurd (cc);
    }

used_up : (w m turns : ℕ) → w + m ≡ turns → m ≡ 0 → w ≡ turns
used_up w m turns h k = omega arith

given_laws : (t : ℕ) (work : List Event) (turns left : ℕ) (xs : List (Event × Reply)) (s : Stops t work (begin_at turns) xs (end_at left)) → AreWork t work
    → Tires t work s.mid.stage s.mid.turns s.x.1 s.bad → Laws t work turns xs
given_laws t work turns left xs s all a =
    let none : s.mid.turns ≡ 0 = a.0 in
    let stop : IsTrue (may_stop s.mid.stage) = a.2 in
    let here = stops_at t work s.mid.stage all stop in
    let stopped : Stopped t work s.mid.stage s.x.0 = subst (Stopped t work s.mid.stage) (sym s.event) here in
    let again : waits_at s.x.0 s.x.1 ≡ true = ap (λ (e : Event). waits_at e s.x.1) s.event ∙ a.3 in
    let later : Leads t work (spot GivingUp 0) s.rest (end_at left) = subst (λ (p : Position). Leads t work p s.rest (end_at left)) a.1 s.later in
    let f = it_fails t work 0 left s.rest later in
    let known = told t work (begin_at turns) s.front s.mid all refl s.whole in
    let wait : one_if (waits_at s.x.0 s.x.1) ≡ 1 = ap one_if again in
    let failed : Sums t ((Fail t, f.answer) ∷ f.rest) 0 true false [] =
    sums_append t ((Fail t, f.answer) ∷ []) f.rest 0 0 true false false false [] [] (sums_one t (Fail t, f.answer) 0 true false [] refl refl (given_commit f.answer f.given) refl)
    (calm t work (spot (Releasing true) 0) f.rest (end_at left) refl f.later) in
    let tail : Sums t s.rest 0 true false [] = subst (λ (ys : List (Event × Reply)). Sums t ys 0 true false []) (sym f.order) failed in
    let sums = all_sums t work (begin_at turns) s.mid s.front s.rest s.x 1 true known (stops_open s.mid.stage stop) wait stopped.0 (waits_on s.x.0 s.x.1 again) tail in
    let mine : Sums t xs (wait_count s.front + (1 + 0)) true false (work_of t (events_in s.front) ++ (cond (is_work t s.x.0) (s.x.0 ∷ []) [] ++ [])) =
    subst (λ (ys : List (Event × Reply)). Sums t ys (wait_count s.front + (1 + 0)) true false (work_of t (events_in s.front) ++ (cond (is_work t s.x.0) (s.x.0 ∷ []) [] ++ []))) (sym s.order) sums in
    let cut = order_cut (is_work t s.x.0) s.x.0 (work_of t (events_in s.front)) stopped.2.0 (todo work s.mid.stage) work known.made stopped.2.1 in
    let form : IsGivenUp t work turns xs = record {
      front = s.front;
      next = s.x.0;
      reply = s.x.1;
      answer = f.answer;
      rest = f.rest;
      order = s.order ∙ ap (λ (ys : List (Event × Reply)). s.front ++ s.x ∷ ys) f.order;
      stands = stands_next t work turns s.front s.mid s.x.0 all s.whole stop s.event;
      used = used_up (wait_count s.front) s.mid.turns turns known.turns none;
      again = again;
      given = f.given;
      left = is_rest t work 0 left f.rest f.later;
    } in
    record {
      order = cut_order t work xs (work_of t (events_in s.front) ++ (cond (is_work t s.x.0) (s.x.0 ∷ []) [] ++ [])) stopped.2.0 mine.work cut mine.ends;
      waiting = last_turns turns (wait_count s.front) s.mid.turns xs known.turns none mine.turns mine.stays;
      form = inr (inr form);
      full = λ y. let none : has_commit xs ≡ false = mine.ends in absurd (cc);
    }

whole_turns : (turns w left : ℕ) (xs : List (Event × Reply)) → w + left ≡ turns → wait_count xs ≡ w → fails xs ≡ false → KeepsTurns turns xs
whole_turns turns w left xs h is stays = record {
  most = omega arith;
  gives_up = (λ (y : fails xs ≡ true). absurd (cc), λ (z : wait_count xs ≡ turns + 1). absurd (omega arith));
}

whole_laws : (t : ℕ) (work : List Event) (turns left : ℕ) (xs : List (Event × Reply)) → AreWork t work → Whole t work (begin_at turns) xs (end_at left) → Laws t work turns xs
whole_laws t work turns left xs all h =
    let known = told t work (begin_at turns) xs (end_at left) all refl h in
    let full : IsFull t work turns xs = full_from t work turns left xs h in
    let made : work_of t (events_in xs) ++ [] ≡ work = known.made in
    record {
      order = record { left = []; order = sym made; all = λ y. refl };
      waiting = whole_turns turns (wait_count xs) left xs known.turns refl known.stays;
      form = inl full;
      full = λ y. full;
    }

pub laws : (t : ℕ) (work : List Event) (turns : ℕ) (xs : List (Event × Reply)) → AreWork t work → IsTranscript t work turns xs → Laws t work turns xs
laws t work turns xs all h =
    elim (whole_or_stops t work (begin_at turns) xs (end_at h.0) refl h.1) [
      | inl w ↦ whole_laws t work turns h.0 xs all w
      | inr s ↦ elim s.stop [ inl a ↦ aborted_laws t work turns h.0 xs s all a | inr a ↦ given_laws t work turns h.0 xs s all a ]
    ]

-- each list of one of the three forms is a transcript

abort_step : (t : ℕ) (work : List Event) (s : Stage) (n : ℕ) (c : Cause) → IsTrue (good s) → IsTrue (may_abort (event_at t work s)) → position_after t work s n (Aborted c) ≡ Some (spot (Releasing true) n)
abort_step t work Start n c g h = refl
abort_step t work (Working i) n c g h = refl
abort_step t work Preparing n c g h = refl
abort_step t work Looking n c g h = absurd (cc)
abort_step t work GivingUp n c g h = absurd (cc)
abort_step t work (Releasing true) n c g h = absurd (cc)
abort_step t work (Releasing false) n c g h = refl
abort_step t work Committing n c g h = refl
abort_step t work (Stamping cut) n c g h = absurd (cc)
abort_step t work Ending n c g h = absurd (cc)
abort_step t work Ended n c g h = absurd (cc)

full_is : (t : ℕ) (work : List Event) (turns : ℕ) (xs : List (Event × Reply)) → IsFull t work turns xs → IsTranscript t work turns xs
full_is t work turns xs f = (left_of t work turns xs f, whole_leads t work (begin_at turns) xs (end_at (left_of t work turns xs f)) (full_back t work turns xs f))

aborted_is : (t : ℕ) (work : List Event) (turns : ℕ) (xs : List (Event × Reply)) → IsAborted t work turns xs → IsTranscript t work turns xs
aborted_is t work turns xs h =
    let whole : List (Event × Reply) = h.front ++ (h.next, h.stands.reply) ∷ h.stands.later in
    let left : ℕ = left_of t work turns whole h.stands.full in
    let c = whole_cut t work (begin_at turns) h.front ((h.next, h.stands.reply) ∷ h.stands.later) (end_at left) refl (full_back t work turns whole h.stands.full) in
    let event : h.next ≡ event_at t work c.mid.stage = c.behind.0 in
    let early : IsTrue (may_abort (event_at t work c.mid.stage)) = subst (λ (e : Event). IsTrue (may_abort e)) event h.early in
    let rest : Leads t work (spot (Releasing true) c.mid.turns) h.rest (end_at c.mid.turns) = rest_leads t work c.mid.turns h.rest h.left in
    let behind : Leads t work c.mid ((h.next, Aborted h.cause) ∷ h.rest) (end_at c.mid.turns) = (event, (spot (Releasing true) c.mid.turns, abort_step t work c.mid.stage c.mid.turns h.cause c.fine early, rest)) in
    let all : Leads t work (begin_at turns) (h.front ++ (h.next, Aborted h.cause) ∷ h.rest) (end_at c.mid.turns) =
    leads_append t work (begin_at turns) h.front ((h.next, Aborted h.cause) ∷ h.rest) c.mid (end_at c.mid.turns) (whole_leads t work (begin_at turns) h.front c.mid c.before) behind in
    (c.mid.turns, subst (λ (ys : List (Event × Reply)). Leads t work (begin_at turns) ys (end_at c.mid.turns)) (sym h.order) all)

waits_precommit : (t : ℕ) (r : Reply) → waits_at (Precommit t) r ≡ true → after_precommit 0 r ≡ Some (spot GivingUp 0)
waits_precommit t (Waiting k) h = refl
waits_precommit t r h = absurd (cc)

waits_commit : (t : ℕ) (r : Reply) → waits_at (Commit t) r ≡ true → after_commit 0 r ≡ Some (spot GivingUp 0)
waits_commit t (WaitingCommits k) h = refl
waits_commit t r h = absurd (cc)

work_waits : (t : ℕ) (e : Event) (r : Reply) → IsTrue (is_work t e) → waits_at e r ≡ false
work_waits t (Read u k) r h = refl
work_waits t (Scan u b) r h = refl
work_waits t (Insert u k v) r h = refl
work_waits t (Update u k v) r h = refl
work_waits t (Delete u k) r h = refl
work_waits t e r h = absurd (cc)

working_waits : (t : ℕ) (work : List Event) (i : ℕ) (r : Reply) (es : List Event) → drop i work ≡ es → AreWork t es → waits_at (event_at t work (Working i)) r ≡ false
working_waits t work i r [] is all = let none = no_work work i is in ap (λ (o : Option Event). waits_at (or_finish t o) r) none.0
working_waits t work i r (e ∷ es) is all = let some = next_work work i e es is in ap (λ (o : Option Event). waits_at (or_finish t o) r) some.0 ∙ work_waits t e r all.0

tire_step : (t : ℕ) (work : List Event) (s : Stage) (r : Reply) → AreWork t work → waits_at (event_at t work s) r ≡ true → position_after t work s 0 r ≡ Some (spot GivingUp 0)
tire_step t work Start r all h = absurd (cc)
tire_step t work (Working i) r all h = let none = working_waits t work i r (drop i work) refl (drop_work t work i all) in absurd (cc)
tire_step t work Preparing r all h = waits_precommit t r h
tire_step t work Looking r all h = absurd (cc)
tire_step t work GivingUp r all h = absurd (cc)
tire_step t work (Releasing cut) r all h = absurd (cc)
tire_step t work Committing r all h = waits_commit t r h
tire_step t work (Stamping cut) r all h = absurd (cc)
tire_step t work Ending r all h = absurd (cc)
tire_step t work Ended r all h = absurd (cc)

fail_step : (n : ℕ) (r : Reply) → IsTrue (is_given_up r) → after_fail n r ≡ Some (spot (Releasing true) n)
fail_step n Failed h = refl
fail_step n (Aborted c) h = refl
fail_step n r h = absurd (cc)

no_turn : (w m turns : ℕ) → w + m ≡ turns → w ≡ turns → m ≡ 0
no_turn w m turns h k = omega arith

given_is : (t : ℕ) (work : List Event) (turns : ℕ) (xs : List (Event × Reply)) → AreWork t work → IsGivenUp t work turns xs → IsTranscript t work turns xs
given_is t work turns xs all h =
    let whole : List (Event × Reply) = h.front ++ (h.next, h.stands.reply) ∷ h.stands.later in
    let left : ℕ = left_of t work turns whole h.stands.full in
    let c = whole_cut t work (begin_at turns) h.front ((h.next, h.stands.reply) ∷ h.stands.later) (end_at left) refl (full_back t work turns whole h.stands.full) in
    let event : h.next ≡ event_at t work c.mid.stage = c.behind.0 in
    let known = told t work (begin_at turns) h.front c.mid all refl c.before in
    let none : c.mid.turns ≡ 0 = no_turn (wait_count h.front) c.mid.turns turns known.turns h.used in
    let again : waits_at (event_at t work c.mid.stage) h.reply ≡ true = subst (λ (e : Event). waits_at e h.reply ≡ true) event h.again in
    let step : position_after t work c.mid.stage c.mid.turns h.reply ≡ Some (spot GivingUp 0) = subst (λ (n : ℕ). position_after t work c.mid.stage n h.reply ≡ Some (spot GivingUp 0)) (sym none) (tire_step t work c.mid.stage h.reply all again) in
    let rest : Leads t work (spot (Releasing true) 0) h.rest (end_at 0) = rest_leads t work 0 h.rest h.left in
    let failed : Leads t work (spot GivingUp 0) ((Fail t, h.answer) ∷ h.rest) (end_at 0) = (refl, (spot (Releasing true) 0, fail_step 0 h.answer h.given, rest)) in
    let behind : Leads t work c.mid ((h.next, h.reply) ∷ (Fail t, h.answer) ∷ h.rest) (end_at 0) = (event, (spot GivingUp 0, step, failed)) in
    let joined : Leads t work (begin_at turns) (h.front ++ (h.next, h.reply) ∷ (Fail t, h.answer) ∷ h.rest) (end_at 0) =
    leads_append t work (begin_at turns) h.front ((h.next, h.reply) ∷ (Fail t, h.answer) ∷ h.rest) c.mid (end_at 0) (whole_leads t work (begin_at turns) h.front c.mid c.before) behind in
    (0, subst (λ (ys : List (Event × Reply)). Leads t work (begin_at turns) ys (end_at 0)) (sym h.order) joined)

pub form_is : (t : ℕ) (work : List Event) (turns : ℕ) (xs : List (Event × Reply)) → AreWork t work → HasForm t work turns xs → IsTranscript t work turns xs
form_is t work turns xs all (inl f) = full_is t work turns xs f
form_is t work turns xs all (inr (inl f)) = aborted_is t work turns xs f
form_is t work turns xs all (inr (inr f)) = given_is t work turns xs all f

full_commits : (t : ℕ) (work : List Event) (turns : ℕ) (xs : List (Event × Reply)) → AreWork t work → IsFull t work turns xs → has_commit xs ≡ true
full_commits t work turns xs all f =
    let left : ℕ = left_of t work turns xs f in
    elim ((told t work (begin_at turns) xs (end_at left) all refl (full_back t work turns xs f)).behind refl) [
      | inl h ↦ h
      | inr h ↦ absurd (cc)
    ]

pub are_work : (t : ℕ) (steps : List Event) → AreWork t (work_of t steps)
are_work t steps = recursion_from_All (λ e. is_work t e ≡ true) (work_of t steps) (filter_passes (is_work t) steps)

pub forms_are_exact : (t : ℕ) (steps : List Event) (turns : ℕ) (xs : List (Event × Reply)) → IsTranscript t (work_of t steps) turns xs ↔ HasForm t (work_of t steps) turns xs
forms_are_exact t steps turns xs =
    (λ h. (laws t (work_of t steps) turns xs (are_work t steps) h).form, λ f. form_is t (work_of t steps) turns xs (are_work t steps) f)

pub full_where_committed : (t : ℕ) (steps : List Event) (turns : ℕ) (xs : List (Event × Reply)) → IsTranscript t (work_of t steps) turns xs → IsTrue (has_commit xs) ↔ IsFull t (work_of t steps) turns xs
full_where_committed t steps turns xs h =
    ((laws t (work_of t steps) turns xs (are_work t steps) h).full, λ f. full_commits t (work_of t steps) turns xs (are_work t steps) f)

pub lawful : (steps : List Event) (turns : ℕ) (parts : List (List (Event × Reply))) → AreTranscripts steps turns parts
    → (i : ℕ) (p : List (Event × Reply)) → slice_get parts i ≡ Some p → IsLawful (i + 1) (work_of (i + 1) steps) turns p
lawful steps turns parts all i p is =
    let h : IsTranscript (i + 1) (work_of (i + 1) steps) turns p = all i p is in
    let work = are_work (i + 1) steps in
    let l = laws (i + 1) (work_of (i + 1) steps) turns p work h in
    record {
      ends = begins_and_ends (i + 1) (work_of (i + 1) steps) turns p work h;
      order = l.order;
      waiting = l.waiting;
      form = l.form;
      full = full_where_committed (i + 1) steps turns p h;
      taken = none_refused (i + 1) (work_of (i + 1) steps) turns p h;
    }

pub ends_of : (t : ℕ) (steps : List Event) (turns : ℕ) (xs : List (Event × Reply)) → IsTranscript t (work_of t steps) turns xs → BeginsAndEnds t xs
ends_of t steps turns xs h = begins_and_ends t (work_of t steps) turns xs (are_work t steps) h

pub order_of : (t : ℕ) (steps : List Event) (turns : ℕ) (xs : List (Event × Reply)) → IsTranscript t (work_of t steps) turns xs → KeepsOrder t (work_of t steps) xs
order_of t steps turns xs h = (laws t (work_of t steps) turns xs (are_work t steps) h).order

pub turns_of : (t : ℕ) (steps : List Event) (turns : ℕ) (xs : List (Event × Reply)) → IsTranscript t (work_of t steps) turns xs → KeepsTurns turns xs
turns_of t steps turns xs h = (laws t (work_of t steps) turns xs (are_work t steps) h).waiting
