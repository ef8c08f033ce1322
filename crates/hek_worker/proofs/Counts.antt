-- What a transcript counts: waits, fails, commits, reads and writes.
use Rattle.std.proofs.Common.{◌≡◌, ◌⊎◌, inl, inr, ℕ, suc, ◌+◌, ◌-◌, List, [], ◌∷◌, ◌++◌, Bool, true, false, not, cond, Some, refl, ap, sym, subst, ◌∙◌, arith, IsTrue, drop}
use Rattle.std.specs.Prelude.{◌||◌}
use Rattle.std.specs.List.{list_any}
use Rattle.std.proofs.lemmas.List.{map-append}
use Rattle.std.proofs.lemmas.List.Elements.{filter-append}
use Rattle.std.proofs.lemmas.List.Sums.{sum_by-append, sum_by-cons}
use Rattle.hek_rules.specs.declared.event.Event.{Event}
use Rattle.hek_rules.specs.declared.event.Event.TheVariants.{Begin, Finish, Precommit, Release, Commit, Fail, Stamp, End, Detect}
use Rattle.hek_rules.specs.declared.reply.Reply.{Reply}
use Rattle.hek_rules.specs.declared.reply.Reply.TheVariants.{Began, Waiting, Precommitted, ReleasedRead, ReleasedBucket, ReleasedWaiter, Nothing, Committed, WaitingCommits, StampedBegin, StampedEnd, Left, Over, NoCycle, Victim, Aborted}
use Rattle.hek_worker.specs.declared.stage.Stage.{Stage}
use Rattle.hek_worker.specs.declared.stage.Stage.TheVariants.{Start, Working, Preparing, Looking, GivingUp, Releasing, Committing, Stamping, Ending, Ended}
use Rattle.hek_worker.specs.declared.stage.Position.{Position}
use Rattle.hek_worker.specs.Grammar.{event_at, position_after, after_start, after_work, after_precommit, after_look, after_release, after_commit, after_stamp, after_end, answers, or_finish, is_work, work_of}
use Rattle.hek_worker.specs.Forms.{waits_at, wait_count, is_fail, fails, is_commit_reply, has_commit, events_in}
use Rattle.hek_worker.proofs.Wholes.{good, spot, Whole, lands, moved}
use Rattle.hek_worker.proofs.Pieces.{went_on}
use Rattle.hek_worker.proofs.Works.{went_work, next_work, no_work, worked_more, worked_all}
use Rattle.hek_worker.proofs.Fulls.{AreWork, drop_work}

-- whether a stage comes before the commit
abbrev pub open_at : Stage → Bool
open_at Start = true
open_at (Working i) = true
open_at Preparing = true
open_at Looking = true
open_at (Releasing cut) = not cut
open_at Committing = true
open_at s = false

-- the reads and writes still to be made at a stage
abbrev pub todo : List Event → Stage → List Event
todo work Start = work
todo work (Working i) = drop i work
todo work s = []

abbrev pub one_if : Bool → ℕ
one_if b = cond b 1 0

-- what one step of a transaction that goes on counts
pub record Step (t : ℕ) (work : List Event) (s : Stage) (n : ℕ) (e : Event) (r : Reply) (m : Position) : Type 0 where
  pub turns : one_if (waits_at e r) + m.turns ≡ n
  pub stays : is_fail e ≡ false
  pub before : IsTrue (open_at m.stage) → IsTrue (open_at s) × (is_commit_reply r ≡ false)
  pub behind : IsTrue (open_at s) → IsTrue (is_commit_reply r) ⊎ IsTrue (open_at m.stage)
  pub made : cond (is_work t e) (e ∷ todo work m.stage) (todo work m.stage) ≡ todo work s

to_spot : (t : ℕ) (work : List Event) (s : Stage) (n : ℕ) (e : Event) (r : Reply) (m : Position) (s' : Stage) (k : ℕ) → m ≡ spot s' k → Step t work s n e r (spot s' k) → Step t work s n e r m
to_spot t work s n e r m s' k is h = subst (λ (p : Position). Step t work s n e r p) (sym is) h

zero_more : (n : ℕ) → 0 + n ≡ n
zero_more n = omega arith

none_counts : (b : Bool) (n : ℕ) → b ≡ false → one_if b + n ≡ n
none_counts b n h = rw h (zero_more n)

one_more : (n : ℕ) → (n ≡ 0 → ⊥) → 1 + (n - 1) ≡ n
one_more n h = omega arith

start_step : (t : ℕ) (work : List Event) (n : ℕ) (r : Reply) (m : Position) → after_start n r ≡ Some m → IsTrue (good m.stage) → Step t work Start n (Begin t) r m
start_step t work n (Began time) m h g =
    to_spot t work Start n (Begin t) (Began time) m (Working 0) n (lands (Working 0) n m h)
    (record { turns = zero_more n; stays = refl; before = λ o. (refl, refl); behind = λ o. inr refl; made = refl })
start_step t work n (Aborted c) m h g = let bad : IsTrue (good (Releasing true)) = moved (λ (p : Position). IsTrue (good p.stage)) (Releasing true) n m h g in absurd (cc)
start_step t work n r m h g = absurd (cc)

-- a read, a write or finish neither waits, fails nor commits

calm_work : (e : Event) (r : Reply) → answers e r ≡ true → (waits_at e r ≡ false) × (is_fail e ≡ false)
calm_work (Precommit t) r h = absurd (cc)
calm_work (Commit t) r h = absurd (cc)
calm_work (Fail t) r h = absurd (cc)
calm_work e r h = (refl, refl)

not_committed : (e : Event) → answers e Committed ≡ false
not_committed Detect = refl
not_committed e = refl

no_commit : (e : Event) (r : Reply) → answers e r ≡ true → is_commit_reply r ≡ false
no_commit e Committed h = let bad = not_committed e in absurd (cc)
no_commit e r h = refl

work_step : (t : ℕ) (work : List Event) (i n : ℕ) (r : Reply) (m : Position) (es : List Event) → drop i work ≡ es → AreWork t es → after_work t work i n r ≡ Some m → IsTrue (good m.stage)
    → Step t work (Working i) n (event_at t work (Working i)) r m
work_step t work i n r m [] is all h g =
    let none = no_work work i is in
    let event : event_at t work (Working i) ≡ Finish t = ap (or_finish t) none.0 in
    let went = went_work t work i n r m h g in
    let to : m ≡ spot Preparing n = lands Preparing n m (sym (worked_all work i n none.1) ∙ went.1) in
    let fits : answers (Finish t) r ≡ true = sym (ap (λ (e : Event). answers e r) event) ∙ went.0 in
    let calm = calm_work (Finish t) r fits in
    let first : one_if (waits_at (Finish t) r) + n ≡ n = none_counts (waits_at (Finish t) r) n calm.0 in
    let made : [] ≡ drop i work = sym is in
    let step : Step t work (Working i) n (Finish t) r (spot Preparing n) = record { turns = first; stays = refl; before = λ o. (refl, no_commit (Finish t) r fits); behind = λ o. inr refl; made = made } in
    subst (λ (e : Event). Step t work (Working i) n e r m) (sym event) (to_spot t work (Working i) n (Finish t) r m Preparing n to step)
work_step t work i n r m (e ∷ es) is all h g =
    let some = next_work work i e es is in
    let event : event_at t work (Working i) ≡ e = ap (or_finish t) some.0 in
    let went = went_work t work i n r m h g in
    let to : m ≡ spot (Working (suc i)) n = lands (Working (suc i)) n m (sym (worked_more work i n some.1) ∙ went.1) in
    let fits : answers e r ≡ true = sym (ap (λ (f : Event). answers f r) event) ∙ went.0 in
    let calm = calm_work e r fits in
    let first : one_if (waits_at e r) + n ≡ n = none_counts (waits_at e r) n calm.0 in
    let made : cond (is_work t e) (e ∷ drop (suc i) work) (drop (suc i) work) ≡ drop i work = rw (all.0, some.2, is) refl in
    let step : Step t work (Working i) n e r (spot (Working (suc i)) n) = record { turns = first; stays = calm.1; before = λ o. (refl, no_commit e r fits); behind = λ o. inr refl; made = made } in
    subst (λ (f : Event). Step t work (Working i) n f r m) (sym event) (to_spot t work (Working i) n e r m (Working (suc i)) n to step)

precommit_step : (t : ℕ) (work : List Event) (n : ℕ) (r : Reply) (m : Position) → after_precommit n r ≡ Some m → IsTrue (good m.stage) → Step t work Preparing n (Precommit t) r m
precommit_step t work n (Waiting k) m h g =
    let go = went_on Looking n m h g in
    to_spot t work Preparing n (Precommit t) (Waiting k) m Looking (n - 1) go.1
    (record { turns = one_more n go.0; stays = refl; before = λ o. (refl, refl); behind = λ o. inr refl; made = refl })
precommit_step t work n (Precommitted time) m h g =
    to_spot t work Preparing n (Precommit t) (Precommitted time) m (Releasing false) n (lands (Releasing false) n m h)
    (record { turns = zero_more n; stays = refl; before = λ o. (refl, refl); behind = λ o. inr refl; made = refl })
precommit_step t work n (Aborted c) m h g = let bad : IsTrue (good (Releasing true)) = moved (λ (p : Position). IsTrue (good p.stage)) (Releasing true) n m h g in absurd (cc)
precommit_step t work n r m h g = absurd (cc)

look_step : (t : ℕ) (work : List Event) (n : ℕ) (r : Reply) (m : Position) → after_look n r ≡ Some m → Step t work Looking n Detect r m
look_step t work n NoCycle m h =
    to_spot t work Looking n Detect NoCycle m Preparing n (lands Preparing n m h)
    (record { turns = zero_more n; stays = refl; before = λ o. (refl, refl); behind = λ o. inr refl; made = refl })
look_step t work n (Victim u cycle) m h =
    to_spot t work Looking n Detect (Victim u cycle) m Preparing n (lands Preparing n m h)
    (record { turns = zero_more n; stays = refl; before = λ o. (refl, refl); behind = λ o. inr refl; made = refl })
look_step t work n r m h = absurd (cc)

freed_step : (t : ℕ) (work : List Event) (n : ℕ) (r : Reply) → is_commit_reply r ≡ false → Step t work (Releasing false) n (Release t) r (spot (Releasing false) n)
freed_step t work n r is = record { turns = zero_more n; stays = refl; before = λ o. (refl, is); behind = λ o. inr refl; made = refl }

release_step : (t : ℕ) (work : List Event) (n : ℕ) (r : Reply) (m : Position) → after_release false n r ≡ Some m → IsTrue (good m.stage) → Step t work (Releasing false) n (Release t) r m
release_step t work n (ReleasedRead v u) m h g = to_spot t work (Releasing false) n (Release t) (ReleasedRead v u) m (Releasing false) n (lands (Releasing false) n m h) (freed_step t work n (ReleasedRead v u) refl)
release_step t work n (ReleasedBucket b) m h g = to_spot t work (Releasing false) n (Release t) (ReleasedBucket b) m (Releasing false) n (lands (Releasing false) n m h) (freed_step t work n (ReleasedBucket b) refl)
release_step t work n (ReleasedWaiter u) m h g = to_spot t work (Releasing false) n (Release t) (ReleasedWaiter u) m (Releasing false) n (lands (Releasing false) n m h) (freed_step t work n (ReleasedWaiter u) refl)
release_step t work n Nothing m h g =
    to_spot t work (Releasing false) n (Release t) Nothing m Committing n (lands Committing n m h)
    (record { turns = zero_more n; stays = refl; before = λ o. (refl, refl); behind = λ o. inr refl; made = refl })
release_step t work n (Aborted c) m h g = let bad : IsTrue (good (Releasing true)) = moved (λ (p : Position). IsTrue (good p.stage)) (Releasing true) n m h g in absurd (cc)
release_step t work n r m h g = absurd (cc)

commit_step : (t : ℕ) (work : List Event) (n : ℕ) (r : Reply) (m : Position) → after_commit n r ≡ Some m → IsTrue (good m.stage) → Step t work Committing n (Commit t) r m
commit_step t work n (WaitingCommits k) m h g =
    let go = went_on Committing n m h g in
    to_spot t work Committing n (Commit t) (WaitingCommits k) m Committing (n - 1) go.1
    (record { turns = one_more n go.0; stays = refl; before = λ o. (refl, refl); behind = λ o. inr refl; made = refl })
commit_step t work n Committed m h g =
    to_spot t work Committing n (Commit t) Committed m (Stamping false) n (lands (Stamping false) n m h)
    (record { turns = zero_more n; stays = refl; before = λ o. absurd (cc); behind = λ o. inl refl; made = refl })
commit_step t work n (Aborted c) m h g = let bad : IsTrue (good (Releasing true)) = moved (λ (p : Position). IsTrue (good p.stage)) (Releasing true) n m h g in absurd (cc)
commit_step t work n r m h g = absurd (cc)

stamped_step : (t : ℕ) (work : List Event) (n : ℕ) (r : Reply) → Step t work (Stamping false) n (Stamp t) r (spot (Stamping false) n)
stamped_step t work n r = record { turns = zero_more n; stays = refl; before = λ o. absurd (cc); behind = λ o. absurd (cc); made = refl }

stamp_step : (t : ℕ) (work : List Event) (n : ℕ) (r : Reply) (m : Position) → after_stamp false n r ≡ Some m → Step t work (Stamping false) n (Stamp t) r m
stamp_step t work n (StampedBegin v) m h = to_spot t work (Stamping false) n (Stamp t) (StampedBegin v) m (Stamping false) n (lands (Stamping false) n m h) (stamped_step t work n (StampedBegin v))
stamp_step t work n (StampedEnd v) m h = to_spot t work (Stamping false) n (Stamp t) (StampedEnd v) m (Stamping false) n (lands (Stamping false) n m h) (stamped_step t work n (StampedEnd v))
stamp_step t work n (Left v) m h = to_spot t work (Stamping false) n (Stamp t) (Left v) m (Stamping false) n (lands (Stamping false) n m h) (stamped_step t work n (Left v))
stamp_step t work n Nothing m h =
    to_spot t work (Stamping false) n (Stamp t) Nothing m Ending n (lands Ending n m h)
    (record { turns = zero_more n; stays = refl; before = λ o. absurd (cc); behind = λ o. absurd (cc); made = refl })
stamp_step t work n r m h = absurd (cc)

end_step : (t : ℕ) (work : List Event) (n : ℕ) (r : Reply) (m : Position) → after_end n r ≡ Some m → Step t work Ending n (End t) r m
end_step t work n Over m h =
    to_spot t work Ending n (End t) Over m Ended n (lands Ended n m h)
    (record { turns = zero_more n; stays = refl; before = λ o. absurd (cc); behind = λ o. absurd (cc); made = refl })
end_step t work n r m h = absurd (cc)

step_at : (t : ℕ) (work : List Event) (s : Stage) (n : ℕ) (r : Reply) (m : Position) → AreWork t work → IsTrue (good s) → position_after t work s n r ≡ Some m → IsTrue (good m.stage) → Step t work s n (event_at t work s) r m
step_at t work Start n r m all f h g = start_step t work n r m h g
step_at t work (Working i) n r m all f h g = work_step t work i n r m (drop i work) refl (drop_work t work i all) h g
step_at t work Preparing n r m all f h g = precommit_step t work n r m h g
step_at t work Looking n r m all f h g = look_step t work n r m h
step_at t work GivingUp n r m all f h g = absurd (cc)
step_at t work (Releasing true) n r m all f h g = absurd (cc)
step_at t work (Releasing false) n r m all f h g = release_step t work n r m h g
step_at t work Committing n r m all f h g = commit_step t work n r m h g
step_at t work (Stamping true) n r m all f h g = absurd (cc)
step_at t work (Stamping false) n r m all f h g = stamp_step t work n r m h
step_at t work Ending n r m all f h g = end_step t work n r m h
step_at t work Ended n r m all f h g = absurd (cc)

-- what a whole piece of a transcript counts
pub record Recorded (t : ℕ) (work : List Event) (p : Position) (xs : List (Event × Reply)) (q : Position) : Type 0 where
  pub turns : wait_count xs + q.turns ≡ p.turns
  pub stays : fails xs ≡ false
  pub before : IsTrue (open_at q.stage) → IsTrue (open_at p.stage) × (has_commit xs ≡ false)
  pub behind : IsTrue (open_at p.stage) → IsTrue (has_commit xs) ⊎ IsTrue (open_at q.stage)
  pub made : work_of t (events_in xs) ++ todo work q.stage ≡ todo work p.stage

waits_more : (x : Event × Reply) (xs : List (Event × Reply)) → wait_count (x ∷ xs) ≡ one_if (waits_at x.0 x.1) + wait_count xs
waits_more x xs = sum_by-cons (λ (y : Event × Reply). one_if (waits_at y.0 y.1)) x xs

adds : (a b c q m p : ℕ) → c ≡ a + b → a + m ≡ p → b + q ≡ m → c + q ≡ p
adds a b c q m p is h k = omega arith

or_none : (a b : Bool) → a ≡ false → b ≡ false → (a || b) ≡ false
or_none a b h k = rw h k

or_here : (a b : Bool) → a ≡ true → (a || b) ≡ true
or_here a b h = rw h refl

or_there : (a b : Bool) → b ≡ true → (a || b) ≡ true
or_there true b h = refl
or_there false b h = h

made_more : (b : Bool) (e : Event) (F T M S : List Event) → F ++ T ≡ M → cond b (e ∷ M) M ≡ S → cond b (e ∷ F) F ++ T ≡ S
made_more true e F T M S h k = ap (λ (ys : List Event). e ∷ ys) h ∙ k
made_more false e F T M S h k = h ∙ k

both_false : (a b : Bool) (P Q R : Type 0) → (P → Q × (b ≡ false)) → (Q → R × (a ≡ false)) → P → R × ((a || b) ≡ false)
both_false a b P Q R f g p = let q = f p in let r = g q.0 in (r.0, or_none a b r.1 q.1)

some_true : (a b : Bool) (P Q R : Type 0) → (P → IsTrue a ⊎ Q) → (Q → IsTrue b ⊎ R) → P → IsTrue (a || b) ⊎ R
some_true a b P Q R f g p =
    elim (f p) [
      | inl h ↦ inl (or_here a b h)
      | inr q ↦ elim (g q) [ inl k ↦ inl (or_there a b k) | inr r ↦ inr r ]
    ]

told_more : (t : ℕ) (work : List Event) (p : Position) (x : Event × Reply) (xs : List (Event × Reply)) (m q : Position) → Step t work p.stage p.turns x.0 x.1 m → Recorded t work m xs q → Recorded t work p (x ∷ xs) q
told_more t work p x xs m q one k = record {
  turns = adds (one_if (waits_at x.0 x.1)) (wait_count xs) (wait_count (x ∷ xs)) q.turns m.turns p.turns (waits_more x xs) one.turns k.turns;
  stays = or_none (is_fail x.0) (fails xs) one.stays k.stays;
  before = both_false (is_commit_reply x.1) (has_commit xs) (IsTrue (open_at q.stage)) (IsTrue (open_at m.stage)) (IsTrue (open_at p.stage)) k.before one.before;
  behind = some_true (is_commit_reply x.1) (has_commit xs) (IsTrue (open_at p.stage)) (IsTrue (open_at m.stage)) (IsTrue (open_at q.stage)) one.behind k.behind;
  made = made_more (is_work t x.0) x.0 (work_of t (events_in xs)) (todo work q.stage) (todo work m.stage) (todo work p.stage) k.made one.made;
}

told_none : (t : ℕ) (work : List Event) (p : Position) → Recorded t work p [] p
told_none t work p = record { turns = zero_more p.turns; stays = refl; before = λ o. (o, refl); behind = λ o. inr o; made = refl }

pub told : (t : ℕ) (work : List Event) (p : Position) (xs : List (Event × Reply)) (q : Position) → AreWork t work → IsTrue (good p.stage) → Whole t work p xs q → Recorded t work p xs q
told t work p [] q all g h = subst (λ (z : Position). Recorded t work p [] z) h (told_none t work p)
told t work p (x ∷ xs) q all g h =
    let one : Step t work p.stage p.turns (event_at t work p.stage) x.1 h.1.0 = step_at t work p.stage p.turns x.1 h.1.0 all g h.1.1 h.1.2 in
    told_more t work p x xs h.1.0 q (subst (λ (e : Event). Step t work p.stage p.turns e x.1 h.1.0) (sym h.0) one) (told t work h.1.0 xs q all h.1.2 h.1.3)

-- what any piece of a transcript counts, and what two pieces count together
pub record Sums (t : ℕ) (xs : List (Event × Reply)) (n : ℕ) (f c : Bool) (made : List Event) : Type 0 where
  pub turns : wait_count xs ≡ n
  pub stays : fails xs ≡ f
  pub ends : has_commit xs ≡ c
  pub work : work_of t (events_in xs) ≡ made

or_assoc : (a b c : Bool) → (a || (b || c)) ≡ ((a || b) || c)
or_assoc true b c = refl
or_assoc false b c = refl

any_append : {X : Type 0} (p : X → Bool) (xs ys : List X) → list_any p (xs ++ ys) ≡ (list_any p xs || list_any p ys)
any_append p [] ys = refl
any_append p (x ∷ xs) ys = rw (any_append p xs ys) (or_assoc (p x) (list_any p xs) (list_any p ys))

pub sums_append : (t : ℕ) (xs ys : List (Event × Reply)) (n k : ℕ) (f g c d : Bool) (made more : List Event) → Sums t xs n f c made → Sums t ys k g d more → Sums t (xs ++ ys) (n + k) (f || g) (c || d) (made ++ more)
sums_append t xs ys n k f g c d made more h i =
    let one = sum_by-append (λ (x : Event × Reply). one_if (waits_at x.0 x.1)) xs ys in
    let two = any_append (λ (x : Event × Reply). is_fail x.0) xs ys in
    let three = any_append (λ (x : Event × Reply). is_commit_reply x.1) xs ys in
    let four : work_of t (events_in (xs ++ ys)) ≡ work_of t (events_in xs) ++ work_of t (events_in ys) =
    ap (work_of t) (map-append (λ (x : Event × Reply). x.0) xs ys) ∙ filter-append (is_work t) (events_in xs) (events_in ys) in
    record {
      turns = one ∙ rw (h.turns, i.turns) refl;
      stays = two ∙ rw (h.stays, i.stays) refl;
      ends = three ∙ rw (h.ends, i.ends) refl;
      work = four ∙ rw (h.work, i.work) refl;
    }

or_nothing : (a b : Bool) → a ≡ b → (a || false) ≡ b
or_nothing true b h = h
or_nothing false b h = h

pub sums_one : (t : ℕ) (x : Event × Reply) (n : ℕ) (f c : Bool) (made : List Event) → one_if (waits_at x.0 x.1) ≡ n → is_fail x.0 ≡ f → is_commit_reply x.1 ≡ c → cond (is_work t x.0) (x.0 ∷ []) [] ≡ made → Sums t (x ∷ []) n f c made
sums_one t x n f c made h i j k = record {
  turns = omega (arith, h);
  stays = or_nothing (is_fail x.0) f i;
  ends = or_nothing (is_commit_reply x.1) c j;
  work = k;
}
