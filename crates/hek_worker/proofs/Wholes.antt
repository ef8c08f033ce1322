-- The part of a transcript in which its transaction goes on.
use Rattle.std.proofs.Common.{◌≡◌, ◌⊎◌, inl, inr, ℕ, ◌+◌, ◌-◌, List, [], ◌∷◌, ◌++◌, Bool, true, false, not, Some, None, refl, ap, sym, subst, length, IsTrue}
use Rattle.std.specs.Prelude.{◌==◌, nat_lt, if◌then◌else◌}
use Rattle.std.proofs.lemmas.Bool.{eqb-true}
use Rattle.hek_rules.specs.declared.event.Cause.{Cause}
use Rattle.hek_rules.specs.declared.event.Event.{Event}
use Rattle.hek_rules.specs.declared.reply.Reply.{Reply}
use Rattle.hek_rules.specs.declared.reply.Reply.TheVariants.{Began, Waiting, Precommitted, ReleasedRead, ReleasedBucket, ReleasedWaiter, Nothing, Committed, WaitingCommits, StampedBegin, StampedEnd, Left, Over, NoCycle, Victim, Aborted}
use Rattle.hek_worker.specs.declared.stage.Stage.{Stage}
use Rattle.hek_worker.specs.declared.stage.Stage.TheVariants.{Start, Working, Preparing, Looking, GivingUp, Releasing, Committing, Stamping, Ending, Ended}
use Rattle.hek_worker.specs.declared.stage.Position.{Position}
use Rattle.hek_worker.specs.Grammar.{Leads, event_at, position_after, after_start, after_work, after_precommit, after_look, after_release, after_commit, after_stamp, after_end, answers, at}
use Rattle.hek_worker.specs.Forms.{waits_at}

-- the transaction has neither aborted nor run out of turns
abbrev pub good : Stage → Bool
good GivingUp = false
good (Releasing cut) = not cut
good (Stamping cut) = not cut
good _ = true

-- whether a transcript can stop at a stage
abbrev pub may_stop : Stage → Bool
may_stop Start = true
may_stop (Working i) = true
may_stop Preparing = true
may_stop (Releasing cut) = not cut
may_stop Committing = true
may_stop _ = false

abbrev pub spot : Stage → ℕ → Position
spot s n = record { stage = s; turns = n }

-- these events and replies lead from p to q, and the transaction goes on all the way
abbrev pub Whole : ℕ → List Event → Position → List (Event × Reply) → Position → Type 0
Whole t work p [] q = p ≡ q
Whole t work p (x ∷ xs) q =
    (x.0 ≡ event_at t work p.stage)
    × ((m : Position) × (position_after t work p.stage p.turns x.1 ≡ Some m) × IsTrue (good m.stage) × Whole t work m xs q)

abbrev pub Aborts : Stage → ℕ → Reply → Position → Type 0
Aborts s n r m = (c : Cause) × (r ≡ Aborted c) × (m ≡ spot (Releasing true) n) × IsTrue (may_stop s)

abbrev pub Tires : ℕ → List Event → Stage → ℕ → Reply → Position → Type 0
Tires t work s n r m = (n ≡ 0) × (m ≡ spot GivingUp 0) × IsTrue (may_stop s) × IsTrue (waits_at (event_at t work s) r)

abbrev pub Goes : ℕ → List Event → Stage → ℕ → Reply → Position → Type 0
Goes t work s n r m = IsTrue (good m.stage) ⊎ (Aborts s n r m ⊎ Tires t work s n r m)

pub lands : (s : Stage) (n : ℕ) (m : Position) → at s n ≡ Some m → m ≡ spot s n
lands s n m h = cc

pub moved : (P : Position → Type 0) (s : Stage) (n : ℕ) (m : Position) → at s n ≡ Some m → P m → P (spot s n)
moved P s n m h p = subst P (lands s n m h) p

pub goes : (s : Stage) (n : ℕ) (m : Position) → at s n ≡ Some m → IsTrue (good s) → IsTrue (good m.stage)
goes s n m h g = subst (λ (p : Position). IsTrue (good p.stage)) (sym (lands s n m h)) g

start_goes : (t : ℕ) (work : List Event) (n : ℕ) (r : Reply) (m : Position) → after_start n r ≡ Some m → Goes t work Start n r m
start_goes t work n (Began time) m h = inl (goes (Working 0) n m h refl)
start_goes t work n (Aborted c) m h = inr (inl (c, refl, lands (Releasing true) n m h, refl))
start_goes t work n r m h = absurd (cc)

work_good : (b c : Bool) (i n : ℕ) (m : Position) → (if b then (if c then at (Working (i + 1)) n else at Preparing n) else None) ≡ Some m → IsTrue (good m.stage)
work_good true true i n m h = goes (Working (i + 1)) n m h refl
work_good true false i n m h = goes Preparing n m h refl
work_good false c i n m h = absurd (cc)

work_goes : (t : ℕ) (work : List Event) (i n : ℕ) (r : Reply) (m : Position) → after_work t work i n r ≡ Some m → Goes t work (Working i) n r m
work_goes t work i n (Aborted c) m h = inr (inl (c, refl, lands (Releasing true) n m h, refl))
work_goes t work i n r m h = inl (work_good (answers (event_at t work (Working i)) r) (nat_lt i (length work)) i n m h)

-- a wait, with a turn left and without one
pub waits_or : (b : Bool) (s : Stage) (n : ℕ) (m : Position) → (if b then at GivingUp 0 else at s (n - 1)) ≡ Some m
    → ((b ≡ true) × (m ≡ spot GivingUp 0)) ⊎ ((b ≡ false) × (m ≡ spot s (n - 1)))
waits_or true s n m h = inl (refl, lands GivingUp 0 m h)
waits_or false s n m h = inr (refl, lands s (n - 1) m h)

wait_goes : (t : ℕ) (work : List Event) (w s : Stage) (n : ℕ) (r : Reply) (m : Position) → (if n == 0 then at GivingUp 0 else at s (n - 1)) ≡ Some m
    → IsTrue (good s) → IsTrue (may_stop w) → IsTrue (waits_at (event_at t work w) r) → Goes t work w n r m
wait_goes t work w s n r m h g stop is =
    elim (waits_or (n == 0) s n m h) [
      | inl k ↦ inr (inr (eqb-true n 0 k.0, k.1, stop, is))
      | inr k ↦ inl (subst (λ (p : Position). IsTrue (good p.stage)) (sym k.1) g)
    ]

precommit_goes : (t : ℕ) (work : List Event) (n : ℕ) (r : Reply) (m : Position) → after_precommit n r ≡ Some m → Goes t work Preparing n r m
precommit_goes t work n (Waiting k) m h = wait_goes t work Preparing Looking n (Waiting k) m h refl refl refl
precommit_goes t work n (Precommitted time) m h = inl (goes (Releasing false) n m h refl)
precommit_goes t work n (Aborted c) m h = inr (inl (c, refl, lands (Releasing true) n m h, refl))
precommit_goes t work n r m h = absurd (cc)

look_goes : (t : ℕ) (work : List Event) (n : ℕ) (r : Reply) (m : Position) → after_look n r ≡ Some m → Goes t work Looking n r m
look_goes t work n NoCycle m h = inl (goes Preparing n m h refl)
look_goes t work n (Victim u cycle) m h = inl (goes Preparing n m h refl)
look_goes t work n r m h = absurd (cc)

release_goes : (t : ℕ) (work : List Event) (n : ℕ) (r : Reply) (m : Position) → after_release false n r ≡ Some m → Goes t work (Releasing false) n r m
release_goes t work n (ReleasedRead v w) m h = inl (goes (Releasing false) n m h refl)
release_goes t work n (ReleasedBucket b) m h = inl (goes (Releasing false) n m h refl)
release_goes t work n (ReleasedWaiter u) m h = inl (goes (Releasing false) n m h refl)
release_goes t work n Nothing m h = inl (goes Committing n m h refl)
release_goes t work n (Aborted c) m h = inr (inl (c, refl, lands (Releasing true) n m h, refl))
release_goes t work n r m h = absurd (cc)

commit_goes : (t : ℕ) (work : List Event) (n : ℕ) (r : Reply) (m : Position) → after_commit n r ≡ Some m → Goes t work Committing n r m
commit_goes t work n (WaitingCommits k) m h = wait_goes t work Committing Committing n (WaitingCommits k) m h refl refl refl
commit_goes t work n Committed m h = inl (goes (Stamping false) n m h refl)
commit_goes t work n (Aborted c) m h = inr (inl (c, refl, lands (Releasing true) n m h, refl))
commit_goes t work n r m h = absurd (cc)

stamp_goes : (t : ℕ) (work : List Event) (n : ℕ) (r : Reply) (m : Position) → after_stamp false n r ≡ Some m → Goes t work (Stamping false) n r m
stamp_goes t work n (StampedBegin v) m h = inl (goes (Stamping false) n m h refl)
stamp_goes t work n (StampedEnd v) m h = inl (goes (Stamping false) n m h refl)
stamp_goes t work n (Left v) m h = inl (goes (Stamping false) n m h refl)
stamp_goes t work n Nothing m h = inl (goes Ending n m h refl)
stamp_goes t work n r m h = absurd (cc)

end_goes : (t : ℕ) (work : List Event) (n : ℕ) (r : Reply) (m : Position) → after_end n r ≡ Some m → Goes t work Ending n r m
end_goes t work n Over m h = inl (goes Ended n m h refl)
end_goes t work n r m h = absurd (cc)

-- from a good stage a transaction goes on, aborts or runs out of turns
pub step_goes : (t : ℕ) (work : List Event) (s : Stage) (n : ℕ) (r : Reply) (m : Position) → IsTrue (good s) → position_after t work s n r ≡ Some m → Goes t work s n r m
step_goes t work Start n r m g h = start_goes t work n r m h
step_goes t work (Working i) n r m g h = work_goes t work i n r m h
step_goes t work Preparing n r m g h = precommit_goes t work n r m h
step_goes t work Looking n r m g h = look_goes t work n r m h
step_goes t work GivingUp n r m g h = absurd (cc)
step_goes t work (Releasing true) n r m g h = absurd (cc)
step_goes t work (Releasing false) n r m g h = release_goes t work n r m h
step_goes t work Committing n r m g h = commit_goes t work n r m h
step_goes t work (Stamping true) n r m g h = absurd (cc)
step_goes t work (Stamping false) n r m g h = stamp_goes t work n r m h
step_goes t work Ending n r m g h = end_goes t work n r m h
step_goes t work Ended n r m g h = absurd (cc)

-- where a transcript stops going on
pub record Stops (t : ℕ) (work : List Event) (p : Position) (xs : List (Event × Reply)) (end : Position) : Type 0 where
  pub front : List (Event × Reply)
  pub x : Event × Reply
  pub rest : List (Event × Reply)
  pub mid : Position
  pub bad : Position
  pub order : xs ≡ front ++ x ∷ rest
  pub whole : Whole t work p front mid
  pub event : x.0 ≡ event_at t work mid.stage
  pub fine : IsTrue (good mid.stage)
  pub stop : Aborts mid.stage mid.turns x.1 bad ⊎ Tires t work mid.stage mid.turns x.1 bad
  pub later : Leads t work bad rest end

more : (t : ℕ) (work : List Event) (p : Position) (x : Event × Reply) (xs : List (Event × Reply)) (q m : Position)
    → x.0 ≡ event_at t work p.stage → position_after t work p.stage p.turns x.1 ≡ Some m → IsTrue (good m.stage)
    → Whole t work m xs q ⊎ Stops t work m xs q → Whole t work p (x ∷ xs) q ⊎ Stops t work p (x ∷ xs) q
more t work p x xs q m here to fine (inl w) = inl (here, (m, to, fine, w))
more t work p x xs q m here to fine (inr s) = inr (record {
  front = x ∷ s.front;
  x = s.x;
  rest = s.rest;
  mid = s.mid;
  bad = s.bad;
  order = ap (λ (ys : List (Event × Reply)). x ∷ ys) s.order;
  whole = (here, (m, to, fine, s.whole));
  event = s.event;
  fine = s.fine;
  stop = s.stop;
  later = s.later;
})

-- a transcript goes on to the end, or stops somewhere
pub whole_or_stops : (t : ℕ) (work : List Event) (p : Position) (xs : List (Event × Reply)) (q : Position) → IsTrue (good p.stage) → Leads t work p xs q
    → Whole t work p xs q ⊎ Stops t work p xs q
whole_or_stops t work p [] q g h = inl h
whole_or_stops t work p (x ∷ xs) q g h =
    elim (step_goes t work p.stage p.turns x.1 h.1.0 g h.1.1) [
      | inl fine ↦ more t work p x xs q h.1.0 h.0 h.1.1 fine (whole_or_stops t work h.1.0 xs q fine h.1.2)
      | inr stop ↦ inr (record {
        front = [];
        x = x;
        rest = xs;
        mid = p;
        bad = h.1.0;
        order = refl;
        whole = refl;
        event = h.0;
        fine = g;
        stop = stop;
        later = h.1.2;
      })
    ]

pub whole_leads : (t : ℕ) (work : List Event) (p : Position) (xs : List (Event × Reply)) (q : Position) → Whole t work p xs q → Leads t work p xs q
whole_leads t work p [] q h = h
whole_leads t work p (x ∷ xs) q h = (h.0, (h.1.0, h.1.1, whole_leads t work h.1.0 xs q h.1.3))

pub leads_append : (t : ℕ) (work : List Event) (p : Position) (xs ys : List (Event × Reply)) (m q : Position) → Leads t work p xs m → Leads t work m ys q → Leads t work p (xs ++ ys) q
leads_append t work p [] ys m q h k = subst (λ (z : Position). Leads t work z ys q) (sym h) k
leads_append t work p (x ∷ xs) ys m q h k = (h.0, (h.1.0, h.1.1, leads_append t work h.1.0 xs ys m q h.1.2 k))

pub whole_append : (t : ℕ) (work : List Event) (p : Position) (xs ys : List (Event × Reply)) (m q : Position) → Whole t work p xs m → Whole t work m ys q → Whole t work p (xs ++ ys) q
whole_append t work p [] ys m q h k = subst (λ (z : Position). Whole t work z ys q) (sym h) k
whole_append t work p (x ∷ xs) ys m q h k = (h.0, (h.1.0, h.1.1, h.1.2, whole_append t work h.1.0 xs ys m q h.1.3 k))

-- a whole transcript, cut in two
pub record Cut (t : ℕ) (work : List Event) (p : Position) (xs ys : List (Event × Reply)) (q : Position) : Type 0 where
  pub mid : Position
  pub fine : IsTrue (good mid.stage)
  pub before : Whole t work p xs mid
  pub behind : Whole t work mid ys q

pub whole_cut : (t : ℕ) (work : List Event) (p : Position) (xs ys : List (Event × Reply)) (q : Position) → IsTrue (good p.stage) → Whole t work p (xs ++ ys) q → Cut t work p xs ys q
whole_cut t work p [] ys q g h = record { mid = p; fine = g; before = refl; behind = h }
whole_cut t work p (x ∷ xs) ys q g h =
    let c = whole_cut t work h.1.0 xs ys q h.1.2 h.1.3 in
    record { mid = c.mid; fine = c.fine; before = (h.0, (h.1.0, h.1.1, h.1.2, c.before)); behind = c.behind }
