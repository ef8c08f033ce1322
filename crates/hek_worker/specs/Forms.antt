-- Transcripts in plain words: the order of their events, their reads and writes, and how often they wait.
use Rattle.std.specs.Prelude.{ℕ, ◌≡◌, ◌≢◌, ◌+◌, ◌≤◌, ◌⊎◌, ◌↔◌, Bool, true, false, IsTrue, List, [], ◌∷◌, ◌++◌, length, map, count_by}
use Rattle.std.specs.List.{All, AllByRecursion, AllZip, zip, flat_map, list_any}
use Rattle.hek_rules.specs.declared.event.Cause.{Cause}
use Rattle.hek_rules.specs.declared.event.Event.{Event}
use Rattle.hek_rules.specs.declared.event.Event.TheVariants.{Begin, Finish, Precommit, Release, Commit, Fail, Stamp, End, Detect}
use Rattle.hek_rules.specs.declared.reply.Refusal.{Refusal}
use Rattle.hek_rules.specs.declared.reply.Reply.{Reply}
use Rattle.hek_rules.specs.declared.reply.Reply.TheVariants.{Began, Ready, Waiting, Precommitted, ReleasedRead, ReleasedBucket, ReleasedWaiter, Nothing, Committed, WaitingCommits, Failed, StampedBegin, StampedEnd, Left, Over, NoCycle, Victim, Aborted, Refused}
use Rattle.hek_worker.specs.Grammar.{answers, work_of}

-- one event repeated, with these replies
abbrev pub each : Event → List Reply → List (Event × Reply)
each e rs = map (λ r. (e, r)) rs

abbrev pub is_freed : Reply → Bool
is_freed (ReleasedRead v writer) = true
is_freed (ReleasedBucket bucket) = true
is_freed (ReleasedWaiter t) = true
is_freed _ = false

abbrev pub is_stamped : Reply → Bool
is_stamped (StampedBegin v) = true
is_stamped (StampedEnd v) = true
is_stamped (Left v) = true
is_stamped _ = false

abbrev pub is_search_reply : Reply → Bool
is_search_reply NoCycle = true
is_search_reply (Victim t cycle) = true
is_search_reply _ = false

-- a precommit that must wait for x.0 things, and then a search for a deadlock
abbrev pub look : ℕ → ℕ × Reply → List (Event × Reply)
look t x = (Precommit t, Waiting x.0) ∷ (Detect, x.1) ∷ []

-- a commit that must wait for k transactions
abbrev pub pend : ℕ → ℕ → Event × Reply
pend t k = (Commit t, WaitingCommits k)

-- a full transcript, whose transaction does not abort: begin; the reads and writes, each with a reply of its kind;
-- finish; searches for a deadlock, each after a precommit that waits; the precommit; releases, of which only the last
-- answers Nothing; commits that wait; the commit; stamps, of which only the last answers Nothing; the end. At most
-- `turns` of its events wait
pub record IsFull (t : ℕ) (work : List Event) (turns : ℕ) (xs : List (Event × Reply)) : Type 0 where
  pub began : ℕ
  pub answered : List Reply
  pub looks : List (ℕ × Reply)
  pub ended : ℕ
  pub freed : List Reply
  pub pending : List ℕ
  pub stamped : List Reply
  pub order : xs ≡ (Begin t, Began began) ∷ zip work answered
      ++ (Finish t, Ready) ∷ flat_map (look t) looks
      ++ (Precommit t, Precommitted ended) ∷ each (Release t) freed
      ++ (Release t, Nothing) ∷ map (pend t) pending
      ++ (Commit t, Committed) ∷ each (Stamp t) stamped
      ++ (Stamp t, Nothing) ∷ (End t, Over) ∷ []
  pub done : AllZip (λ e r. IsTrue (answers e r)) work answered
  pub searches : AllByRecursion (λ x. IsTrue (is_search_reply x.1)) looks
  pub releases : AllByRecursion (λ r. IsTrue (is_freed r)) freed
  pub stamps : AllByRecursion (λ r. IsTrue (is_stamped r)) stamped
  pub within : length looks + length pending ≤ turns

-- event e comes next after these in some full transcript
pub record StandsNext (t : ℕ) (work : List Event) (turns : ℕ) (xs : List (Event × Reply)) (e : Event) : Type 0 where
  pub reply : Reply
  pub later : List (Event × Reply)
  pub full : IsFull t work turns (xs ++ (e, reply) ∷ later)

-- what a transaction does once it has aborted: releases and stamps until each answers Nothing, and the end
pub record IsRest (t : ℕ) (xs : List (Event × Reply)) : Type 0 where
  pub freed : List Reply
  pub stamped : List Reply
  pub order : xs ≡ each (Release t) freed
      ++ (Release t, Nothing) ∷ each (Stamp t) stamped
      ++ (Stamp t, Nothing) ∷ (End t, Over) ∷ []
  pub releases : AllByRecursion (λ r. IsTrue (is_freed r)) freed
  pub stamps : AllByRecursion (λ r. IsTrue (is_stamped r)) stamped

-- an event that can be answered Aborted: the transaction's own, up to its commit
abbrev pub may_abort : Event → Bool
may_abort Detect = false
may_abort (Stamp t) = false
may_abort (End t) = false
may_abort e = true

-- a transcript cut short by an abort: the front of a full one, the event that comes next in it, answered Aborted, and
-- what an aborted transaction does
pub record IsAborted (t : ℕ) (work : List Event) (turns : ℕ) (xs : List (Event × Reply)) : Type 0 where
  pub front : List (Event × Reply)
  pub next : Event
  pub cause : Cause
  pub rest : List (Event × Reply)
  pub order : xs ≡ front ++ (next, Aborted cause) ∷ rest
  pub stands : StandsNext t work turns front next
  pub early : IsTrue (may_abort next)
  pub left : IsRest t rest

-- whether a reply says that the event must wait
abbrev pub waits_at : Event → Reply → Bool
waits_at (Precommit t) (Waiting k) = true
waits_at (Commit t) (WaitingCommits k) = true
waits_at _ _ = false

-- how many events of a transcript must wait
abbrev pub wait_count : List (Event × Reply) → ℕ
wait_count xs = count_by (λ x. waits_at x.0 x.1) xs

abbrev pub is_given_up : Reply → Bool
is_given_up Failed = true
is_given_up (Aborted c) = true
is_given_up _ = false

-- a transcript given up without a turn: the front of a full one that has used all turns, the precommit or commit that
-- comes next in it and must wait once more, then fail, and what an aborted transaction does
pub record IsGivenUp (t : ℕ) (work : List Event) (turns : ℕ) (xs : List (Event × Reply)) : Type 0 where
  pub front : List (Event × Reply)
  pub next : Event
  pub reply : Reply
  pub answer : Reply
  pub rest : List (Event × Reply)
  pub order : xs ≡ front ++ (next, reply) ∷ (Fail t, answer) ∷ rest
  pub stands : StandsNext t work turns front next
  pub used : wait_count front ≡ turns
  pub again : IsTrue (waits_at next reply)
  pub given : IsTrue (is_given_up answer)
  pub left : IsRest t rest

abbrev pub events_in : List (Event × Reply) → List Event
events_in xs = map (λ x. x.0) xs

abbrev pub is_commit_reply : Reply → Bool
is_commit_reply Committed = true
is_commit_reply _ = false

-- some event was answered Committed
abbrev pub has_commit : List (Event × Reply) → Bool
has_commit xs = list_any (λ x. is_commit_reply x.1) xs

abbrev pub is_fail : Event → Bool
is_fail (Fail t) = true
is_fail _ = false

-- some event is a fail
abbrev pub fails : List (Event × Reply) → Bool
fails xs = list_any (λ x. is_fail x.0) xs

-- begin is the first event, and the end, answered Over, the last; neither occurs in between
pub record BeginsAndEnds (t : ℕ) (xs : List (Event × Reply)) : Type 0 where
  pub reply : Reply
  pub between : List (Event × Reply)
  pub order : xs ≡ (Begin t, reply) ∷ between ++ (End t, Over) ∷ []
  pub once : AllByRecursion (λ x. (x.0 ≢ Begin t) × (x.0 ≢ End t)) between

-- the reads and writes are the first ones of the transaction, in order; all of them, if it committed
pub record KeepsOrder (t : ℕ) (work : List Event) (xs : List (Event × Reply)) : Type 0 where
  pub left : List Event
  pub order : work ≡ work_of t (events_in xs) ++ left
  pub all : IsTrue (has_commit xs) → left ≡ []

-- a transcript waits at most once more than it has turns; it has a fail exactly if it waits once more
pub record KeepsTurns (turns : ℕ) (xs : List (Event × Reply)) : Type 0 where
  pub most : wait_count xs ≤ turns + 1
  pub gives_up : IsTrue (fails xs) ↔ (wait_count xs ≡ turns + 1)

-- the three forms of a transcript: full, cut short by an abort, given up without a turn
abbrev pub HasForm : ℕ → List Event → ℕ → List (Event × Reply) → Type 0
HasForm t work turns xs = IsFull t work turns xs ⊎ (IsAborted t work turns xs ⊎ IsGivenUp t work turns xs)

-- all that the laws say of a transcript
pub record IsLawful (t : ℕ) (work : List Event) (turns : ℕ) (xs : List (Event × Reply)) : Type 0 where
  pub ends : BeginsAndEnds t xs
  pub order : KeepsOrder t work xs
  pub waiting : KeepsTurns turns xs
  pub form : HasForm t work turns xs
  pub full : IsTrue (has_commit xs) ↔ IsFull t work turns xs
  pub taken : (why : Refusal) → All (λ x. x.1 ≢ Refused why) xs
