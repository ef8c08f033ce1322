-- What a verdict of serial order rests on if all transactions are taken as serializable: which transactions committed,
-- in which order they drew their end times, and what each of them read and wrote. No times.
use Rattle.std.specs.List.{All}
use Rattle.std.specs.Prelude.{◌≡◌, ℕ, Bool, true, false, not, ◌&&◌, List, [], ◌∷◌, ◌++◌, map, filter}
use Rattle.hek_rules.specs.declared.event.Level.TheVariants.{Serializable}
use Rattle.hek_rules.specs.declared.event.Event.{Event}
use Rattle.hek_rules.specs.declared.event.Event.TheVariants as event
use Rattle.hek_rules.specs.declared.reply.Reply.{Reply}
use Rattle.hek_rules.specs.declared.reply.Reply.TheVariants as reply
use Rattle.hek_rules.specs.Recorded.{Recorded}
use Rattle.hek_rules.specs.World.{opening}
use Rattle.hek_rules.specs.Run.{transcript}
use Rattle.hek_rules.specs.Listing.{is_among}
use Rattle.hek_rules.specs.Events.{txn_of}
use Rattle.hek_rules.specs.Serial.{lay_all, writes_of, committed_in, is_of, AreRight}
use Rattle.hek_rules.specs.Faults.{is_declared}
use Rattle.hek_laws.specs.Runs.{HasDistinctKeys, IsFirstClock}
use Rattle.hek_similar.specs.Similar.{timeless_step}

abbrev pub is_refused : Reply → Bool
is_refused (reply.Refused why) = true
is_refused r = false

-- a read or a write that wasn't refused, or a commit that was done
abbrev pub counts : Event → Reply → Bool
counts (event.Read t key) r = not (is_refused r)
counts (event.Scan t bucket) r = not (is_refused r)
counts (event.Insert t key value) r = not (is_refused r)
counts (event.Update t key value) r = not (is_refused r)
counts (event.Delete t key) r = not (is_refused r)
counts (event.Commit t) reply.Committed = true
counts e r = false

-- what t did that counts, in order, without times
abbrev pub judged_part : ℕ → List (Event × Reply) → List (Event × Reply)
judged_part t history = filter (λ p. is_of t p.0 && counts p.0 p.1) (map timeless_step history)

-- the transaction that draws its end time by an event with this reply
abbrev pub drawn_by : Event → Reply → List ℕ
drawn_by (event.Precommit t) (reply.Precommitted time) = t ∷ []
drawn_by e r = []

-- the transactions that drew their end times, in the order of the draws
abbrev pub drawn_in : List (Event × Reply) → List ℕ
drawn_in [] = []
drawn_in (p ∷ ps) = drawn_by p.0 p.1 ++ drawn_in ps

-- the committed transactions, in the order in which they drew their end times
abbrev pub ended_in : List (Event × Reply) → List ℕ
ended_in history = filter (λ t. is_among (committed_in history) t) (drawn_in history)

-- Each of these transactions in turn, alone on the rows that those before it leave, would get the replies that it got.
abbrev pub AreRightInTurn : ℕ → (ℕ → List (Event × Reply)) → List (ℕ × ℕ) → List ℕ → Type 0
AreRightInTurn buckets part rows [] = Unit {0}
AreRightInTurn buckets part rows (t ∷ ts) =
    AreRight Serializable buckets t rows (part t) × AreRightInTurn buckets part (lay_all (writes_of t (part t)) rows) ts

-- the transcript with all its transactions taken as serializable
abbrev pub as_serializable : Recorded → Recorded
as_serializable s = record s { levels = map (λ _. Serializable) s.levels }

-- the transcript is that of a run, from some first clock, and each event is of a declared transaction, or of none
pub record RecordsRun (s : Recorded) : Type 0 where
  pub clock : ℕ
  pub events : List Event
  pub distinct : HasDistinctKeys s.rows
  pub first : IsFirstClock clock
  pub declared : All (λ e. is_declared s.levels (txn_of e) ≡ true) events
  pub history : s.history ≡ transcript (opening s.buckets s.rows s.levels clock) events

-- ---- histories that can be taken for one another

-- the same transactions committed, drew their end times in the same order, and did the same
pub record JudgedAlike (h g : List (Event × Reply)) : Type 0 where
  pub ended : ended_in h ≡ ended_in g
  pub parts : (t : ℕ) → is_among (ended_in h) t ≡ true → judged_part t h ≡ judged_part t g

-- the same transactions drew their end times in the same order, and each transaction, committed or not, did the same
pub record ToldAlike (h g : List (Event × Reply)) : Type 0 where
  pub drawn : drawn_in h ≡ drawn_in g
  pub parts : (t : ℕ) → judged_part t h ≡ judged_part t g
