-- Plays, and twins: histories after which each transaction can do the same, and which have one outcome if nothing more
-- is done.
use Rattle.std.specs.List.{All}
use Rattle.std.specs.Prelude.{ℕ, ◌≡◌, List, length, map}
use Rattle.hek_rules.specs.declared.event.Event.{Event}
use Rattle.hek_rules.specs.declared.reply.Reply.{Reply}
use Rattle.hek_rules.specs.Plan.{Plan}
use Rattle.hek_rules.specs.Run.{run, transcript}
use Rattle.hek_rules.specs.World.{World}
use Rattle.hek_laws.specs.Runs.{IsPlaced}
use Rattle.hek_machine.specs.Observed.{opening_of}
use Rattle.hek_similar.specs.Alike.{Alike, bare_reply}
use Rattle.hek_similar.specs.Places.{ScansGroup}
use Rattle.hek_similar.specs.Verdicts.{ToldAlike}
use Rattle.hek_worker.specs.declared.entry.Entry.{Entry}
use Rattle.hek_worker.specs.History.{IsHistory, history_events, replies_in}
use Rattle.hek_permute.specs.declared.moves.Form.{Form}
use Rattle.hek_permute.specs.declared.play.Place.{Place}
use Rattle.hek_permute.specs.Moves.{Work}
use Rattle.hek_permute.specs.Outcomes.{end_in, has_wait}
use Rattle.hek_permute.specs.Plays.{Plays}
use Rattle.hek_explore.specs.Groups.{group_in}

-- the world of the rule table after a history
abbrev pub world_after : Plan → List Entry → World
world_after p h = run (opening_of p 1) (history_events h)

-- each event with its reply
abbrev pub steps_in : List Entry → List (Event × Reply)
steps_in h = map (λ (x : Entry). (x.event, x.reply)) h

-- an entry without its reply's time and place
abbrev pub bare_entry : Entry → Entry
bare_entry x = record x { reply = bare_reply x.reply }

-- the play of these moves, the last one first, with the replies of the rule table; it leads to these places; the keys of
-- each bucket that it scans are of one group
pub record HasPlayed (p : Plan) (form : Form) (works : List Work) (past : List ℕ) (places : List Place) (h : List Entry) : Type 0 where
  pub formed : IsHistory (length p.txns) h
  pub placed : All (IsPlaced p.buckets) (history_events h)
  pub scans : All (ScansGroup (group_in p) p.buckets) (history_events h)
  pub replies : replies_in h ≡ map (λ (x : Event × Reply). x.1) (transcript (opening_of p 1) (history_events h))
  pub play : Plays form works past places h

-- The worlds after both histories are alike, and what decides the outcome is equal: the order in which end times were
-- drawn, what each transaction read, wrote and committed, how it ended, and whether a transaction had to wait.
pub record AreTwins (p : Plan) (h k : List Entry) : Type 0 where
  pub worlds : Alike (group_in p) (world_after p h) (world_after p k)
  pub told : ToldAlike (steps_in h) (steps_in k)
  pub ends : (t : ℕ) → end_in t h ≡ end_in t k
  pub waited : has_wait h ≡ has_wait k
