-- Each order of moves has one play, and so one outcome; the moves of a plain schedule are constants.
use Rattle.std.specs.Prelude.{ℕ, ◌≡◌, Bool, false, ◌||◌, List, [], ◌∷◌, length, map}
use Rattle.hek_rules.specs.declared.event.Event.{Event}
use Rattle.hek_rules.specs.declared.reply.Reply.{Reply}
use Rattle.hek_rules.specs.Plan.{Plan}
use Rattle.hek_rules.specs.Run.{transcript}
use Rattle.hek_program.specs.declared.rule.Act.TheVariants.{Makes}
use Rattle.hek_machine.specs.Observed.{opening_of}
use Rattle.hek_worker.specs.declared.entry.Entry.{Entry}
use Rattle.hek_worker.specs.Grammar.{work_of}
use Rattle.hek_worker.specs.History.{history_events, replies_in}
use Rattle.hek_permute.specs.declared.moves.Form.{Form}
use Rattle.hek_permute.specs.Found.{Found}
use Rattle.hek_permute.specs.Moves.{Work, is_fail_of, work_in}
use Rattle.hek_permute.specs.Plays.{IsPlay, Shown, shown}
use Rattle.hek_permute.specs.Tallies.{IsPlayed}

-- a play of these moves, the last one first, with the replies of the rule table
pub record IsPlayOf (p : Plan) (form : Form) (works : List Work) (past : List ℕ) (h : List Entry) : Type 0 where
  pub play : IsPlay form works past h
  pub replies : replies_in h ≡ map (λ (x : Event × Reply). x.1) (transcript (opening_of p 1) (history_events h))

abbrev pub EachOrderHasOnePlay : Type 0
EachOrderHasOnePlay =
    (p : Plan) (form : Form) (works : List Work) (past : List ℕ) (h k : List Entry) →
    IsPlayOf p form works past h →
    IsPlayOf p form works past k →
    h ≡ k

abbrev pub EachOrderHasOneOutcome : Type 0
EachOrderHasOneOutcome =
    (p : Plan) (form : Form) (works : List Work) (order : List ℕ) (o q : Found) →
    IsPlayed p form works order o →
    IsPlayed p form works order q →
    o ≡ q

-- the transaction has a step fail
abbrev pub has_fail_step : ℕ → List Event → Bool
has_fail_step t [] = false
has_fail_step t (e ∷ es) = is_fail_of t e || has_fail_step t es

-- what the transaction does without rules: its reads and writes, each the event that it is
abbrev pub plain_shown : ℕ → List Event → Shown
plain_shown t steps = record { acts = map Makes (work_of t steps); count = length (work_of t steps); fails = has_fail_step t steps }

-- Without rules a transaction's moves are its reads and writes, whatever it has seen.
abbrev pub PlainMovesAreConstant : Type 0
PlainMovesAreConstant = (p : Plan) (t : ℕ) (own : List (Event × Reply)) → shown (work_in p [] t) own ≡ plain_shown t p.steps
