-- How a move leads from one key to another.
use Rattle.std.specs.Prelude.{ℕ, ◌≡◌, ◌+◌, ◌<◌, ◌≤◌, List, ◌∷◌, length, reverse}
use Rattle.hek_rules.specs.Checks.{clock_end}
use Rattle.hek_rules.specs.Plan.{Plan}
use Rattle.hek_program.specs.declared.rule.Rule.{Rule}
use Rattle.hek_worker.specs.declared.entry.Entry.{Entry}
use Rattle.hek_permute.specs.declared.moves.Form.{Form}
use Rattle.hek_permute.specs.declared.play.Place.{Place}
use Rattle.hek_permute.specs.Found.{Found}
use Rattle.hek_permute.specs.Moves.{Work, AreMoves}
use Rattle.hek_permute.specs.Plays.{Plays}
use Rattle.hek_permute.specs.Tallies.{IsPlayed}
use Rattle.hek_explore.specs.Codes.{code_of}
use Rattle.hek_explore.specs.Twins.{HasPlayed}

-- the moves are those of a schedule's transactions, by some rules of its steps
pub record AreRuled (p : Plan) (works : List Work) : Type 0 where
  pub rules : List Rule
  pub are : AreMoves p rules works

-- a play of these moves has the key, and no more events than this
pub record HasKey (p : Plan) (form : Form) (works : List Work) (past : List ℕ) (key : List ℕ) (longest : ℕ) : Type 0 where
  pub history : List Entry
  pub places : List Place
  pub played : HasPlayed p form works past places history
  pub is : code_of p places history ≡ key
  pub short : length history ≤ longest

-- the key of a play of these moves, in this order
pub record IsKeyAfter (p : Plan) (form : Form) (works : List Work) (order : List ℕ) (key : List ℕ) : Type 0 where
  pub places : List Place
  pub history : List Entry
  pub come : Plays form works (reverse order) places history
  pub is : key ≡ code_of p places history

-- Moves with a play of the first key have, with one more move of t, a play of the second key, at most so many events
-- longer, unless the clock comes to its end.
abbrev pub LeadsBy : Plan → Form → List Work → ℕ → List ℕ → List ℕ → ℕ → Type 0
LeadsBy p form works t key next more =
    (past : List ℕ) (longest : ℕ) → HasKey p form works past key longest → longest + more < clock_end → HasKey p form works (t ∷ past) next (longest + more)

-- each order with a play of this key has the outcome
abbrev pub EndsWith : Plan → Form → List Work → List ℕ → Found → Type 0
EndsWith p form works key o = (past : List ℕ) (longest : ℕ) → HasKey p form works past key longest → IsPlayed p form works (reverse past) o
