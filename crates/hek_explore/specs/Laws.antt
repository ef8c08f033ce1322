-- The laws of twins, each in a sentence.
use Rattle.std.specs.Prelude.{ℕ, ◌≡◌, ◌+◌, ◌<◌, ◌≤◌, List, ◌∷◌, length}
use Rattle.hek_rules.specs.Checks.{clock_end}
use Rattle.hek_rules.specs.Plan.{Plan, IsPlan}
use Rattle.hek_worker.specs.declared.entry.Entry.{Entry}
use Rattle.hek_permute.specs.declared.moves.Form.{Form}
use Rattle.hek_permute.specs.declared.play.Place.{Place}
use Rattle.hek_permute.specs.Moves.{Work}
use Rattle.hek_permute.specs.Found.{Found}
use Rattle.hek_permute.specs.Outcomes.{IsOutcomeOf}
use Rattle.hek_permute.specs.Plays.{HasMoved}
use Rattle.hek_explore.specs.Keys.{shape_of}
use Rattle.hek_explore.specs.Twins.{HasPlayed, AreTwins}

-- a play of these moves from these places on, a twin of the history; it is no longer than both lengths
pub record HasTwin (p : Plan) (form : Form) (works : List Work) (past : List ℕ) (places : List Place) (h : List Entry) (longest : ℕ) : Type 0 where
  pub twin : List Entry
  pub played : HasPlayed p form works past places twin
  pub twins : AreTwins p h twin
  pub short : length twin ≤ longest

-- Two plays are twins and have led to the same places. If one goes on by a move of t to a play, the other has a play
-- with one more move of t too, to the same places, and these are twins again, unless the clock comes to its end.
abbrev pub PlaysExtendAlike : Type 0
PlaysExtendAlike =
    (p : Plan) (form : Form) (works : List Work) (past others : List ℕ) (t : ℕ) (places later : List Place) (h now k : List Entry) →
    IsPlan p →
    HasPlayed p form works past places h →
    HasMoved form works t places h later now →
    HasPlayed p form works (t ∷ past) later now →
    HasPlayed p form works others places k →
    AreTwins p h k →
    length k + length now < clock_end →
    HasTwin p form works (t ∷ others) later now (length k + length now)

-- plays that are twins have one outcome
abbrev pub TwinsHaveOneOutcome : Type 0
TwinsHaveOneOutcome =
    (p : Plan) (form : Form) (works : List Work) (past others : List ℕ) (places : List Place) (h k : List Entry) (o : Found) →
    IsPlan p →
    HasPlayed p form works past places h →
    HasPlayed p form works others places k →
    AreTwins p h k →
    IsOutcomeOf p h o →
    IsOutcomeOf p k o

-- plays with equal keys are twins, and have led to the same places
abbrev pub EqualKeysMakeTwins : Type 0
EqualKeysMakeTwins =
    (p : Plan) (form : Form) (works : List Work) (past others : List ℕ) (places seats : List Place) (h k : List Entry) →
    IsPlan p →
    HasPlayed p form works past places h →
    HasPlayed p form works others seats k →
    shape_of p places h ≡ shape_of p seats k →
    (places ≡ seats) × AreTwins p h k

-- plays that are twins and have led to the same places have equal keys
abbrev pub TwinsHaveEqualKeys : Type 0
TwinsHaveEqualKeys =
    (p : Plan) (form : Form) (works : List Work) (past others : List ℕ) (places : List Place) (h k : List Entry) →
    IsPlan p →
    HasPlayed p form works past places h →
    HasPlayed p form works others places k →
    AreTwins p h k →
    shape_of p places h ≡ shape_of p places k
