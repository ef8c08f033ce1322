-- The moves of transactions, and the orders in which they can come.
use Rattle.std.specs.Prelude.{ℕ, ◌≡◌, ◌+◌, Bool, true, false, not, ◌==◌, ◌&&◌, ◌||◌, List, [], ◌∷◌, ◌++◌, filter, map, length, replicate, slice_get, Some}
use Rattle.hek_rules.specs.declared.event.Event.{Event}
use Rattle.hek_rules.specs.declared.event.Event.TheVariants as event
use Rattle.hek_rules.specs.Plan.{Plan}
use Rattle.hek_program.specs.declared.condition.Comparison.{Comparison}
use Rattle.hek_program.specs.declared.rule.Rule.{Rule}
use Rattle.hek_program.specs.Acts.{plain_rule}
use Rattle.hek_worker.specs.Grammar.{is_work}
use Rattle.hek_permute.specs.declared.moves.Move.{Move}
use Rattle.hek_permute.specs.declared.moves.Form.{Form}
use Rattle.hek_permute.specs.declared.moves.Form.TheVariants.{Whole, Split, Event as ByEvent}

-- What a transaction does: its reads, its writes and what fails under a condition, in order, each with its rule; how many
-- buckets there are; and whether it fails in the end.
pub record Work : Type 0 where
  pub steps : List Move
  pub buckets : ℕ
  pub fails : Bool

-- the rule of the first step; without rules it is its event
abbrev pub first_rule : List Rule → Rule
first_rule [] = plain_rule
first_rule (r ∷ rs) = r

abbrev pub later_rules : List Rule → List Rule
later_rules [] = []
later_rules (r ∷ rs) = rs

-- steps, each with its rule
abbrev pub with_rules : List Event → List Rule → List Move
with_rules [] rs = []
with_rules (e ∷ es) rs = record { event = e; rule = first_rule rs } ∷ with_rules es (later_rules rs)

abbrev pub is_fail_of : ℕ → Event → Bool
is_fail_of t (event.Fail u) = u == t
is_fail_of t e = false

abbrev pub has_some : List Comparison → Bool
has_some [] = false
has_some (c ∷ cs) = true

abbrev pub is_conditional : Rule → Bool
is_conditional r = has_some r.when

-- a move of t: a read, a write, or a fail under a condition
abbrev pub is_move : ℕ → Move → Bool
is_move t m = is_work t m.event || (is_fail_of t m.event && is_conditional m.rule)

-- t fails in the end
abbrev pub is_last_fail : ℕ → Move → Bool
is_last_fail t m = is_fail_of t m.event && not (is_conditional m.rule)

-- the transaction has a step fail, without a condition
abbrev pub has_fail : ℕ → List Move → Bool
has_fail t [] = false
has_fail t (m ∷ ms) = is_last_fail t m || has_fail t ms

-- what a declared transaction does
abbrev pub work_in : Plan → List Rule → ℕ → Work
work_in p rules t =
    record { steps = filter (is_move t) (with_rules p.steps rules); buckets = p.buckets; fails = has_fail t (with_rules p.steps rules) }

-- the moves of all transactions, by ID
pub record AreMoves (p : Plan) (rules : List Rule) (all : List Work) : Type 0 where
  pub count : length all ≡ length p.txns
  pub each : (i : ℕ) (w : Work) → slice_get all i ≡ Some w → w ≡ work_in p rules (i + 1)

-- how many moves a transaction has beside its reads and writes
abbrev pub other_moves : Form → ℕ
other_moves Whole = 1
other_moves Split = 2
other_moves ByEvent = 4

-- how many moves a transaction has
abbrev pub move_count : Form → Work → ℕ
move_count form w = length w.steps + other_moves form

-- how many moves each transaction has
abbrev pub counts_of : Form → List Work → List ℕ
counts_of form all = map (move_count form) all

-- all moves of t, then those of the next transaction, and so on
abbrev pub first_order_from : ℕ → List ℕ → List ℕ
first_order_from t [] = []
first_order_from t (n ∷ ns) = replicate n t ++ first_order_from (t + 1) ns
