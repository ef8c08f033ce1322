-- All orders of a schedule's moves, played.
use Rattle.std.specs.Prelude.{ℕ, ◌≡◌, ◌-◌, min, List, length}
use Rattle.hek_rules.specs.Plan.{Plan}
use Rattle.hek_program.specs.declared.rule.Rule.{Rule}
use Rattle.hek_permute.specs.declared.moves.Form.{Form}
use Rattle.hek_permute.specs.Found.{Line}
use Rattle.hek_permute.specs.Moves.{Work, AreMoves, counts_of, first_order_from}
use Rattle.hek_permute.specs.Orders.{AreAll}
use Rattle.hek_permute.specs.Tallies.{IsTally, total}

-- the first order of a schedule's moves
abbrev pub first_in : Form → List Work → List ℕ
first_in form moves = first_order_from 1 (counts_of form moves)

-- the tally of the orders from one number to another, of all orders of the moves of a schedule whose steps have these rules
pub record IsWhole (p : Plan) (rules : List Rule) (form : Form) (from to : ℕ) (rows : List Line) : Type 0 where
  pub moves : List Work
  pub are : AreMoves p rules moves
  pub orders : List (List ℕ)
  pub all : AreAll (first_in form moves) orders
  pub tally : IsTally p form moves from to orders rows
  pub count : total rows ≡ min to (length orders) - from
