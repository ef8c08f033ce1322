-- The moves of a run: there is a number for each step, and what is committed after the last step, on which the invariants are judged, is what the machine has.
use Rattle.std.specs.Prelude.{ℕ, ◌≡◌, Bool, List, length, map}
use Rattle.hek_rules.specs.Plan.{Plan}
use Rattle.hek_rules.specs.Shown.{committed_rows}
use Rattle.hek_program.specs.declared.always.Always.{Always}
use Rattle.hek_program.specs.Conditions.{all_hold}
use Rattle.hek_program.specs.Told.{at_end}
use Rattle.hek_moves.specs.declared.after.After.{After}
use Rattle.hek_moves.specs.declared.moves.Move.{Move}
use Rattle.hek_moves.specs.Steps.{world_at}

-- the moves of a run, for each step the place of its move, and what is committed after the last step
pub record Told : Type 0 where
  pub moves : List Move
  pub of_step : List ℕ
  pub latest : After

-- whether each invariant holds of these rows, where these have committed
abbrev pub judged : List Always → List (ℕ × ℕ) → List Bool → List Bool
judged always rows committed = map (λ (one : Always). all_hold (at_end rows committed) one.condition) always

-- the invariants are judged on the committed rows
abbrev pub IsJudged : List Always → After → Type 0
IsJudged always after = after.holds.items ≡ judged always after.rows after.committed.items

-- What is said of the moves of a schedule's run: there are as many places as steps, and what is committed after the last step is what is committed in
-- the world after all steps. That a place is that of a move isn't said.
pub record AreMovesOf (p : Plan) (always : List Always) (told : Told) : Type 0 where
  pub count : length told.of_step ≡ length p.steps
  pub committed : told.latest.rows ≡ committed_rows (world_at p (length p.steps))
  pub invariants : IsJudged always told.latest
