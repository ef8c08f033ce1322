-- What the data of a page say of the steps that it shows: what these change leads from the world before the first of them
-- to the world after each.
use Rattle.std.specs.Prelude.{ℕ, zero, suc, ◌≡◌, ◌+◌, ◌≤◌, min, List, [], ◌∷◌, ◌++◌, length}
use Rattle.hek_rules.specs.Plan.{Plan}
use Rattle.hek_machine.specs.declared.engine.Engine.{Engine}
use Rattle.hek_moves.specs.Steps.{world_at}
use Rattle.hek_why.specs.declared.change.Change.{Change}
use Rattle.hek_why.specs.Leads.{Leads, LeadOn}
use Rattle.hek_page_command.specs.declared.step_text.StepText.{StepText}
use Rattle.hek_page_command.specs.declared.story.StepRange.{StepRange}

-- what the first n of some steps change, one after another
abbrev pub changes_upto : ℕ → List StepText → List Change
changes_upto zero steps = []
changes_upto (suc n) [] = []
changes_upto (suc n) (s ∷ steps) = s.changes.items ++ changes_upto n steps

-- The steps are those of the schedule after the first `done` ones. What they change up to each of them, done on what the
-- world before them shows, gives what the world after that step shows.
pub record AreTold (p : Plan) (done : ℕ) (steps : List StepText) : Type 0 where
  pub within : done + length steps ≤ length p.steps
  pub lead : (n : ℕ) → n ≤ length steps → Leads (world_at p done) (world_at p (done + n)) (changes_upto n steps)

-- the last step of a range, of this many
abbrev pub last_in : StepRange → ℕ → ℕ
last_in range steps = min range.last steps

-- how many steps come before a range, of this many
abbrev pub done_in : StepRange → ℕ → ℕ
done_in range steps = min range.done (last_in range steps)

-- the steps of the range, each as it is
pub record IsStory (p : Plan) (range : StepRange) (steps : List StepText) : Type 0 where
  pub told : AreTold p (done_in range (length p.steps)) steps
  pub count : done_in range (length p.steps) + length steps ≡ last_in range (length p.steps)

-- ---- one step

-- one more step, whose changes lead from the old machine's worlds to the new one's
pub record IsStepAdded (before after : Engine) (old new : List StepText) : Type 0 where
  pub text : StepText
  pub lead : LeadOn before after text.changes.items
  pub added : new ≡ old ++ text ∷ []
