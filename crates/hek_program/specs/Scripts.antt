-- Programs: a schedule, how its steps are computed, and what is to hold at the end of each order.
use Rattle.std.specs.Prelude.{ℕ, if◌then◌else◌, List, [], ◌∷◌, Option, Some, None, option_map, slice_get, unwrap_or}
use Rattle.hek_rules.specs.declared.event.Event.{Event}
use Rattle.hek_rules.specs.Plan.{Plan}
use Rattle.hek_program.specs.declared.term.Factor.{Factor}
use Rattle.hek_program.specs.declared.rule.Rule.{Rule}
use Rattle.hek_program.specs.declared.rule.Act.{Act}
use Rattle.hek_program.specs.declared.always.Always.{Always}
use Rattle.hek_program.specs.Conditions.{all_hold}
use Rattle.hek_program.specs.Acts.{plain_rule, act_of}

-- the schedule, whose computed values are 0; the rule of each step, those without one at the end left out; invariants
pub record Script : Type 0 where
  pub plan : Plan
  pub rules : List Rule
  pub always : List Always

-- the program of a schedule: each step is its event
abbrev pub plain_script : Plan → Script
plain_script p = record { plan = p; rules = []; always = [] }

abbrev pub rule_at : Script → ℕ → Rule
rule_at s place = unwrap_or (slice_get s.rules place) plain_rule

-- what the step at a place does for a transaction that sees these values
abbrev pub act_at : Script → ℕ → (Factor → Option ℕ) → Option Act
act_at s place v = option_map (λ e. act_of v e (rule_at s place)) (slice_get s.plan.steps place)

-- the line of the first invariant that does not hold
abbrev pub first_broken : (Factor → Option ℕ) → List Always → Option ℕ
first_broken v [] = None
first_broken v (a ∷ later) = if all_hold v a.condition then first_broken v later else Some a.line
