-- What a step of a program does when its turn comes.
use Rattle.std.specs.Prelude.{ℕ, ◌≡◌, if◌then◌else◌, List, [], ◌∷◌, Option, Some, None}
use Rattle.hek_rules.specs.declared.event.Event.{Event}
use Rattle.hek_rules.specs.declared.event.Event.TheVariants.{Insert, Update, Fail}
use Rattle.hek_program.specs.declared.term.Factor.{Factor}
use Rattle.hek_program.specs.declared.rule.Rule.{Rule}
use Rattle.hek_program.specs.declared.rule.Act.{Act}
use Rattle.hek_program.specs.declared.rule.Act.TheVariants.{Makes, Skips, Fails}
use Rattle.hek_program.specs.Terms.{Product, value_of}
use Rattle.hek_program.specs.Conditions.{all_hold}

-- a write of another value; other events stay
abbrev pub with_value : ℕ → Event → Event
with_value n (Insert t key value) = Insert t key n
with_value n (Update t key value) = Update t key n
with_value n e = e

-- a write of a value that is computed; a transaction for which it has none fails
abbrev pub writes : Event → Option ℕ → Act
writes e None = Fails
writes e (Some n) = Makes (with_value n e)

-- the event of a step whose condition holds: a step without a term is the event itself
abbrev pub made : (Factor → Option ℕ) → Event → List Product → Act
made v (Fail t) term = Fails
made v e [] = Makes e
made v e (p ∷ ps) = writes e (value_of v (p ∷ ps))

-- what a step does for a transaction that sees these values
abbrev pub act_of : (Factor → Option ℕ) → Event → Rule → Act
act_of v e r = if all_hold v r.when then made v e r.amount else Skips

-- the rule of a step that is its event, whatever was read
abbrev pub plain_rule : Rule
plain_rule = record { amount = []; when = [] }

-- what such a step does
abbrev pub plain_act : Event → Act
plain_act (Fail t) = Fails
plain_act e = Makes e

-- a step without a term and without a condition does the same, whatever a transaction sees
abbrev pub PlainStepsAreConstant : Type 0
PlainStepsAreConstant = (v : Factor → Option ℕ) (e : Event) → act_of v e plain_rule ≡ plain_act e
