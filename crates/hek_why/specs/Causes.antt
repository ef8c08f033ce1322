-- Which cause the reasons of an abort give.
use Rattle.std.specs.Prelude.{ℕ, ◌≡◌, ◌<◌, true, List, [], ◌∷◌, Option, Some, None, length, map}
use Rattle.std.specs.List.{AllByRecursion}
use Rattle.hek_rules.specs.declared.event.Cause.{Cause}
use Rattle.hek_rules.specs.declared.event.Cause.TheVariants.{Cascade, Conflict}
use Rattle.hek_rules.specs.declared.event.Event.{Event}
use Rattle.hek_rules.specs.declared.reply.Reply.{Reply as Answer}
use Rattle.hek_rules.specs.declared.reply.Reply.TheVariants.{Aborted}
use Rattle.hek_rules.specs.World.{World, declared}
use Rattle.hek_rules.specs.Run.{reply}
use Rattle.hek_machine.specs.declared.engine.Engine.{Engine}
use Rattle.hek_machine.specs.Stands.{StandsFor}
use Rattle.hek_why.specs.declared.reason.Reason.{Reason}
use Rattle.hek_why.specs.declared.reason.Reason.TheVariants.{Stopped, DoomedBy, AbortedBefore}

abbrev pub cause_told : Reason → Option Cause
cause_told (Stopped v cause met) = Some cause
cause_told (DoomedBy u) = Some Cascade
cause_told (AbortedBefore cause) = Some cause
cause_told reason = None

abbrev pub EachTells : Cause → List Reason → Type 0
EachTells cause list = AllByRecursion (λ r. cause_told r ≡ Some cause) list

-- Exactly one reason gives the cause. For a conflict there is one or more, and each gives it: several versions can claim
-- the key of an insert. For a cascade each reason gives it, one for each abort noted.
abbrev pub Tells : Cause → List Reason → Type 0
Tells Cascade list = EachTells Cascade list
Tells Conflict list = (0 < length list) × EachTells Conflict list
Tells cause list = map cause_told list ≡ Some cause ∷ []

-- where the rule table answers that t is aborted by a cause, in any world that the machine represents, the reasons give
-- that cause
abbrev pub TellCause : Engine → ℕ → Event → Answer → List Reason → Type 0
TellCause m t e r list =
    (cause : Cause) (w : World) → r ≡ Aborted cause → StandsFor m w → declared w.txns t ≡ true → reply w e ≡ r → Tells cause list
