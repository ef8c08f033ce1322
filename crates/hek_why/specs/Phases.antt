-- The phase that each kind of event wants its transaction to be in.
use Rattle.std.specs.Prelude.{◌≡◌, Bool, true, false, ◌&&◌, ◌||◌}
use Rattle.hek_rules.specs.declared.event.Event.{Event}
use Rattle.hek_rules.specs.declared.kind.EventKind.{EventKind}
use Rattle.hek_rules.specs.Events.{kind_of, is_detect}
use Rattle.hek_rules.specs.World.{Txn, is_not_begun, is_active, is_preparing, is_live, is_decided}
use Rattle.hek_rules.specs.Checks.{is_open, in_phase}
use Rattle.hek_why.specs.declared.reason.Phase.{Phase}
use Rattle.hek_why.specs.declared.reason.Phase.TheVariants as phase

-- whether a transaction is in a phase
abbrev pub is_in : Txn → Phase → Bool
is_in x phase.NotBegun = is_not_begun x.state
is_in x phase.Open = is_open x
is_in x phase.Finished = is_active x.state && x.no_more_waits
is_in x phase.Preparing = is_preparing x.state
is_in x phase.Live = is_live x.state
is_in x phase.Releasing = is_preparing x.state || is_decided x.state
is_in x phase.Over = is_decided x.state

-- by the checks of the rule table, an event of this kind is in its phase if its transaction is in this one; an `end` also
-- wants the transaction to hold nothing, and `detect` has no transaction
abbrev pub IsPhaseOf : EventKind → Phase → Type 0
IsPhaseOf kind wanted = (x : Txn) (e : Event) → kind_of e ≡ kind → is_detect kind ≡ false → in_phase x true e ≡ is_in x wanted
