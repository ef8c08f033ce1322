-- The reasons of a reply: the versions that an event's walk goes over, where it is refused, and the reasons.
use Rattle.std.specs.Prelude.{ℕ, ◌≡◌, true, List, [], ◌∷◌, Option, Some, None, IfSome, map}
use Rattle.std.specs.List.{flat_map}
use Rattle.hek_rules.specs.declared.event.Cause.{Cause}
use Rattle.hek_rules.specs.declared.event.Cause.TheVariants.{Cascade, Conflict}
use Rattle.hek_rules.specs.declared.event.Event.{Event}
use Rattle.hek_rules.specs.declared.event.Event.TheVariants as event
use Rattle.hek_rules.specs.declared.event.State.{State}
use Rattle.hek_rules.specs.declared.event.State.TheVariants as state
use Rattle.hek_rules.specs.declared.reply.Reply.{Reply}
use Rattle.hek_rules.specs.declared.reply.Reply.TheVariants as reply
use Rattle.hek_rules.specs.Listing.{firsts_of}
use Rattle.hek_rules.specs.World.{World, txn_in, declared}
use Rattle.hek_rules.specs.Walk.{Purpose, ToRead, ToWrite, of_key, of_bucket, seen_of, last}
use Rattle.hek_machine.specs.declared.engine.Engine.{Engine}
use Rattle.hek_machine.specs.Stands.{StandsFor}
use Rattle.hek_why.specs.declared.reason.Met.{Met}
use Rattle.hek_why.specs.declared.reason.Reason.{Reason}
use Rattle.hek_why.specs.declared.reason.Reason.TheVariants.{Stopped, DoomedBy, AbortedBefore}
use Rattle.hek_why.specs.declared.stops.Stop.{Stop}
use Rattle.hek_why.specs.Waited.{waits_in, commits_in}
use Rattle.hek_why.specs.Looks.{looked_reasons}
use Rattle.hek_why.specs.Stops.{first_stop, claim_at, met_at}

-- the versions that the walk of an event goes over
abbrev pub walked : World → Event → List ℕ
walked w (event.Read t key) = of_key w key
walked w (event.Insert t key value) = of_key w key
walked w (event.Update t key value) = of_key w key
walked w (event.Delete t key) = of_key w key
walked w (event.Scan t bucket) = of_bucket w bucket
walked w e = []

abbrev pub purpose_in : Event → Purpose
purpose_in (event.Update t key value) = ToWrite
purpose_in (event.Delete t key) = ToWrite
purpose_in e = ToRead

-- the last version seen, which update and delete write-lock
abbrev pub target_in : World → ℕ → Event → List ℕ → Option ℕ
target_in w t (event.Update x key value) vs = last (seen_of w t vs)
target_in w t (event.Delete x key) vs = last (seen_of w t vs)
target_in w t e vs = None

abbrev pub stopped_by : ℕ → Cause → Option Met → List Reason
stopped_by v cause None = []
stopped_by v cause (Some met) = Stopped v cause met ∷ []

-- the versions that claim the key of an insert, in the order of the walk
abbrev pub claimed_in : World → ℕ → List ℕ → List Reason
claimed_in w t vs = flat_map (λ v. stopped_by v Conflict (claim_at w t v)) vs

abbrev pub stop_in : World → ℕ → List ℕ → Option Stop → List Reason
stop_in w t vs None = claimed_in w t vs
stop_in w t vs (Some stop) = stopped_by stop.version stop.cause (met_at stop.version stop.sight stop.cause w)

-- the version at which the walk of t is refused, or those that claim the key of its insert
abbrev pub stops_in : World → ℕ → Event → List ℕ → List Reason
stops_in w t e vs = stop_in w t vs (first_stop w t (purpose_in e) (target_in w t e vs) vs)

-- the reasons of an abort of t, by its state and the cause; dooms are pairs (u, t): the abort of u set t's AbortNow
abbrev pub abort_in : World → List (ℕ × ℕ) → ℕ → Event → Cause → State → List Reason
abort_in w dooms t e cause (state.Aborted before) = AbortedBefore before ∷ []
abort_in w dooms t e Cascade s = map (λ u. DoomedBy u) (firsts_of dooms t)
abort_in w dooms t e cause s = stops_in w t e (walked w e)

-- the reasons of a reply to t; None for a reply of which this definition says nothing
abbrev pub reasons_in : World → List (ℕ × ℕ) → ℕ → Event → Reply → Option (List Reason)
reasons_in w dooms t e (reply.Waiting count) = Some (waits_in w t)
reasons_in w dooms t e (reply.WaitingCommits count) = Some (commits_in w t)
reasons_in w dooms t e (reply.Aborted cause) = Some (abort_in w dooms t e cause (txn_in w.txns t).state)
reasons_in w dooms t e (reply.Found value) = Some (looked_reasons w t (walked w e))
reasons_in w dooms t e reply.Absent = Some (looked_reasons w t (walked w e))
reasons_in w dooms t e (reply.Rows pairs) = Some (looked_reasons w t (walked w e))
reasons_in w dooms t e reply.Exists = Some (looked_reasons w t (walked w e))
reasons_in w dooms t e reply.Done = Some (looked_reasons w t (walked w e))
reasons_in w dooms t e r = None

-- the list is that of the reasons in every world that the machine represents
abbrev pub AreReasons : Engine → List (ℕ × ℕ) → ℕ → Event → Reply → List Reason → Type 0
AreReasons m dooms t e r list = (w : World) → StandsFor m w → declared w.txns t ≡ true → IfSome (reasons_in w dooms t e r) (λ said. said ≡ list)
