-- The definition that decides what a reason says: its module in hek_rules, and its name there.
use Rattle.std.specs.Prelude.{ℕ, List, Option, Some, None, codes}
use Rattle.hek_rules.specs.declared.event.Cause.{Cause}
use Rattle.hek_rules.specs.declared.event.Cause.TheVariants.{Conflict}
use Rattle.hek_rules.specs.declared.reply.Refusal.{Refusal}
use Rattle.hek_rules.specs.declared.reply.Refusal.TheVariants.{UnknownTxn, NotBegun, BegunTwice, Ended, WrongPhase, ClockFull}
use Rattle.hek_rules.specs.declared.reply.Reply.{Reply}
use Rattle.hek_rules.specs.declared.reply.Reply.TheVariants.{ReleasedRead, Left}
use Rattle.hek_why.specs.declared.reason.Met.{Met}
use Rattle.hek_why.specs.declared.reason.Met.TheVariants.{Creator, MadeAt}
use Rattle.hek_why.specs.declared.reason.Reason.{Reason}
use Rattle.hek_why.specs.declared.reason.Reason.TheVariants as reason

-- what stops a walk, or an insert
abbrev pub stop_rule : Cause → Met → List ℕ
stop_rule Conflict (Creator u) = codes "Table.is_claimed"
stop_rule Conflict (MadeAt time) = codes "Table.is_made_later"
stop_rule Conflict met = codes "Locks.write_refusal"
stop_rule cause (Creator u) = codes "Walk.wait_judged"
stop_rule cause met = codes "Locks.read_refusal"

abbrev pub refusal_rule : Refusal → List ℕ
refusal_rule UnknownTxn = codes "World.declared"
refusal_rule NotBegun = codes "World.is_not_begun"
refusal_rule BegunTwice = codes "Checks.begins"
refusal_rule Ended = codes "World.is_terminated"
refusal_rule WrongPhase = codes "Checks.in_phase"
refusal_rule ClockFull = codes "Checks.draws"

-- what makes a member of a cycle wait for the next
abbrev pub edge_rule : Option ℕ → List ℕ
edge_rule (Some v) = codes "WaitGraph.waits_by_version"
edge_rule None = codes "WaitGraph.is_edge"

-- what changes an End word, or leaves it as it is
abbrev pub end_rule : Reply → List ℕ
end_rule (ReleasedRead v writer) = codes "Table.release_read"
end_rule (Left v) = codes "Table.stamp_aborted"
end_rule r = codes "Table.stamp_rule"

abbrev pub name_of : Reply → Reason → List ℕ
name_of r (reason.ReadLocked v readers) = codes "Table.precommit_rule"
name_of r (reason.Listed holder bucket) = codes "Table.precommit_rule"
name_of r (reason.Depends u) = codes "Table.commit_rule"
name_of r (reason.Looked v sight) = codes "Visibility.sight"
name_of r (reason.Stopped v cause met) = stop_rule cause met
name_of r (reason.DoomedBy u) = codes "Table.doom"
name_of r (reason.AbortedBefore cause) = codes "Checks.repeats_cause"
name_of r (reason.WaitsFor waiter next v) = edge_rule v
name_of r (reason.Refused refusal phase state finished) = refusal_rule refusal
name_of r (reason.Holds reads buckets waiters writes) = codes "Table.holds_nothing"
name_of r (reason.Begin v before after) = codes "Table.stamp_rule"
name_of r (reason.End v before after) = end_rule r
