-- The checks before a rule, on a transaction and on whether it holds nothing: the first that fits gives the answer.
use Rattle.std.specs.Prelude.{ℕ, ◌-◌, ◌^◌, Bool, true, false, not, ◌&&◌, ◌||◌, ◌==◌, if◌then◌else◌}
use Rattle.hek_rules.specs.declared.event.State.{State}
use Rattle.hek_rules.specs.declared.event.State.TheVariants as state
use Rattle.hek_rules.specs.declared.event.Event.{Event}
use Rattle.hek_rules.specs.declared.event.Event.TheVariants as event
use Rattle.hek_rules.specs.declared.reply.Refusal.TheVariants as refusal
use Rattle.hek_rules.specs.declared.check.Check.{Check}
use Rattle.hek_rules.specs.declared.check.Check.TheVariants.{Refused, Doomed, StillAborted, Passed}
use Rattle.hek_rules.specs.World.{Txn, is_not_begun, is_active, is_preparing, is_terminated, is_live, is_decided}

-- the last clock value: no event draws it
abbrev pub clock_end : ℕ
clock_end = 2 ^ 63 - 2

abbrev pub begins : Event → Bool
begins (event.Begin t) = true
begins e = false

-- the events that draw a time
abbrev pub draws : Event → Bool
draws (event.Begin t) = true
draws (event.Precommit t) = true
draws e = false

-- the events whose reply, after an abort, repeats the cause
abbrev pub repeats_cause : Event → Bool
repeats_cause (event.Read t key) = true
repeats_cause (event.Scan t bucket) = true
repeats_cause (event.Insert t key value) = true
repeats_cause (event.Update t key value) = true
repeats_cause (event.Delete t key) = true
repeats_cause (event.Finish t) = true
repeats_cause (event.Precommit t) = true
repeats_cause (event.Commit t) = true
repeats_cause (event.Fail t) = true
repeats_cause e = false

-- a transaction that is Active and has not finished
abbrev pub is_open : Txn → Bool
is_open x = is_active x.state && not x.no_more_waits

-- whether an event is in its phase; `idle` says that the transaction holds nothing, as `end` needs
abbrev pub in_phase : Txn → Bool → Event → Bool
in_phase x idle (event.Begin t) = is_not_begun x.state
in_phase x idle (event.Read t key) = is_open x
in_phase x idle (event.Scan t bucket) = is_open x
in_phase x idle (event.Insert t key value) = is_open x
in_phase x idle (event.Update t key value) = is_open x
in_phase x idle (event.Delete t key) = is_open x
in_phase x idle (event.Finish t) = is_open x
in_phase x idle (event.Precommit t) = is_active x.state && x.no_more_waits
in_phase x idle (event.Release t) = is_preparing x.state || is_decided x.state
in_phase x idle (event.Commit t) = is_preparing x.state
in_phase x idle (event.Fail t) = is_live x.state
in_phase x idle (event.Stamp t) = is_decided x.state
in_phase x idle (event.End t) = is_decided x.state && idle
in_phase x idle event.Detect = false

-- the check of an event out of its phase
abbrev pub missed : State → Event → Check
missed (state.Aborted cause) e = if repeats_cause e then StillAborted cause else Refused refusal.WrongPhase
missed s e = Refused refusal.WrongPhase

-- the checks of a transaction that has begun and not ended
abbrev pub check_phase : Txn → Bool → ℕ → Event → Check
check_phase x idle clock e =
    if is_live x.state && x.abort_now then Doomed
    else if not (in_phase x idle e) then missed x.state e
    else if draws e && clock == clock_end then Refused refusal.ClockFull
    else Passed

-- the first check that fits an event of a declared transaction
abbrev pub check_of : Txn → Bool → ℕ → Event → Check
check_of x idle clock e =
    if begins e && not (is_not_begun x.state) then Refused refusal.BegunTwice
    else if not (begins e) && is_not_begun x.state then Refused refusal.NotBegun
    else if is_terminated x.state then Refused refusal.Ended
    else check_phase x idle clock e

abbrev pub is_passed : Check → Bool
is_passed Passed = true
is_passed (Refused why) = false
is_passed Doomed = false
is_passed (StillAborted cause) = false
