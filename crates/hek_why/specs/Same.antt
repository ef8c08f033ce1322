-- Whether two values are the same.
use Rattle.std.specs.Prelude.{ℕ, Bool, true, false, not, if◌then◌else◌, ◌&&◌, ◌==◌, List, [], ◌∷◌}
use Rattle.hek_rules.specs.declared.event.Cause.{Cause}
use Rattle.hek_rules.specs.declared.event.Cause.TheVariants.{Cascade, Conflict, NoMoreReads, ReadersFull, NoMoreWaits, Deadlock, Asked}
use Rattle.hek_rules.specs.declared.event.State.{State}
use Rattle.hek_rules.specs.declared.event.State.TheVariants.{NotBegun, Active, Preparing, Committed, Aborted, Terminated}
use Rattle.hek_rules.specs.declared.event.WriteEntry.{WriteEntry}
use Rattle.hek_rules.specs.declared.event.WriteEntry.TheVariants.{BeginOf, EndOf}
use Rattle.hek_rules.specs.declared.word.BeginRecord.{BeginRecord}
use Rattle.hek_rules.specs.declared.word.EndRecord.{EndRecord}
use Rattle.hek_rules.specs.Words.{begin_number, end_number}

abbrev pub same_flag : Bool → Bool → Bool
same_flag a b = if a then b else not b

abbrev pub same_begin : BeginRecord → BeginRecord → Bool
same_begin a b = begin_number a == begin_number b

abbrev pub same_end : EndRecord → EndRecord → Bool
same_end a b = end_number a == end_number b

abbrev pub same_cause : Cause → Cause → Bool
same_cause Cascade Cascade = true
same_cause Conflict Conflict = true
same_cause NoMoreReads NoMoreReads = true
same_cause ReadersFull ReadersFull = true
same_cause NoMoreWaits NoMoreWaits = true
same_cause Deadlock Deadlock = true
same_cause Asked Asked = true
same_cause a b = false

abbrev pub same_state : State → State → Bool
same_state NotBegun NotBegun = true
same_state Active Active = true
same_state Preparing Preparing = true
same_state Committed Committed = true
same_state (Aborted a) (Aborted b) = same_cause a b
same_state Terminated Terminated = true
same_state a b = false

abbrev pub same_entry : WriteEntry → WriteEntry → Bool
same_entry (BeginOf v) (BeginOf u) = v == u
same_entry (EndOf v) (EndOf u) = v == u
same_entry a b = false

abbrev pub same_list : {X : Type 0} → (X → X → Bool) → List X → List X → Bool
same_list same [] [] = true
same_list same [] (y ∷ ys) = false
same_list same (x ∷ xs) [] = false
same_list same (x ∷ xs) (y ∷ ys) = same x y && same_list same xs ys

abbrev pub same_numbers : List ℕ → List ℕ → Bool
same_numbers = same_list ◌==◌

abbrev pub same_entries : List WriteEntry → List WriteEntry → Bool
same_entries = same_list same_entry
