-- Histories as traces, and their verdicts.
use Rattle.std.proofs.Common.{◌≡◌, ℕ, suc, List, [], ◌∷◌, Option, Some, None, refl, ap, subst, length, arith}
use Rattle.std.specs.Prelude.{Result, Ok, Err, IfOk, map, IfSome, IsTrue, ◌==◌}
use Rattle.std.specs.List.{AllByRecursion, zip}
use Rattle.std.proofs.lemmas.Bool.Decides.{nat_tests}
use Rattle.hek_rules.specs.declared.event.Event.{Event}
use Rattle.hek_rules.specs.declared.reply.Reply.{Reply}
use Rattle.hek_rules.specs.declared.serial.Verdict.{Verdict}
use Rattle.hek_rules.specs.declared.serial.Verdict.TheVariants.{Serial, NotSerial}
use Rattle.hek_rules.specs.Events.{txn_of}
use Rattle.hek_rules.specs.Plan.{Plan, IsDeclared}
use Rattle.hek_rules.specs.Recorded.{Recorded}
use Rattle.hek_rules.specs.declared.memory.NoMemory.{NoMemory}
use Rattle.hek_rules.specs.Faults.{HasNoFault, IsVerdict}
use Rattle.hek_asm.specs.Trace.{NamesDeclared}
use Rattle.hek_report.specs.declared.fault.HekFault.{HekFault}
use Rattle.hek_report.specs.declared.fault.HekFault.TheVariants as hek
use Rattle.hek_report.specs.declared.schedule_file.ScheduleFile.{ScheduleFile}
use Rattle.hek_report.specs.declared.schedule_file.ScheduleFile.TheVariants as file
use Rattle.hek_threads_command.specs.Threaded.{IsThreadsStop, ThreadsFail}
use Rattle.hek_worker.specs.declared.entry.Entry.{Entry}
use Rattle.hek_worker.specs.History.{IsEntry, IsHistory, IsSerialHistory, history_events, replies_in, recorded_by, is_that}

same_number : (u t : ℕ) → IsTrue (u == t) → t ≡ u
same_number u t h = grind (arith, nat_tests)

named : (n t : ℕ) (o : Option ℕ) → IsDeclared n t → IsTrue (is_that t o) → IfSome o (λ u. IsDeclared n u)
named n t None h own = tt
named n t (Some u) h own = subst (IsDeclared n) (same_number u t own) h

-- each event of a history is of a declared transaction, or of none
pub all_named : (n : ℕ) (xs : List Entry) → IsHistory n xs → AllByRecursion (NamesDeclared n) (history_events xs)
all_named n [] h = tt
all_named n (x ∷ xs) h =
    let here : IsEntry n x = h 0 x (omega arith) in
    (named n x.worker (txn_of x.event) here.0 here.1, all_named n xs (λ k d below. h (suc k) d (omega arith)))

-- each event has a reply
pub paired : (xs : List Entry) → length (replies_in xs) ≡ length (history_events xs)
paired [] = refl
paired (x ∷ xs) = ap suc (paired xs)

-- a history as pairs
zipped : (xs : List Entry) → zip (history_events xs) (replies_in xs) ≡ map (λ x. (x.event, x.reply)) xs
zipped [] = refl
zipped (x ∷ xs) = ap (λ (ps : List (Event × Reply)). (x.event, x.reply) ∷ ps) (zipped xs)

-- a serial history has one verdict
is_serial : (p : Plan) (xs : List Entry) (v : Verdict) → IsSerialHistory p xs → IsVerdict (recorded_by p xs) v → v ≡ Serial
is_serial p xs Serial h is = refl
is_serial p xs (NotSerial n) h is =
    absurd (is.fault (subst (λ (ps : List (Event × Reply)). HasNoFault (record (recorded_by p xs) { history = ps }) is.place) (zipped xs) (h is.place)))

pub judged : (p : Plan) (xs : List Entry) (told : Recorded) (r : Result Verdict NoMemory) → IsSerialHistory p xs → told ≡ recorded_by p xs
    → IfOk r (λ v. IsVerdict told v) → IfOk r (λ v. v ≡ Serial)
judged p xs told (Ok v) h is verdict = is_serial p xs v h (subst (λ (t : Recorded). IsVerdict t v) is verdict)
judged p xs told (Err e) h is verdict = tt

-- a fault of a run in threads is a fault of the command, whatever the file has
pub stop_fails : {R : Type 0} (left : R → Option (List ℕ)) (said : ScheduleFile R) (fault : HekFault) → IsThreadsStop fault → ThreadsFail left said fault
stop_fails left said hek.NoWorker h = tt
stop_fails left said (hek.Mismatch w) h = tt
stop_fails left said hek.CannotWrite h = tt
stop_fails left (file.Text text) hek.NoMemory h = tt
stop_fails left (file.Image reader) hek.NoMemory h = tt
stop_fails left said hek.BadArgument h = absurd h
stop_fails left said hek.NotAWord h = absurd h
stop_fails left said hek.NoReader h = absurd h
stop_fails left said hek.BadWaits h = absurd h
stop_fails left said (hek.Line n k) h = absurd h
stop_fails left said (hek.Image f) h = absurd h
stop_fails left said (hek.TraceLine n) h = absurd h
stop_fails left said (hek.CommandLine n) h = absurd h
stop_fails left said (hek.Wanted n m what) h = absurd h
stop_fails left said hek.NotText h = absurd h
stop_fails left said (hek.CannotRead f) h = absurd h
