-- The outcome of a history.
use Rattle.std.specs.Prelude.{ℕ, suc, zero, ◌≡◌, ◌+◌, Bool, true, false, ◌==◌, ◌||◌, if◌then◌else◌, List, [], ◌∷◌, ◌++◌, length}
use Rattle.hek_rules.specs.declared.event.Cause.TheVariants as cause
use Rattle.hek_rules.specs.declared.reply.Reply.{Reply}
use Rattle.hek_rules.specs.declared.reply.Reply.TheVariants as reply
use Rattle.hek_rules.specs.Plan.{Plan}
use Rattle.hek_rules.specs.Shown.{committed_rows}
use Rattle.hek_rules.specs.Run.{run}
use Rattle.hek_machine.specs.Observed.{opening_of}
use Rattle.hek_serial.specs.SerialOrders.{IsSerializability}
use Rattle.hek_worker.specs.declared.entry.Entry.{Entry}
use Rattle.hek_worker.specs.History.{history_events, recorded_by}
use Rattle.hek_permute.specs.declared.outcome.Ending.{Ending}
use Rattle.hek_permute.specs.declared.outcome.Ending.TheVariants as ending
use Rattle.hek_permute.specs.Found.{Found}

-- how a transaction ends with a reply, or by a later one
abbrev pub ends_with : Reply → Ending → Ending
ends_with reply.Committed later = ending.Committed
ends_with (reply.Aborted why) later = ending.Aborted why
ends_with reply.Failed later = ending.Aborted cause.Asked
ends_with r later = later

-- how t ends in a history
abbrev pub end_in : ℕ → List Entry → Ending
end_in t [] = ending.Unended
end_in t (x ∷ xs) = if x.worker == t then ends_with x.reply (end_in t xs) else end_in t xs

-- how the first transactions end, by ID
abbrev pub ends_upto : ℕ → List Entry → List Ending
ends_upto zero xs = []
ends_upto (suc n) xs = ends_upto n xs ++ end_in (n + 1) xs ∷ []

abbrev pub is_wait : Reply → Bool
is_wait (reply.Waiting n) = true
is_wait (reply.WaitingCommits n) = true
is_wait r = false

-- some transaction had to wait
abbrev pub has_wait : List Entry → Bool
has_wait [] = false
has_wait (x ∷ xs) = is_wait x.reply || has_wait xs

-- the outcome of a history
pub record IsOutcomeOf (p : Plan) (history : List Entry) (o : Found) : Type 0 where
  pub ends : o.ends ≡ ends_upto (length p.txns) history
  pub rows : o.rows ≡ committed_rows (run (opening_of p 1) (history_events history))
  pub verdict : IsSerializability (recorded_by p history) o.verdict
  pub waited : o.waited ≡ has_wait history
