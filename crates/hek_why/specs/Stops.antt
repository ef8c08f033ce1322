-- The version at which a walk is refused, or those that claim the key of an insert, and what is met there.
-- (Section 4 of the paper: record locks; reads and updates.)
use Rattle.std.specs.Prelude.{ℕ, List, [], ◌∷◌, Option, Some, None, if◌then◌else◌}
use Rattle.hek_rules.specs.declared.event.Cause.{Cause}
use Rattle.hek_rules.specs.declared.event.Cause.TheVariants.{ReadersFull}
use Rattle.hek_rules.specs.declared.event.Sight.{Sight}
use Rattle.hek_rules.specs.declared.event.Sight.TheVariants.{HiddenActive}
use Rattle.hek_rules.specs.declared.word.BeginRecord.{BeginRecord}
use Rattle.hek_rules.specs.declared.word.BeginRecord.TheVariants.{At, By}
use Rattle.hek_rules.specs.declared.word.EndRecord.{EndRecord}
use Rattle.hek_rules.specs.declared.word.EndRecord.TheVariants.{Until, Lock}
use Rattle.hek_rules.specs.Words.{readers_of}
use Rattle.hek_rules.specs.World.{World, txn_in}
use Rattle.hek_rules.specs.Shown.{begin_word, end_word}
use Rattle.hek_rules.specs.Visibility.{sight}
use Rattle.hek_rules.specs.Walk.{Judgement, Refuse, Allow, Purpose, read_time, version_judged}
use Rattle.hek_rules.specs.Table.{is_claim}
use Rattle.hek_machine.specs.Observed.{of_version}
use Rattle.hek_why.specs.Passed.{version_passes}
use Rattle.hek_why.specs.declared.reason.Met.{Met}
use Rattle.hek_why.specs.declared.reason.Met.TheVariants.{Writer, Creator, EndedAt, MadeAt, Readers}
use Rattle.hek_why.specs.declared.stops.Stop.{Stop}

abbrev pub refused_by : Judgement → Option Cause
refused_by (Refuse cause) = Some cause
refused_by (Allow effects) = None

abbrev pub stop_by : ℕ → Sight → Option Cause → Option Stop
stop_by v found None = None
stop_by v found (Some cause) = Some (record { version = v; sight = found; cause = cause })

-- the stop at version v, if the rule of walks refuses the walk there
abbrev pub stop_at : World → ℕ → Purpose → Option ℕ → ℕ → Option Stop
stop_at w t purpose target v =
    let found = sight w t (read_time w t) v in stop_by v found (refused_by (version_judged w t purpose target v found))

abbrev pub first_some : Option Stop → Option Stop → Option Stop
first_some None later = later
first_some (Some stop) later = Some stop

-- the stop at the first version where a walk is refused
abbrev pub first_stop : World → ℕ → Purpose → Option ℕ → List ℕ → Option Stop
first_stop w t purpose target [] = None
first_stop w t purpose target (v ∷ vs) = first_some (stop_at w t purpose target v) (first_stop w t purpose target vs)

-- which transaction, time or readers refuse a lock, by the End word
abbrev pub met_by : Cause → EndRecord → Met
met_by ReadersFull e = Readers (readers_of e)
met_by cause (Until time) = EndedAt time
met_by cause (Lock readers None no_more) = Readers readers
met_by cause (Lock readers (Some u) no_more) = Writer u

abbrev pub met_seen : Sight → Met → Met
met_seen (HiddenActive u) other = Creator u
met_seen sight other = other

abbrev pub met_at : ℕ → Sight → Cause → World → Option Met
met_at v seen cause w = of_version (λ w v. met_seen seen (met_by cause (end_word w v))) v w

abbrev pub met_begin : BeginRecord → Met
met_begin (At time) = MadeAt time
met_begin (By u) = Creator u

-- the creator of version v, if v exists and claims the key of an insert
abbrev pub claim_at : World → ℕ → ℕ → Option Met
claim_at w t v =
    if version_passes (λ v x. is_claim w t (txn_in w.txns t).level x.creator) v w then Some (met_begin (begin_word w v)) else None
