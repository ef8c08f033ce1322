-- Which levels and guarantees imply which.
use Rattle.std.specs.Prelude.{ℕ, true, ◌≡◌, ◌↔◌, ◌⊎◌, ◌++◌, List, Option, Some, None, slice_get}
use Rattle.hek_levels.specs.declared.log.Log.{Log}
use Rattle.hek_levels.specs.declared.log.Transaction.{Transaction}
use Rattle.hek_levels.specs.declared.log.Turn.{Turn}
use Rattle.hek_levels.specs.declared.log.Read.{Read}
use Rattle.hek_levels.specs.declared.log.Change.{Change}
use Rattle.hek_levels.specs.declared.rules.Rules.{Rules}
use Rattle.hek_levels.specs.declared.rules.Asked.{Asked}
use Rattle.hek_levels.specs.declared.rules.Asked.TheVariants as asked
use Rattle.hek_levels.specs.declared.rules.Guarantees.{Guarantees}
use Rattle.hek_levels.specs.declared.rules.Level.TheVariants.{ReadCommitted, MonotonicView, ReadAtomic, Causal, Prefix, ParallelSnapshot, Snapshot, Serializable}
use Rattle.hek_levels.specs.declared.certificate.Writer.TheVariants as writer
use Rattle.hek_levels.specs.Logs.{transaction, writes_of, meets, offers}
use Rattle.hek_levels.specs.Seen.{Explanation}
use Rattle.hek_levels.specs.Explanations.{Explains, HasExplanation}
use Rattle.hek_levels.specs.Levels.{rules_of, rules_for, all_four}
use Rattle.hek_levels.specs.Uncommitted.{passing_of, is_found, IsBare, IsInTurn, IsReadUncommitted}

-- what explains a log by the first rules explains it by the second
abbrev pub Implies : Rules → Rules → Type 0
Implies strong weak = (log : Log) (e : Explanation) → Explains (asked.All strong) log e → Explains (asked.All weak) log e

pub record LevelsImply : Type 0 where
  pub serializable : Implies (rules_of Serializable) (rules_of Snapshot)
  pub snapshot : Implies (rules_of Snapshot) (rules_of Prefix)
  pub snapshot_too : Implies (rules_of Snapshot) (rules_of ParallelSnapshot)
  pub prefix : Implies (rules_of Prefix) (rules_of Causal)
  pub parallel_snapshot : Implies (rules_of ParallelSnapshot) (rules_of Causal)
  pub causal : Implies (rules_of Causal) (rules_of ReadAtomic)
  pub read_atomic : Implies (rules_of ReadAtomic) (rules_of MonotonicView)
  pub monotonic_view : Implies (rules_of MonotonicView) (rules_of ReadCommitted)

pub record GuaranteesImply : Type 0 where
  -- causal implies all four guarantees, and these each of them together with whichever others
  pub causal : Implies (rules_of Causal) (rules_for all_four)
  pub each : (g : Guarantees) → Implies (rules_for all_four) (rules_for g)
  -- any of them implies the monotonic view
  pub monotonic_view : (g : Guarantees) → Implies (rules_for g) (rules_of MonotonicView)

-- the first has no turn but of the second
abbrev pub AreAmong : List Turn → List Turn → Type 0
AreAmong few more = (i : ℕ) (turn : Turn) → slice_get few i ≡ Some turn → (k : ℕ) × (slice_get more k ≡ Some turn)

-- a transaction with fewer turns
pub record IsFewer (few more : Transaction) : Type 0 where
  pub status : few.status ≡ more.status
  pub fits : few.fits ≡ more.fits
  pub reads : few.reads.items ≡ more.reads.items
  pub scans : few.scans.items ≡ more.scans.items
  pub writes : few.writes.items ≡ more.writes.items
  pub turns : AreAmong few.turns.items more.turns.items

abbrev pub IsFewerOf : Option Transaction → Option Transaction → Type 0
IsFewerOf None None = Unit {0}
IsFewerOf None (Some y) = ⊥
IsFewerOf (Some x) None = ⊥
IsFewerOf (Some x) (Some y) = IsFewer x y

-- a log with fewer turns
pub record HasFewerTurns (few more : Log) : Type 0 where
  pub rows : few.rows.items ≡ more.rows.items
  pub each : (t : ℕ) → IsFewerOf (transaction few t) (transaction more t)

abbrev pub FewerTurnsImply : Type 0
FewerTurnsImply = (asked : Asked) (few more : Log) (e : Explanation) → HasFewerTurns few more → Explains asked more e → Explains asked few e

-- what has an explanation by any rules is read uncommitted
abbrev pub ExplainedIsReadUncommitted : Type 0
ExplainedIsReadUncommitted = (asked : Asked) (log : Log) (e : Explanation) → Explains asked log e → IsReadUncommitted log

-- x at some time left at the key of the read what meets its need
abbrev pub DidLeave : Log → ℕ → Read → Type 0
DidLeave log x read = (n : ℕ) × (c : Change) × (slice_get (writes_of log x ++ passing_of log x) n ≡ Some c) × (c.key ≡ read.key) × (meets read.need c.value ≡ true)

-- the opening has it, or another transaction left it
abbrev pub IsFound : Log → ℕ → Read → Type 0
IsFound log t read = (offers log writer.Opening read ≡ true) ⊎ ((x : ℕ) × (x ≡ t → ⊥) × DidLeave log x read)

-- what is computed of a read is what it says
abbrev pub FoundSays : Type 0
FoundSays = (log : Log) (t : ℕ) (read : Read) → (is_found log t read ≡ true) ↔ IsFound log t read

-- an order keeps the turns of a log just if its bare log, without reads and writes, has an explanation
abbrev pub BareSays : Type 0
BareSays = (asked : Asked) (log bare : Log) → IsBare log bare → HasExplanation asked bare ↔ ((order : List ℕ) × IsInTurn log order)
