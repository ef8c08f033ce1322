-- What is asked of a log, and what a finding says.
use Rattle.std.specs.Prelude.{ℕ, ◌≡◌, true, false, Option, Some, None, slice_get}
use Rattle.hek_history.specs.declared.history.Level.{Level}
use Rattle.hek_history.specs.declared.history.Level.TheVariants as history
use Rattle.hek_history.specs.declared.history.Transaction.{Transaction}
use Rattle.hek_levels.specs.declared.log.Log.{Log}
use Rattle.hek_levels.specs.declared.rules.Asked.{Asked}
use Rattle.hek_levels.specs.declared.rules.Guarantees.{Guarantees}
use Rattle.hek_levels.specs.declared.rules.Level.TheVariants as level
use Rattle.hek_levels.specs.declared.rules.Rules.{Rules}
use Rattle.hek_levels.specs.Explanations.{HasNoExplanation}
use Rattle.hek_levels.specs.Levels.{rules_of, rules_for, all_four, asked_of}
use Rattle.hek_levels.specs.Uncommitted.{AreFound, IsLost, IsBare}
use Rattle.hek_levels_search.specs.Verdicts.{IsShown}
use Rattle.hek_ladder.specs.declared.asking.Finding.{Finding}
use Rattle.hek_ladder.specs.declared.asking.Finding.TheVariants.{Holds, Fails, Lost, Unknown}
use Rattle.hek_ladder.specs.declared.promise.Promise.{Promise}
use Rattle.hek_ladder.specs.declared.promise.Promise.TheVariants as promise
use Rattle.hek_ladder.specs.declared.scene.Scene.{Scene}

abbrev pub no_guarantees : Guarantees
no_guarantees = record { monotonic_reads = false; read_your_writes = false; monotonic_writes = false; writes_follow_reads = false }

-- the rules of a level or guarantee
abbrev pub rules_at : Promise → Rules
rules_at promise.Serializable = rules_of level.Serializable
rules_at promise.Snapshot = rules_of level.Snapshot
rules_at promise.ParallelSnapshot = rules_of level.ParallelSnapshot
rules_at promise.Prefix = rules_of level.Prefix
rules_at promise.Causal = rules_of level.Causal
rules_at promise.ReadAtomic = rules_of level.ReadAtomic
rules_at promise.MonotonicView = rules_of level.MonotonicView
rules_at promise.ReadCommitted = rules_of level.ReadCommitted
-- it is judged by turns alone, which any rules keep
rules_at promise.ReadUncommitted = rules_of level.Serializable
rules_at promise.Repeatable = rules_of level.Serializable
-- where a transaction gives no level
rules_at promise.Own = rules_of level.Serializable
rules_at promise.MonotonicReads = rules_for (record no_guarantees { monotonic_reads = true })
rules_at promise.ReadYourWrites = rules_for (record no_guarantees { read_your_writes = true })
rules_at promise.MonotonicWrites = rules_for (record no_guarantees { monotonic_writes = true })
rules_at promise.WritesFollowReads = rules_for (record no_guarantees { writes_follow_reads = true })
rules_at promise.AllGuarantees = rules_for all_four

-- the rules of a transaction's own level
abbrev pub own_rules_of : Level → Rules
own_rules_of history.Serializable = rules_of level.Serializable
own_rules_of history.Repeatable = rules_of level.Serializable
own_rules_of history.Snapshot = rules_of level.Snapshot

-- those of a transaction of the history, or of one that is not there
abbrev pub own_rules_in : Option Transaction → Rules
own_rules_in None = rules_at promise.Own
own_rules_in (Some transaction) = own_rules_of transaction.level

-- the rules that a promise asks for of the t-th transaction of a scene
abbrev pub asked_at : Scene → Promise → ℕ → Rules
asked_at scene promise.Own t = own_rules_in (slice_get scene.log.history.transactions.items t)
asked_at scene promise t = rules_at promise

-- these are the rules that a promise asks for
abbrev pub IsAsked : Scene → Promise → Asked → Type 0
IsAsked scene promise asked = (t : ℕ) → asked_of asked t ≡ asked_at scene promise t

-- what is found by these rules is so: what is shown explains the log, or the log has no explanation
abbrev pub IsJudged : Asked → Log → Finding → Type 0
IsJudged asked log (Holds shown) = IsShown asked log shown
IsJudged asked log (Fails steps) = HasNoExplanation asked log
IsJudged asked log (Lost t place) = ⊥
IsJudged asked log (Unknown progress) = Unit {0}

-- what is found of read uncommitted is so: each read found what was at some time there, and what is shown explains the bare log, which has
-- no reads and writes; or the bare log has no explanation; or a read of t found what was never there
abbrev pub IsJudgedUncommitted : Asked → Log → Finding → Type 0
IsJudgedUncommitted asked log (Holds shown) = AreFound log × (bare : Log) × IsBare log bare × IsShown asked bare shown
IsJudgedUncommitted asked log (Fails steps) = (bare : Log) × IsBare log bare × HasNoExplanation asked bare
IsJudgedUncommitted asked log (Lost t place) = IsLost log t place
IsJudgedUncommitted asked log (Unknown progress) = Unit {0}

-- the one of read uncommitted, the other of all else
abbrev pub IsJudgedAt : Promise → Asked → Log → Finding → Type 0
IsJudgedAt promise.ReadUncommitted asked log finding = IsJudgedUncommitted asked log finding
IsJudgedAt promise asked log finding = IsJudged asked log finding

-- what is found of a promise is so, by the rules that it asks for
abbrev pub IsFinding : Scene → Promise → Finding → Type 0
IsFinding scene promise finding = (asked : Asked) × IsAsked scene promise asked × IsJudgedAt promise asked scene.seen finding
