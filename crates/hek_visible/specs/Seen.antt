-- What a reader sees of a version, by its two words and the transactions: the rule of visibility over words.
-- (Section 2 of the paper: version visibility.)
use Rattle.std.specs.Prelude.{◌≡◌, ℕ, true, Some, None}
use Rattle.hek_rules.specs.declared.event.Sight.{Sight}
use Rattle.hek_rules.specs.declared.word.BeginRecord.{BeginRecord}
use Rattle.hek_rules.specs.declared.word.BeginRecord.TheVariants.{At, By}
use Rattle.hek_rules.specs.declared.word.EndRecord.{EndRecord}
use Rattle.hek_rules.specs.declared.word.EndRecord.TheVariants.{Until, Lock}
use Rattle.hek_rules.specs.World.{txn_in, is_present}
use Rattle.hek_rules.specs.Shown.{ender_of}
use Rattle.hek_rules.specs.Visibility.{sight_by}
use Rattle.hek_store.specs.Stored.{Stored, version_at}
use Rattle.hek_txn.specs.TxnTable.{TxnTable, Declared}

-- what the reader sees of a version at a read time, by the two words of the version
abbrev pub version_seen : Stored → TxnTable → ℕ → ℕ → ℕ → Sight
version_seen s ts reader rt v = sight_by ts.cores reader rt (version_at s v).begin (ender_of (version_at s v).end)

-- a transaction that a word may name: declared, begun and not terminated
pub record IsNameable (ts : TxnTable) (u : ℕ) : Type 0 where
  pub declared : Declared ts u
  pub present : is_present (txn_in ts.cores u).state ≡ true

-- a Begin word names no transaction, or one that may be named
abbrev pub NamesCreator : TxnTable → BeginRecord → Type 0
NamesCreator ts (At time) = Unit {0}
NamesCreator ts (By u) = IsNameable ts u

-- an End word names no writer, or one that may be named
abbrev pub NamesWriter : TxnTable → EndRecord → Type 0
NamesWriter ts (Until time) = Unit {0}
NamesWriter ts (Lock readers None no_more) = Unit {0}
NamesWriter ts (Lock readers (Some u) no_more) = IsNameable ts u
