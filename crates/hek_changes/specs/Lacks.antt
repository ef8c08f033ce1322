-- What keeps a transaction from a change of an End word.
use Rattle.std.specs.Prelude.{◌≡◌, ◌≢◌, ℕ, ◌<◌, true, Some, None, IsSome, IsSomeAnd, MatchResult}
use Rattle.hek_rules.specs.declared.word.EndRecord.{EndRecord}
use Rattle.hek_rules.specs.Words.{IsTxn, infinity, end_time, readers_of, writer_of, no_more_of}
use Rattle.hek_changes.specs.declared.nearest.Nearest.{Nearest}
use Rattle.hek_changes.specs.Changes.{EndLeads, IsEndOf}
use Rattle.hek_changes.specs.declared.lack.Lack.{Lack}
use Rattle.hek_changes.specs.declared.lack.Lack.TheVariants.{IsWriter, IsNotWriter, HasWriter, HasNoWriter, HasNoReader, HasReaders, IsFull, NoMoreReads, HasEnded, IsNotDrawn, IsNoTxn}

-- what a lack says of the record of a word and of a transaction is so; of a time that isn't drawn neither says anything
abbrev pub IsSo : Lack → EndRecord → ℕ → Type 0
IsSo IsWriter e t = writer_of e ≡ Some t
IsSo IsNotWriter e t = writer_of e ≢ Some t
IsSo HasWriter e t = IsSome (writer_of e)
IsSo HasNoWriter e t = writer_of e ≡ None
IsSo HasNoReader e t = readers_of e ≡ 0
IsSo HasReaders e t = 0 < readers_of e
IsSo IsFull e t = readers_of e ≡ 255
IsSo NoMoreReads e t = no_more_of e ≡ true
IsSo HasEnded e t = IsSomeAnd (end_time e) (λ time. time ≢ infinity)
IsSo IsNotDrawn e t = Unit {0}
IsSo IsNoTxn e t = ¬ (IsTxn t)

-- the change leads from an old number to the word that it leaves, or what it lacks is so
pub record IsNearest (t old : ℕ) (nearest : Nearest) : Type 0 where
  pub before : EndRecord
  pub is_old : IsEndOf before old
  pub left : MatchResult nearest.left (λ w. EndLeads t nearest.change before w) (λ lack. IsSo lack before t)
