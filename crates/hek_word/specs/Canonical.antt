-- The records and the numbers of words agree: a canonical number has one record, and each change of a lock leads from a
-- canonical record to a canonical one.
use Rattle.std.specs.Prelude.{◌≡◌, ℕ, ◌<◌, IsSome}
use Rattle.hek_rules.specs.declared.word.BeginRecord.{BeginRecord}
use Rattle.hek_rules.specs.declared.word.EndRecord.{EndRecord}
use Rattle.hek_rules.specs.declared.word.EndRecord.TheVariants.{Until}
use Rattle.hek_rules.specs.Words.{IsBegin, begin_number, IsEnd, IsTxn, end_number, infinity, readers_of, writer_of, CanAdd, CanTakeWriter, with_reader, without_reader, with_writer, without_writer}

-- two canonical records with one number are one record
pub record HaveOneRecord : Type 0 where
  pub begin : (r s : BeginRecord) → IsBegin r → IsBegin s → begin_number r ≡ begin_number s → r ≡ s
  pub end : (r s : EndRecord) → IsEnd r → IsEnd s → end_number r ≡ end_number s → r ≡ s

pub record KeepCanonical : Type 0 where
  pub infinite : IsEnd (Until infinity)
  pub add_reader : (r : EndRecord) → IsEnd r → CanAdd r → IsEnd (with_reader r)
  pub drop_reader : (r : EndRecord) → IsEnd r → 0 < readers_of r → IsEnd (without_reader r)
  pub take_writer : (r : EndRecord) (u : ℕ) → IsEnd r → CanTakeWriter r → IsTxn u → IsEnd (with_writer r u)
  pub clear_writer : (r : EndRecord) → IsEnd r → IsSome (writer_of r) → IsEnd (without_writer r)
