use Rattle.std.proofs.Common.{arith}
use Rattle.hek_word.proofs.CanonicalRows.{canonical-with_reader, canonical-without_reader, canonical-with_writer, canonical-without_writer}
use Rattle.hek_word.proofs.laws.rows_keep_canonical.Goals as goal

pub returns : goal.returns
returns c = record {
  infinite = omega arith;
  add_reader = canonical-with_reader;
  drop_reader = canonical-without_reader;
  take_writer = canonical-with_writer;
  clear_writer = canonical-without_writer;
}
