use Rattle.hek_word.proofs.CanonicalRows.{begin_number-one, end_number-one}
use Rattle.hek_word.proofs.laws.canonical_numbers_have_one_record.Goals as goal

pub returns : goal.returns
returns c = record { begin = begin_number-one; end = end_number-one }
