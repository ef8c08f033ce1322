-- A word's number has one record, and that record's number is the word's.
use Rattle.std.proofs.Common.{◌≡◌, ℕ, arith, true, false, Some, None}
use Rattle.std.proofs.lemmas.Bool.Decides.{nat_tests}
use Rattle.hek_rules.specs.declared.word.BeginRecord.{BeginRecord}
use Rattle.hek_rules.specs.declared.word.BeginRecord.TheVariants.{At, By}
use Rattle.hek_rules.specs.declared.word.EndRecord.{EndRecord}
use Rattle.hek_rules.specs.declared.word.EndRecord.TheVariants.{Until, Lock}
use Rattle.hek_rules.specs.Words.{begin_number, IsBegin, end_number, writer_number, IsEnd}
use Rattle.hek_word.specs.Decoded.{begin_record, end_record, writer_record}

pub begin_number_record : (n : ℕ) → begin_number (begin_record n) ≡ n
unfolding begin_record
begin_number_record n = grind (arith, nat_tests)

pub begin_record_number : (r : BeginRecord) → IsBegin r → begin_record (begin_number r) ≡ r
unfolding begin_record
begin_record_number (At t) canonical = grind (arith, nat_tests)
begin_record_number (By u) canonical = grind (arith, nat_tests)

pub writer_number_record : (n : ℕ) → writer_number (writer_record n) ≡ n
writer_number_record n = grind (arith, nat_tests)

pub end_number_record : (n : ℕ) → end_number (end_record n) ≡ n
unfolding end_record
end_number_record n = grind (arith, nat_tests, writer_number_record)

pub end_record_number : (r : EndRecord) → IsEnd r → end_record (end_number r) ≡ r
unfolding end_record
end_record_number (Until t) canonical = grind (arith, nat_tests)
end_record_number (Lock readers None true) canonical = grind (arith, nat_tests)
end_record_number (Lock readers None false) canonical = grind (arith, nat_tests)
end_record_number (Lock readers (Some u) true) canonical = grind (arith, nat_tests)
end_record_number (Lock readers (Some u) false) canonical = grind (arith, nat_tests)
