-- A canonical number has one record, and each change of a lock leads from a canonical record to a canonical record.
use Rattle.std.proofs.Common.{◌≡◌, ℕ, ◌<◌, arith, rules, true, false, Some, None, IsSome, sym, ◌∙◌, ap}
use Rattle.std.proofs.lemmas.Bool.Decides.{nat_tests}
use Rattle.hek_rules.specs.declared.word.BeginRecord.{BeginRecord}
use Rattle.hek_rules.specs.declared.word.EndRecord.{EndRecord}
use Rattle.hek_rules.specs.declared.word.EndRecord.TheVariants.{Until, Lock}
use Rattle.hek_rules.specs.Words.{IsBegin, begin_number, IsEnd, IsTxn, end_number, readers_of, writer_of, CanAdd, CanTakeWriter, with_reader, without_reader, with_writer, without_writer}
use Rattle.hek_word.specs.Decoded.{begin_record, end_record}
use Rattle.hek_word.specs.WordLemmas.{begin_record_number, end_record_number}

pub begin_number-one : (r s : BeginRecord) → IsBegin r → IsBegin s → begin_number r ≡ begin_number s → r ≡ s
begin_number-one r s p q same = sym (begin_record_number r p) ∙ ap begin_record same ∙ begin_record_number s q

pub end_number-one : (r s : EndRecord) → IsEnd r → IsEnd s → end_number r ≡ end_number s → r ≡ s
end_number-one r s p q same = sym (end_record_number r p) ∙ ap end_record same ∙ end_record_number s q

pub canonical-with_reader : (r : EndRecord) → IsEnd r → CanAdd r → IsEnd (with_reader r)
canonical-with_reader (Until t) canonical can = search rules
canonical-with_reader (Lock n None false) canonical can = (omega arith, (omega arith, can.1))
canonical-with_reader (Lock n None true) canonical can = (omega arith, (omega arith, can.1))
canonical-with_reader (Lock n (Some u) false) canonical can = (omega arith, (canonical.1.0, λ set. cc))
canonical-with_reader (Lock n (Some u) true) canonical can = cc

pub canonical-without_reader : (r : EndRecord) → IsEnd r → 0 < readers_of r → IsEnd (without_reader r)
canonical-without_reader (Until t) canonical some = canonical
canonical-without_reader (Lock n None no_more) canonical some = grind (arith, nat_tests)
canonical-without_reader (Lock n (Some u) no_more) canonical some = grind (arith, nat_tests)

pub canonical-with_writer : (r : EndRecord) (u : ℕ) → IsEnd r → CanTakeWriter r → IsTxn u → IsEnd (with_writer r u)
canonical-with_writer (Until t) u canonical free named = search (rules, arith)
canonical-with_writer (Lock n None no_more) u canonical free named = search (rules, arith)
canonical-with_writer (Lock n (Some w) no_more) u canonical free named = cc

pub canonical-without_writer : (r : EndRecord) → IsEnd r → IsSome (writer_of r) → IsEnd (without_writer r)
canonical-without_writer (Until t) canonical written = canonical
canonical-without_writer (Lock n None no_more) canonical written = grind (arith, nat_tests)
canonical-without_writer (Lock n (Some u) no_more) canonical written = grind (arith, nat_tests)
