use Rattle.std.proofs.Common.{refl}
use Rattle.hek_c.proofs.book.hek_note.Goals as goal

pub returns-clause-noted : goal.returns-clause-noted
returns-clause-noted c fits = record {
  found = c.end_change-found.result;
  is_change = rw c.new.ensures at c.end_change-found.ensures;
  readers = c.answer_to-answer.ensures.readers;
  within = c.answer_to-answer.ensures.within;
  last = refl;
  own = c.answer_to-answer.result;
  is_answer = c.answer_to-answer.ensures.answer;
  is = rw c.last_of-last.ensures at c.in_chain.ensures;
}
