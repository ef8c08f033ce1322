-- The answers to the lines of a log, as they are written, and what a book keeps of these lines.
use Rattle.std.specs.Prelude.{◌≡◌, ℕ, Bool, List, Option, reverse}
use Rattle.std.specs.Io.KnownBytes.{Appends}
use Rattle.hek_changes.specs.declared.change.EndChange.{EndChange}
use Rattle.hek_report.specs.declared.printing.Printing.{Printing}
use Rattle.hek_convert_command.specs.declared.answer.Answer.{Answer}
use Rattle.hek_convert_command.specs.declared.book.Book.{Book}
use Rattle.hek_convert_command.specs.declared.entries.Listed.{Listed}
use Rattle.hek_convert_command.specs.Book.{knowledge_of}
use Rattle.hek_convert_command.specs.Changed.{Answered, AreAnswers, IsAnswerTo, IsTold, answers_text, greatest, known_by, known_then, lines_of, status_of_answer}

-- the answer to a line, which a book has noted
pub record IsReply (followed : Bool) (line : Listed) (before after : Book) (reply : Answer) : Type 0 where
  pub change : Option EndChange
  pub right : IsAnswerTo (knowledge_of before) followed line.entry change reply
  pub kept : knowledge_of after ≡ known_then line.number line.entry change (knowledge_of before)

-- the answer to a line was written, and asks for this status
pub record IsAnswered (printing : Printing) (followed : Bool) (line : Listed) (book noted : Book) (before after : Option (List ℕ)) (status : ℕ) : Type 0 where
  pub reply : Answer
  pub text : List ℕ
  pub is_reply : IsReply followed line book noted reply
  pub told : IsTold printing line.number line.entry reply text
  pub written : Appends before after text
  pub asks : status ≡ status_of_answer reply

-- answers to these lines were written, the first ones of a log, which a book has noted
pub record Answering (printing : Printing) (followed : Bool) (listed : List Listed) (book : Book) (before after : Option (List ℕ)) (status : ℕ) : Type 0 where
  pub answered : List Answered
  pub lines : lines_of answered ≡ reverse listed
  pub right : AreAnswers printing followed answered
  pub written : Appends before after (answers_text answered)
  pub is_greatest : status ≡ greatest answered
  pub kept : knowledge_of book ≡ known_by answered
