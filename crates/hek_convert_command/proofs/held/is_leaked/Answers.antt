use Rattle.std.proofs.Common.{◌≡◌, ◌∙◌, ap, ℕ, Option}
use Rattle.std.specs.Prelude.{is_some}
use Rattle.hek_convert_command.specs.Book.{knowledge_of}
use Rattle.hek_convert_command.proofs.ChangeLaws.{writer_leaks, none_leaks}
use Rattle.hek_convert_command.proofs.held.is_leaked.Goals as goal

pub returns-in-Some : goal.returns-in-Some
returns-in-Some c =
    writer_leaks (knowledge_of c.args.book.now) c.args.version c.args.last c.in-Some.writer c.is_some.result c.has_reader_over.result (rw c.readers.ensures at c.has_reader_over.ensures) c.if-has_reader_over.false
    c.in-Some.ensures (c.is_some.ensures ∙ ap (λ (line : Option ℕ). is_some line) c.over_line.ensures)

pub returns-in-None : goal.returns-in-None
returns-in-None c =
    none_leaks (knowledge_of c.args.book.now) c.args.version c.args.last c.has_reader_over.result (rw c.readers.ensures at c.has_reader_over.ensures) c.if-has_reader_over.false c.in-None.ensures
