use Rattle.std.proofs.Common.{◌≡◌, subst, sym, ap, ◌∙◌, Option}
use Rattle.hek_convert_command.specs.declared.entry.Entry.{Entry}
use Rattle.hek_convert_command.specs.declared.entry.WordName.{WordName}
use Rattle.hek_convert_command.specs.Book.{knowledge_of}
use Rattle.hek_convert_command.specs.Changed.{IsAnswerTo, IsOfNamed, IsOfWord, known_then}
use Rattle.hek_convert_command.proofs.BookLaws.{noted_named, noted_unnamed}
use Rattle.hek_convert_command.proofs.changes.answer_exchange.Goals as goal

pub returns : goal.returns
returns c =
    let e = c.args.exchange.now in
    let book = c.args.book.now in
    let known = knowledge_of book in
    let change = c.end_change-change.result in
    let of_word : IsOfWord known c.args.followed e c.in-Some.word change c.after.result = record {
      own = c.answer_side-own.result;
      of_side = c.answer_side-own.ensures;
      is = rw c.in_ok-last.ensures.last at c.after.ensures;
    } in
    let named : IsOfNamed known c.args.followed e e.word change c.after.result =
    subst (λ (word : Option WordName). IsOfNamed known c.args.followed e word change c.after.result) (sym c.in-Some.is) of_word in
    record {
      change = change;
      right = subst (λ (entry : Option Entry). IsAnswerTo known c.args.followed entry change c.after.result) (sym c.requires) (c.end_change-change.ensures, named);
      kept = noted_named book c.note_left.new.self c.note_reader.new.self c.args.line.now.number e c.in-Some.word change c.in-Some.is c.in_ok-last.ensures.noted c.in_ok-note_reader.ensures.noted
          ∙ ap (λ (entry : Option Entry). known_then c.args.line.now.number entry change known) (sym c.requires);
    }
