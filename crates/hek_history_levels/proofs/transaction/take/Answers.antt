use Rattle.std.proofs.Common.{◌≡◌, ◌∙◌, None, Some, sym, ap}
use Rattle.std.specs.Prelude.{slice_get}
use Rattle.hek_history.specs.Answers.{change_of}
use Rattle.hek_history.proofs.Fronts.{element_at}
use Rattle.hek_history_levels.specs.Changes.{left_of}
use Rattle.hek_history_levels.proofs.Results.{on_ok_three}
use Rattle.hek_history_levels.proofs.Takings.{taken-kept, taken-changed}
use Rattle.hek_history_levels.proofs.transaction.take.Goals as goal

pub returns-in-Some : goal.returns-in-Some
returns-in-Some c =
    let op = c.index-operations-n.result in
    let there : slice_get c.args.operations.now c.args.n ≡ Some op = element_at c.args.operations.now c.args.n op c.requires.within c.index-operations-n.is in
    let changes : left_of (change_of op) ≡ Some c.in-Some.value = ap left_of (sym c.change_of.ensures) ∙ sym c.in-Some.ensures in
    on_ok_three c.note.result c.note.ensures.own c.note.ensures.left c.note.ensures.passing
    (λ own left passing.
    taken-changed c.args.lenient c.args.operations.now c.args.n op c.args.taken.now there c.requires.taken c.is_fitting-fits.result c.both-taken.result c.is_fitting-fits.ensures c.both-taken.ensures
    c.take_reads.new.reads c.take_reads.new.scans c.in_ok-take_reads.ensures c.in-Some.value c.key_of-key.result c.note.new.own changes c.key_of-key.ensures own left passing)

pub returns-in-None : goal.returns-in-None
returns-in-None c =
    let op = c.index-operations-n.result in
    let there : slice_get c.args.operations.now c.args.n ≡ Some op = element_at c.args.operations.now c.args.n op c.requires.within c.index-operations-n.is in
    let none : left_of (change_of op) ≡ None = ap left_of (sym c.change_of.ensures) ∙ sym c.in-None.ensures in
    taken-kept c.args.lenient c.args.operations.now c.args.n op c.args.taken.now there c.requires.taken c.is_fitting-fits.result c.both-taken.result c.is_fitting-fits.ensures c.both-taken.ensures
    c.take_reads.new.reads c.take_reads.new.scans c.in_ok-take_reads.ensures none
