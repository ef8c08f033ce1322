use Rattle.hek_c.proofs.changes.hek_begin_change.Goals as goal

pub returns : goal.returns
returns c = (c.begin_change.result, rw c.new.ensures at c.begin_change.ensures, c.begin_number.ensures)
