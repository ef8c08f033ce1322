use Rattle.hek_c.proofs.changes.hek_end_change.Goals as goal

pub returns : goal.returns
returns c = (c.end_change.result, rw c.new.ensures at c.end_change.ensures, c.end_number.ensures)
