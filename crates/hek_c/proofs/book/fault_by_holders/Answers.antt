use Rattle.std.proofs.Common.{◌≡◌}
use Rattle.hek_c.proofs.book.fault_by_holders.Goals as goal

pub returns : goal.returns
returns c e is =
    let counted = c.hek_readers.ensures.word e is in
    let stands = c.standing-standing.ensures e is in
    let id = c.new.ensures in
    cc
