use Rattle.std.proofs.Common.{sym}
use Rattle.hek_why.proofs.Seeing.{write_refused_by}
use Rattle.hek_why.proofs.met.no_write_lock.Goals as goal

pub returns-in-Some : goal.returns-in-Some
returns-in-Some c = λ w s.
    write_refused_by c.args.machine.now w c.args.v c.in-Some.word c.cleared.result c.write_refusal.result s
    (c.in-Some.ensures w s) (c.cleared.ensures w s) (sym c.write_refusal.ensures)
