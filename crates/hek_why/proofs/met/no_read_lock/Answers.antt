use Rattle.std.proofs.Common.{◌∙◌}
use Rattle.hek_why.proofs.Seeing.{read_refused_by}
use Rattle.hek_why.proofs.met.no_read_lock.Goals as goal

pub returns-in-Some : goal.returns-in-Some
returns-in-Some c = λ w s.
    read_refused_by c.args.machine.now w c.args.t c.args.v c.in-Some.word c.cleared.result c.read_refusal.result s
    (c.in_ok-reads_freely.ensures w s ∙ c.if-branch.false) (c.in-Some.ensures w s) (c.cleared.ensures w s) (c.read_refusal.ensures w s)
