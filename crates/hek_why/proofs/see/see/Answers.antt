use Rattle.hek_why.proofs.Seeing.{sees}
use Rattle.hek_why.proofs.see.see.Goals as goal

pub returns-in-Some-Some : goal.returns-in-Some-Some
returns-in-Some-Some c = λ w s.
    sees c.args.machine.now w c.args.t c.args.v c.read_time.result c.in-Some-Some.begin c.in-Some-Some.end c.by_words.result s
    (c.in-Some-Some.ensures w s) (c.in-Some-Some.ensures' w s) (c.read_time.ensures w s) (c.by_words.ensures w s)
