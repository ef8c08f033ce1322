use Rattle.std.proofs.lemmas.Bool.{false≢true}
use Rattle.hek_levels_refutation.proofs.Refuting.{turned}
use Rattle.hek_levels_refutation.proofs.refutation.before_case.Goals as goal

pub returns : goal.returns
returns c e x not_so = turned e c.args.first c.args.second (λ same. false≢true (c.if-is_same.ensures.1 same)) not_so
