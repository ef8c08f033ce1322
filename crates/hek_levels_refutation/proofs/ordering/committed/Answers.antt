use Rattle.std.proofs.Common.{sym}
use Rattle.hek_levels_refutation.proofs.ordering.committed.Goals as goal

pub returns : goal.returns
returns c e x hold = x.committed c.args.t (sym c.if-not-is_committed.ensures)
