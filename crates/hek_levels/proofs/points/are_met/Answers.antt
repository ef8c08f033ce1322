use Rattle.std.proofs.Common.{refl}
use Rattle.hek_levels.proofs.Judged.{if_ok}
use Rattle.hek_levels.proofs.Touched.{met-all}
use Rattle.hek_levels.specs.Rows.{row_of}
use Rattle.hek_levels.proofs.points.are_met.Goals as goal

pub returns : goal.returns
returns c = if_ok c.is_each_lacked.result c.is_each_lacked.ensures (λ yes' f true'. met-all c.args.log.now c.args.t (row_of c.args.rows.now) (c.if-not-is_each_met.ensures refl) (f true'))
