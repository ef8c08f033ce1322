use Rattle.std.proofs.Common.{refl}
use Rattle.hek_permute.proofs.Successors.{is_last}
use Rattle.hek_permute.proofs.order.next_order.Goals as goal

pub returns-in-None : goal.returns-in-None
returns-in-None c = (is_last c.args.order.now c.in-None.ensures, refl)
