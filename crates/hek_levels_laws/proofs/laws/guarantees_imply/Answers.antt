use Rattle.hek_levels_laws.proofs.Implied.{guarantees_imply}
use Rattle.hek_levels_laws.proofs.laws.guarantees_imply.Goals as goal

pub returns : goal.returns
returns c = guarantees_imply
