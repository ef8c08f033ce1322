use Rattle.hek_levels_laws.proofs.Uncommitted.{says}
use Rattle.hek_levels_laws.proofs.laws.found_says.Goals as goal

pub returns : goal.returns
returns c = says
