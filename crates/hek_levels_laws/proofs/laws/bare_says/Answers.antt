use Rattle.hek_levels_laws.proofs.Bare.{says}
use Rattle.hek_levels_laws.proofs.laws.bare_says.Goals as goal

pub returns : goal.returns
returns c = says
