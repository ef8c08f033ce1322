use Rattle.hek_levels_laws.proofs.Uncommitted.{explained_is_so}
use Rattle.hek_levels_laws.proofs.laws.explained_is_read_uncommitted.Goals as goal

pub returns : goal.returns
returns c = explained_is_so
