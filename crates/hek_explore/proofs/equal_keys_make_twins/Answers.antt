use Rattle.hek_explore.proofs.Keys.{keys-twins}
use Rattle.hek_explore.proofs.equal_keys_make_twins.Goals as goal

pub returns : goal.returns
returns c = keys-twins
