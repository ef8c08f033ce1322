use Rattle.hek_explore.proofs.Shapes.{twins-shape}
use Rattle.hek_explore.proofs.twins_have_equal_keys.Goals as goal

pub returns : goal.returns
returns c = twins-shape
