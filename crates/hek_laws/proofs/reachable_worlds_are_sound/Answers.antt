use Rattle.hek_laws.proofs.Runs.Reachable.{reachable-sound}
use Rattle.hek_laws.proofs.reachable_worlds_are_sound.Goals as goal

pub returns : goal.returns
returns c = reachable-sound
