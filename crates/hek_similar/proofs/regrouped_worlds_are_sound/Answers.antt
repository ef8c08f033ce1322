use Rattle.hek_similar.proofs.Holdings.Sound.{sound-regrouped}
use Rattle.hek_similar.proofs.regrouped_worlds_are_sound.Goals as goal

pub returns : goal.returns
returns c = sound-regrouped
