use Rattle.hek_similar.proofs.Places.Sound.{worlds-sound}
use Rattle.hek_similar.proofs.renumbered_worlds_are_sound.Goals as goal

pub returns : goal.returns
returns c = worlds-sound
