use Rattle.hek_laws.proofs.Sound.InWalks.{part-sound, read-turn, write-turn}
use Rattle.hek_laws.proofs.walks_stay_sound.Goals as goal

pub returns-clause-sound : goal.returns-clause-sound
returns-clause-sound c = part-sound

pub returns-clause-read : goal.returns-clause-read
returns-clause-read c = read-turn

pub returns-clause-write : goal.returns-clause-write
returns-clause-write c = write-turn
