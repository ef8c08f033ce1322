use Rattle.std.proofs.Common.{◌≡◌, drop}
use Rattle.hek_rules.specs.World.{World}
use Rattle.hek_rules.specs.Table.{is_claimed}
use Rattle.hek_machine.specs.Stands.{StandsFor}
use Rattle.hek_machine.proofs.engine.Engine.is_claimed.Given as goal

-- the key is claimed exactly if one of the versions left claims it
abbrev pub invariant-loop-v : goal.invariant-loop-v
invariant-loop-v l = record { left : (w : World) → StandsFor l.self w → is_claimed w l.t (drop l.v-index l.vs) ≡ is_claimed w l.t l.vs }
