-- A run one step at a time.
use Rattle.std.specs.Prelude.{ℕ, take}
use Rattle.hek_rules.specs.declared.event.Event.{Event}
use Rattle.hek_rules.specs.Plan.{Plan}
use Rattle.hek_rules.specs.Run.{next, run}
use Rattle.hek_rules.specs.World.{World}
use Rattle.hek_machine.specs.declared.engine.Engine.{Engine}
use Rattle.hek_machine.specs.Observed.{opening_of}
use Rattle.hek_machine.specs.Stands.{StandsFor}

-- the world after the first n steps of a schedule
abbrev pub world_at : Plan → ℕ → World
world_at p n = run (opening_of p 1) (take n p.steps)

-- the new machine stands for the world that the event leaves of each world that the old one stands for
abbrev pub LeadsNext : Event → Engine → Engine → Type 0
LeadsNext e before after = (w : World) → StandsFor before w → StandsFor after (next w e)
