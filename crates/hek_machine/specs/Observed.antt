-- What a machine shows of the worlds that it stands for.
use Rattle.std.specs.Prelude.{ℕ, Option, Some, None, if◌then◌else◌, nat_lt, length}
use Rattle.hek_rules.specs.Plan.{Plan, levels_of}
use Rattle.hek_rules.specs.World.{World, opening, version_in}
use Rattle.hek_machine.specs.declared.engine.Engine.{Engine}
use Rattle.hek_machine.specs.Stands.{StandsFor}

-- the world in which the runs of a schedule begin
abbrev pub opening_of : Plan → ℕ → World
opening_of p clock = opening p.buckets p.rows (levels_of p) clock

-- the new parts stand for each world that the old ones stand for
abbrev pub StandsAs : Engine → Engine → Type 0
StandsAs old new = (w : World) → StandsFor old w → StandsFor new w

-- a value of the version at a place, or None past the last version
abbrev pub of_version : {X : Type 0} → (World → ℕ → X) → ℕ → World → Option X
of_version f v w = if nat_lt v (length w.versions) then Some (f w v) else None

abbrev pub key_in : World → ℕ → ℕ
key_in w v = (version_in w.versions v).key

abbrev pub value_in : World → ℕ → ℕ
value_in w v = (version_in w.versions v).value
