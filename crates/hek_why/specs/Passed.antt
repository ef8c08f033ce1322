-- Whether a version exists and passes a test.
use Rattle.std.specs.Prelude.{ℕ, Bool, ◌&&◌, nat_lt, length}
use Rattle.hek_rules.specs.World.{World, Version, version_in}

abbrev pub version_passes : (ℕ → Version → Bool) → ℕ → World → Bool
version_passes test v w = nat_lt v (length w.versions) && test v (version_in w.versions v)
