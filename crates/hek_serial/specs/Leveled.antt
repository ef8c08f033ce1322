-- A transcript with one level for all its transactions.
use Rattle.std.specs.Prelude.{map}
use Rattle.hek_rules.specs.declared.event.Level.{Level}
use Rattle.hek_rules.specs.Recorded.{Recorded}

-- a transcript with this level for each declared transaction
abbrev pub at_level : Level → Recorded → Recorded
at_level level told = record told { levels = map (λ _. level) told.levels }
