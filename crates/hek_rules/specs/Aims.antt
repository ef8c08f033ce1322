-- The parts of a walk's aim: its purpose, and the version that a write locks.
use Rattle.std.specs.Prelude.{ℕ, Option, None}
use Rattle.hek_rules.specs.declared.event.Aim.{Aim}
use Rattle.hek_rules.specs.declared.event.Aim.TheVariants.{ToRead, ToWrite}
use Rattle.hek_rules.specs.Walk.{Purpose}
use Rattle.hek_rules.specs.Walk as walk

abbrev pub purpose_of : Aim → Purpose
purpose_of ToRead = walk.ToRead
purpose_of (ToWrite target) = walk.ToWrite

-- the last version seen, which a write locks; a read has none
abbrev pub target_of : Aim → Option ℕ
target_of ToRead = None
target_of (ToWrite target) = target
