-- A schedule with all transactions at one level, or with other steps.
use Rattle.std.specs.Prelude.{List, map, Option, Some, None}
use Rattle.std.specs.List.{zip}
use Rattle.hek_rules.specs.declared.event.Level.{Level}
use Rattle.hek_rules.specs.declared.event.Event.{Event}
use Rattle.hek_rules.specs.Plan.{Plan, names_of, levels_of}

-- the given level for each transaction, or their own
abbrev pub levels_at : Option Level → Plan → List Level
levels_at None p = levels_of p
levels_at (Some level) p = map (λ t. level) p.txns

-- the same buckets, rows and names, with these levels and steps
abbrev pub leveled : Plan → Option Level → List Event → Plan
leveled p level steps = record p { txns = zip (names_of p) (levels_at level p); steps = steps }
