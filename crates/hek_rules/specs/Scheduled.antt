-- The plan of a schedule, from its fields.
use Rattle.std.specs.Prelude.{map}
use Rattle.std.specs.String.{string_bytes}
use Rattle.hek_rules.specs.declared.schedule.Schedule.TheInside.{Inside}
use Rattle.hek_rules.specs.Plan.{Plan}

abbrev pub plan_of : Inside → Plan
plan_of s = record {
  buckets = s.buckets;
  rows = s.rows.entries;
  txns = map (λ p. (string_bytes p.0, p.1)) s.names.entries;
  steps = s.steps.items;
}
