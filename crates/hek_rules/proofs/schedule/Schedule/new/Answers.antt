use Rattle.hek_rules.proofs.PlanLemmas.{empty_plan}
use Rattle.hek_rules.proofs.schedule.Schedule.new.Goals as goal
use Rattle.std.proofs.Common.{ap, map}

pub invariant_of-result : goal.invariant_of-result
invariant_of-result c = empty_plan _ c.requires c.new.ensures.empty (ap (map _) c.new-2.ensures.empty) c.new-3.ensures.items
