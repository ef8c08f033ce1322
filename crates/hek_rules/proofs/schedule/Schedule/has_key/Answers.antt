use Rattle.std.proofs.Common.{◌∙◌, ap, nat_eq}
use Rattle.std.proofs.lemmas.Map.Made.{is_some-lookup}
use Rattle.hek_rules.specs.Plan.{has_key, Plan}
use Rattle.hek_rules.proofs.schedule.Schedule.has_key.Goals as goal

pub returns : goal.returns
returns c = c.contains_key.ensures ∙ (is_some-lookup (nat_eq c.args.key) c.self.inside.rows.entries ∙ ap (λ (p : Plan). has_key p c.args.key) c.self.view_is)
