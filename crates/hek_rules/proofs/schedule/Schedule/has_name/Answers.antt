use Rattle.std.proofs.Common.{◌∙◌, ap}
use Rattle.std.specs.Str.{bytes_eq}
use Rattle.std.specs.String.{string_bytes}
use Rattle.std.proofs.lemmas.Map.Made.{is_some-lookup}
use Rattle.hek_rules.specs.Plan.{has_name, Plan}
use Rattle.hek_rules.proofs.PlanLemmas.{list_any-texts}
use Rattle.hek_rules.proofs.schedule.Schedule.has_name.Goals as goal

pub returns : goal.returns
returns c = c.contains_key.ensures ∙ (is_some-lookup (λ k. bytes_eq c.args.name.now (string_bytes k)) c.self.inside.names.entries ∙ list_any-texts string_bytes c.args.name.now c.self.inside.names.entries ∙ ap (λ (p : Plan). has_name p c.args.name.now) c.self.view_is)
