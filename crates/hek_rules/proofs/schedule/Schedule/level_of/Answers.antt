use Rattle.std.proofs.Common.{◌≡◌, ◌∙◌, ap, sym, subst, ℕ, ◌-◌, Some, slice_get}
use Rattle.std.specs.Option.{option_map}
use Rattle.std.specs.String.{string_bytes}
use Rattle.hek_rules.specs.Plan.{Plan, levels_of}
use Rattle.hek_rules.proofs.PlanLemmas.{value_at}
use Rattle.hek_rules.proofs.schedule.Schedule.level_of.Goals as goal

pub returns : goal.returns
returns c =
    let here : slice_get c.self.inside.names.entries (c.number.result - 1) ≡ Some (c.unwrap.result.0.now, c.unwrap.result.1.now) = sym c.get_index.ensures.entry ∙ ap (option_map (λ p. (p.0.now, p.1.now))) c.unwrap.ensures in
    subst (λ (p : Plan). slice_get (levels_of p) (c.args.txn - 1) ≡ Some c.unwrap.result.1.now) c.self.view_is
    (value_at string_bytes c.self.inside.names.entries (c.number.result - 1) (c.args.txn - 1) c.unwrap.result.0.now c.unwrap.result.1.now here (ap (λ (n : ℕ). n - 1) c.number.ensures))
