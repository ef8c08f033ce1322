use Rattle.std.proofs.Common.{rules, ◌≡◌, ◌∙◌, ap, subst, ℕ, ◌+◌, List, Some, None}
use Rattle.std.specs.Option.{option_map}
use Rattle.std.specs.String.{string_bytes}
use Rattle.hek_rules.specs.Plan.{Plan, IsPlan, id_of}
use Rattle.hek_rules.proofs.PlanLemmas.{position-texts}
use Rattle.hek_rules.proofs.NameLemmas.{unnamed}
use Rattle.hek_rules.proofs.schedule.Schedule.id_of.Goals as goal

pub returns-in_err-text-clause-value : goal.returns-in_err-text-clause-value
returns-in_err-text-clause-value c =
    let none : id_of c.args.self.now c.args.name.now ≡ None = unnamed c.args.self.now c.args.name.now (subst (λ (p : Plan). IsPlan p) c.self.view_is c.self.invariant) c.in_err-text.ensures in
    search rules

pub returns-in_err-place-clause-value : goal.returns-in_err-place-clause-value
returns-in_err-place-clause-value c =
    let place = c.in_err-place.ensures.index ∙ position-texts string_bytes c.in_ok-text.text.now c.self.inside.names.entries in
    c.from_residual-in_err-place.ensures ∙ ap (option_map (λ (i : ℕ). i + 1)) place
    ∙ ap (λ (p : Plan). id_of p c.in_ok-text.text.now) c.self.view_is
    ∙ ap (λ (w : List ℕ). id_of c.args.self.now w) c.in_ok-text.ensures.0

pub returns-clause-value : goal.returns-clause-value
returns-clause-value c =
    let place = c.in_ok-place.ensures.index ∙ position-texts string_bytes c.in_ok-text.text.now c.self.inside.names.entries in
    ap (λ (n : ℕ). Some n) c.new.ensures ∙ ap (option_map (λ (i : ℕ). i + 1)) place
    ∙ ap (λ (p : Plan). id_of p c.in_ok-text.text.now) c.self.view_is
    ∙ ap (λ (w : List ℕ). id_of c.args.self.now w) c.in_ok-text.ensures.0
