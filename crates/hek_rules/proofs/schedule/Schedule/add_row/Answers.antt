use Rattle.std.proofs.Common.{◌∙◌, ap, sym, subst, nat_eq, List, ℕ, ◌++◌, ◌∷◌, [], ◌≡◌, IsTrue}
use Rattle.std.specs.List.{IsDistinct}
use Rattle.std.specs.Map.{keys_of}
use Rattle.indexmap.proofs.CallerLemmas.{insert_entry-new}
use Rattle.hek_rules.specs.Scheduled.{plan_of}
use Rattle.hek_rules.specs.Plan.{Plan, IsPlan, row_fits}
use Rattle.hek_rules.proofs.PlanLemmas.{absent, row_added, row_fits_parts}
use Rattle.hek_rules.proofs.schedule.Schedule.add_row.Goals as goal

fits : (c : goal.In_ok-insert) → IsTrue (row_fits (plan_of c.self.inside) c.args.key)
fits c = subst (λ (p : Plan). IsTrue (row_fits p c.args.key)) (sym c.self.view_is) c.requires

-- the new row is the last in the list
rows : (c : goal.In_ok-insert) → c.insert.new.self.entries ≡ c.self.inside.rows.entries ++ (c.args.key, c.args.value) ∷ []
rows c = c.in_ok-insert.ensures.entries ∙ insert_entry-new nat_eq c.self.inside.rows c.args.key c.args.value (absent (nat_eq c.args.key) c.self.inside.rows.entries (row_fits_parts (plan_of c.self.inside) c.args.key (fits c)).1)

pub invariant_of-self-2 : goal.invariant_of-self-2
invariant_of-self-2 c =
    let apart : IsDistinct nat_eq (keys_of (c.self.inside.rows.entries ++ (c.args.key, c.args.value) ∷ [])) = subst (λ (es : List (ℕ × ℕ)). IsDistinct nat_eq (keys_of es)) (rows c) c.in_ok-insert.ensures.unique in
    subst (λ (es : List (ℕ × ℕ)). IsPlan (record (plan_of c.self.inside) { rows = es })) (sym (rows c)) (row_added (plan_of c.self.inside) c.args.key c.args.value c.self.invariant (fits c) c.ranges.key.fits c.ranges.value.fits apart)

pub returns-clause-ok : goal.returns-clause-ok
returns-clause-ok c = ap (λ (es : List (ℕ × ℕ)). record (plan_of c.self.inside) { rows = es }) (rows c) ∙ ap (λ (p : Plan). record p { rows = p.rows ++ (c.args.key, c.args.value) ∷ [] }) c.self.view_is
