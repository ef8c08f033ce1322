use Rattle.std.proofs.Common.{◌∙◌, ap, sym, subst, List, ℕ, ◌++◌, ◌∷◌, [], ◌≡◌, None, IsTrue}
use Rattle.std.specs.List.{IsDistinct}
use Rattle.std.specs.Map.{keys_of, lookup}
use Rattle.std.specs.Str.{bytes_eq}
use Rattle.std.specs.String.{string_bytes, string_eq}
use Rattle.indexmap.proofs.CallerLemmas.{insert_entry-new}
use Rattle.hek_rules.specs.declared.event.Level.{Level}
use Rattle.hek_rules.specs.Scheduled.{plan_of}
use Rattle.hek_rules.specs.Plan.{Plan, IsPlan, txn_fits}
use Rattle.hek_rules.proofs.PlanLemmas.{absent, txn_added, txn_fits_parts, list_any-texts, distinct-texts, texts, texts_push}
use Rattle.hek_rules.proofs.schedule.Schedule.add_txn.Goals as goal

fits : (c : goal.In_ok-insert) → IsTrue (txn_fits (plan_of c.self.inside) c.args.name.now)
fits c = subst (λ (p : Plan). IsTrue (txn_fits p c.args.name.now)) (sym c.self.view_is) c.requires

-- the new name is the last in the list
names : (c : goal.In_ok-insert) → texts string_bytes c.insert.new.self.entries ≡ texts string_bytes c.self.inside.names.entries ++ (c.args.name.now, c.args.level) ∷ []
names c =
    let es = c.self.inside.names.entries in
    let k = c.in_ok-name.name in
    let none = list_any-texts string_bytes c.args.name.now es ∙ (txn_fits_parts (plan_of c.self.inside) c.args.name.now (fits c)).2 in
    let gone = absent (λ x. bytes_eq c.args.name.now (string_bytes x)) es none in
    let own : lookup (string_eq k) es ≡ None = subst (λ (w : List ℕ). lookup (λ x. bytes_eq w (string_bytes x)) es ≡ None) (sym c.in_ok-name.ensures.ok) gone in
    texts_push string_bytes es c.insert.new.self.entries k c.args.level c.args.name.now (c.in_ok-insert.ensures.entries ∙ insert_entry-new string_eq c.self.inside.names k c.args.level own) c.in_ok-name.ensures.ok

pub invariant_of-self-2 : goal.invariant_of-self-2
invariant_of-self-2 c =
    let apart : IsDistinct bytes_eq (keys_of (texts string_bytes c.self.inside.names.entries ++ (c.args.name.now, c.args.level) ∷ [])) = subst (λ (es : List (List ℕ × Level)). IsDistinct bytes_eq (keys_of es)) (names c) (distinct-texts string_bytes c.insert.new.self.entries c.in_ok-insert.ensures.unique) in
    subst (λ (es : List (List ℕ × Level)). IsPlan (record (plan_of c.self.inside) { txns = es })) (sym (names c)) (txn_added (plan_of c.self.inside) c.args.name.now c.args.level c.self.invariant (fits c) apart)

pub returns-clause-ok : goal.returns-clause-ok
returns-clause-ok c = ap (λ (es : List (List ℕ × Level)). record (plan_of c.self.inside) { txns = es }) (names c) ∙ ap (λ (p : Plan). record p { txns = p.txns ++ (c.args.name.now, c.args.level) ∷ [] }) c.self.view_is
