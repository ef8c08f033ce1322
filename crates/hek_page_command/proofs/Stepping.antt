-- A run one step at a time: what the steps change up to each.
use Rattle.std.proofs.Common.{◌≡◌, ℕ, zero, suc, ◌+◌, ◌<◌, ◌≤◌, ◌⊎◌, List, [], ◌∷◌, ◌++◌, refl, ◌∙◌, ap, sym, subst, ⊎_elim, inl, inr, length, get_or, arith, append_assoc}
use Rattle.std.proofs.lemmas.Bool.{cases_eq}
use Rattle.std.proofs.lemmas.List.{append-nil, length-append}
use Rattle.hek_rules.specs.declared.event.Event.{Event}
use Rattle.hek_rules.specs.Plan.{Plan}
use Rattle.hek_rules.specs.Run.{next}
use Rattle.hek_rules.specs.World.{World}
use Rattle.hek_machine.specs.declared.engine.Engine.{Engine}
use Rattle.hek_machine.specs.Observed.{StandsAs}
use Rattle.hek_machine.specs.Stands.{StandsFor}
use Rattle.hek_why.specs.declared.change.Change.{Change}
use Rattle.hek_why.specs.Leads.{Leads, LeadOn}
use Rattle.hek_why.proofs.LeadsLaw.{leads_none, leads_on}
use Rattle.hek_page_command.specs.declared.step_text.StepText.{StepText}
use Rattle.hek_moves.specs.Steps.{world_at, LeadsNext}
use Rattle.hek_moves.proofs.Stepping.{world_more}
use Rattle.hek_page_command.specs.Tellings.{changes_upto, AreTold, IsStepAdded}

-- changes from a copy of a machine are changes from the machine
lead_from_copy : (m b n : Engine) (cs : List Change) → StandsAs m b → LeadOn b n cs → LeadOn m n cs
lead_from_copy m b n cs same lead w es stands after = lead w es (same w stands) after

-- a step from a copy of a machine is a step from the machine
pub added_from_copy : (m b n : Engine) (old new : List StepText) → StandsAs m b → IsStepAdded b n old new → IsStepAdded m n old new
added_from_copy m b n old new same a = record {
  text = a.text;
  lead = lead_from_copy m b n a.text.changes.items same a.lead;
  added = a.added;
}

-- ---- the changes

upto_front : (n : ℕ) (ss : List StepText) (t : StepText) → n ≤ length ss → changes_upto n (ss ++ t ∷ []) ≡ changes_upto n ss
upto_front zero ss t le = refl
upto_front (suc n) [] t le = absurd (omega (arith, le))
upto_front (suc n) (s ∷ ss) t le = ap (λ (cs : List Change). s.changes.items ++ cs) (upto_front n ss t (omega (arith, le)))

upto_last : (ss : List StepText) (t : StepText) → changes_upto (suc (length ss)) (ss ++ t ∷ []) ≡ changes_upto (length ss) ss ++ t.changes.items
upto_last [] t = append-nil t.changes.items
upto_last (s ∷ ss) t = ap (λ (cs : List Change). s.changes.items ++ cs) (upto_last ss t) ∙ sym (append_assoc s.changes.items (changes_upto (length ss) ss) t.changes.items)

leads_at_start : (p : Plan) (done n : ℕ) → n ≤ 0 → Leads (world_at p done) (world_at p (done + n)) (changes_upto n [])
leads_at_start p done zero few =
    let same : done ≡ done + 0 = omega arith in
    subst (λ (k : ℕ). Leads (world_at p done) (world_at p k) []) same (leads_none (world_at p done))
leads_at_start p done (suc n) few = absurd (omega (arith, few))

pub told_none : (p : Plan) (done : ℕ) (steps : List StepText) → steps ≡ [] → done ≤ length p.steps → AreTold p done steps
told_none p done steps none le = subst (AreTold p done) (sym none) (record {
  within = omega (arith, le);
  lead = λ n few. leads_at_start p done n few;
})

last_or_front : (n k : ℕ) → n ≤ suc k → (n ≡ suc k) ⊎ (n ≤ k)
last_or_front n k le = ⊎_elim (λ same. inl same) (λ other. inr (omega (arith, le, other))) (cases_eq n (suc k))

longer : (old : List StepText) (t : StepText) → length (old ++ t ∷ []) ≡ length old + 1
longer old t = length-append old (t ∷ [])

module _ (p : Plan) (done : ℕ) (steps : List StepText) (t : StepText) where
  -- up to the step that is added
  leads_to_last : AreTold p done steps → Leads (world_at p (done + length steps)) (world_at p (done + suc (length steps))) t.changes.items
      → Leads (world_at p done) (world_at p (done + suc (length steps))) (changes_upto (suc (length steps)) (steps ++ t ∷ []))
  leads_to_last told lead =
      subst (Leads (world_at p done) (world_at p (done + suc (length steps)))) (sym (upto_last steps t))
      (leads_on (world_at p done) (world_at p (done + length steps)) (world_at p (done + suc (length steps))) (changes_upto (length steps) steps) t.changes.items
      (told.lead (length steps) (omega arith)) lead)

  told_added : AreTold p done steps → done + length steps < length p.steps
      → Leads (world_at p (done + length steps)) (world_at p (done + suc (length steps))) t.changes.items → AreTold p done (steps ++ t ∷ [])
  told_added told below lead =
      let long = longer steps t in
      record {
        within = omega (arith, below, long);
        lead = λ n few. ⊎_elim
            (λ last. subst (λ (k : ℕ). Leads (world_at p done) (world_at p (done + k)) (changes_upto k (steps ++ t ∷ []))) (sym last) (leads_to_last told lead))
            (λ front. subst (Leads (world_at p done) (world_at p (done + n))) (sym (upto_front n steps t front)) (told.lead n front))
            (last_or_front n (length steps) (omega (arith, few, long)));
      }

-- one more step
pub told_more : (p : Plan) (es : List Event) (done i : ℕ) (e : Event) (m n : Engine) (old new : List StepText) → es ≡ p.steps → i < length es → e ≡ get_or es i e → StandsFor m (world_at p i) → LeadsNext e m n
    → done + length old ≡ i → AreTold p done old → IsStepAdded m n old new → AreTold p done new
told_more p es done i e m n old new same below at stands on count told added =
    let text : StepText = added.text in
    let within : i < length p.steps = subst (λ (fs : List Event). i < length fs) same below in
    let here : e ≡ get_or p.steps i e = at ∙ ap (λ (fs : List Event). get_or fs i e) same in
    let step : Leads (world_at p i) (next (world_at p i) e) text.changes.items = added.lead (world_at p i) (e ∷ []) stands (on (world_at p i) stands) in
    let lead : Leads (world_at p i) (world_at p (i + 1)) text.changes.items =
    subst (λ (w : World). Leads (world_at p i) w text.changes.items) (sym (world_more p i e within here)) step in
    let after : i + 1 ≡ done + suc (length old) = omega (arith, count) in
    let moved : Leads (world_at p (done + length old)) (world_at p (done + suc (length old))) text.changes.items =
    subst (λ (k : ℕ). Leads (world_at p k) (world_at p (done + suc (length old))) text.changes.items) (sym count)
    (subst (λ (k : ℕ). Leads (world_at p i) (world_at p k) text.changes.items) after lead) in
    subst (AreTold p done) (sym added.added) (told_added p done old text told (omega (arith, count, within)) moved)

pub count_more : (done i : ℕ) (m n : Engine) (old new : List StepText) → done + length old ≡ i → IsStepAdded m n old new → done + length new ≡ i + 1
count_more done i m n old new count added =
    let long = longer old added.text in
    let same : length new ≡ length (old ++ added.text ∷ []) = ap (λ (ss : List StepText). length ss) added.added in
    omega (arith, count, long, same)
