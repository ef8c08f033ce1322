-- Tests that decide whether two lists are equal.
use Rattle.std.proofs.Common.{◌≡◌, ℕ, Bool, ◌&&◌, eqb, List, sym, ◌∙◌, rules}
use Rattle.std.specs.Bool.{Decides}
use Rattle.std.specs.Str.{bytes_eq}
use Rattle.std.specs.Cmp.Derive.Mapped.{pointwise-map}
use Rattle.std.proofs.lemmas.Slice.Eq.{slice_eq-Decides, bytes_eq-Decides}
use Rattle.std.proofs.lemmas.Bool.{and_parts, and_from}
use Rattle.std.proofs.lemmas.Bool.Decides.{Decides-eqb}
use lib.Pointwise.{pointwise}
use Rattle.hek_rules.specs.declared.event.Level.{Level}
use Rattle.hek_rules.specs.declared.event.Event.{Event}
use Rattle.hek_rules.specs.contracts.event.LevelPartialEq.TheImpl as level_eq
use Rattle.hek_rules.specs.contracts.event.EventPartialEq.TheImpl as event_eq
use Rattle.hek_rules.proofs.PlanLemmas.{texts}

-- a test that decides equality of two lists decides that of equal lists
pub decides_along : {A : Type 0} (r : Bool) (xs ys us vs : List A) → Decides r (xs ≡ ys) → xs ≡ us → ys ≡ vs → Decides r (us ≡ vs)
decides_along r xs ys us vs h p q = (λ e. sym p ∙ h.0 e ∙ q, λ e. h.1 (p ∙ e ∙ sym q))

-- a test of both parts decides equality of pairs
pub both_decide : {A B : Type 0} {E : A → A → Bool} {F : B → B → Bool} → ((a b : A) → Decides (E a b) (a ≡ b)) → ((a b : B) → Decides (F a b) (a ≡ b)) → (p q : A × B) → Decides (E p.0 q.0 && F p.1 q.1) (p ≡ q)
both_decide {A} {B} {E} {F} e f p q = (
  λ h. let parts = and_parts (E p.0 q.0) (F p.1 q.1) h in λ i. ((e p.0 q.0).0 parts.0 i, (f p.1 q.1).0 parts.1 i),
  λ h. and_from (E p.0 q.0) (F p.1 q.1) ((e p.0 q.0).1 (λ i. (h i).0)) ((f p.1 q.1).1 (λ i. (h i).1)),
)

pub levels_decide : (a b : Level) → Decides ((level_eq.eq-value).it a b) (a ≡ b)
levels_decide a b = search rules

pub events_decide : (a b : Event) → Decides ((event_eq.eq-value).it a b) (a ≡ b)
events_decide a b = search rules

pub rows_decide : (a b : ℕ × ℕ) → Decides (eqb a.0 b.0 && eqb a.1 b.1) (a ≡ b)
rows_decide = both_decide Decides-eqb Decides-eqb

-- a test of names by their bytes, and of levels, decides equality of lists of both
pub texts_decide : {K : Type 0} (f : K → List ℕ) (es fs : List (K × Level)) (r : Bool) → r ≡ pointwise (λ (p q : K × Level). bytes_eq (f p.0) (f q.0) && (level_eq.eq-value).it p.1 q.1) es fs → Decides r (texts f es ≡ texts f fs)
texts_decide {K} f es fs r h =
    slice_eq-Decides (both_decide bytes_eq-Decides levels_decide) (texts f es) (texts f fs) r
    (h ∙ sym (pointwise-map (λ (p : K × Level). (f p.0, p.1)) (λ (p q : List ℕ × Level). bytes_eq p.0 q.0 && (level_eq.eq-value).it p.1 q.1) es fs))
