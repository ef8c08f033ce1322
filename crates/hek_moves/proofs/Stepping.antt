-- A run one step at a time: the machine after each step.
use Rattle.std.proofs.Common.{◌≡◌, ℕ, ◌+◌, ◌<◌, List, [], ◌∷◌, ◌++◌, ◌∙◌, ap, sym, subst, length, take, get_or}
use Rattle.std.proofs.lemmas.List.{take_more}
use Rattle.std.proofs.lemmas.List.Elements.{All-get_or}
use Rattle.std.specs.List.{All}
use Rattle.hek_rules.specs.declared.event.Event.{Event}
use Rattle.hek_rules.specs.Plan.{Plan}
use Rattle.hek_rules.specs.Run.{next, run}
use Rattle.hek_laws.specs.Runs.{IsPlaced}
use Rattle.hek_laws.proofs.Runs.Reachable.{run-append}
use Rattle.hek_laws.proofs.Worlds.Fixed.{fixed-run}
use Rattle.hek_machine.specs.declared.engine.Engine.{Engine}
use Rattle.hek_machine.specs.Observed.{opening_of}
use Rattle.hek_machine.specs.Stands.{StandsFor}
use Rattle.hek_moves.specs.Steps.{world_at, LeadsNext}

-- the world after one more step
pub world_more : (p : Plan) (i : ℕ) (e : Event) → i < length p.steps → e ≡ get_or p.steps i e → world_at p (i + 1) ≡ next (world_at p i) e
world_more p i e below at =
    ap (run (opening_of p 1)) (take_more p.steps i e below ∙ ap (λ (x : Event). take i p.steps ++ x ∷ []) (sym at)) ∙ run-append (opening_of p 1) (take i p.steps) e

pub stands_more : (p : Plan) (es : List Event) (i : ℕ) (e : Event) (m n : Engine) → es ≡ p.steps → i < length es → e ≡ get_or es i e → StandsFor m (world_at p i) → LeadsNext e m n → StandsFor n (world_at p (i + 1))
stands_more p es i e m n same below at stands on =
    let within : i < length p.steps = subst (λ (fs : List Event). i < length fs) same below in
    let here : e ≡ get_or p.steps i e = at ∙ ap (λ (fs : List Event). get_or fs i e) same in
    subst (StandsFor n) (sym (world_more p i e within here)) (on (world_at p i) stands)

-- a machine that stands for a world of the run has the schedule's number of buckets, so it takes each of its steps
pub placed_at : (p : Plan) (es : List Event) (i : ℕ) (e : Event) (m : Engine) → i < length es → e ≡ get_or es i e → All (IsPlaced p.buckets) es → StandsFor m (world_at p i) → IsPlaced (length m.buckets) e
placed_at p es i e m below at placed stands =
    let count : length m.buckets ≡ p.buckets = stands.shows.buckets.count ∙ (fixed-run (opening_of p 1) (take i p.steps)).buckets in
    let here : IsPlaced p.buckets (get_or es i e) = All-get_or (IsPlaced p.buckets) es i e below placed in
    subst (λ (b : ℕ). IsPlaced b e) (sym count) (subst (IsPlaced p.buckets) (sym at) here)
