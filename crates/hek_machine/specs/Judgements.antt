-- The result of a walk in code: its first refusal, or its effects in order.
use Rattle.std.specs.Prelude.{◌≡◌, ℕ, List, [], ◌∷◌, filter, Option, Some, None, Result, Ok, Err}
use Rattle.hek_rules.specs.declared.event.Cause.{Cause}
use Rattle.hek_rules.specs.declared.event.Effect.{Effect}
use Rattle.hek_rules.specs.World.{World, txn_in}
use Rattle.hek_rules.specs.Visibility.{is_seen}
use Rattle.hek_rules.specs.Walk.{Judgement, Refuse, Allow}
use Rattle.hek_rules.specs.Walk as walk
use Rattle.hek_visible.specs.Seen.{version_seen}
use Rattle.hek_machine.specs.declared.engine.Engine.{Engine}
use Rattle.hek_rules.specs.declared.event.Aim.{Aim}
use Rattle.hek_rules.specs.declared.event.Aim.TheVariants.{ToRead, ToWrite}
use Rattle.hek_machine.specs.Stands.{StandsFor}

-- x is the value of f in each world that the parts stand for
abbrev pub IsShown : {X : Type 0} → Engine → (World → X) → X → Type 0
IsShown m f x = (w : World) → StandsFor m w → f w ≡ x

abbrev pub verdict : Option Cause → List Effect → Judgement
verdict None effects = Allow effects
verdict (Some cause) effects = Refuse cause

-- the judgement of one effect, of none, or of a refusal
abbrev pub judgement_of : Result (Option Effect) Cause → Judgement
judgement_of (Ok None) = Allow []
judgement_of (Ok (Some effect)) = Allow (effect ∷ [])
judgement_of (Err cause) = Refuse cause

-- the time at which t looks: its begin time at the snapshot level, otherwise the clock
abbrev pub looks : Engine → ℕ → ℕ
looks m t = walk.looks_at (txn_in m.txns.cores t).level (txn_in m.txns.cores t).begin m.clock

-- the versions that t sees, among these
abbrev pub seen_among : Engine → ℕ → List ℕ → List ℕ
seen_among m t vs = filter (λ (v : ℕ). is_seen (version_seen m.store m.txns t (looks m t) v)) vs

-- the target of a write is the last version that t sees; a read has no target
abbrev pub IsAimed : Engine → ℕ → List ℕ → Aim → Type 0
IsAimed m t vs ToRead = Unit {0}
IsAimed m t vs (ToWrite target) = target ≡ walk.last (seen_among m t vs)
