-- For callers of `run`: each scan of a schedule's steps is of an existing bucket, and each event has one reply.
use Rattle.std.proofs.Common.{◌≡◌, ℕ, suc, List, [], ◌∷◌, refl, ◌∙◌, ap, sym, subst, length}
use Rattle.std.specs.Prelude.{map}
use Rattle.std.proofs.lemmas.List.Elements.{All-nil, All-cons}
use Rattle.std.specs.List.{All, AllByRecursion}
use Rattle.hek_rules.specs.declared.event.Event.{Event}
use Rattle.hek_rules.specs.declared.event.Event.TheVariants as event
use Rattle.hek_rules.specs.Plan.{Plan, IsPlan, IsStep}
use Rattle.hek_rules.specs.declared.reply.Reply.{Reply}
use Rattle.hek_rules.specs.World.{World}
use Rattle.hek_rules.specs.Run.{next, transcript}
use Rattle.hek_laws.specs.Runs.{IsPlaced}
use Rattle.hek_machine.specs.declared.engine.Engine.{Engine}
use Rattle.hek_machine.specs.Observed.{opening_of}
use Rattle.hek_machine.specs.Steps.{IsRun}

step_placed : (buckets txns : ℕ) (e : Event) → IsStep buckets txns e → IsPlaced buckets e
step_placed b n (event.Scan t k) h = h.1
step_placed b n e h = tt

all_placed : (buckets txns : ℕ) (es : List Event) → AllByRecursion (IsStep buckets txns) es → All (IsPlaced buckets) es
all_placed b n [] h = All-nil (IsPlaced b)
all_placed b n (e ∷ es) h = All-cons (IsPlaced b) e es (step_placed b n e h.0) (all_placed b n es h.1)

-- the steps of a schedule, read through a slice, scan existing buckets
pub steps_placed : (p : Plan) (es : List Event) → IsPlan p → es ≡ p.steps → All (IsPlaced p.buckets) es
steps_placed p es is same = subst (All (IsPlaced p.buckets)) (sym same) (all_placed p.buckets (length p.txns) p.steps is.steps)

one_each : (w : World) (es : List Event) → length (map (λ (x : Event × Reply). x.1) (transcript w es)) ≡ length es
one_each w [] = refl
one_each w (e ∷ es) = ap suc (one_each (next w e) es)

pub replies_paired : (p : Plan) (clock : ℕ) (es : List Event) (rs : List Reply) (m : Engine) → IsRun p clock es rs m → length rs ≡ length es
replies_paired p clock es rs m ran = ap (λ (xs : List Reply). length xs) ran.replies ∙ one_each (opening_of p clock) es
