-- The trace of steps, one event at a time, and the steps at the front of a schedule.
use Rattle.std.proofs.Common.{◌≡◌, ℕ, zero, suc, ◌+◌, ◌<◌, List, [], ◌∷◌, ◌++◌, Option, Some, None, ◌∙◌, ap, sym, subst, length, take, drop, get_or}
use Rattle.std.specs.List.{All, AllByRecursion}
use Rattle.std.proofs.lemmas.List.{at_drop_more, take_more}
use Rattle.std.proofs.lemmas.List.Elements.{All-take}
use Rattle.std.proofs.Math.Seq.{drop-length}
use Rattle.hek_rules.specs.declared.event.Event.{Event}
use Rattle.hek_rules.specs.declared.reply.Reply.{Reply}
use Rattle.hek_rules.specs.Plan.{Plan, IsPlan}
use Rattle.hek_rules.specs.World.{World}
use Rattle.hek_rules.specs.Run.{next, reply, run}
use Rattle.hek_laws.specs.Runs.{IsPlaced}
use Rattle.hek_laws.proofs.Runs.Reachable.{run-append}
use Rattle.hek_asm.specs.Trace.{NamesDeclared, trace_line, trace_from}
use Rattle.hek_asm.proofs.RowLemmas.{steps_declared}
use Rattle.hek_machine.proofs.RunRules.{replies_of}
use Rattle.hek_machine.proofs.PlacedSteps.{steps_placed}
use Rattle.hek_run_command.specs.Ran.{first_events}

-- the lines still to come after the first i steps
abbrev pub to_come : Plan → World → List Event → ℕ → List ℕ
to_come p w es i = trace_from p (i + 1) (drop i es) (replies_of (run w (take i es)) (drop i es))

-- the next line to come
pub next_line : (p : Plan) (w : World) (es : List Event) (i : ℕ) (e : Event) (r : Reply) → i < length es → e ≡ get_or es i e → r ≡ reply (run w (take i es)) e →
    to_come p w es i ≡ trace_line p (i + 1) e r ++ to_come p w es (i + 1)
next_line p w es i e r below at is =
    let here : World = run w (take i es) in
    let after : next here e ≡ run w (take (i + 1) es) = sym (ap (run w) (take_more es i e below ∙ ap (λ (x : Event). take i es ++ x ∷ []) (sym at)) ∙ run-append w (take i es) e) in
    at_drop_more (λ (xs : List Event). trace_from p (i + 1) xs (replies_of here xs)) es i e below
    ∙ ap (λ (x : Event). trace_from p (i + 1) (x ∷ drop (i + 1) es) (replies_of here (x ∷ drop (i + 1) es))) (sym at)
    ∙ ap (λ (y : Reply). trace_line p (i + 1) e y ++ trace_from p ((i + 1) + 1) (drop (i + 1) es) (replies_of (next here e) (drop (i + 1) es))) (sym is)
    ∙ ap (λ (v : World). trace_line p (i + 1) e r ++ trace_from p ((i + 1) + 1) (drop (i + 1) es) (replies_of v (drop (i + 1) es))) after

-- after the last step no lines are to come
pub none_to_come : (p : Plan) (w : World) (es : List Event) (i : ℕ) → i ≡ length es → to_come p w es i ≡ []
none_to_come p w es i end =
    ap (λ (xs : List Event). trace_from p (i + 1) xs (replies_of (run w (take i es)) xs)) (ap (λ (n : ℕ). drop n es) end ∙ drop-length es)

-- the first steps, as a slice gives them
pub first_placed : (p : Plan) (es fs : List Event) (limit : Option ℕ) → IsPlan p → es ≡ p.steps → fs ≡ first_events limit es → All (IsPlaced p.buckets) fs
first_placed p es fs None is same front = subst (All (IsPlaced p.buckets)) (sym front) (steps_placed p es is same)
first_placed p es fs (Some n) is same front = subst (All (IsPlaced p.buckets)) (sym front) (All-take (IsPlaced p.buckets) n es (steps_placed p es is same))

declared_front : (n : ℕ) (P : Event → Type 0) (xs : List Event) → AllByRecursion P xs → AllByRecursion P (take n xs)
declared_front zero P xs h = tt
declared_front (suc n) P [] h = tt
declared_front (suc n) P (x ∷ xs) h = (h.0, declared_front n P xs h.1)

pub first_declared : (p : Plan) (es fs : List Event) (limit : Option ℕ) → IsPlan p → es ≡ p.steps → fs ≡ first_events limit es → AllByRecursion (NamesDeclared (length p.txns)) fs
first_declared p es fs None is same front = subst (AllByRecursion (NamesDeclared (length p.txns))) (sym front) (steps_declared p es is same)
first_declared p es fs (Some n) is same front = subst (AllByRecursion (NamesDeclared (length p.txns))) (sym front) (declared_front n (NamesDeclared (length p.txns)) es (steps_declared p es is same))

-- the steps that were taken are the first ones of the schedule
pub first_steps : (p : Plan) (es fs : List Event) (limit : Option ℕ) → es ≡ p.steps → fs ≡ first_events limit es → fs ≡ first_events limit p.steps
first_steps p es fs limit same front = front ∙ ap (first_events limit) same
