-- What every transcript has.
use Rattle.std.proofs.Common.{◌≡◌, ◌≢◌, ℕ, List, [], ◌∷◌, false, Some, All, refl, subst}
use Rattle.std.proofs.lemmas.List.Elements.{All-nil, All-cons}
use Rattle.hek_rules.specs.declared.event.Event.{Event}
use Rattle.hek_rules.specs.declared.event.Event.TheVariants.{Detect}
use Rattle.hek_rules.specs.declared.reply.Reply.{Reply}
use Rattle.hek_rules.specs.declared.reply.Reply.TheVariants.{Refused}
use Rattle.hek_rules.specs.declared.reply.Refusal.{Refusal}
use Rattle.hek_worker.specs.declared.stage.Stage.{Stage}
use Rattle.hek_worker.specs.declared.stage.Stage.TheVariants.{Start, Working, Preparing, Looking, GivingUp, Releasing, Committing, Stamping, Ending, Ended}
use Rattle.hek_worker.specs.declared.stage.Position.{Position}
use Rattle.hek_worker.specs.Grammar.{Leads, IsTranscript, event_at, position_after, answers, begin_at, end_at}

never : (e : Event) (why : Refusal) → answers e (Refused why) ≡ false
never Detect why = refl
never e why = refl

stops : (t : ℕ) (work : List Event) (s : Stage) (n : ℕ) (why : Refusal) (m : Position) → position_after t work s n (Refused why) ≡ Some m → ⊥
stops t work Start n why m h = cc
stops t work (Working i) n why m h = let k = rw (never (event_at t work (Working i)) why) at h in cc
stops t work Preparing n why m h = cc
stops t work Looking n why m h = cc
stops t work GivingUp n why m h = cc
stops t work (Releasing cut) n why m h = cc
stops t work Committing n why m h = cc
stops t work (Stamping cut) n why m h = cc
stops t work Ending n why m h = cc
stops t work Ended n why m h = cc

along : (t : ℕ) (work : List Event) (p : Position) (xs : List (Event × Reply)) (q : Position) → Leads t work p xs q → (why : Refusal) → All (λ x. x.1 ≢ Refused why) xs
along t work p [] q h why = All-nil (λ (x : Event × Reply). x.1 ≢ Refused why)
along t work p (x ∷ xs) q h why =
    let P : Reply → Type 0 = λ r. position_after t work p.stage p.turns r ≡ Some h.1.0 in
    All-cons (λ (y : Event × Reply). y.1 ≢ Refused why) x xs (λ is. stops t work p.stage p.turns why h.1.0 (subst P is h.1.1)) (along t work h.1.0 xs q h.1.2 why)

pub none_refused : (t : ℕ) (work : List Event) (turns : ℕ) (xs : List (Event × Reply)) → IsTranscript t work turns xs → (why : Refusal) → All (λ x. x.1 ≢ Refused why) xs
none_refused t work turns xs h why = along t work (begin_at turns) xs (end_at h.0) h.1 why
