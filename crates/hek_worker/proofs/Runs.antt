-- A history that is one entry longer.
use Rattle.std.proofs.Common.{◌≡◌, ℕ, List, [], ◌∷◌, ◌++◌, refl, ap, ◌∙◌, sym, subst, length}
use Rattle.std.specs.Prelude.{map}
use Rattle.std.proofs.lemmas.List.Elements.{All-nil, All-cons, All-append}
use Rattle.hek_rules.specs.declared.event.Event.{Event}
use Rattle.hek_rules.specs.declared.reply.Reply.{Reply}
use Rattle.hek_rules.specs.Plan.{Plan}
use Rattle.hek_rules.specs.World.{World}
use Rattle.hek_rules.specs.Run.{next, reply, run, transcript}
use Rattle.hek_laws.specs.Runs.{IsPlaced}
use Rattle.hek_laws.proofs.Worlds.Fixed.{fixed-run}
use Rattle.hek_machine.specs.declared.engine.Engine.{Engine}
use Rattle.hek_machine.specs.Stands.{StandsFor}
use Rattle.hek_machine.specs.Observed.{opening_of}
use Rattle.hek_machine.specs.Steps.{IsMachineStep}
use Rattle.hek_worker.specs.declared.entry.Entry.{Entry}
use Rattle.hek_worker.specs.History.{IsEntry, MayStep, Replays, history_events, replies_in}

abbrev pub replies_of : World → List Event → List Reply
replies_of w es = map (λ (x : Event × Reply). x.1) (transcript w es)

run_more : (w : World) (es : List Event) (e : Event) → run w (es ++ e ∷ []) ≡ next (run w es) e
run_more w [] e = refl
run_more w (x ∷ xs) e = run_more (next w x) xs e

replies_more : (w : World) (es : List Event) (e : Event) → replies_of w (es ++ e ∷ []) ≡ replies_of w es ++ reply (run w es) e ∷ []
replies_more w [] e = refl
replies_more w (x ∷ xs) e = ap (λ rs. reply w x ∷ rs) (replies_more (next w x) xs e)

events_of-push : (xs : List Entry) (x : Entry) → history_events (xs ++ x ∷ []) ≡ history_events xs ++ x.event ∷ []
events_of-push [] x = refl
events_of-push (y ∷ xs) x = ap (λ es. y.event ∷ es) (events_of-push xs x)

replies_in-push : (xs : List Entry) (x : Entry) → replies_in (xs ++ x ∷ []) ≡ replies_in xs ++ x.reply ∷ []
replies_in-push [] x = refl
replies_in-push (y ∷ xs) x = ap (λ rs. y.reply ∷ rs) (replies_in-push xs x)

-- a machine that represents a world of a run has the schedule's buckets
pub bucket_count : (p : Plan) (es : List Event) (m : Engine) → StandsFor m (run (opening_of p 1) es) → length m.buckets ≡ p.buckets
bucket_count p es m s = s.shows.buckets.count ∙ (fixed-run (opening_of p 1) es).buckets

pub placed_in : (p : Plan) (m : Engine) (xs : List Entry) (t : ℕ) (e : Event) → Replays p m xs → MayStep p t e → IsPlaced (length m.buckets) e
placed_in p m xs t e h may = subst (λ (b : ℕ). IsPlaced b e) (sym (bucket_count p (history_events xs) m h.ran.machine)) may.2

pub Replays-push : (p : Plan) (m n : Engine) (xs ys : List Entry) (t : ℕ) (e : Event) (r : Reply)
    → Replays p m xs → MayStep p t e → IsMachineStep e m n r → ys ≡ xs ++ record { worker = t; event = e; reply = r } ∷ []
    → Replays p n ys
Replays-push p m n xs ys t e r h may step grown =
    let x : Entry = record { worker = t; event = e; reply = r } in
    let es : List Event = history_events xs in
    let w : World = run (opening_of p 1) es in
    let events : history_events (xs ++ x ∷ []) ≡ es ++ e ∷ [] = events_of-push xs x in
    let answers : replies_in (xs ++ x ∷ []) ≡ replies_of (opening_of p 1) (es ++ e ∷ []) =
    replies_in-push xs x ∙ ap (λ (rs : List Reply). rs ++ r ∷ []) h.ran.replies
    ∙ ap (λ (z : Reply). replies_of (opening_of p 1) es ++ z ∷ []) (step.reply w h.ran.machine)
    ∙ sym (replies_more (opening_of p 1) es e) in
    let stands : StandsFor n (run (opening_of p 1) (es ++ e ∷ [])) = subst (StandsFor n) (sym (run_more (opening_of p 1) es e)) (step.world w h.ran.machine) in
    subst (Replays p n) (sym grown) (record {
      plan = h.plan;
      formed = All-append (IsEntry (length p.txns)) xs (x ∷ []) h.formed (All-cons (IsEntry (length p.txns)) x [] (may.0, may.1) (All-nil (IsEntry (length p.txns))));
      ran = record {
        replies = answers ∙ ap (replies_of (opening_of p 1)) (sym events);
        machine = subst (λ (fs : List Event). StandsFor n (run (opening_of p 1) fs)) (sym events) stands;
      };
    })
