-- Steps of a machine, and runs of many steps.
use Rattle.std.proofs.Common.{◌≡◌, ℕ, ◌+◌, ◌<◌, List, [], ◌∷◌, ◌++◌, refl, ◌∙◌, ap, sym, subst, arith, Result, Ok, Err, IfOk, length, take, get_or}
use Rattle.std.proofs.lemmas.Result.{IfOk-weaker}
use Rattle.std.proofs.lemmas.List.{take_more}
use Rattle.std.proofs.Math.Seq.{take-length}
use Rattle.std.specs.List.{zip}
use Rattle.std.specs.Prelude.{OnErr, map}
use Rattle.hek_rules.specs.declared.event.Event.{Event}
use Rattle.hek_rules.specs.declared.reply.Reply.{Reply}
use Rattle.hek_rules.specs.Plan.{Plan, IsPlan, levels_of}
use Rattle.hek_rules.specs.World.{World}
use Rattle.hek_rules.specs.Table.{outcome}
use Rattle.hek_rules.specs.Run.{next, reply, run, transcript}
use Rattle.hek_rules.specs.Serial.{serial_map}
use Rattle.hek_rules.specs.Faults.{put_all, HasNoFault}
use Rattle.hek_laws.specs.Runs.{IsFirstClock, IsPlaced}
use Rattle.hek_laws.proofs.Runs.NoFault.{run-no_fault}
use Rattle.hek_laws.proofs.Runs.Opening.{run-rows}
use Rattle.hek_laws.proofs.Runs.Reachable.{next-reachable, run-append}
use Rattle.hek_laws.proofs.Worlds.Fixed.{fixed-next}
use Rattle.hek_machine.specs.declared.engine.Engine.{Engine}
use Rattle.hek_machine.specs.Stands.{StandsFor, StandsForSome, IsRule, StillShows}
use Rattle.hek_machine.specs.Observed.{opening_of, StandsAs}
use Rattle.hek_machine.specs.Steps.{IsMachineStep, HasNoFaults, RowsAreSerial}

-- ---- steps

pub step_of_row : (e : Event) (m n : Engine) (r : Reply) → IsPlaced (length m.buckets) e → IsRule (λ w. outcome w e) m n r → IsMachineStep e m n r
step_of_row e m n r placed i = record {
  reply = i.reply;
  world = λ w s. record {
    reachable = next-reachable w e s.reachable (subst (λ b. IsPlaced b e) s.shows.buckets.count placed);
    named = let c = (fixed-next w e).count in let k = s.named in omega (arith, c, k);
    shows = i.shows w s;
  };
}

pub steps_of_rows : {E : Type 0} (e : Event) (m n : Engine) (r : Result Reply E) → IsPlaced (length m.buckets) e → IfOk r (IsRule (λ w. outcome w e) m n) → IfOk r (IsMachineStep e m n)
steps_of_rows e m n r placed i = IfOk-weaker r (IsRule (λ w. outcome w e) m n) (IsMachineStep e m n) (λ x rule. step_of_row e m n x placed rule) i

still_stands : (m n : Engine) → StillShows m n → (w : World) → StandsFor m w → StandsFor n w
still_stands m n s w k = record { reachable = k.reachable; named = k.named; shows = s.world w k.shows }

pub stands_on_err : {E : Type 0} (m n : Engine) (r : Result Reply E) → OnErr r (StillShows m n) → OnErr r (StandsAs m n)
stands_on_err m n (Ok x) s = tt
stands_on_err m n (Err f) s = still_stands m n s

pub ordered_after : {E : Type 0} (e : Event) (m n : Engine) (r : Result Reply E) → StandsForSome m → IsPlaced (length m.buckets) e → IfOk r (IsRule (λ w. outcome w e) m n) → OnErr r (StillShows m n) → StandsForSome n
ordered_after e m n (Ok x) o placed i s = record { world = next o.world e; stands = (step_of_row e m n x placed i).world o.world o.stands }
ordered_after e m n (Err f) o placed i s = record { world = o.world; stands = still_stands m n s o.world o.stands }

pub buckets_after : {E : Type 0} (e : Event) (m n : Engine) (r : Result Reply E) → StandsForSome m → IfOk r (IsRule (λ w. outcome w e) m n) → OnErr r (StillShows m n) → length n.buckets ≡ length m.buckets
buckets_after e m n (Ok x) o i s = (i.shows o.world o.stands).buckets.count ∙ (fixed-next o.world e).buckets ∙ sym o.stands.shows.buckets.count
buckets_after e m n (Err f) o i s = (s.world o.world o.stands.shows).buckets.count ∙ sym o.stands.shows.buckets.count

-- ---- runs, after one more event

abbrev pub replies_of : World → List Event → List Reply
replies_of w es = map (λ (x : Event × Reply). x.1) (transcript w es)

replies_more : (w : World) (es : List Event) (e : Event) → replies_of w (es ++ e ∷ []) ≡ replies_of w es ++ reply (run w es) e ∷ []
replies_more w [] e = refl
replies_more w (x ∷ xs) e = ap (λ rs. reply w x ∷ rs) (replies_more (next w x) xs e)

taken-more : (es : List Event) (i : ℕ) (e : Event) → i < length es → e ≡ get_or es i e → take (i + 1) es ≡ take i es ++ e ∷ []
taken-more es i e below at = take_more es i e below ∙ ap (λ x. take i es ++ x ∷ []) (sym at)

pub step_stands : (p : Plan) (clock i : ℕ) (es : List Event) (e : Event) (m n : Engine) (r : Reply) → i < length es → e ≡ get_or es i e → StandsFor m (run (opening_of p clock) (take i es)) → IsMachineStep e m n r →
    StandsFor n (run (opening_of p clock) (take (i + 1) es))
step_stands p clock i es e m n r below at s step =
    subst (StandsFor n) (sym (ap (run (opening_of p clock)) (taken-more es i e below at) ∙ run-append (opening_of p clock) (take i es) e)) (step.world (run (opening_of p clock) (take i es)) s)

pub step_replies : (p : Plan) (clock i : ℕ) (es : List Event) (e : Event) (m n : Engine) (rs : List Reply) (r : Reply) → i < length es → e ≡ get_or es i e → StandsFor m (run (opening_of p clock) (take i es)) →
    IsMachineStep e m n r → rs ≡ replies_of (opening_of p clock) (take i es) → rs ++ r ∷ [] ≡ replies_of (opening_of p clock) (take (i + 1) es)
step_replies p clock i es e m n rs r below at s step so_far =
    ap (λ xs. xs ++ r ∷ []) so_far ∙ ap (λ x. replies_of (opening_of p clock) (take i es) ++ x ∷ []) (step.reply (run (opening_of p clock) (take i es)) s)
    ∙ sym (ap (replies_of (opening_of p clock)) (taken-more es i e below at) ∙ replies_more (opening_of p clock) (take i es) e)

-- ---- serial order

zip_replies : (w : World) (es : List Event) → zip es (replies_of w es) ≡ transcript w es
zip_replies w [] = refl
zip_replies w (e ∷ es) = ap (λ h. (e, reply w e) ∷ h) (zip_replies (next w e) es)

history-is : (p : Plan) (clock : ℕ) (es : List Event) (rs : List Reply) → rs ≡ replies_of (opening_of p clock) es → transcript (opening_of p clock) es ≡ zip es rs
history-is p clock es rs e = sym (ap (zip es) e ∙ zip_replies (opening_of p clock) es)

pub run_has_no_faults : (p : Plan) (clock : ℕ) (es : List Event) (rs : List Reply) → IsPlan p → IsFirstClock clock → rs ≡ replies_of (opening_of p clock) es → HasNoFaults p es rs
run_has_no_faults p clock es rs plan first e i x at known =
    subst (λ h. HasNoFault (record { buckets = p.buckets; rows = p.rows; levels = levels_of p; history = h }) i) (history-is p clock es rs e)
    (run-no_fault p.buckets clock p.rows (levels_of p) es plan.keys first i x at known)

pub run_rows_are_serial : (p : Plan) (clock : ℕ) (es : List Event) (rs : List Reply) (m : Engine) → IsPlan p → IsFirstClock clock → rs ≡ replies_of (opening_of p clock) es →
    StandsFor m (run (opening_of p clock) es) → RowsAreSerial p es rs m
run_rows_are_serial p clock es rs m plan first e s rows shown =
    sym (shown (run (opening_of p clock) es) s)
    ∙ run-rows p.buckets clock p.rows (levels_of p) plan.keys first.0 first.1 es
    ∙ ap (λ h. serial_map h (put_all p.rows [])) (history-is p clock es rs e)

-- the replies after the last event are those of all events
pub all_taken : (p : Plan) (clock i : ℕ) (es : List Event) (rs : List Reply) → i ≡ length es → rs ≡ replies_of (opening_of p clock) (take i es) → rs ≡ replies_of (opening_of p clock) es
all_taken p clock i es rs end e = e ∙ ap (replies_of (opening_of p clock)) (ap (λ n. take n es) end ∙ take-length es)

pub all_stands : (p : Plan) (clock i : ℕ) (es : List Event) (m : Engine) → i ≡ length es → StandsFor m (run (opening_of p clock) (take i es)) → StandsFor m (run (opening_of p clock) es)
all_stands p clock i es m end s = subst (λ xs. StandsFor m (run (opening_of p clock) xs)) (ap (λ n. take n es) end ∙ take-length es) s
