-- Plays extend alike.
use Rattle.std.proofs.Common.{◌≡◌, ℕ, ◌+◌, ◌<◌, ◌≤◌, List, ◌∷◌, ◌++◌, length, refl, ap, sym, subst, ◌∙◌, map, arith}
use Rattle.std.proofs.lemmas.List.{length-append, length-map}
use Rattle.std.proofs.lemmas.List.Elements.{All-append}
use Rattle.std.specs.List.{All}
use Rattle.hek_rules.specs.Checks.{clock_end}
use Rattle.hek_rules.specs.Plan.{Plan, IsPlan, levels_of}
use Rattle.hek_rules.specs.Run.{run, transcript}
use Rattle.hek_rules.specs.World.{World}
use Rattle.hek_laws.specs.Runs.{IsPlaced, IsReachable}
use Rattle.hek_laws.proofs.Runs.Reachable.{opening-reachable}
use Rattle.hek_laws.proofs.Worlds.Fixed.{fixed-run}
use Rattle.hek_machine.specs.Observed.{opening_of}
use Rattle.hek_similar.specs.Alike.{Alike, bare_step}
use Rattle.hek_similar.specs.Places.{ScansGroup}
use Rattle.hek_similar.specs.Verdicts.{ToldAlike}
use Rattle.hek_similar.proofs.Places.Alike.{alike-runs}
use Rattle.hek_similar.proofs.Places.Told.{told-go_on_alike}
use Rattle.hek_worker.specs.declared.entry.Entry.{Entry}
use Rattle.hek_worker.specs.History.{IsEntry, IsHistory, history_events, replies_in}
use Rattle.hek_permute.specs.declared.moves.Form.{Form}
use Rattle.hek_permute.specs.declared.play.Place.{Place}
use Rattle.hek_permute.specs.Moves.{Work}
use Rattle.hek_permute.specs.Plays.{HasMoved, SetsOff}
use Rattle.hek_explore.specs.Groups.{group_in}
use Rattle.hek_explore.specs.Twins.{world_after, steps_in, bare_entry, HasPlayed, AreTwins}
use Rattle.hek_explore.specs.Laws.{PlaysExtendAlike}
use Rattle.hek_explore.proofs.Known.{KnowAlike, know-told, next-same, comes-same}
use Rattle.hek_explore.proofs.Bare.{reach-same, ends-same, waits-same, formed-same}
use Rattle.hek_permute.proofs.RunReplies.{events-append, told, told-after}
use Rattle.hek_explore.proofs.Grown.{ends-grow, waits-grow, steps-append, All-right, run-on, steps-told, told-both, retold, retold-events, retold-length, retold-replies, retold-same, clock-run}

-- ---- the world after a play
pub world-reachable : (p : Plan) (h : List Entry) → IsPlan p → All (IsPlaced p.buckets) (history_events h) → IsReachable (world_after p h)
world-reachable p h plan placed = record {
  buckets = p.buckets;
  rows = p.rows;
  levels = levels_of p;
  clock = 1;
  events = history_events h;
  some_buckets = plan.buckets.0;
  distinct = plan.keys;
  first = (omega arith, omega arith);
  placed = placed;
  same = refl;
}

world-clock : (p : Plan) (h : List Entry) → IsPlan p → All (IsPlaced p.buckets) (history_events h) → (world_after p h).clock ≤ 1 + length h
world-clock p h plan placed =
    let opened : IsReachable (opening_of p 1) = opening-reachable p.buckets 1 p.rows (levels_of p) plan.buckets.0 plan.keys (omega arith, omega arith) in
    let k : (world_after p h).clock ≤ 1 + length (history_events h) = clock-run (opening_of p 1) (history_events h) opened placed in
    let l : length (history_events h) ≡ length h = length-map h (λ (x : Entry). x.event) in
    omega arith

module _ (p : Plan) (form : Form) (works : List Work) (past others : List ℕ) (t : ℕ) (places later : List Place) (h now k : List Entry) (plan : IsPlan p)
    (first : HasPlayed p form works past places h) (moved : HasMoved form works t places h later now) (then : HasPlayed p form works (t ∷ past) later now)
    (other : HasPlayed p form works others places k) (twins : AreTwins p h k) (short : length k + length now < clock_end) where
  -- the twin's new entries
  abbrev anew : List Entry
  anew = retold (world_after p k) moved.more

  all-events : history_events now ≡ history_events h ++ history_events moved.more
  all-events = ap history_events moved.grown ∙ events-append h moved.more

  placed-more : All (IsPlaced p.buckets) (history_events moved.more)
  placed-more = All-right (IsPlaced p.buckets) (history_events h) (history_events moved.more) (subst (All (IsPlaced p.buckets)) all-events then.placed)

  scans-more : All (ScansGroup (group_in p) p.buckets) (history_events moved.more)
  scans-more = All-right (ScansGroup (group_in p) p.buckets) (history_events h) (history_events moved.more) (subst (All (ScansGroup (group_in p) p.buckets)) all-events then.scans)

  scans-now : All (ScansGroup (group_in p) (world_after p h).buckets) (history_events moved.more)
  scans-now = subst (λ (n : ℕ). All (ScansGroup (group_in p) n) (history_events moved.more)) (sym (fixed-run (opening_of p 1) (history_events h)).buckets) scans-more

  formed-more : IsHistory (length p.txns) moved.more
  formed-more = All-right (IsEntry (length p.txns)) h moved.more (subst (IsHistory (length p.txns)) moved.grown then.formed)

  long-now : length now ≡ length h + length moved.more
  long-now = ap (λ (l : List Entry). length l) moved.grown ∙ length-append h moved.more

  placed-now : All (IsPlaced (world_after p h).buckets) (history_events moved.more)
  placed-now = subst (λ (n : ℕ). All (IsPlaced n) (history_events moved.more)) (sym (fixed-run (opening_of p 1) (history_events h)).buckets) placed-more

  -- both clocks have times left for the new events
  some-left : (world_after p h).clock + length (history_events moved.more) ≤ clock_end
  some-left =
      let l : length (history_events moved.more) ≡ length moved.more = length-map moved.more (λ (x : Entry). x.event) in
      let a : (world_after p h).clock ≤ 1 + length h = world-clock p h plan first.placed in
      omega (arith, l, a, long-now, short)

  left-anew : (world_after p k).clock + length (history_events moved.more) ≤ clock_end
  left-anew =
      let l : length (history_events moved.more) ≡ length moved.more = length-map moved.more (λ (x : Entry). x.event) in
      let b : (world_after p k).clock ≤ 1 + length k = world-clock p k plan other.placed in
      omega (arith, l, b, long-now, short)

  answers : (map bare_step (transcript (world_after p h) (history_events moved.more)) ≡ map bare_step (transcript (world_after p k) (history_events moved.more)))
      × Alike (group_in p) (run (world_after p h) (history_events moved.more)) (run (world_after p k) (history_events moved.more))
  answers =
      alike-runs (group_in p) (world_after p h) (world_after p k) (history_events moved.more) twins.worlds (world-reachable p h plan first.placed) (world-reachable p k plan other.placed)
      placed-now scans-now some-left left-anew

  replies-more : replies_in moved.more ≡ told (world_after p h) (history_events moved.more)
  replies-more = told-after (opening_of p 1) h now moved.more moved.grown first.replies then.replies

  same-more : map bare_entry moved.more ≡ map bare_entry anew
  same-more = retold-same (world_after p h) (world_after p k) moved.more replies-more answers.0

  steps-more : steps_in moved.more ≡ transcript (world_after p h) (history_events moved.more)
  steps-more = steps-told (world_after p h) moved.more replies-more

  steps-anew : steps_in anew ≡ transcript (world_after p k) (history_events moved.more)
  steps-anew =
      steps-told (world_after p k) anew (retold-replies (world_after p k) moved.more)
      ∙ ap (transcript (world_after p k)) (retold-events (world_after p k) moved.more)

  told-anew : ToldAlike (steps_in (h ++ moved.more)) (steps_in (k ++ anew))
  told-anew =
      subst (λ l. ToldAlike l (steps_in (k ++ anew))) (sym (steps-append h moved.more ∙ ap (λ l. steps_in h ++ l) steps-more))
      (subst (ToldAlike (steps_in h ++ transcript (world_after p h) (history_events moved.more))) (sym (steps-append k anew ∙ ap (λ l. steps_in k ++ l) steps-anew))
      (told-go_on_alike (group_in p) (world_after p h) (world_after p k) (steps_in h) (steps_in k) (history_events moved.more) twins.worlds (world-reachable p h plan first.placed)
      (world-reachable p k plan other.placed) placed-now scans-now some-left left-anew twins.told))

  know : KnowAlike h k
  know = know-told h k twins.told

  know-now : KnowAlike (h ++ moved.more) (k ++ anew)
  know-now = know-told (h ++ moved.more) (k ++ anew) told-anew

  sets-off-anew : SetsOff form works t k places anew later
  sets-off-anew =
      let o : SetsOff form works t h places moved.more later = moved.set_off in (
        o.0,
        o.1,
        sym (comes-same form works h k places t know) ∙ o.2,
        reach-same form works t h k o.0 o.1 moved.more anew same-more know o.3,
        sym (next-same form works t (h ++ moved.more) (k ++ anew) o.1.places o.1.turn know-now) ∙ o.4,
        o.5,
      )

  played-anew : HasPlayed p form works (t ∷ others) later (k ++ anew)
  played-anew = record {
    formed = All-append (IsEntry (length p.txns)) k anew other.formed (formed-same (length p.txns) moved.more anew same-more formed-more);
    placed = subst (All (IsPlaced p.buckets)) (sym (events-append k anew))
        (All-append (IsPlaced p.buckets) (history_events k) (history_events anew) other.placed
        (subst (All (IsPlaced p.buckets)) (sym (retold-events (world_after p k) moved.more)) placed-more));
    scans = subst (All (ScansGroup (group_in p) p.buckets)) (sym (events-append k anew))
        (All-append (ScansGroup (group_in p) p.buckets) (history_events k) (history_events anew) other.scans
        (subst (All (ScansGroup (group_in p) p.buckets)) (sym (retold-events (world_after p k) moved.more)) scans-more));
    replies = told-both (opening_of p 1) k anew other.replies (retold-replies (world_after p k) moved.more);
    play = (places, k, anew, other.play, sets-off-anew, refl);
  }

  world-now : world_after p now ≡ run (world_after p h) (history_events moved.more)
  world-now = ap (run (opening_of p 1)) all-events ∙ run-on (opening_of p 1) (history_events h) (history_events moved.more)

  world-anew : world_after p (k ++ anew) ≡ run (world_after p k) (history_events moved.more)
  world-anew = ap (run (opening_of p 1)) (events-append k anew) ∙ run-on (opening_of p 1) (history_events k) (history_events anew)
      ∙ ap (run (world_after p k)) (retold-events (world_after p k) moved.more)

  twins-anew : AreTwins p (h ++ moved.more) (k ++ anew)
  twins-anew = record {
    worlds = subst (λ (w : World). Alike (group_in p) w (world_after p (k ++ anew))) (sym world-now ∙ ap (world_after p) moved.grown)
        (subst (Alike (group_in p) (run (world_after p h) (history_events moved.more))) (sym world-anew) answers.1);
    told = told-anew;
    ends = λ u. ends-grow u h moved.more k anew (twins.ends u) (ends-same u moved.more anew same-more);
    waited = waits-grow h moved.more k anew twins.waited (waits-same moved.more anew same-more);
  }

  short-anew : length (k ++ anew) ≤ length k + length now
  short-anew =
      let l : length (k ++ anew) ≡ length k + length anew = length-append k anew in
      let m : length anew ≡ length moved.more = retold-length (world_after p k) moved.more in
      omega (arith, l, m, long-now)

pub extends-alike : PlaysExtendAlike
extends-alike p form works past others t places later h now k plan first moved then other twins short = record {
  twin = k ++ anew p form works past others t places later h now k plan first moved then other twins short;
  played = played-anew p form works past others t places later h now k plan first moved then other twins short;
  twins = subst (λ (l : List Entry). AreTwins p l (k ++ anew p form works past others t places later h now k plan first moved then other twins short)) (sym moved.grown)
      (twins-anew p form works past others t places later h now k plan first moved then other twins short);
  short = short-anew p form works past others t places later h now k plan first moved then other twins short;
}
