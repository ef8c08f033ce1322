-- Where the rule table answers that a transaction is aborted by a cause, the reasons give that cause.
use Rattle.std.proofs.Common.{◌≡◌, ℕ, ◌+◌, ◌<◌, Bool, true, false, List, [], ◌∷◌, ◌++◌, refl, ◌∙◌, ap, sym, subst, arith, Option, Some, None, length, map}
use Rattle.std.proofs.lemmas.Bool.{lt-ltb, eqb-true}
use Rattle.std.specs.Prelude.{if◌then◌else◌, ◌&&◌, ◌||◌, ◌==◌, IfSome, IfOk, Result, Ok, Err, ◌⊎◌}
use Rattle.std.proofs.Common.{inl, inr, ⊎_elim}
use Rattle.std.specs.List.{list_any, flat_map}
use Rattle.hek_rules.specs.declared.event.Cause.{Cause}
use Rattle.hek_rules.specs.declared.event.Cause.TheVariants.{Cascade, Conflict, NoMoreReads, ReadersFull, NoMoreWaits, Deadlock, Asked}
use Rattle.hek_rules.specs.declared.event.Effect.{Effect}
use Rattle.hek_rules.specs.declared.event.Event.{Event}
use Rattle.hek_rules.specs.declared.event.Event.TheVariants as event
use Rattle.hek_rules.specs.declared.event.Sight.{Sight}
use Rattle.hek_rules.specs.declared.event.Sight.TheVariants.{Seen, SeenIf, Hidden, HiddenIf, HiddenActive}
use Rattle.hek_rules.specs.declared.event.State.{State}
use Rattle.hek_rules.specs.declared.event.State.TheVariants as state
use Rattle.hek_rules.specs.declared.event.WriteEntry.{WriteEntry}
use Rattle.hek_rules.specs.declared.event.WriteEntry.TheVariants.{BeginOf, EndOf}
use Rattle.hek_rules.specs.declared.reply.Reply.{Reply as Answer}
use Rattle.hek_rules.specs.declared.reply.Reply.TheVariants as replies
use Rattle.hek_rules.specs.Events.{txn_of}
use Rattle.hek_rules.specs.Listing.{firsts_of, seconds_of}
use Rattle.hek_rules.specs.Serial.{is_of}
use Rattle.hek_rules.specs.Visibility.{sight}
use Rattle.hek_rules.specs.Waits.{waits, commit_deps}
use Rattle.hek_rules.specs.Shown.{begin_word, end_word}
use Rattle.hek_rules.specs.World.{World, Version, txn_in, is_live, is_held_by, version_in, places, bucket_of}
use Rattle.hek_rules.specs.Walk.{Judgement, Refuse, Allow, Purpose, ToRead, ToWrite, walk, behind, and_then, version_judged, versions_judged, read_time, seen_of, last, of_key, of_bucket}
use Rattle.hek_rules.specs.Table.{Outcome, after_read, after_scan, after_insert, after_update, after_delete, is_claim, is_claimed, aborted, entries_of, release_waiter, release_bucket, release_first, release_rule, stamp_committed, stamp_aborted, begin_rule, finish_rule, fail_rule, precommit_rule, commit_rule, end_rule}
use Rattle.hek_laws.proofs.Table.Cases.{EachRule, IsActive, each_event}
use Rattle.hek_machine.specs.declared.engine.Engine.{Engine}
use Rattle.hek_machine.specs.Observed.{of_version}
use Rattle.hek_why.specs.declared.reason.Met.{Met}
use Rattle.hek_why.specs.declared.reason.Reason.{Reason}
use Rattle.hek_why.specs.declared.reason.Reason.TheVariants.{Stopped, DoomedBy, AbortedBefore}
use Rattle.hek_why.specs.declared.stops.Stop.{Stop}
use Rattle.hek_why.specs.Stops.{refused_by, stop_by, first_some, first_stop, claim_at, met_by, met_seen, met_begin}
use Rattle.hek_why.specs.Explained.{walked, stopped_by, claimed_in, stop_in, stops_in, abort_in, reasons_in, AreReasons}
use Rattle.hek_why.specs.Causes.{EachTells, Tells, TellCause}

-- ---- the first stop has the cause of the walk's refusal

abbrev pub cause_at : Option Stop → Option Cause
cause_at None = None
cause_at (Some stop) = Some stop.cause

judged_behind : (es : List Effect) (j : Judgement) → refused_by (behind es j) ≡ refused_by j
judged_behind es (Refuse cause) = refl
judged_behind es (Allow effects) = refl

cause_first : (v : ℕ) (found : Sight) (j next : Judgement) (later : Option Stop) → refused_by next ≡ cause_at later →
    refused_by (and_then j next) ≡ cause_at (first_some (stop_by v found (refused_by j)) later)
cause_first v found (Refuse cause) next later same = refl
cause_first v found (Allow effects) next later same = judged_behind effects next ∙ same

judged_stops : (w : World) (t : ℕ) (p : Purpose) (target : Option ℕ) (vs : List ℕ) →
    refused_by (versions_judged w t p target vs) ≡ cause_at (first_stop w t p target vs)
judged_stops w t p target [] = refl
judged_stops w t p target (v ∷ vs) =
    let found : Sight = sight w t (read_time w t) v in
    cause_first v found (version_judged w t p target v found) (versions_judged w t p target vs) (first_stop w t p target vs) (judged_stops w t p target vs)

-- a walk that reads has no target
no_target : (w : World) (t : ℕ) (target : Option ℕ) (v : ℕ) (found : Sight) → version_judged w t ToRead target v found ≡ version_judged w t ToRead None v found
no_target w t target v Seen = refl
no_target w t target v (SeenIf u) = refl
no_target w t target v Hidden = refl
no_target w t target v (HiddenIf u) = refl
no_target w t target v (HiddenActive u) = refl

no_targets : (w : World) (t : ℕ) (target : Option ℕ) (vs : List ℕ) → versions_judged w t ToRead target vs ≡ versions_judged w t ToRead None vs
no_targets w t target [] = refl
no_targets w t target (v ∷ vs) =
    ap (λ j. and_then j (versions_judged w t ToRead target vs)) (no_target w t target v (sight w t (read_time w t) v))
    ∙ ap (and_then (version_judged w t ToRead None v (sight w t (read_time w t) v))) (no_targets w t target vs)

-- ---- where a walk is refused a version exists

abbrev pub Below : ℕ → List ℕ → Type 0
Below n [] = Unit {0}
Below n (v ∷ vs) = (v < n) × Below n vs

below_if : (b : Bool) (v n : ℕ) (vs : List ℕ) → v < n → Below n vs → Below n (if b then v ∷ vs else vs)
below_if true v n vs here rest = (here, rest)
below_if false v n vs here rest = rest

places_below : (test : ℕ → Version → Bool) (i : ℕ) (xs : List Version) (n : ℕ) → n ≡ i + length xs → Below n (places test i xs)
places_below test i [] n long = tt
places_below test i (x ∷ xs) n long =
    below_if (test i x) i n (places test (i + 1) xs) (omega arith) (places_below test (i + 1) xs n (omega arith))

abbrev pub IsBelow : ℕ → Option Stop → Type 0
IsBelow n None = Unit {0}
IsBelow n (Some stop) = stop.version < n

below_first : (v : ℕ) (found : Sight) (cause : Option Cause) (later : Option Stop) (n : ℕ) → v < n → IsBelow n later → IsBelow n (first_some (stop_by v found cause) later)
below_first v found None later n here rest = rest
below_first v found (Some cause) later n here rest = here

stop_below : (w : World) (t : ℕ) (p : Purpose) (target : Option ℕ) (vs : List ℕ) (n : ℕ) → Below n vs → IsBelow n (first_stop w t p target vs)
stop_below w t p target [] n below = tt
stop_below w t p target (v ∷ vs) n below =
    let found : Sight = sight w t (read_time w t) v in
    below_first v found (refused_by (version_judged w t p target v found)) (first_stop w t p target vs) n below.0 (stop_below w t p target vs n below.1)

-- ---- the reason given there

tells_one : (cause : Cause) (v : ℕ) (met : Met) → Tells cause (Stopped v cause met ∷ [])
tells_one Cascade v met = (refl, tt)
tells_one Conflict v met = (omega arith, (refl, tt))
tells_one NoMoreReads v met = refl
tells_one ReadersFull v met = refl
tells_one NoMoreWaits v met = refl
tells_one Deadlock v met = refl
tells_one Asked v met = refl

tells_before : (cause : Cause) → Tells cause (AbortedBefore cause ∷ [])
tells_before Cascade = (refl, tt)
tells_before Conflict = (omega arith, (refl, tt))
tells_before NoMoreReads = refl
tells_before ReadersFull = refl
tells_before NoMoreWaits = refl
tells_before Deadlock = refl
tells_before Asked = refl

tells_dooms : (us : List ℕ) → Tells Cascade (map (λ u. DoomedBy u) us)
tells_dooms [] = tt
tells_dooms (u ∷ us) = (refl, tells_dooms us)

tells_there : (cause : Cause) (v : ℕ) (w : World) (f : World → ℕ → Met) → v < length w.versions → Tells cause (stopped_by v cause (of_version f v w))
tells_there cause v w f below =
    subst (λ (b : Bool). Tells cause (stopped_by v cause (if b then Some (f w v) else None))) (sym (lt-ltb v (length w.versions) below)) (tells_one cause v (f w v))

tells_stop : (w : World) (t : ℕ) (vs : List ℕ) (cause : Cause) (o : Option Stop) → cause_at o ≡ Some cause → IsBelow (length w.versions) o → Tells cause (stop_in w t vs o)
tells_stop w t vs cause None same below = cc
tells_stop w t vs cause (Some stop) same below =
    let here : Tells stop.cause (stop_in w t vs (Some stop)) = tells_there stop.cause stop.version w (λ w v. met_seen stop.sight (met_by stop.cause (end_word w v))) below in
    let e : stop.cause ≡ cause = cc in
    subst (λ (c : Cause). Tells c (stop_in w t vs (Some stop))) e here

-- ---- the key of an insert that is claimed

each_append : (cause : Cause) (xs ys : List Reason) → EachTells cause xs → EachTells cause ys → EachTells cause (xs ++ ys)
each_append cause [] ys first rest = rest
each_append cause (x ∷ xs) ys first rest = (first.0, each_append cause xs ys first.1 rest)

stopped_tells : (v : ℕ) (met : Option Met) → EachTells Conflict (stopped_by v Conflict met)
stopped_tells v None = tt
stopped_tells v (Some met) = (refl, tt)

claims_tell : (w : World) (t : ℕ) (vs : List ℕ) → EachTells Conflict (claimed_in w t vs)
claims_tell w t [] = tt
claims_tell w t (v ∷ vs) = each_append Conflict (stopped_by v Conflict (claim_at w t v)) (claimed_in w t vs) (stopped_tells v (claim_at w t v)) (claims_tell w t vs)

some_claim : (v : ℕ) (b c : Bool) (met : Met) (later : List Reason) → (b || c) ≡ true → (c ≡ true → 0 < length later) →
    0 < length (stopped_by v Conflict (if b then Some met else None) ++ later)
some_claim v true c met later either rest = omega arith
some_claim v false c met later either rest = rest either

-- a version that claims the key gives a reason
claim_found : (w : World) (t : ℕ) (vs : List ℕ) → Below (length w.versions) vs → is_claimed w t vs ≡ true → 0 < length (claimed_in w t vs)
claim_found w t [] below any = cc
claim_found w t (v ∷ vs) below any =
    let f : ℕ → Bool = λ (x : ℕ). is_claim w t (txn_in w.txns t).level (version_in w.versions x).creator in
    subst (λ (b : Bool). 0 < length (stopped_by v Conflict (if b && f v then Some (met_begin (begin_word w v)) else None) ++ claimed_in w t vs)) (sym (lt-ltb v (length w.versions) below.0))
    (some_claim v (f v) (list_any f vs) (met_begin (begin_word w v)) (claimed_in w t vs) any (claim_found w t vs below.1))

tells_claim : (w : World) (t : ℕ) (vs : List ℕ) → Below (length w.versions) vs → is_claimed w t vs ≡ true → Tells Conflict (claimed_in w t vs)
tells_claim w t vs below any = (claim_found w t vs below any, claims_tell w t vs)

claims_past : (w : World) (t : ℕ) (vs : List ℕ) (o : Option Stop) → cause_at o ≡ None → Tells Conflict (claimed_in w t vs) → Tells Conflict (stop_in w t vs o)
claims_past w t vs None same told = told
claims_past w t vs (Some stop) same told = cc

-- ---- walks that are refused

tells_read : (w : World) (t bucket : ℕ) (vs : List ℕ) (cause : Cause) → Below (length w.versions) vs → refused_by (walk w t ToRead bucket vs) ≡ Some cause →
    Tells cause (stop_in w t vs (first_stop w t ToRead None vs))
tells_read w t bucket vs cause below refused =
    tells_stop w t vs cause (first_stop w t ToRead None vs)
    (sym (judged_stops w t ToRead None vs) ∙ ap refused_by (sym (no_targets w t (last (seen_of w t vs)) vs))
    ∙ sym (judged_behind _ (versions_judged w t ToRead (last (seen_of w t vs)) vs)) ∙ refused)
    (stop_below w t ToRead None vs (length w.versions) below)

tells_write : (w : World) (t bucket : ℕ) (vs : List ℕ) (cause : Cause) → Below (length w.versions) vs → refused_by (walk w t ToWrite bucket vs) ≡ Some cause →
    Tells cause (stop_in w t vs (first_stop w t ToWrite (last (seen_of w t vs)) vs))
tells_write w t bucket vs cause below refused =
    tells_stop w t vs cause (first_stop w t ToWrite (last (seen_of w t vs)) vs)
    (sym (judged_stops w t ToWrite (last (seen_of w t vs)) vs)
    ∙ sym (judged_behind _ (versions_judged w t ToWrite (last (seen_of w t vs)) vs)) ∙ refused)
    (stop_below w t ToWrite (last (seen_of w t vs)) vs (length w.versions) below)

tells_claimed : (w : World) (t bucket : ℕ) (vs : List ℕ) → Below (length w.versions) vs → refused_by (walk w t ToRead bucket vs) ≡ None → is_claimed w t vs ≡ true →
    Tells Conflict (stop_in w t vs (first_stop w t ToRead None vs))
tells_claimed w t bucket vs below allowed claimed =
    claims_past w t vs (first_stop w t ToRead None vs)
    (sym (judged_stops w t ToRead None vs) ∙ ap refused_by (sym (no_targets w t (last (seen_of w t vs)) vs))
    ∙ sym (judged_behind _ (versions_judged w t ToRead (last (seen_of w t vs)) vs)) ∙ allowed)
    (tells_claim w t vs below claimed)

read_refused : (w : World) (t : ℕ) (target : Option ℕ) (j : Judgement) (cause : Cause) → (after_read w t target j).reply ≡ replies.Aborted cause → refused_by j ≡ Some cause
read_refused w t target (Refuse c) cause is = cc
read_refused w t None (Allow effects) cause is = cc
read_refused w t (Some v) (Allow effects) cause is = cc

scan_refused : (w : World) (t : ℕ) (seen : List ℕ) (j : Judgement) (cause : Cause) → (after_scan w t seen j).reply ≡ replies.Aborted cause → refused_by j ≡ Some cause
scan_refused w t seen (Refuse c) cause is = cc
scan_refused w t seen (Allow effects) cause is = cc

update_refused : (w : World) (t key value : ℕ) (target : Option ℕ) (j : Judgement) (cause : Cause) → (after_update w t key value target j).reply ≡ replies.Aborted cause → refused_by j ≡ Some cause
update_refused w t key value target (Refuse c) cause is = cc
update_refused w t key value None (Allow effects) cause is = cc
update_refused w t key value (Some v) (Allow effects) cause is = cc

delete_refused : (w : World) (t : ℕ) (target : Option ℕ) (j : Judgement) (cause : Cause) → (after_delete w t target j).reply ≡ replies.Aborted cause → refused_by j ≡ Some cause
delete_refused w t target (Refuse c) cause is = cc
delete_refused w t None (Allow effects) cause is = cc
delete_refused w t (Some v) (Allow effects) cause is = cc

-- the walk of an insert was refused, or its key is claimed
record IsClaimed (w : World) (t key : ℕ) (j : Judgement) (cause : Cause) : Type 0 where
  allowed : refused_by j ≡ None
  claimed : is_claimed w t (of_key w key) ≡ true
  same : Conflict ≡ cause

insert_claimed : (w : World) (t key : ℕ) (effects : List Effect) (cause : Cause) (b : Bool) (o : Outcome) → is_claimed w t (of_key w key) ≡ b → o.reply ≡ replies.Done →
    (if b then aborted w t Conflict else o).reply ≡ replies.Aborted cause → IsClaimed w t key (Allow effects) cause
insert_claimed w t key effects cause true o claimed done is = record { allowed = refl; claimed = claimed; same = cc }
insert_claimed w t key effects cause false o claimed done is = cc

insert_refused : (w : World) (t key value : ℕ) (target : Option ℕ) (j : Judgement) (cause : Cause) → (after_insert w t key value target j).reply ≡ replies.Aborted cause →
    (refused_by j ≡ Some cause) ⊎ IsClaimed w t key j cause
insert_refused w t key value target (Refuse c) cause is = inl (cc)
insert_refused w t key value None (Allow effects) cause is = inr (insert_claimed w t key effects cause (is_claimed w t (of_key w key)) _ refl refl is)
insert_refused w t key value (Some v) (Allow effects) cause is = cc

-- ---- by the state of the transaction

tells_again : (w : World) (dooms : List (ℕ × ℕ)) (t : ℕ) (e : Event) (cause c : Cause) (s : State) → s ≡ state.Aborted c → c ≡ cause → Tells cause (abort_in w dooms t e cause s)
tells_again w dooms t e cause c s is same =
    let told : Tells cause (AbortedBefore c ∷ []) = subst (λ (x : Cause). Tells x (AbortedBefore c ∷ [])) same (tells_before c) in
    subst (λ (x : State). Tells cause (abort_in w dooms t e cause x)) (sym is) told

tells_doomed : (w : World) (dooms : List (ℕ × ℕ)) (t : ℕ) (e : Event) (s : State) → is_live s ≡ true → Tells Cascade (abort_in w dooms t e Cascade s)
tells_doomed w dooms t e state.NotBegun live = cc
tells_doomed w dooms t e state.Active live = tells_dooms (firsts_of dooms t)
tells_doomed w dooms t e state.Preparing live = tells_dooms (firsts_of dooms t)
tells_doomed w dooms t e state.Committed live = cc
tells_doomed w dooms t e state.Terminated live = cc
tells_doomed w dooms t e (state.Aborted c) live = cc

tells_active : (w : World) (dooms : List (ℕ × ℕ)) (t : ℕ) (e : Event) (cause : Cause) → Tells cause (stops_in w t e (walked w e)) → Tells cause (abort_in w dooms t e cause state.Active)
tells_active w dooms t e Cascade told = tells_dooms (firsts_of dooms t)
tells_active w dooms t e Conflict told = told
tells_active w dooms t e NoMoreReads told = told
tells_active w dooms t e ReadersFull told = told
tells_active w dooms t e NoMoreWaits told = told
tells_active w dooms t e Deadlock told = told
tells_active w dooms t e Asked told = told

-- the reasons where the outcome of an event is that t is aborted
abbrev pub IsTold : World → List (ℕ × ℕ) → Event → Outcome → Type 0
IsTold w dooms e o = (t : ℕ) (cause : Cause) → is_of t e ≡ true → o.reply ≡ replies.Aborted cause → Tells cause (abort_in w dooms t e cause (txn_in w.txns t).state)

by_walk : (w : World) (dooms : List (ℕ × ℕ)) (t x : ℕ) (e : Event) (cause : Cause) → IsActive w t false → (t == x) ≡ true → Tells cause (stops_in w t e (walked w e)) →
    Tells cause (abort_in w dooms x e cause (txn_in w.txns x).state)
by_walk w dooms t x e cause active by told =
    let at : Tells cause (abort_in w dooms t e cause (txn_in w.txns t).state) =
    subst (λ (s : State). Tells cause (abort_in w dooms t e cause s)) (sym active.state) (tells_active w dooms t e cause told) in
    subst (λ (y : ℕ). Tells cause (abort_in w dooms y e cause (txn_in w.txns y).state)) (eqb-true t x by) at

-- ---- rows that abort nobody

abbrev pub NeverAborts : Outcome → Type 0
NeverAborts o = (cause : Cause) → o.reply ≡ replies.Aborted cause → ⊥

never_told : (w : World) (dooms : List (ℕ × ℕ)) (e : Event) (o : Outcome) → NeverAborts o → IsTold w dooms e o
never_told w dooms e o never t cause by is = absurd (never cause is)

never_if : (b : Bool) (x y : Outcome) → NeverAborts x → NeverAborts y → NeverAborts (if b then x else y)
never_if true x y first second = first
never_if false x y first second = second

waiter_never : (w : World) (t : ℕ) (us : List ℕ) → NeverAborts (release_waiter w t us)
waiter_never w t [] cause is = cc
waiter_never w t (u ∷ us) cause is = cc

bucket_never : (w : World) (t : ℕ) (bs : List ℕ) → NeverAborts (release_bucket w t bs)
bucket_never w t [] = waiter_never w t (seconds_of w.waiters t)
bucket_never w t (b ∷ bs) = λ cause is. cc

release_never : (w : World) (t : ℕ) (vs : List ℕ) → NeverAborts (release_first w t vs)
release_never w t [] = bucket_never w t (seconds_of w.bucket_locks t)
release_never w t (v ∷ vs) = λ cause is. cc

committed_never : (w : World) (t : ℕ) (es : List WriteEntry) → NeverAborts (stamp_committed w t es)
committed_never w t [] cause is = cc
committed_never w t (BeginOf v ∷ es) cause is = cc
committed_never w t (EndOf v ∷ es) cause is = cc

left_never : (b : Bool) (v : ℕ) (cause : Cause) → (if b then replies.StampedEnd v else replies.Left v) ≡ replies.Aborted cause → ⊥
left_never true v cause is = cc
left_never false v cause is = cc

aborted_never : (w : World) (t : ℕ) (es : List WriteEntry) → NeverAborts (stamp_aborted w t es)
aborted_never w t [] cause is = cc
aborted_never w t (BeginOf v ∷ es) cause is = cc
aborted_never w t (EndOf v ∷ es) cause is = left_never (is_held_by t (version_in w.versions v).ender) v cause is

-- ---- every event

rows_told : (w : World) (dooms : List (ℕ × ℕ)) → EachRule w (IsTold w dooms)
rows_told w dooms = record {
  refusal = λ e why t cause by is. cc;
  repeated = λ e x c here only t cause by is.
      let same : t ≡ x = only.only t by in
      let told : Tells cause (abort_in w dooms x e cause (txn_in w.txns x).state) = tells_again w dooms x e cause c (txn_in w.txns x).state here.state (cc) in
      subst (λ (y : ℕ). Tells cause (abort_in w dooms y e cause (txn_in w.txns y).state)) (sym same) told;
  cascade = λ e x here doomed only t cause by is.
      let same : t ≡ x = only.only t by in
      let cascades : Cascade ≡ cause = cc in
      let told : Tells Cascade (abort_in w dooms x e Cascade (txn_in w.txns x).state) = tells_doomed w dooms x e (txn_in w.txns x).state here.live in
      subst (λ (c : Cause). Tells c (abort_in w dooms t e c (txn_in w.txns t).state)) cascades
      (subst (λ (y : ℕ). Tells Cascade (abort_in w dooms y e Cascade (txn_in w.txns y).state)) (sym same) told);
  begin = λ t here full. never_told w dooms (event.Begin t) (begin_rule w t) (λ cause is. cc);
  read = λ t key a x cause by is.
      by_walk w dooms t x (event.Read t key) cause a by
      (tells_read w t (bucket_of w key) (of_key w key) cause (places_below _ 0 w.versions (length w.versions) (omega arith)) (read_refused w t _ _ cause is));
  scan = λ t bucket a x cause by is.
      by_walk w dooms t x (event.Scan t bucket) cause a by
      (tells_read w t bucket (of_bucket w bucket) cause (places_below _ 0 w.versions (length w.versions) (omega arith)) (scan_refused w t (seen_of w t (of_bucket w bucket)) _ cause is));
  insert = λ t key value a x cause by is.
      by_walk w dooms t x (event.Insert t key value) cause a by
      (⊎_elim (λ refused. tells_read w t (bucket_of w key) (of_key w key) cause (places_below _ 0 w.versions (length w.versions) (omega arith)) refused)
      (λ (c : IsClaimed w t key (walk w t ToRead (bucket_of w key) (of_key w key)) cause).
      subst (λ (k : Cause). Tells k (stops_in w t (event.Insert t key value) (of_key w key))) c.same
      (tells_claimed w t (bucket_of w key) (of_key w key) (places_below _ 0 w.versions (length w.versions) (omega arith)) c.allowed c.claimed))
      (insert_refused w t key value _ _ cause is));
  update = λ t key value a x cause by is.
      by_walk w dooms t x (event.Update t key value) cause a by
      (tells_write w t (bucket_of w key) (of_key w key) cause (places_below _ 0 w.versions (length w.versions) (omega arith)) (update_refused w t key value _ _ cause is));
  delete = λ t key a x cause by is.
      by_walk w dooms t x (event.Delete t key) cause a by
      (tells_write w t (bucket_of w key) (of_key w key) cause (places_below _ 0 w.versions (length w.versions) (omega arith)) (delete_refused w t _ _ cause is));
  finish = λ t a. never_told w dooms (event.Finish t) (finish_rule w t) (λ cause is. cc);
  precommit = λ t a full. never_told w dooms (event.Precommit t) (precommit_rule w t) (never_if (waits w t == 0) _ _ (λ cause is. cc) (λ cause is. cc));
  fail = λ t a. never_told w dooms (event.Fail t) (fail_rule w t) (λ cause is. cc);
  release = λ t a. never_told w dooms (event.Release t) (release_rule w t) (release_never w t (seconds_of w.read_locks t));
  commit = λ t a. never_told w dooms (event.Commit t) (commit_rule w t) (never_if (commit_deps w t == 0) _ _ (λ cause is. cc) (λ cause is. cc));
  stamp_committed = λ t a. never_told w dooms (event.Stamp t) (stamp_committed w t (entries_of w.writes t)) (committed_never w t (entries_of w.writes t));
  stamp_aborted = λ t c a. never_told w dooms (event.Stamp t) (stamp_aborted w t (entries_of w.writes t)) (aborted_never w t (entries_of w.writes t));
  end = λ t a idle. never_told w dooms (event.End t) (end_rule w t) (λ cause is. cc);
  detect = λ t cause by is. cc;
}

of_its_own : (e : Event) (t : ℕ) → txn_of e ≡ Some t → is_of t e ≡ true
of_its_own e t is = grind (arith, is)

told_by : (m : Engine) (dooms : List (ℕ × ℕ)) (t : ℕ) (e : Event) (r : Answer) (list : List Reason) → txn_of e ≡ Some t → AreReasons m dooms t e r list → TellCause m t e r list
told_by m dooms t e r list own are cause w is stands known answered =
    let said : abort_in w dooms t e cause (txn_in w.txns t).state ≡ list =
    subst (λ (x : Answer). IfSome (reasons_in w dooms t e x) (λ said. said ≡ list)) is (are w stands known) in
    subst (Tells cause) said (each_event (rows_told w dooms) e t cause (of_its_own e t own) (answered ∙ is))

-- the reasons of an event's reply give its cause
causes_told : (m : Engine) (dooms : List (ℕ × ℕ)) (e : Event) (r : Answer) (list : List Reason) (o : Option ℕ) → txn_of e ≡ o →
    IfSome o (λ t. AreReasons m dooms t e r list) → IfSome o (λ t. TellCause m t e r list)
causes_told m dooms e r list None own are = tt
causes_told m dooms e r list (Some t) own are = told_by m dooms t e r list own are

-- the reasons of an event of t give its cause
pub causes_ok : {V E : Type 0} (items : V → List Reason) (m : Engine) (dooms : List (ℕ × ℕ)) (t : ℕ) (e : Event) (r : Answer) (result : Result V E) → txn_of e ≡ Some t →
    IfOk result (λ v. AreReasons m dooms t e r (items v)) → IfOk result (λ v. IfSome (txn_of e) (λ u. TellCause m u e r (items v)))
causes_ok items m dooms t e r (Err fault) own are = tt
causes_ok items m dooms t e r (Ok v) own are =
    causes_told m dooms e r (items v) (txn_of e) refl (subst (λ (o : Option ℕ). IfSome o (λ u. AreReasons m dooms u e r (items v))) (sym own) are)
