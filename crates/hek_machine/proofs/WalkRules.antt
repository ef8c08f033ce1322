-- The judgement of a walk.
use Rattle.std.proofs.Common.{◌≡◌, ℕ, ◌<◌, Bool, true, false, List, [], ◌∷◌, ◌++◌, append_assoc, subst, refl, ◌∙◌, ap, sym, arith, length, Option, Some, None, Result, Ok, Err, IfOk, append-nil, drop, get_or, ◌+◌}
use Rattle.std.specs.Prelude.{if◌then◌else◌, filter, is_some}
use Rattle.std.proofs.lemmas.List.{drop_more}
use Rattle.hek_rules.specs.declared.event.Level.{Level}
use Rattle.hek_rules.specs.declared.event.Level.TheVariants.{Serializable, Repeatable, Snapshot}
use Rattle.hek_rules.specs.declared.event.Cause.{Cause}
use Rattle.hek_rules.specs.declared.event.Cause.TheVariants.{NoMoreWaits}
use Rattle.hek_rules.specs.declared.event.Effect.{Effect}
use Rattle.hek_rules.specs.declared.event.Effect.TheVariants.{DependOn, MakeWait, ReadLock, WriteLock}
use Rattle.hek_rules.specs.Listing.{has, is_among}
use Rattle.hek_rules.specs.Walk.{Judgement, Refuse, Allow, ToRead, behind, and_then, unless_refused, looks_at, read_time, read_judged, lock_judged, wait_judged, version_judged, versions_judged, bucket_effects, seen_of, last, walk}
use Rattle.hek_rules.specs.Walk as walking
use Rattle.hek_rules.specs.declared.event.Sight.{Sight}
use Rattle.hek_rules.specs.declared.event.Sight.TheVariants.{Seen, SeenIf, Hidden, HiddenIf, HiddenActive}
use Rattle.hek_rules.specs.Visibility.{sight, is_seen}
use Rattle.hek_rules.specs.Locks.{no_read_lock, no_write_lock}
use Rattle.hek_rules.specs.Words.{infinity}
use Rattle.hek_rules.specs.World.{World, txn_in, is_active, is_present}
use Rattle.hek_rules.specs.declared.event.State.{State}
use Rattle.hek_rules.specs.declared.event.State.TheVariants as state
use Rattle.hek_store.specs.Stored.{version_at}
use Rattle.hek_visible.specs.Seen.{version_seen, NamesCreator, NamesWriter}
use Rattle.hek_laws.specs.Sound.{Sound}
use Rattle.hek_laws.proofs.Runs.Reachable.{reachable-sound}
use Rattle.hek_refinement.proofs.Sights.{sight-same, names-creator, names-writer, read-refused, write-refused}
use Rattle.hek_refinement.proofs.Clears.{knows-writer}
use Rattle.hek_locks.specs.Locked.{KnowsWriter, answer_of, read_refused, write_refused}
use Rattle.hek_txn.specs.TxnTable.{Declared, waiting_list_of}
use Rattle.hek_refinement.proofs.Pairs.{among-seconds}
use Rattle.hek_machine.specs.Judgements.{IsShown, IsAimed, looks, verdict, seen_among}
use Rattle.hek_rules.specs.Aims.{purpose_of, target_of}
use Rattle.hek_rules.specs.declared.event.Aim.TheVariants as aims
use Rattle.hek_rules.specs.declared.event.Aim.{Aim}
use Rattle.hek_laws.proofs.Sound.WordsAndSights.{sight-counts}
use Rattle.hek_laws.proofs.Walks.Sights.{Counts}
use Rattle.hek_laws.proofs.Walks.Looks.{IsNow, reads-past}
use Rattle.hek_refinement.proofs.Known.{present-known}
use Rattle.hek_machine.specs.declared.engine.Engine.{Engine}
use Rattle.hek_machine.specs.Stands.{StandsFor, StandsForSome}

sound : (m : Engine) (o : StandsForSome m) → Sound o.world
sound m o = reachable-sound o.world o.stands.reachable

-- the time at which a transaction looks is the same in the parts and in the world
pub looks-same : (m : Engine) (w : World) (t : ℕ) → StandsFor m w → looks m t ≡ read_time w t
looks-same m w t s = ap (λ ts. looks_at (txn_in ts t).level (txn_in ts t).begin m.clock) s.shows.txns.cores ∙ ap (looks_at (txn_in w.txns t).level (txn_in w.txns t).begin) s.shows.clock

read-early : (w : World) (t : ℕ) → Sound w → read_time w t < infinity
read-early w t s =
    let b = s.times.begins_below t in let p = reads-past w t (omega (arith, b)) in let c = s.bounded in omega (arith, p, c)

pub sight_time : (m : Engine) (t : ℕ) → StandsForSome m → looks m t < infinity
sight_time m t o = let e = looks-same m o.world t o.stands in let l = read-early o.world t (sound m o) in omega (arith, e, l)

pub sight-shown : (m : Engine) (w : World) (t v : ℕ) → StandsFor m w → version_seen m.store m.txns t (looks m t) v ≡ sight w t (read_time w t) v
sight-shown m w t v s =
    let o = reachable-sound w s.reachable in
    ap (λ n. version_seen m.store m.txns t n v) (looks-same m w t s) ∙ sight-same m.store m.txns w t (read_time w t) v o s.shows.store s.shows.txns

pub sight_creator : (m : Engine) (v : ℕ) → StandsForSome m → NamesCreator m.txns (version_at m.store v).begin
sight_creator m v o = names-creator m.store m.txns o.world v (sound m o) o.stands.shows.store o.stands.shows.txns

pub sight_writer : (m : Engine) (v : ℕ) → StandsForSome m → NamesWriter m.txns (version_at m.store v).end
sight_writer m v o = names-writer m.store m.txns o.world v (sound m o) o.stands.shows.store o.stands.shows.txns

pub writer_known : (m : Engine) (v : ℕ) → StandsForSome m → KnowsWriter m.txns (version_at m.store v).end
writer_known m v o = knows-writer m.store m.txns o.world v (sound m o) o.stands.shows.store o.stands.shows.txns

-- ---- locks

answered-ok : (o : Option Cause) (e : Effect) (u : Unit {0}) → answer_of o ≡ Ok u → unless_refused o e ≡ Allow (e ∷ [])
answered-ok None e u h = refl
answered-ok (Some cause) e u h = cc

answered-err : (o : Option Cause) (e : Effect) (cause : Cause) → answer_of o ≡ Err cause → unless_refused o e ≡ Refuse cause
answered-err None e cause h = cc
answered-err (Some c) e cause h = let same : c ≡ cause = cc in ap Refuse same

pub read_allowed : (m : Engine) (t v : ℕ) (u : Unit {0}) → answer_of (read_refused m.store m.txns t v) ≡ Ok u → IsShown m (λ w. unless_refused (no_read_lock w t v) (ReadLock v)) (Allow (ReadLock v ∷ []))
read_allowed m t v u h w s =
    ap (λ o. unless_refused o (ReadLock v)) (sym (read-refused m.store m.txns w t v (reachable-sound w s.reachable) s.shows.store s.shows.txns)) ∙ answered-ok _ (ReadLock v) u h

pub read_denied : (m : Engine) (t v : ℕ) (cause : Cause) → answer_of (read_refused m.store m.txns t v) ≡ Err cause → IsShown m (λ w. unless_refused (no_read_lock w t v) (ReadLock v)) (Refuse cause)
read_denied m t v cause h w s =
    ap (λ o. unless_refused o (ReadLock v)) (sym (read-refused m.store m.txns w t v (reachable-sound w s.reachable) s.shows.store s.shows.txns)) ∙ answered-err _ (ReadLock v) cause h

pub write_allowed : (m : Engine) (v : ℕ) (u : Unit {0}) → answer_of (write_refused m.store m.txns v) ≡ Ok u → IsShown m (λ w. unless_refused (no_write_lock w v) (WriteLock v)) (Allow (WriteLock v ∷ []))
write_allowed m v u h w s =
    ap (λ o. unless_refused o (WriteLock v)) (sym (write-refused m.store m.txns w v (reachable-sound w s.reachable) s.shows.store s.shows.txns)) ∙ answered-ok _ (WriteLock v) u h

pub write_denied : (m : Engine) (v : ℕ) (cause : Cause) → answer_of (write_refused m.store m.txns v) ≡ Err cause → IsShown m (λ w. unless_refused (no_write_lock w v) (WriteLock v)) (Refuse cause)
write_denied m v cause h w s =
    ap (λ o. unless_refused o (WriteLock v)) (sym (write-refused m.store m.txns w v (reachable-sound w s.reachable) s.shows.store s.shows.txns)) ∙ answered-err _ (WriteLock v) cause h

-- the judgement of a read lock, for a level that looks at the clock
pub read_by : (m : Engine) (t v : ℕ) (j : Judgement) → IsNow (txn_in m.txns.cores t).level → IsShown m (λ w. unless_refused (no_read_lock w t v) (ReadLock v)) j → IsShown m (λ w. read_judged w t v (txn_in w.txns t).level) j
read_by m t v j now shown w s = by (txn_in w.txns t).level (subst (λ ts. IsNow (txn_in ts t).level) s.shows.txns.cores now)
  where
    by : (l : Level) → IsNow l → read_judged w t v l ≡ j
    by Serializable n = shown w s
    by Repeatable n = shown w s
    by Snapshot n = absurd n

-- ---- waits

-- the judgement of a wait, by the level, an earlier wait, and NoMoreWaitFors
abbrev pub wait_by : Level → Bool → Bool → ℕ → Judgement
wait_by Repeatable there no_more_waits u = Allow []
wait_by Snapshot there no_more_waits u = Allow []
wait_by Serializable there no_more_waits u = if there then Allow [] else if no_more_waits then Refuse NoMoreWaits else Allow (MakeWait u ∷ [])

wait-same : (w : World) (t u : ℕ) (l : Level) → wait_judged w t u l ≡ wait_by l (has w.waiters t u) (txn_in w.txns u).no_more_waits u
wait-same w t u Repeatable = refl
wait-same w t u Snapshot = refl
wait-same w t u Serializable = refl

pub wait_shown : (m : Engine) (t u : ℕ) → IsShown m (λ w. wait_judged w t u (txn_in w.txns t).level)
    (wait_by (txn_in m.txns.cores t).level (is_among (waiting_list_of m.txns t).items u) (txn_in m.txns.cores u).no_more_waits u)
wait_shown m t u w s =
    let q = s.shows.txns in
    wait-same w t u (txn_in w.txns t).level
    ∙ ap (λ b. wait_by (txn_in w.txns t).level b (txn_in w.txns u).no_more_waits u) (sym (ap (λ xs. is_among xs u) (q.waiting_lists t) ∙ among-seconds w.waiters t u))
    ∙ ap (λ ts. wait_by (txn_in ts t).level (is_among (waiting_list_of m.txns t).items u) (txn_in ts u).no_more_waits u) (sym q.cores)

waits_by : (m : Engine) (t u : ℕ) (j : Judgement) → wait_by (txn_in m.txns.cores t).level (is_among (waiting_list_of m.txns t).items u) (txn_in m.txns.cores u).no_more_waits u ≡ j →
    IsShown m (λ w. wait_judged w t u (txn_in w.txns t).level) j
waits_by m t u j h w s = wait_shown m t u w s ∙ h

pub waits_there : (m : Engine) (t u : ℕ) → (txn_in m.txns.cores t).level ≡ Serializable → is_among (waiting_list_of m.txns t).items u ≡ true →
    IsShown m (λ w. wait_judged w t u (txn_in w.txns t).level) (Allow [])
waits_there m t u l h =
    waits_by m t u (Allow []) (ap (λ k. wait_by k (is_among (waiting_list_of m.txns t).items u) (txn_in m.txns.cores u).no_more_waits u) l
    ∙ ap (λ b. wait_by Serializable b (txn_in m.txns.cores u).no_more_waits u) h)

pub waits_refused : (m : Engine) (t u : ℕ) → (txn_in m.txns.cores t).level ≡ Serializable → is_among (waiting_list_of m.txns t).items u ≡ false → (txn_in m.txns.cores u).no_more_waits ≡ true →
    IsShown m (λ w. wait_judged w t u (txn_in w.txns t).level) (Refuse NoMoreWaits)
waits_refused m t u l h f =
    waits_by m t u (Refuse NoMoreWaits) (ap (λ k. wait_by k (is_among (waiting_list_of m.txns t).items u) (txn_in m.txns.cores u).no_more_waits u) l
    ∙ ap (λ b. wait_by Serializable b (txn_in m.txns.cores u).no_more_waits u) h ∙ ap (λ b. wait_by Serializable false b u) f)

pub waits_new : (m : Engine) (t u : ℕ) → (txn_in m.txns.cores t).level ≡ Serializable → is_among (waiting_list_of m.txns t).items u ≡ false → (txn_in m.txns.cores u).no_more_waits ≡ false →
    IsShown m (λ w. wait_judged w t u (txn_in w.txns t).level) (Allow (MakeWait u ∷ []))
waits_new m t u l h f =
    waits_by m t u (Allow (MakeWait u ∷ [])) (ap (λ k. wait_by k (is_among (waiting_list_of m.txns t).items u) (txn_in m.txns.cores u).no_more_waits u) l
    ∙ ap (λ b. wait_by Serializable b (txn_in m.txns.cores u).no_more_waits u) h ∙ ap (λ b. wait_by Serializable false b u) f)

active_present : (s : State) → is_active s ≡ true → is_present s ≡ true
active_present state.NotBegun h = cc
active_present state.Active h = refl
active_present state.Preparing h = cc
active_present state.Committed h = cc
active_present (state.Aborted cause) h = cc
active_present state.Terminated h = cc

-- the creator of a version that is hidden while its creator is Active is declared
pub maker_known : (m : Engine) (t v u : ℕ) → StandsForSome m → version_seen m.store m.txns t (looks m t) v ≡ HiddenActive u → Declared m.txns u
maker_known m t v u o h =
    let w : World = o.world in
    let q = o.stands.shows.txns in
    let seen : sight w t (read_time w t) v ≡ HiddenActive u =
    sym (sight-shown m w t v o.stands) ∙ h in
    let counted : Counts w.txns t (HiddenActive u) = subst (Counts w.txns t) seen (sight-counts w t (read_time w t) v) in
    present-known m.txns w u q (active_present (txn_in w.txns u).state counted.0)

-- ---- one version

pub behind-behind : (xs ys : List Effect) (j : Judgement) → behind (xs ++ ys) j ≡ behind xs (behind ys j)
behind-behind xs ys (Refuse cause) = refl
behind-behind xs ys (Allow es) = ap Allow (append_assoc xs ys es)

-- the judgement of one version, by what t sees of it
pub by_sight : (m : Engine) (t v : ℕ) (aim : Aim) (s : Sight) (j : Judgement) (before : List Effect) (r : Option Cause) (after : List Effect) →
    version_seen m.store m.txns t (looks m t) v ≡ s → IsShown m (λ w. version_judged w t (purpose_of aim) (target_of aim) v s) j → behind before j ≡ verdict r after →
    IsShown m (λ w. behind before (version_judged w t (purpose_of aim) (target_of aim) v (sight w t (read_time w t) v))) (verdict r after)
by_sight m t v aim x j before r after seen judged is w s =
    ap (λ z. behind before (version_judged w t (purpose_of aim) (target_of aim) v z))
    (sym (sight-shown m w t v s) ∙ seen)
    ∙ ap (behind before) (judged w s) ∙ is

-- the judgement of a version seen if u commits: a dependency, and then the lock
pub by_promise : (m : Engine) (t v u : ℕ) (aim : Aim) (j : Judgement) (before more : List Effect) (r : Option Cause) (after : List Effect) →
    version_seen m.store m.txns t (looks m t) v ≡ SeenIf u → IsShown m (λ w. lock_judged w t (purpose_of aim) (target_of aim) v) j →
    more ≡ before ++ DependOn u ∷ [] → behind more j ≡ verdict r after →
    IsShown m (λ w. behind before (version_judged w t (purpose_of aim) (target_of aim) v (sight w t (read_time w t) v))) (verdict r after)
by_promise m t v u aim j before more r after seen judged grown is =
    by_sight m t v aim (SeenIf u) (behind (DependOn u ∷ []) j) before r after seen (λ w s. ap (behind (DependOn u ∷ [])) (judged w s))
    (sym (behind-behind before (DependOn u ∷ []) j) ∙ ap (λ es. behind es j) (sym grown) ∙ is)

pub if_ok : {A E : Type 0} (r : Result A E) (P Q : A → Type 0) → ((x : A) → P x → Q x) → IfOk r P → IfOk r Q
if_ok (Ok x) P Q h p = h x p
if_ok (Err e) P Q h p = tt

-- ---- all versions

behind-and_then : (es : List Effect) (a b : Judgement) → behind es (and_then a b) ≡ and_then (behind es a) b
behind-and_then es (Refuse cause) b = refl
behind-and_then es (Allow fs) b = sym (behind-behind es fs b)

abbrev pub each_judged : World → ℕ → Aim → List ℕ → Judgement
each_judged w t aim vs = versions_judged w t (purpose_of aim) (target_of aim) vs

-- the effects of the next version come after those before
pub next_allowed : (m : Engine) (t v : ℕ) (aim : Aim) (before after : List Effect) (vs : List ℕ) →
    IsShown m (λ w. behind before (version_judged w t (purpose_of aim) (target_of aim) v (sight w t (read_time w t) v))) (Allow after) →
    (w : World) → StandsFor m w → behind before (each_judged w t aim (v ∷ vs)) ≡ behind after (each_judged w t aim vs)
next_allowed m t v aim before after vs judged w s =
    behind-and_then before (version_judged w t (purpose_of aim) (target_of aim) v (sight w t (read_time w t) v)) (each_judged w t aim vs)
    ∙ ap (λ j. and_then j (each_judged w t aim vs)) (judged w s)

-- a refusal at the next version refuses the walk
pub next_refused : (m : Engine) (t v : ℕ) (aim : Aim) (before : List Effect) (cause : Cause) (vs : List ℕ) →
    IsShown m (λ w. behind before (version_judged w t (purpose_of aim) (target_of aim) v (sight w t (read_time w t) v))) (Refuse cause) →
    (w : World) → StandsFor m w → behind before (each_judged w t aim (v ∷ vs)) ≡ Refuse cause
next_refused m t v aim before cause vs judged w s =
    behind-and_then before (version_judged w t (purpose_of aim) (target_of aim) v (sight w t (read_time w t) v)) (each_judged w t aim vs)
    ∙ ap (λ j. and_then j (each_judged w t aim vs)) (judged w s)

-- a read is judged alike for any target
read-free : (w : World) (t : ℕ) (a b : Option ℕ) (vs : List ℕ) → versions_judged w t ToRead a vs ≡ versions_judged w t ToRead b vs
read-free w t a b [] = refl
read-free w t a b (v ∷ vs) =
    ap (λ j. and_then j (versions_judged w t ToRead a vs)) (one (sight w t (read_time w t) v))
    ∙ ap (and_then (version_judged w t ToRead b v (sight w t (read_time w t) v))) (read-free w t a b vs)
  where
    one : (s : Sight) → version_judged w t ToRead a v s ≡ version_judged w t ToRead b v s
    one Seen = refl
    one (SeenIf u) = refl
    one Hidden = refl
    one (HiddenIf u) = refl
    one (HiddenActive u) = refl

-- ---- the walk

pub nothing_more : (es : List Effect) → behind es (Allow []) ≡ Allow es
nothing_more es = ap Allow (append-nil es)

-- a hidden version adds nothing
pub by_hidden : (m : Engine) (t v : ℕ) (aim : Aim) (effects : List Effect) → version_seen m.store m.txns t (looks m t) v ≡ Hidden →
    IsShown m (λ w. behind effects (version_judged w t (purpose_of aim) (target_of aim) v (sight w t (read_time w t) v))) (verdict None effects)
by_hidden m t v aim effects seen = by_sight m t v aim Hidden (Allow []) effects None effects seen (λ w s. refl) (nothing_more effects)

pub seen-same : (m : Engine) (t : ℕ) (vs : List ℕ) → IsShown m (λ w. seen_of w t vs) (seen_among m t vs)
seen-same m t vs w s = sym (λ i. filter (λ (v : ℕ). is_seen (same v i)) vs)
  where
    same : (v : ℕ) → version_seen m.store m.txns t (looks m t) v ≡ sight w t (read_time w t) v
    same v = sight-shown m w t v s

walk-judged : (m : Engine) (t bucket : ℕ) (vs : List ℕ) (aim : Aim) (w : World) → IsAimed m t vs aim → StandsFor m w →
    walk w t (purpose_of aim) bucket vs ≡ behind (bucket_effects (txn_in w.txns t).level bucket) (each_judged w t aim vs)
walk-judged m t bucket vs aims.ToRead w a s = ap (behind (bucket_effects (txn_in w.txns t).level bucket)) (read-free w t (last (seen_of w t vs)) None vs)
walk-judged m t bucket vs (aims.ToWrite target) w a s =
    ap (λ o. behind (bucket_effects (txn_in w.txns t).level bucket) (versions_judged w t walking.ToWrite o vs)) (ap last (seen-same m t vs w s) ∙ sym a)

pub walked : (m : Engine) (t bucket : ℕ) (vs : List ℕ) (aim : Aim) (start : List Effect) (j : Judgement) → IsAimed m t vs aim →
    start ≡ bucket_effects (txn_in m.txns.cores t).level bucket → IsShown m (λ w. behind start (each_judged w t aim vs)) j →
    IsShown m (λ w. walk w t (purpose_of aim) bucket vs) j
walked m t bucket vs aim start j a first judged w s =
    walk-judged m t bucket vs aim w a s
    ∙ ap (λ ts. behind (bucket_effects (txn_in ts t).level bucket) (each_judged w t aim vs)) (sym s.shows.txns.cores)
    ∙ ap (λ es. behind es (each_judged w t aim vs)) (sym first) ∙ judged w s

-- ---- a turn of the loop over the versions

none-verdict : (o : Option Cause) (es : List Effect) → is_some o ≡ false → verdict o es ≡ Allow es
none-verdict None es h = refl
none-verdict (Some cause) es h = cc

pub first_more : (m : Engine) (t v : ℕ) (aim : Aim) (all xs rest : List ℕ) (old before new : List Effect) (o : Option Cause) → xs ≡ v ∷ rest →
    ((w : World) → StandsFor m w → behind before (each_judged w t aim xs) ≡ behind old (each_judged w t aim all)) →
    IsShown m (λ w. behind before (version_judged w t (purpose_of aim) (target_of aim) v (sight w t (read_time w t) v))) (verdict o new) → is_some o ≡ false →
    (w : World) → StandsFor m w → behind new (each_judged w t aim rest) ≡ behind old (each_judged w t aim all)
first_more m t v aim all xs rest old before new o first left judged none w s =
    sym (next_allowed m t v aim before new rest (λ x k. judged x k ∙ none-verdict o new none) w s) ∙ ap (λ ys. behind before (each_judged w t aim ys)) (sym first) ∙ left w s

pub first_refused : (m : Engine) (t v : ℕ) (aim : Aim) (all xs rest : List ℕ) (old before new : List Effect) (o : Option Cause) → xs ≡ v ∷ rest →
    ((w : World) → StandsFor m w → behind before (each_judged w t aim xs) ≡ behind old (each_judged w t aim all)) →
    IsShown m (λ w. behind before (version_judged w t (purpose_of aim) (target_of aim) v (sight w t (read_time w t) v))) (verdict o new) → is_some o ≡ true →
    (w : World) → StandsFor m w → behind old (each_judged w t aim all) ≡ verdict o new
first_refused m t v aim all xs rest old before new None first left judged some w s = cc
first_refused m t v aim all xs rest old before new (Some cause) first left judged some w s =
    sym (left w s) ∙ ap (λ ys. behind before (each_judged w t aim ys)) first ∙ next_refused m t v aim before cause rest judged w s

-- the list from a place on is the version there and the rest, by the loop's place
first-at : (vs : List ℕ) (i v : ℕ) → i < length vs → v ≡ get_or vs i v → drop i vs ≡ v ∷ drop (i + 1) vs
first-at vs i v below at = drop_more vs i v below ∙ ap (λ n. n ∷ drop (i + 1) vs) (sym at)

pub one_more : (m : Engine) (t i v : ℕ) (aim : Aim) (vs : List ℕ) (old before new : List Effect) (o : Option Cause) → i < length vs → v ≡ get_or vs i v →
    ((w : World) → StandsFor m w → behind before (each_judged w t aim (drop i vs)) ≡ behind old (each_judged w t aim vs)) →
    IsShown m (λ w. behind before (version_judged w t (purpose_of aim) (target_of aim) v (sight w t (read_time w t) v))) (verdict o new) → is_some o ≡ false →
    (w : World) → StandsFor m w → behind new (each_judged w t aim (drop (i + 1) vs)) ≡ behind old (each_judged w t aim vs)
one_more m t i v aim vs old before new o below at = first_more m t v aim vs (drop i vs) (drop (i + 1) vs) old before new o (first-at vs i v below at)

pub refused-verdict : (m : Engine) (t i v : ℕ) (aim : Aim) (vs : List ℕ) (old before new : List Effect) (o : Option Cause) → i < length vs → v ≡ get_or vs i v →
    ((w : World) → StandsFor m w → behind before (each_judged w t aim (drop i vs)) ≡ behind old (each_judged w t aim vs)) →
    IsShown m (λ w. behind before (version_judged w t (purpose_of aim) (target_of aim) v (sight w t (read_time w t) v))) (verdict o new) → is_some o ≡ true →
    (w : World) → StandsFor m w → behind old (each_judged w t aim vs) ≡ verdict o new
refused-verdict m t i v aim vs old before new o below at = first_refused m t v aim vs (drop i vs) (drop (i + 1) vs) old before new o (first-at vs i v below at)
