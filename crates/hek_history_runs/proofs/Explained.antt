-- A history that records a run has the points of the run as an explanation.
use Rattle.std.proofs.Common.{◌≡◌, ℕ, suc, ◌+◌, ◌<◌, Bool, true, false, List, [], ◌∷◌, length, Option, Some, None, refl, ◌∙◌, ap, sym, arith, inl, inr, ⊎_elim, subst, take}
use Rattle.std.proofs.lemmas.Bool.{cases_Bool, cases_order, cond-true, cond-false, false≢true, ltb-true, or_right, eq-eqb}
use Rattle.std.proofs.lemmas.Option.{slice_get_within}
use Rattle.std.specs.Prelude.{◌==◌, ◌⊎◌, nat_lt, filter, slice_get, if◌then◌else◌}
use Rattle.hek_rules.specs.declared.event.Level.{Level}
use Rattle.hek_rules.specs.declared.event.Level.TheVariants.{Serializable, Snapshot, Repeatable}
use Rattle.hek_rules.specs.declared.event.Event.{Event}
use Rattle.hek_rules.specs.declared.event.Event.TheVariants as event
use Rattle.hek_rules.specs.declared.reply.Reply.{Reply}
use Rattle.hek_rules.specs.declared.reply.Reply.TheVariants as reply
use Rattle.hek_rules.specs.Listing.{value_of}
use Rattle.hek_rules.specs.Recorded.{Recorded}
use Rattle.hek_rules.specs.World.{World, txn_in, opening}
use Rattle.hek_rules.specs.Run.{run, transcript}
use Rattle.hek_rules.specs.Serial.{writes_of, begin_of as begin_drawn, end_of as end_drawn, serial_rows, judged_at, laid_over as laid_in, AreRight as AreRightIn}
use Rattle.hek_rules.specs.Faults.{level_of, put_all}
use Rattle.hek_laws.specs.Rows.{AreRising}
use Rattle.hek_laws.specs.Runs.{HasDistinctKeys, IsFirstClock, recorded_run}
use Rattle.hek_laws.proofs.Lists.Overlay.{wrote, lay_all-other}
use Rattle.hek_laws.proofs.Worlds.Fixed.{fixed-run}
use Rattle.hek_laws.proofs.Futures.Survivors.{has_committed}
use Rattle.hek_laws.proofs.Futures.Invariant.{order_in}
use Rattle.hek_laws.proofs.Futures.AsOfBegin.{rows_until}
use Rattle.hek_laws.proofs.Futures.Precommits.{rising-laid_over}
use Rattle.hek_laws.proofs.Runs.Opening.{base-rising}
use Rattle.hek_laws.proofs.Runs.Whole.{Whole, kept}
use Rattle.hek_laws.proofs.Runs.Final.{serial}
use Rattle.hek_history.specs.declared.history.History.{History}
use Rattle.hek_history.specs.declared.history.Operation.{Operation}
use Rattle.hek_history.specs.declared.history.Point.{Point}
use Rattle.hek_history.specs.declared.history.Point.TheVariants.{Begin, Commit}
use Rattle.hek_history.specs.declared.history.Order.TheVariants.{Versions, Times}
use Rattle.hek_history.specs.Answers.{is_change, last_change, after, AreRight}
use Rattle.hek_history.specs.Histories.{operations_in, operations_of, serializable_at, serializable_in, is_serializable, lenient_at, lenient_in, is_lenient, possible_by, possible_in, is_possible, begin_in, begin_of, end_in, end_of, writes, rows_after}
use Rattle.hek_history.specs.Orders.{earlier, time_of}
use Rattle.hek_history.specs.Explanation.{At, IsBegin, IsCommit, IsExplanation, AreInOrder}
use Rattle.hek_history.proofs.Rows.{value_of-lay_all, after-change}
use Rattle.hek_history.proofs.Scanned.{IsRight-same}
use Rattle.hek_history_laws.specs.Recording.{HasCommitted}
use Rattle.hek_history_laws.proofs.Answered.{AreAnswered, writes_answered, right_answered, same_values}
use Rattle.hek_history_runs.specs.Recording.{same_level, IsRecordedAt, Records}
use Rattle.hek_history_runs.specs.Points.{is_snapshot, is_snapshot_in, commits, points_at, points_of}
use Rattle.hek_history_runs.proofs.Winners.{drawn-begun}
use Rattle.hek_history_runs.proofs.FirstCommitters.{declared, opened, whole, writers, begin-is, end-is, level-is, committed-future}
use Rattle.hek_history_runs.proofs.SnapshotReplies.{right-run}
use Rattle.hek_history_runs.proofs.Ticks.{time_drawn, times-rise, begin-entry, end-entry, begins-once, ends-once, begun-before}
use Rattle.hek_history_runs.proofs.PointPlaces.{offset, IsPointOf, point-of, point-at, points-before, offset-rises, Reads, Ends, reads-from, ends-from, begin-points, end-points, both-points}
use Rattle.hek_history_runs.proofs.RowsAgree.{filter-swap, order-until, rows-agree}

-- the answers of a transaction that is not snapshot and whose absences are not judged
abbrev pub RepeatableAnswers : Recorded → Type 0
RepeatableAnswers s =
    (t time : ℕ) (ops : List Operation) → HasCommitted s t → level_of s.levels t ≡ Some Repeatable → end_drawn t s.history ≡ Some time → AreAnswered s.buckets t s.history ops →
    AreRight true ops (serial_rows s.history (put_all s.rows []) time)

one_entry : (p q : Event × Reply) → Some p ≡ Some q → p ≡ q
one_entry p q e = cc

one_time : (m n : ℕ) → Some m ≡ Some n → m ≡ n
one_time m n e = cc

some_time : (a : ℕ) (o : Option ℕ) → earlier (Some a) o ≡ true → (b : ℕ) × (o ≡ Some b)
some_time a None e = absurd (false≢true e)
some_time a (Some b) e = (b, refl)

-- a key that the operations change is one that the events write
changes-wrote : (buckets t key : ℕ) (h : List (Event × Reply)) (ops : List Operation) → AreAnswered buckets t h ops → is_change (last_change key ops) ≡ true → wrote (writes_of t h) key ≡ true
changes-wrote buckets t key h ops are change =
    ⊎_elim (λ yes. yes)
    (λ off.
    let at : (rows : List (ℕ × ℕ)) → value_of rows key ≡ after (last_change key ops) None =
    λ rows. sym (lay_all-other (writes_of t h) rows key off) ∙ ap (λ rs. value_of rs key) (writes_answered buckets t h ops rows are) ∙ value_of-lay_all ops rows key ∙ after-change (last_change key ops) (value_of rows key) change in
    let none : None ≡ after (last_change key ops) None = at [] in
    let there : Some 0 ≡ after (last_change key ops) None = sym (cond-true (key == key) (Some 0) None (eq-eqb key key refl)) ∙ at ((key, 0) ∷ []) in
    absurd (apart (none ∙ sym there)))
    (cases_Bool (wrote (writes_of t h) key))
  where
    apart : ◌≡◌ {A = Option ℕ} None (Some 0) → ⊥
    apart e = cc

named-level : (o : Option Level) → (l : Level) × (o ≡ Some l) → is_snapshot_in o ≡ false → (o ≡ Some Serializable) ⊎ (o ≡ Some Repeatable)
named-level o (Serializable, e) n = inl e
named-level o (Repeatable, e) n = inr e
named-level o (Snapshot, e) n = absurd (false≢true (sym n ∙ ap is_snapshot_in e))

snapshot-level : (o : Option Level) → is_snapshot_in o ≡ true → o ≡ Some Snapshot
snapshot-level None y = absurd (false≢true y)
snapshot-level (Some Serializable) y = absurd (false≢true y)
snapshot-level (Some Repeatable) y = absurd (false≢true y)
snapshot-level (Some Snapshot) y = refl

one_begin : (t a b : ℕ) → ◌≡◌ {A = Event × Reply} (event.Begin t, reply.Began a) (event.Begin t, reply.Began b) → a ≡ b
one_begin t a b e = let r : reply.Began a ≡ reply.Began b = ap (λ (p : Event × Reply). p.1) e in cc

module _ (buckets clock : ℕ) (rows : List (ℕ × ℕ)) (levels : List Level) (events : List Event) (some : 0 < buckets) (distinct : HasDistinctKeys rows) (first : IsFirstClock clock)
    (hist : History) (place : ℕ → ℕ) (rec : Records hist place (recorded_run buckets rows levels clock events)) (repeatable : RepeatableAnswers (recorded_run buckets rows levels clock events)) where
  abbrev s : Recorded
  s = recorded_run buckets rows levels clock events

  abbrev start : World
  start = opening buckets rows levels clock

  abbrev h : List (Event × Reply)
  h = transcript start events

  abbrev w : World
  w = run start events

  abbrev base : List (ℕ × ℕ)
  base = put_all rows []

  abbrev points : List Point
  points = points_of place s

  abbrev off : ℕ → ℕ
  off n = offset place s h n

  k : Whole base w h
  k = whole buckets clock rows levels events distinct first

  began : Whole base start []
  began = opened buckets clock rows levels events distinct first

  -- ---- levels
  found : (t : ℕ) → commits s t ≡ true → IsRecordedAt s hist (place t) t
  found t c = rec.committed t c

  possible : (t : ℕ) → commits s t ≡ true → is_possible hist (place t) ≡ true
  possible t c = let f = found t c in ap possible_in f.at ∙ ap possible_by f.run.status

  serializable-is : (t : ℕ) → commits s t ≡ true → is_snapshot s t ≡ false → is_serializable hist (place t) ≡ true
  serializable-is t c n =
      let f = found t c in
      ap serializable_in f.at
      ∙ ⊎_elim (λ e. ap serializable_at (f.run.level Serializable e)) (λ e. ap serializable_at (f.run.level Repeatable e)) (named-level (level_of levels t) (declared buckets clock rows levels events distinct first t c) n)

  snapshot-is : (t : ℕ) → commits s t ≡ true → is_snapshot s t ≡ true → is_serializable hist (place t) ≡ false
  snapshot-is t c y = let f = found t c in ap serializable_in f.at ∙ ap serializable_at (f.run.level Snapshot (snapshot-level (level_of levels t) y))

  lenient-is : (t : ℕ) (l : Level) → commits s t ≡ true → level_of levels t ≡ Some l → is_lenient hist (place t) ≡ lenient_at (same_level l)
  lenient-is t l c e = let f = found t c in ap lenient_in f.at ∙ ap lenient_at (f.run.level l e)

  ends-as : (t : ℕ) → commits s t ≡ true → end_of hist (place t) ≡ end_drawn t h
  ends-as t c = let f = found t c in ap end_in f.at ∙ f.run.end

  begins-as : (t : ℕ) → commits s t ≡ true → begin_of hist (place t) ≡ begin_drawn t h
  begins-as t c = let f = found t c in ap begin_in f.at ∙ f.run.begin

  wrote-it : (t key : ℕ) → commits s t ≡ true → writes hist (place t) key ≡ true → wrote (writes_of t h) key ≡ true
  wrote-it t key c y =
      let f = found t c in
      changes-wrote buckets t key h f.found.operations.items f.run.operations (ap (λ ops. is_change (last_change key ops)) (sym (ap operations_in f.at)) ∙ y)

  -- ---- turns
  -- where a committed transaction reads and ends
  record Turn (t : ℕ) : Type 0 where
    end : ℕ
    end_time : ℕ
    ended : slice_get h end ≡ Some (event.Precommit t, reply.Precommitted end_time)
    end_is : end_drawn t h ≡ Some end_time
    read : ℕ
    read_time : ℕ
    entry : Event × Reply
    there : slice_get h read ≡ Some entry
    time : time_drawn entry.0 entry.1 ≡ Some read_time
    reads : slice_get (points_at place s entry.0 entry.1) 0 ≡ Some (Begin (place t))
    commit_turn : ℕ
    commits_there : slice_get (points_at place s (event.Precommit t) (reply.Precommitted end_time)) commit_turn ≡ Some (Commit (place t))
    turn_is : commit_turn ≡ (if is_snapshot s t then 0 else 1)
    before : off read < off end + commit_turn
    how : ((entry ≡ (event.Begin t, reply.Began read_time)) × (is_snapshot s t ≡ true) × (begin_drawn t h ≡ Some read_time))
        ⊎ ((entry ≡ (event.Precommit t, reply.Precommitted read_time)) × (is_snapshot s t ≡ false) × (end_drawn t h ≡ Some read_time))

  end-now : (t : ℕ) → commits s t ≡ true → end_drawn t h ≡ Some (txn_in w.txns t).end
  end-now t c = (k.told t).drawn (or_right _ _ c)

  begin-now : (t : ℕ) → commits s t ≡ true → begin_drawn t h ≡ Some (txn_in w.txns t).begin
  begin-now t c = k.begins t (drawn-begun w h (kept base w h k).structure t (or_right _ _ c))

  -- an entry in which t begins has its begin time
  began-at : (t i time : ℕ) → commits s t ≡ true → slice_get h i ≡ Some (event.Begin t, reply.Began time) → begin_drawn t h ≡ Some time
  began-at t i time c at =
      let now = (txn_in w.txns t).begin in
      let e = begin-entry t h now (begin-now t c) in
      let same : i ≡ e.0 = begins-once base (base-rising rows) start events began t i e.0 time now at e.1 in
      let both : ◌≡◌ {A = Option (Event × Reply)} (Some (event.Begin t, reply.Began time)) (Some (event.Begin t, reply.Began now)) = sym at ∙ ap (slice_get h) same ∙ e.1 in
      let time_is : time ≡ now = one_begin t time now (one_entry (event.Begin t, reply.Began time) (event.Begin t, reply.Began now) both) in
      begin-now t c ∙ ap Some (sym time_is)

  turn : (t : ℕ) → commits s t ≡ true → Turn t
  turn t c = ⊎_elim snap plain (cases_Bool (is_snapshot s t))
    where
      time : ℕ
      time = (txn_in w.txns t).end

      last : (i : ℕ) × (slice_get h i ≡ Some (event.Precommit t, reply.Precommitted time))
      last = end-entry t h time (end-now t c)

      plain : is_snapshot s t ≡ false → Turn t
      plain n =
          let are = both-points place s t time c n in
          record {
            end = last.0;
            end_time = time;
            ended = last.1;
            end_is = end-now t c;
            read = last.0;
            read_time = time;
            entry = (event.Precommit t, reply.Precommitted time);
            there = last.1;
            time = refl;
            reads = ap (λ ps. slice_get ps 0) are;
            commit_turn = 1;
            commits_there = ap (λ ps. slice_get ps 1) are;
            turn_is = sym (cond-false (is_snapshot s t) 0 1 n);
            before = omega arith;
            how = inr (refl, n, end-now t c);
          }

      snap : is_snapshot s t ≡ true → Turn t
      snap y =
          let b = begun-before base (base-rising rows) start events began t last.0 time last.1 in
          let are = begin-points place s t b.1 c y in
          let len : length (points_at place s (event.Begin t) (reply.Began b.1)) ≡ 1 = ap length are in
          let rises = offset-rises place s h b.0 last.0 (event.Begin t, reply.Began b.1) b.2 b.3 in
          record {
            end = last.0;
            end_time = time;
            ended = last.1;
            end_is = end-now t c;
            read = b.0;
            read_time = b.1;
            entry = (event.Begin t, reply.Began b.1);
            there = b.3;
            time = refl;
            reads = ap (λ ps. slice_get ps 0) are;
            commit_turn = 0;
            commits_there = ap (λ ps. slice_get ps 0) (end-points place s t time c y);
            turn_is = sym (cond-true (is_snapshot s t) 0 1 y);
            before = omega (arith, rises, len);
            how = inl (refl, y, began-at t b.0 b.1 c b.3);
          }

  precommit-apart : (t u a b : ℕ) → ◌≡◌ {A = Event × Reply} (event.Precommit t, reply.Precommitted a) (event.Precommit u, reply.Precommitted b) → t ≡ u
  precommit-apart t u a b e = let f : event.Precommit t ≡ event.Precommit u = ap (λ (p : Event × Reply). p.0) e in cc

  kinds : (t u a b : ℕ) → ◌≡◌ {A = Event × Reply} (event.Begin t, reply.Began a) (event.Precommit u, reply.Precommitted b) → ⊥
  kinds t u a b e = let f : event.Begin t ≡ event.Precommit u = ap (λ (p : Event × Reply). p.0) e in cc

  same-end : (t : ℕ) (T U : Turn t) → T.end ≡ U.end
  same-end t T U = ends-once base (base-rising rows) start events began t T.end U.end T.end_time U.end_time T.ended U.ended

  -- ---- the transaction of a point
  record IsReader (i p : ℕ) : Type 0 where
    txn : ℕ
    committed : commits s txn ≡ true
    named : place txn ≡ p
    turn_of : Turn txn
    at : i ≡ off turn_of.read

  record IsEnder (i p : ℕ) : Type 0 where
    txn : ℕ
    committed : commits s txn ≡ true
    named : place txn ≡ p
    turn_of : Turn txn
    at : i ≡ off turn_of.end + turn_of.commit_turn

  -- the place at which a transaction with this turn reads
  read-place : (t n time : ℕ) (q : Event × Reply) (T : Turn t) → slice_get h n ≡ Some q →
      ((q ≡ (event.Begin t, reply.Began time)) × (is_snapshot s t ≡ true)) ⊎ ((q ≡ (event.Precommit t, reply.Precommitted time)) × (is_snapshot s t ≡ false)) → n ≡ T.read
  read-place t n time q T at how =
      ⊎_elim
      (λ a. ⊎_elim
      (λ b. begins-once base (base-rising rows) start events began t n T.read time T.read_time (at ∙ ap Some a.0) (T.there ∙ ap Some b.0))
      (λ b. absurd (false≢true (sym b.1 ∙ a.1))) T.how)
      (λ a. ⊎_elim
      (λ b. absurd (false≢true (sym a.1 ∙ b.1)))
      (λ b. ends-once base (base-rising rows) start events began t n T.read time T.read_time (at ∙ ap Some a.0) (T.there ∙ ap Some b.0)) T.how)
      how

  reader : (i p : ℕ) → At points i (Begin p) → IsReader i p
  reader i p a =
      let o : IsPointOf place s h i (Begin p) = point-of place s h i (Begin p) a in
      let r : Reads place s (o.is.0, o.is.1) p o.turn = reads-from place s o.is.0 o.is.1 p o.turn o.point in
      let T = turn r.txn r.committed in
      let same : o.entry ≡ T.read = read-place r.txn o.entry r.time o.is T o.there r.how in
      let place_is = o.place_is in
      let zero_turn = r.first in
      let index : off o.entry ≡ off T.read = ap off same in
      record { txn = r.txn; committed = r.committed; named = r.named; turn_of = T; at = omega (arith, place_is, zero_turn, index) }

  ender : (i p : ℕ) → At points i (Commit p) → IsEnder i p
  ender i p a =
      let o : IsPointOf place s h i (Commit p) = point-of place s h i (Commit p) a in
      let r : Ends place s (o.is.0, o.is.1) p o.turn = ends-from place s o.is.0 o.is.1 p o.turn o.point in
      let T = turn r.txn r.committed in
      let same : o.entry ≡ T.end = ends-once base (base-rising rows) start events began r.txn o.entry T.end r.time T.end_time (o.there ∙ ap Some r.how) T.ended in
      let place_is = o.place_is in
      let turn_is : o.turn ≡ T.commit_turn = r.turn_is ∙ sym T.turn_is in
      let index : off o.entry ≡ off T.end = ap off same in
      record { txn = r.txn; committed = r.committed; named = r.named; turn_of = T; at = omega (arith, place_is, turn_is, index) }

  one-reader : (i j p : ℕ) → IsReader i p → IsReader j p → i ≡ j
  one-reader i j p R S =
      let same : R.txn ≡ S.txn = rec.apart R.txn S.txn R.committed S.committed (R.named ∙ sym S.named) in
      let moved : Turn S.txn = subst Turn same R.turn_of in
      pick R.txn same R.turn_of R.at
    where
      pick : (t : ℕ) → t ≡ S.txn → (T : Turn t) → i ≡ off T.read → i ≡ j
      pick t same T at = subst (λ n. (U : Turn n) → i ≡ off U.read → i ≡ j) (sym same) here T at
        where
          here : (U : Turn S.txn) → i ≡ off U.read → i ≡ j
          here U at =
              let read : U.read ≡ S.turn_of.read = read-place S.txn U.read U.read_time U.entry S.turn_of U.there (⊎_elim (λ a. inl (a.0, a.1)) (λ a. inr (a.0, a.1)) U.how) in
              at ∙ ap off read ∙ sym S.at

  one-ender : (i j p : ℕ) → IsEnder i p → IsEnder j p → i ≡ j
  one-ender i j p R S =
      let same : R.txn ≡ S.txn = rec.apart R.txn S.txn R.committed S.committed (R.named ∙ sym S.named) in
      subst (λ n. (U : Turn n) → i ≡ off U.end + U.commit_turn → i ≡ j) (sym same) here R.turn_of R.at
    where
      here : (U : Turn S.txn) → i ≡ off U.end + U.commit_turn → i ≡ j
      here U at =
          let index : off U.end ≡ off S.turn_of.end = ap off (same-end S.txn U S.turn_of) in
          let turn_is : U.commit_turn ≡ S.turn_of.commit_turn = U.turn_is ∙ sym S.turn_of.turn_is in
          let to = S.at in
          omega (arith, at, index, turn_is, to)

  begin-point : (t : ℕ) (T : Turn t) → At points (off T.read) (Begin (place t))
  begin-point t T =
      let at = point-at place s h T.read 0 T.entry (Begin (place t)) T.there T.reads in
      let index : off T.read + 0 ≡ off T.read = omega arith in
      subst (λ i. At points i (Begin (place t))) index at

  commit-point : (t : ℕ) (T : Turn t) → At points (off T.end + T.commit_turn) (Commit (place t))
  commit-point t T = point-at place s h T.end T.commit_turn (event.Precommit t, reply.Precommitted T.end_time) (Commit (place t)) T.ended T.commits_there

  -- ---- answers
  before-time : (n time : ℕ) (q : Event × Reply) → slice_get h n ≡ Some q → time_drawn q.0 q.1 ≡ Some time → filter (λ (x : ℕ × ℕ). nat_lt x.0 time) (order_in h) ≡ order_in (take n h)
  before-time n time q at d =
      order-until h n time
      (λ i p a to c l. times-rise start events i n p q a time l to at c d)
      (λ i p a to c l. ⊎_elim
      (λ same.
      let both : Some p ≡ Some q = sym to ∙ ap (slice_get h) same ∙ at in
      let one : p ≡ q = one_entry p q both in
      let times : a ≡ time = one_time a time (sym c ∙ ap (λ (z : Event × Reply). time_drawn z.0 z.1) one ∙ d) in
      omega (arith, times))
      (λ o. ⊎_elim (λ less. absurd (omega (arith, less, l))) (λ more. let rises = times-rise start events n i q p time a more at to d c in omega (arith, rises)) o)
      (cases_order i n))

  abbrev PR : ℕ → List (ℕ × ℕ)
  PR n = laid_in h (filter (λ (x : ℕ × ℕ). has_committed h x.1) (order_in (take n h))) base

  until-is : (n time : ℕ) (q : Event × Reply) → slice_get h n ≡ Some q → time_drawn q.0 q.1 ≡ Some time → rows_until h (has_committed h) time base ≡ PR n
  until-is n time q at d = ap (λ xs. laid_in h (filter (λ (x : ℕ × ℕ). has_committed h x.1) xs) base) (before-time n time q at d)

  serial-is : (n time : ℕ) (q : Event × Reply) → slice_get h n ≡ Some q → time_drawn q.0 q.1 ≡ Some time → serial_rows h base time ≡ PR n
  serial-is n time q at d =
      ap (λ xs. laid_in h (filter (λ (x : ℕ × ℕ). nat_lt x.0 time) xs) base) k.order.committed_order
      ∙ ap (λ xs. laid_in h xs base) (filter-swap (λ (x : ℕ × ℕ). nat_lt x.0 time) (λ (x : ℕ × ℕ). has_committed h x.1) (order_in h))
      ∙ until-is n time q at d

  rising : (n : ℕ) → AreRising (PR n)
  rising n = rising-laid_over h (filter (λ (x : ℕ × ℕ). has_committed h x.1) (order_in (take n h))) base (base-rising rows)

  buckets-is : w.buckets ≡ buckets
  buckets-is = (fixed-run start events).buckets

  strict : (t n : ℕ) (ops : List Operation) → AreAnswered buckets t h ops → AreRightIn Serializable buckets t (PR n) h → AreRight false ops (PR n)
  strict t n ops are right = right_answered buckets t h ops (PR n) some (rising n) are right

  -- a transaction's answers over the rows at the place where it reads
  right-there : (t : ℕ) (c : commits s t ≡ true) (T : Turn t) (ops : List Operation) → AreAnswered buckets t h ops → AreRight (is_lenient hist (place t)) ops (PR T.read)
  right-there t c T ops are =
      ⊎_elim
      (λ a.
      let l : level_of levels t ≡ Some Snapshot = snapshot-level (level_of levels t) a.1 in
      let begin : (txn_in w.txns t).begin ≡ T.read_time = begin-is buckets clock rows levels events distinct first t T.read_time c a.2 in
      let right : AreRightIn Serializable w.buckets t (rows_until h (has_committed h) (txn_in w.txns t).begin base) h =
      right-run base (base-rising rows) start [] events began (λ A f t l m. tt) (has_committed h) (committed-future base w h k) t (level-is buckets clock rows levels events distinct first t Snapshot l) (inl c) in
      let here : AreRightIn Serializable buckets t (PR T.read) h =
      subst (λ rs. AreRightIn Serializable buckets t rs h) (ap (λ n. rows_until h (has_committed h) n base) begin ∙ until-is T.read T.read_time T.entry T.there T.time)
      (subst (λ n. AreRightIn Serializable n t (rows_until h (has_committed h) (txn_in w.txns t).begin base) h) buckets-is right) in
      subst (λ b. AreRight b ops (PR T.read)) (sym (lenient-is t Snapshot c l)) (strict t T.read ops are here))
      (λ a. ⊎_elim
      (λ l.
      let level : (txn_in w.txns t).level ≡ Serializable = level-is buckets clock rows levels events distinct first t Serializable l in
      let all = (serial base w h (kept base w h k) k.begins k.snapshots).replies t T.read_time c (ap (λ m. judged_at m t h) level ∙ a.2) in
      let here : AreRightIn Serializable buckets t (PR T.read) h =
      subst (λ rs. AreRightIn Serializable buckets t rs h) (serial-is T.read T.read_time T.entry T.there T.time)
      (subst (λ n. AreRightIn Serializable n t (serial_rows h base T.read_time) h) buckets-is
      (subst (λ m. AreRightIn m w.buckets t (serial_rows h base T.read_time) h) level all)) in
      subst (λ b. AreRight b ops (PR T.read)) (sym (lenient-is t Serializable c l)) (strict t T.read ops are here))
      (λ l. subst (λ b. AreRight b ops (PR T.read)) (sym (lenient-is t Repeatable c l))
      (subst (λ rs. AreRight true ops rs) (serial-is T.read T.read_time T.entry T.there T.time) (repeatable t T.read_time ops c l a.2 are)))
      (named-level (level_of levels t) (declared buckets clock rows levels events distinct first t c) a.1))
      T.how

  right-over : (lenient : Bool) (ops : List Operation) (some others : List (ℕ × ℕ)) → ((key : ℕ) → value_of some key ≡ value_of others key) → AreRight lenient ops some → AreRight lenient ops others
  right-over lenient ops some others same right n op there = IsRight-same lenient op _ _ (same_values (take n ops) some others same) (right n op there)

  answers : (t : ℕ) (c : commits s t ≡ true) (T : Turn t) → AreRight (is_lenient hist (place t)) (operations_of hist (place t)) (rows_after hist (take (off T.read) points))
  answers t c T =
      let f = found t c in
      let ops = f.found.operations.items in
      let same : (key : ℕ) → value_of (PR T.read) key ≡ value_of (rows_after hist (take (off T.read) points)) key =
      λ key. sym (rows-agree s hist place rec (take T.read h) hist.rows.items base rec.rows key) ∙ ap (λ ps. value_of (rows_after hist ps) key) (sym (points-before place s h T.read)) in
      subst (λ (o : List Operation). AreRight (is_lenient hist (place t)) o (rows_after hist (take (off T.read) points))) (sym (ap operations_in f.at))
      (right-over (is_lenient hist (place t)) ops (PR T.read) (rows_after hist (take (off T.read) points)) same (right-there t c T ops f.run.operations))

  -- ---- begins and commits
  begin-is-right : (i p : ℕ) → At points i (Begin p) → IsBegin hist points i p
  begin-is-right i p a =
      let R = reader i p a in
      let T = R.turn_of in
      let at = R.at in
      let before = T.before in
      record {
        possible = subst (λ q. is_possible hist q ≡ true) R.named (possible R.txn R.committed);
        once = λ j b. one-reader j i p (reader j p b) R;
        ends = (off T.end + T.commit_turn, omega (arith, at, before), subst (λ q. At points (off T.end + T.commit_turn) (Commit q)) R.named (commit-point R.txn T));
        beside = λ y. ⊎_elim
            (λ x. absurd (false≢true (sym (snapshot-is R.txn R.committed x.1) ∙ subst (λ q. is_serializable hist q ≡ true) (sym R.named) y)))
            (λ x.
            let read : T.read ≡ T.end = ends-once base (base-rising rows) start events began R.txn T.read T.end T.read_time T.end_time (T.there ∙ ap Some x.0) T.ended in
            let index : off T.read ≡ off T.end = ap off read in
            let one : T.commit_turn ≡ 1 = T.turn_is ∙ cond-false (is_snapshot s R.txn) 0 1 x.1 in
            let next : off T.end + T.commit_turn ≡ suc i = omega (arith, at, index, one) in
            subst (λ j. At points j (Commit p)) next (subst (λ q. At points (off T.end + T.commit_turn) (Commit q)) R.named (commit-point R.txn T))) T.how;
        answers = subst (λ q. AreRight (is_lenient hist q) (operations_of hist q) (rows_after hist (take i points))) R.named
            (subst (λ j. AreRight (is_lenient hist (place R.txn)) (operations_of hist (place R.txn)) (rows_after hist (take j points))) (sym at) (answers R.txn R.committed T));
      }

  -- the entries of two points whose times are drawn one after another
  commit-within : (t : ℕ) (T : Turn t) → T.commit_turn < length (points_at place s (event.Precommit t) (reply.Precommitted T.end_time))
  commit-within t T = slice_get_within (points_at place s (event.Precommit t) (reply.Precommitted T.end_time)) T.commit_turn (Commit (place t)) T.commits_there

  no-writer-between : (t u i j m key : ℕ) (c : commits s t ≡ true) (d : commits s u ≡ true) (T : Turn t) (U : Turn u) → i ≡ off T.end + T.commit_turn → j ≡ off T.read → m ≡ off U.end + U.commit_turn → j < m → m < i →
      writes hist (place t) key ≡ true → writes hist (place u) key ≡ true → ⊥
  no-writer-between t u i j m key c d T U ati atj atm less more x y =
      ⊎_elim
      (λ a.
      let zero_turn : T.commit_turn ≡ 0 = T.turn_is ∙ cond-true (is_snapshot s t) 0 1 a.1 in
      let first_time : T.read_time < U.end_time =
      times-rise start events T.read U.end T.entry (event.Precommit u, reply.Precommitted U.end_time) T.read_time U.end_time
      (⊎_elim
      (λ same. absurd (kinds t u T.read_time U.end_time (one_entry _ _ (ap Some (sym a.0) ∙ sym T.there ∙ ap (slice_get h) same ∙ U.ended))))
      (λ o. ⊎_elim (λ l. l) (λ g.
      let rises = offset-rises place s h U.end T.read (event.Precommit u, reply.Precommitted U.end_time) g U.ended in
      let inside = commit-within u U in
      absurd (omega (arith, rises, inside, less, atj, atm))) o)
      (cases_order T.read U.end)) T.there U.ended T.time refl in
      let second_time : U.end_time < T.end_time =
      times-rise start events U.end T.end (event.Precommit u, reply.Precommitted U.end_time) (event.Precommit t, reply.Precommitted T.end_time) U.end_time T.end_time
      (⊎_elim
      (λ same. let index : off U.end ≡ off T.end = ap off same in absurd (omega (arith, index, more, atm, ati, zero_turn)))
      (λ o. ⊎_elim (λ l. l) (λ g.
      let rises = offset-rises place s h T.end U.end (event.Precommit t, reply.Precommitted T.end_time) g T.ended in
      let inside = commit-within t T in
      absurd (omega (arith, rises, inside, more, atm, ati))) o)
      (cases_order U.end T.end)) U.ended T.ended refl refl in
      let bt = begin-is buckets clock rows levels events distinct first t T.read_time c a.2 in
      let et = end-is buckets clock rows levels events distinct first t T.end_time c T.end_is in
      let eu = end-is buckets clock rows levels events distinct first u U.end_time d U.end_is in
      (writers buckets clock rows levels events distinct first).closed t u key c (level-is buckets clock rows levels events distinct first t Snapshot (snapshot-level (level_of levels t) a.1)) d
      (wrote-it t key c x) (wrote-it u key d y) (omega (arith, first_time, bt, eu)) (omega (arith, second_time, et, eu)))
      (λ a.
      let read : T.read ≡ T.end = ends-once base (base-rising rows) start events began t T.read T.end T.read_time T.end_time (T.there ∙ ap Some a.0) T.ended in
      let index : off T.read ≡ off T.end = ap off read in
      let one : T.commit_turn ≡ 1 = T.turn_is ∙ cond-false (is_snapshot s t) 0 1 a.1 in
      omega (arith, index, one, ati, atj, less, more))
      T.how

  commit-is-right : (i p : ℕ) → At points i (Commit p) → IsCommit hist points i p
  commit-is-right i p a =
      let E = ender i p a in
      let T = E.turn_of in
      let at = E.at in
      let before = T.before in
      record {
        once = λ j b. one-ender j i p (ender j p b) E;
        begun = (off T.read, omega (arith, at, before), subst (λ q. At points (off T.read) (Begin q)) E.named (begin-point E.txn T));
        first = λ j m x key b d less more y z.
            (let own : IsReader (off T.read) p = record { txn = E.txn; committed = E.committed; named = E.named; turn_of = T; at = refl } in
            let read : j ≡ off T.read = one-reader j (off T.read) p (reader j p b) own in
            let F = ender m x d in
            no-writer-between E.txn F.txn i j m key E.committed F.committed T F.turn_of at read F.at less more
            (subst (λ q. writes hist q key ≡ true) (sym E.named) y) (subst (λ q. writes hist q key ≡ true) (sym F.named) z));
      }

  pub explanation : IsExplanation hist points
  explanation = record {
    begins = begin-is-right;
    commits = commit-is-right;
    committed = λ p c.
        (let o = rec.others p c in
        let T = turn o.0 o.1 in
        (off T.end + T.commit_turn, subst (λ q. At points (off T.end + T.commit_turn) (Commit q)) o.2 (commit-point o.0 T)));
  }

  -- ---- the orders that are asked for
  record IsTimed (p : Point) (i : ℕ) : Type 0 where
    entry : ℕ
    is : Event × Reply
    there : slice_get h entry ≡ Some is
    when : ℕ
    drawn : time_drawn is.0 is.1 ≡ Some when
    time_is : time_of hist p ≡ Some when
    turn_in : ℕ
    at : i ≡ off entry + turn_in
    inside : turn_in < length (points_at place s is.0 is.1)

  timed : (p : Point) (i : ℕ) → At points i p → IsTimed p i
  timed (Begin p) i a =
      let R = reader i p a in
      let T = R.turn_of in
      record {
        entry = T.read;
        is = T.entry;
        there = T.there;
        when = T.read_time;
        drawn = T.time;
        time_is = subst (λ q. time_of hist (Begin q) ≡ Some T.read_time) R.named
            (⊎_elim
            (λ x. cond-false (is_serializable hist (place R.txn)) (end_of hist (place R.txn)) (begin_of hist (place R.txn)) (snapshot-is R.txn R.committed x.1) ∙ begins-as R.txn R.committed ∙ x.2)
            (λ x. cond-true (is_serializable hist (place R.txn)) (end_of hist (place R.txn)) (begin_of hist (place R.txn)) (serializable-is R.txn R.committed x.1) ∙ ends-as R.txn R.committed ∙ x.2) T.how);
        turn_in = 0;
        at = (let at = R.at in omega (arith, at));
        inside = slice_get_within (points_at place s T.entry.0 T.entry.1) 0 (Begin (place R.txn)) T.reads;
      }
  timed (Commit p) i a =
      let R = ender i p a in
      let T = R.turn_of in
      record {
        entry = T.end;
        is = (event.Precommit R.txn, reply.Precommitted T.end_time);
        there = T.ended;
        when = T.end_time;
        drawn = refl;
        time_is = subst (λ q. time_of hist (Commit q) ≡ Some T.end_time) R.named (ends-as R.txn R.committed ∙ T.end_is);
        turn_in = T.commit_turn;
        at = R.at;
        inside = commit-within R.txn T;
      }

  pub times-in-order : AreInOrder hist Times points
  times-in-order p q asked i j a b =
      let x = timed p i a in
      let y = timed q j b in
      let less : x.when < y.when = ltb-true _ _ (sym (ap (λ o. earlier o (time_of hist q)) x.time_is ∙ ap (earlier (Some x.when)) y.time_is) ∙ asked) in
      let before : x.entry < y.entry =
      ⊎_elim
      (λ same.
      let one : x.is ≡ y.is = one_entry x.is y.is (sym x.there ∙ ap (slice_get h) same ∙ y.there) in
      let times : x.when ≡ y.when = one_time x.when y.when (sym x.drawn ∙ ap (λ (z : Event × Reply). time_drawn z.0 z.1) one ∙ y.drawn) in
      absurd (omega (arith, less, times)))
      (λ o. ⊎_elim (λ l. l) (λ g. let more = times-rise start events y.entry x.entry y.is x.is y.when x.when g y.there x.there y.drawn x.drawn in absurd (omega (arith, less, more))) o)
      (cases_order x.entry y.entry) in
      let rises = offset-rises place s h x.entry y.entry x.is before x.there in
      let ax = x.at in
      let ay = y.at in
      let inside = x.inside in
      omega (arith, rises, ax, ay, inside)

  pub versions-in-order : AreInOrder hist Versions points
  versions-in-order (Begin p) (Begin q) asked i j a b = absurd asked
  versions-in-order (Begin p) (Commit q) asked i j a b = absurd asked
  versions-in-order (Commit p) (Begin q) asked i j a b = absurd asked
  versions-in-order (Commit p) (Commit q) asked i j a b = times-in-order (Commit p) (Commit q) asked.3 i j a b
