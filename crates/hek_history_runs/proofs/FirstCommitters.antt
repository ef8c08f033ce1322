-- In any run first committers win.
use Rattle.std.proofs.Common.{◌≡◌, ℕ, zero, suc, ◌≤◌, Bool, true, List, [], ◌∷◌, length, Option, Some, None, refl, ◌∙◌, ap, sym, ⊎_elim, arith}
use Rattle.std.proofs.lemmas.Option.{slice_get_past}
use Rattle.std.proofs.lemmas.List.{length-map}
use Rattle.std.proofs.lemmas.Bool.{false≢true, or_cases, or_right}
use Rattle.std.specs.Prelude.{◌==◌, ◌||◌, slice_get, unwrap_or, map}
use Rattle.std.specs.List.{list_any}
use Rattle.hek_rules.specs.declared.event.Level.{Level}
use Rattle.hek_rules.specs.declared.event.Level.TheVariants.{Snapshot}
use Rattle.hek_rules.specs.declared.event.State.{State}
use Rattle.hek_rules.specs.declared.event.State.TheVariants as state
use Rattle.hek_rules.specs.declared.event.Event.{Event}
use Rattle.hek_rules.specs.declared.serial.Write.{Write}
use Rattle.hek_rules.specs.World.{World, Txn, new_txn, no_txn, txn_in, opening, is_preparing}
use Rattle.hek_rules.specs.Serial.{begin_of, end_of, writes_of}
use Rattle.hek_rules.specs.Faults.{level_of, put_all}
use Rattle.hek_rules.specs.Run.{run, transcript}
use Rattle.hek_laws.specs.Rows.{key_of}
use Rattle.hek_laws.specs.Runs.{HasDistinctKeys, IsFirstClock}
use Rattle.hek_laws.proofs.Lists.Overlay.{wrote}
use Rattle.hek_laws.proofs.Worlds.Fixed.{fixed-run}
use Rattle.hek_laws.proofs.Futures.Survivors.{History, has_committed, is_settled, Future}
use Rattle.hek_laws.proofs.Runs.Opening.{base-rising, whole-opening}
use Rattle.hek_laws.proofs.Runs.Whole.{Whole, kept, whole-run}
use Rattle.hek_history_runs.specs.Laws.{FirstCommittersWin}
use Rattle.hek_history_runs.proofs.Winners.{Writers, drawn-begun}
use Rattle.hek_history_runs.proofs.Kept.{writers-run}

pub wrote-is : (xs : List Write) (key : ℕ) → wrote xs key ≡ list_any (λ (x : Write). key_of x == key) xs
wrote-is [] key = refl
wrote-is (x ∷ xs) key = ap (λ b. (key_of x == key) || b) (wrote-is xs key)

-- the committed transactions are a future
pub committed-future : (rows : List (ℕ × ℕ)) (w : World) (h : History) → Whole rows w h → Future w h (has_committed h)
committed-future rows w h k = record {
  drawn = λ u y. or_right _ _ y;
  committed = λ u y. y;
  hopeful = λ u y p. absurd (apart (txn_in w.txns u).state ((k.told u).settled y) p);
  closed = λ u t d y. absurd (false≢true (sym (k.dependences.second u t d) ∙ y));
}
  where
    apart : (x : State) → is_settled x ≡ true → is_preparing x ≡ true → ⊥
    apart state.Preparing p q = false≢true p
    apart state.Committed p q = false≢true q
    apart state.Terminated p q = false≢true q
    apart state.Active p q = false≢true p
    apart state.NotBegun p q = false≢true p
    apart (state.Aborted c) p q = false≢true p

-- in the opening world no transaction has drawn its end time
unstarted : (levels : List Level) (u : ℕ) → (txn_in (map new_txn levels) u).state ≡ state.NotBegun
unstarted levels zero = refl
unstarted levels (suc i) = at levels i
  where
    at : (ls : List Level) (i : ℕ) → (unwrap_or (slice_get (map new_txn ls) i) no_txn).state ≡ state.NotBegun
    at [] i = refl
    at (l ∷ ls) zero = refl
    at (l ∷ ls) (suc i) = at ls i

pub level-at : (levels : List Level) (t : ℕ) (level : Level) → level_of levels t ≡ Some level → (txn_in (map new_txn levels) t).level ≡ level
level-at levels zero level h = cc
level-at levels (suc i) level h = at levels i h
  where
    at : (ls : List Level) (i : ℕ) → slice_get ls i ≡ Some level → (unwrap_or (slice_get (map new_txn ls) i) no_txn).level ≡ level
    at [] i h = cc
    at (l ∷ ls) zero h = let same : l ≡ level = cc in same
    at (l ∷ ls) (suc i) h = at ls i h

one_time : (m n : ℕ) → Some m ≡ Some n → m ≡ n
one_time m n e = cc

none-past : {X : Type 0} (xs : List X) (i : ℕ) → slice_get xs i ≡ None → length xs ≤ i
none-past [] i e = omega arith
none-past (x ∷ xs) zero e = cc
none-past (x ∷ xs) (suc i) e = let l = none-past xs i e in omega (arith, l)

module _ (buckets clock : ℕ) (rows : List (ℕ × ℕ)) (levels : List Level) (events : List Event) (distinct : HasDistinctKeys rows) (first : IsFirstClock clock) where
  abbrev start : World
  start = opening buckets rows levels clock

  abbrev h : History
  h = transcript start events

  abbrev pub last_world : World
  last_world = run start events

  pub opened : Whole (put_all rows []) start []
  opened = whole-opening buckets clock rows levels distinct first.0 first.1

  pub whole : Whole (put_all rows []) last_world h
  whole = whole-run (put_all rows []) (base-rising rows) start [] events opened

  none-drawn : (A : ℕ → Bool) → Future start [] A → Writers start [] A
  none-drawn A f =
      let no : (u : ℕ) → A u ≡ true → ⊥ = λ u a. ⊎_elim (λ p. false≢true (sym (ap is_preparing (unstarted levels u)) ∙ p)) (λ c. false≢true c) (or_cases _ _ (f.drawn u a)) in
      record {
        traces = λ x key a y. absurd (no x a);
        newest = λ x key v time a y at l less. absurd (no x a);
        opened = λ t x key v l a y z less. no x a;
        closed = λ t x key a l b y z less more. no x b;
      }

  pub writers : Writers last_world h (has_committed h)
  writers = writers-run (put_all rows []) (base-rising rows) start [] events opened none-drawn (has_committed h) (committed-future (put_all rows []) last_world h whole)

  pub begin-is : (t begin : ℕ) → has_committed h t ≡ true → begin_of t h ≡ Some begin → (txn_in last_world.txns t).begin ≡ begin
  begin-is t begin c b = one_time _ begin (sym (whole.begins t (drawn-begun last_world h (kept (put_all rows []) last_world h whole).structure t (or_right _ _ c))) ∙ b)

  pub end-is : (t end : ℕ) → has_committed h t ≡ true → end_of t h ≡ Some end → (txn_in last_world.txns t).end ≡ end
  end-is t end c e = one_time _ end (sym ((whole.told t).drawn (or_right _ _ c)) ∙ e)

  pub level-is : (t : ℕ) (level : Level) → level_of levels t ≡ Some level → (txn_in last_world.txns t).level ≡ level
  level-is t level l = (fixed-run start events).level t ∙ level-at levels t level l

  -- a committed transaction is declared
  pub declared : (t : ℕ) → has_committed h t ≡ true → (l : Level) × (level_of levels t ≡ Some l)
  declared t c = by t (level_of levels t) refl ((whole.told t).settled c)
    where
      unknown : (i : ℕ) → slice_get levels i ≡ None → (txn_in last_world.txns (suc i)).state ≡ state.NotBegun
      unknown i e =
          let count : length last_world.txns ≡ length levels = (fixed-run start events).count ∙ length-map levels new_txn in
          let past = none-past levels i e in
          ap (λ (o : Option Txn). (unwrap_or o no_txn).state) (slice_get_past last_world.txns i (omega (arith, count, past)))

      by : (t : ℕ) (o : Option Level) → level_of levels t ≡ o → is_settled (txn_in last_world.txns t).state ≡ true → (l : Level) × (level_of levels t ≡ Some l)
      by t (Some l) e y = (l, e)
      by zero None e y = absurd (false≢true y)
      by (suc i) None e y = absurd (false≢true (ap is_settled (sym (unknown i e)) ∙ y))

pub first_committers_win : FirstCommittersWin
first_committers_win buckets clock rows levels events distinct first t x key begin end other l ct cx wt wx b e o less more =
    let h = transcript (opening buckets rows levels clock) events in
    let bt = begin-is buckets clock rows levels events distinct first t begin ct b in
    let et = end-is buckets clock rows levels events distinct first t end ct e in
    let ex = end-is buckets clock rows levels events distinct first x other cx o in
    (writers buckets clock rows levels events distinct first).closed t x key ct (level-is buckets clock rows levels events distinct first t Snapshot l) cx
    (wrote-is (writes_of t h) key ∙ wt) (wrote-is (writes_of x h) key ∙ wx) (omega (arith, bt, ex, less)) (omega (arith, et, ex, more))
