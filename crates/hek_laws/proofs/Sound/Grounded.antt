-- The parts of a sound world: words, lists, flags and transactions, each proved separately.
use Rattle.std.proofs.Common.{◌≡◌, ℕ, zero, suc, ◌+◌, ◌<◌, ◌≤◌, Bool, true, false, List, [], ◌∷◌, Option, Some, None, refl, ◌∙◌, ap, sym, arith, ⊎_elim, subst, length}
use Rattle.std.proofs.lemmas.Bool.{cases_Bool, false≢true, and_left, eqb-true, false_from_ne_true}
use Rattle.std.proofs.lemmas.Option.{slice_get_within}
use Rattle.std.specs.Prelude.{is_some, slice_get, unwrap_or}
use Rattle.hek_rules.specs.declared.event.State.{State}
use Rattle.hek_rules.specs.declared.event.State.TheVariants as state
use Rattle.hek_rules.specs.declared.event.WriteEntry.{WriteEntry}
use Rattle.hek_rules.specs.declared.event.WriteEntry.TheVariants.{BeginOf, EndOf}
use Rattle.hek_rules.specs.declared.word.BeginRecord.{BeginRecord}
use Rattle.hek_rules.specs.declared.word.BeginRecord.TheVariants.{At, By}
use Rattle.hek_rules.specs.Words.{infinity}
use Rattle.hek_rules.specs.Listing.{has, firsts_of}
use Rattle.hek_rules.specs.World.{World, Txn, Version, Ender, EndedAt, Held, txn_in, version_in, declared, no_txn, places, is_held_by, is_made_by, is_not_begun, is_aborted, is_committed, is_preparing, is_present}
use Rattle.hek_rules.specs.Waits.{waits, commit_deps, is_waited_for}
use Rattle.hek_laws.specs.Lists.{In}
use Rattle.hek_laws.specs.Sound.{Sound, TimesInOrder, OwnsNothing, IsSoundCreator, IsSoundEnder}
use Rattle.hek_laws.proofs.Table.Changes.{declared-below}
use Rattle.hek_laws.proofs.Sound.WaitCounts.{passed, failed}
use Rattle.hek_laws.proofs.Lists.Pairs.{few, firsts-In, once-firsts, seconds-none, firsts-none, entries-none}
use Rattle.hek_laws.proofs.Sound.Flags.{Flags}
use Rattle.hek_laws.proofs.Sound.Singles.{Single}
use Rattle.hek_laws.proofs.Sound.Listed.{Listed}
use Rattle.hek_laws.proofs.Sound.Standing.{Standing}
use Rattle.hek_laws.proofs.Words.Alone.{WordsRight, Entries}

pub record Grounded (w : World) : Type 0 where
  pub buckets : 0 < w.buckets
  pub bounded : w.clock < infinity
  pub times : TimesInOrder w.clock w.txns
  pub words : WordsRight w
  pub entries : Entries w
  pub depended : (u t : ℕ) → has w.dependents u t ≡ true → is_preparing (txn_in w.txns u).state ≡ true
  pub uncommitted : (u t : ℕ) → has w.dependents u t ≡ true → is_committed (txn_in w.txns t).state ≡ false
  pub single : Single w
  pub flags : Flags w.read_locks w.versions
  pub listed : Listed w
  pub standing : Standing w

-- ---- facts of a state
-- a transaction that has begun is declared
pub begun-declared : (ts : List Txn) (t : ℕ) → is_not_begun (txn_in ts t).state ≡ false → declared ts t ≡ true
begun-declared ts zero h = cc
begun-declared ts (suc i) h = read (slice_get ts i) h
  where
    read : (o : Option Txn) → is_not_begun (unwrap_or o no_txn).state ≡ false → is_some o ≡ true
    read None h = cc
    read (Some x) h = refl

pub present-begun : (s : State) → is_present s ≡ true → is_not_begun s ≡ false
present-begun state.NotBegun h = cc
present-begun state.Active h = refl
present-begun state.Preparing h = refl
present-begun state.Committed h = refl
present-begun (state.Aborted cause) h = refl
present-begun state.Terminated h = refl

aborted-present : (s : State) → is_aborted s ≡ true → is_present s ≡ true
aborted-present (state.Aborted cause) h = refl
aborted-present s h = cc

-- the ID of a transaction that has begun is above 0 and at most the number of transactions
pub begun-range : (ts : List Txn) (t : ℕ) → is_not_begun (txn_in ts t).state ≡ false → (0 < t) × (t ≤ length ts)
begun-range ts zero h = cc
begun-range ts (suc i) h = let l = declared-below ts (suc i) (begun-declared ts (suc i) h) in (omega arith, omega (arith, l))

pub within : {X : Type 0} (xs : List X) (i : ℕ) → is_some (slice_get xs i) ≡ true → i < length xs
within {X} xs i h = read (slice_get xs i) refl h
  where
    read : (o : Option X) → slice_get xs i ≡ o → is_some o ≡ true → i < length xs
    read None e h = cc
    read (Some x) e h = slice_get_within xs i x e

length-places : (test : ℕ → Version → Bool) (i : ℕ) (vs : List Version) → length (places test i vs) ≤ length vs
length-places test i [] = omega arith
length-places test i (x ∷ xs) =
    let rest = length-places test (i + 1) xs in
    ⊎_elim (λ y. let p = passed test i x xs y in omega (arith, p, rest)) (λ n. let p = failed test i x xs n in omega (arith, p, rest)) (cases_Bool (test i x))

no-places : (test : ℕ → Version → Bool) (i : ℕ) (vs : List Version) → ((j k : ℕ) → k ≡ i + j → test k (version_in vs j) ≡ false) → length (places test i vs) ≡ 0
no-places test i [] n = refl
no-places test i (x ∷ xs) n = failed test i x xs (n 0 i (omega arith)) ∙ no-places test (i + 1) xs (λ j k e. n (suc j) k (omega (arith, e)))

pub there : {X : Type 0} (xs : List X) (i : ℕ) → i < length xs → is_some (slice_get xs i) ≡ true
there [] i l = absurd (omega (arith, l))
there (x ∷ xs) zero l = refl
there (x ∷ xs) (suc i) l = there xs i (omega (arith, l))

module _ (w : World) (k : Grounded w) where
  -- a transaction with an entry in its write set has begun and not ended
  writer : (t : ℕ) (e : WriteEntry) → In (t, e) w.writes → is_present (txn_in w.txns t).state ≡ true
  writer t (BeginOf v) i = made (version_in w.versions v).creator (k.words.creators v) (k.entries.made t v i)
    where
      made : (c : BeginRecord) → IsSoundCreator w c → is_made_by t c ≡ true → is_present (txn_in w.txns t).state ≡ true
      made (At time) p m = absurd (false≢true m)
      made (By u) p m = subst (λ n. is_present (txn_in w.txns n).state ≡ true) (eqb-true u t m) p
  writer t (EndOf v) i = ⊎_elim (ended (version_in w.versions v).ender (k.words.enders v)) (λ a. aborted-present _ a) (k.entries.ended t v i)
    where
      ended : (e : Ender) → IsSoundEnder w e → is_held_by t e ≡ true → is_present (txn_in w.txns t).state ≡ true
      ended (EndedAt time) p m = absurd (false≢true m)
      ended (Held None b) p m = absurd (false≢true m)
      ended (Held (Some u) b) p m = subst (λ n. is_present (txn_in w.txns n).state ≡ true) (eqb-true u t m) p

  -- a transaction that has not begun, or has ended, begins no pair
  owns-nothing : (t : ℕ) → is_present (txn_in w.txns t).state ≡ false → OwnsNothing w t
  owns-nothing t n = record {
    reads = seconds-none w.read_locks t (λ v r. false≢true (sym n ∙ k.listed.reader t v r));
    writes = entries-none w.writes t (λ e i. false≢true (sym n ∙ writer t e i));
    buckets = seconds-none w.bucket_locks t (λ b r. false≢true (sym n ∙ k.listed.locker t b r));
    waiters = seconds-none w.waiters t (λ u r. false≢true (sym n ∙ k.listed.holder t u r));
    dependents = seconds-none w.dependents t (λ u r. false≢true (sym n ∙ preparing-present _ (k.depended t u r)));
  }
    where
      preparing-present : (s : State) → is_preparing s ≡ true → is_present s ≡ true
      preparing-present state.Preparing y = refl
      preparing-present s y = cc

  waits-bound : (u : ℕ) → waits w u ≤ length w.versions + length w.txns
  waits-bound u =
      let versions = length-places (is_waited_for w.read_locks u) 0 w.versions in
      let lists = few (length w.txns) (firsts_of w.waiters u) (once-firsts w.waiters u k.single.waiters_once) (λ t i. begun-range w.txns t (present-begun _ (k.listed.holder t u (firsts-In w.waiters t u i)))) in
      omega (arith, versions, lists)

  deps-bound : (t : ℕ) → commit_deps w t ≤ length w.txns
  deps-bound t =
      few (length w.txns) (firsts_of w.dependents t) (once-firsts w.dependents t k.single.dependents_once)
      (λ u i. begun-range w.txns u (preparing-begun _ (k.depended u t (firsts-In w.dependents u t i))))
    where
      preparing-begun : (s : State) → is_preparing s ≡ true → is_not_begun s ≡ false
      preparing-begun state.Preparing y = refl
      preparing-begun s y = cc

  unbegun-waits : (t : ℕ) → (txn_in w.txns t).state ≡ state.NotBegun → waits w t ≡ 0
  unbegun-waits t n =
      let absent : is_present (txn_in w.txns t).state ≡ false = ap is_present n in
      let versions = no-places (is_waited_for w.read_locks t) 0 w.versions
      (λ j v e. and_left _ _ (false_from_ne_true (is_held_by t (version_in w.versions j).ender) (λ y. false≢true (sym absent ∙ writer t (EndOf j) (k.words.held_entry t j y))))) in
      let lists = ap length (firsts-none w.waiters t (λ u r. false≢true (sym (k.listed.waiter u t r) ∙ ap is_not_begun n))) in
      omega (arith, versions, lists)

  pub grounded-sound : Sound w
  grounded-sound = record {
    buckets = k.buckets;
    bounded = k.bounded;
    times = k.times;
    creators = k.words.creators;
    enders = k.words.enders;
    flags = k.flags.flags;
    readers = k.flags.few;
    reads_once = k.single.reads_once;
    writes_once = k.single.writes_once;
    buckets_once = k.single.buckets_once;
    waiters_once = k.single.waiters_once;
    dependents_once = k.single.dependents_once;
    reader_present = k.listed.reader;
    read_there = λ t v r. within w.versions v (k.listed.read_there t v r);
    read_held = k.listed.read_held;
    writer_present = writer;
    made_there = λ t v i. within w.versions v (k.words.begin_range v t i);
    ended_there = λ t v i. within w.versions v (k.words.end_range v t i);
    made_by = k.entries.made;
    ended_by = k.entries.ended;
    creator_entry = k.words.made_entry;
    writer_entry = k.words.held_entry;
    locker_present = k.listed.locker;
    bucket_there = k.listed.bucket_there;
    holder_present = k.listed.holder;
    waiter_begun = k.listed.waiter;
    waits_for_other = k.listed.waits_for_other;
    depended_preparing = k.depended;
    dependent_begun = k.listed.dependent;
    dependent_uncommitted = k.uncommitted;
    depends_on_other = k.listed.depends_on_other;
    waits_bound = waits-bound;
    deps_bound = deps-bound;
    waits_for_none = k.standing.idle;
    no_more_waits = k.standing.no_more_waits;
    unbegun = k.standing.unbegun;
    unbegun_owns = λ t n. owns-nothing t (ap is_present n);
    unbegun_waits = unbegun-waits;
    unbegun_deps = λ t n. ap length (firsts-none w.dependents t (λ u r. false≢true (sym (k.listed.dependent u t r) ∙ ap is_not_begun n)));
    ended_owns = λ t n. owns-nothing t (ap is_present n);
  }

-- a sound world has these parts
pub sound-grounded : (w : World) → Sound w → Grounded w
sound-grounded w s = record {
  buckets = s.buckets;
  bounded = s.bounded;
  times = s.times;
  words = record {
    creators = s.creators;
    enders = s.enders;
    made_entry = s.creator_entry;
    held_entry = s.writer_entry;
    begin_range = λ v t i. there w.versions v (s.made_there t v i);
    end_range = λ v t i. there w.versions v (s.ended_there t v i);
  };
  entries = record { made = s.made_by; ended = s.ended_by };
  depended = s.depended_preparing;
  uncommitted = s.dependent_uncommitted;
  single = record { reads_once = s.reads_once; writes_once = s.writes_once; buckets_once = s.buckets_once; waiters_once = s.waiters_once; dependents_once = s.dependents_once };
  flags = record { flags = s.flags; few = s.readers };
  listed = record {
    reader = s.reader_present;
    read_there = λ t v r. there w.versions v (s.read_there t v r);
    read_held = s.read_held;
    locker = s.locker_present;
    bucket_there = s.bucket_there;
    holder = s.holder_present;
    waiter = s.waiter_begun;
    waits_for_other = s.waits_for_other;
    dependent = s.dependent_begun;
    depends_on_other = s.depends_on_other;
  };
  standing = record { no_more_waits = s.no_more_waits; idle = s.waits_for_none; unbegun = s.unbegun };
}
