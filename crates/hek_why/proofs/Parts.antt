-- What the changes in which two worlds differ make of each part of the first one.
use Rattle.std.proofs.Common.{◌≡◌, ℕ, zero, suc, ◌+◌, ◌<◌, ◌≤◌, Bool, true, List, [], ◌∷◌, ◌++◌, refl, ◌∙◌, ap, sym, subst, arith, ⊎_elim, length, add-one}
use Rattle.std.proofs.lemmas.Bool.{cases_lt, cond-true, cond-false, eqb-true, eq-eqb, ne_eqb, lt-ltb, le-ltb, and_from}
use Rattle.std.specs.Prelude.{◌==◌, ◌&&◌, nat_lt, slice_get, is_some}
use Rattle.hek_rules.specs.declared.word.EndRecord.TheVariants.{Until}
use Rattle.hek_rules.specs.Words.{begin_number, end_number}
use Rattle.hek_rules.specs.World.{World, Version, Txn, EndedAt, no_version, version_in, txn_in, declared}
use Rattle.hek_rules.specs.Waits.{readers, waits, commit_deps}
use Rattle.hek_rules.specs.Shown.{begin_word, end_word, end_word_by, read_set, write_set, bucket_set, waiting_list, dependents_of, lock_count, lock_list}
use Rattle.hek_machine.specs.Observed.{key_in, value_in}
use Rattle.hek_why.specs.declared.change.Change.{Change}
use Rattle.hek_why.specs.declared.change.Change.TheVariants.{Begin, End, LockCount, LockList}
use Rattle.hek_why.specs.declared.change.Change.TheVariants as change
use Rattle.hek_why.specs.declared.change.TxnChange.{TxnChange}
use Rattle.hek_why.specs.declared.change.TxnChange.TheVariants as txn
use Rattle.hek_why.specs.Same.{same_flag, same_begin, same_end, same_state, same_numbers, same_entries}
use Rattle.hek_why.specs.Changes.{field, each_below, word_changes, version_changes, state_changes, time_changes, counter_changes, flag_changes, set_changes, follower_changes, txn_changes, bucket_changes}
use Rattle.hek_why.specs.Leads.{ShownVersion, ShownTxn, ShownBucket, shown_version, shown_txn, shown_bucket, count_by, version_by, field_by, txn_by, bucket_by, after}
use Rattle.hek_why.proofs.Growing.{Grown}
use Rattle.hek_why.proofs.Exact.{flag_exact, state_exact, numbers_exact, entries_exact}
use Rattle.hek_why.proofs.Leading.{Leaves, leaves_past, after_both, after_each, after_field}
use Rattle.hek_why.proofs.PartsLeft.{left_words, left_version, left_txn, left_bucket}

here : (n : ℕ) → (n == n) ≡ true
here n = eq-eqb n n refl

-- ---- versions

past : (vs : List Version) (v : ℕ) → length vs ≤ v → version_in vs v ≡ no_version
past [] v h = refl
past (x ∷ vs) zero h = absurd (omega (arith, h))
past (x ∷ vs) (suc v) h = past vs v (omega (arith, h))

-- what is shown past the last version
abbrev none : ShownVersion
none = record { key = no_version.key; value = no_version.value; begin = begin_number no_version.creator; end = end_number (Until 0) }

shown_past : (w : World) (v : ℕ) → length w.versions ≤ v → shown_version w v ≡ none
shown_past w v h = ap (λ (y : Version). let z : ShownVersion = record { key = y.key; value = y.value; begin = begin_number y.creator; end = end_number (end_word_by (readers w.read_locks v) y.ender) } in z) (past w.versions v h)

module _ (w x : World) (grown : Grown w.versions x.versions) where
  old_version : (v : ℕ) → v < length w.versions → after (version_by v) (word_changes w x v) (shown_version w v) ≡ shown_version x v
  old_version v under =
      let begins : after (version_by v) (field same_begin (λ a b. Begin v a b) (begin_word w v) (begin_word x v)) (shown_version w v) ≡ record (shown_version w v) { begin = begin_number (begin_word x v) } =
      after_field (version_by v) same_begin (λ a b. Begin v a b) (begin_word w v) (begin_word x v) (shown_version w v)
      (λ e. cond-true (v == v) _ _ (here v) ∙ ap (λ n. record (shown_version w v) { begin = n }) (sym (eqb-true (begin_number (begin_word w v)) (begin_number (begin_word x v)) e)))
      ∙ cond-true (v == v) _ _ (here v) in
      let now : ShownVersion = record (shown_version w v) { begin = begin_number (begin_word x v) } in
      let ends : after (version_by v) (field same_end (λ a b. End v a b) (end_word w v) (end_word x v)) now ≡ record now { end = end_number (end_word x v) } =
      after_field (version_by v) same_end (λ a b. End v a b) (end_word w v) (end_word x v) now
      (λ e. cond-true (v == v) _ _ (here v) ∙ ap (λ n. record now { end = n }) (sym (eqb-true (end_number (end_word w v)) (end_number (end_word x v)) e)))
      ∙ cond-true (v == v) _ _ (here v) in
      after_both (version_by v) (field same_begin (λ a b. Begin v a b) (begin_word w v) (begin_word x v)) (field same_end (λ a b. End v a b) (end_word w v) (end_word x v)) (shown_version w v) now (shown_version x v) begins
      (ends ∙ ap (λ k. let z : ShownVersion = record { key = k; value = value_in w v; begin = begin_number (begin_word x v); end = end_number (end_word x v) } in z) (sym (grown.key v under))
      ∙ ap (λ l. let z : ShownVersion = record { key = key_in x v; value = l; begin = begin_number (begin_word x v); end = end_number (end_word x v) } in z) (sym (grown.value v under)))

  one_version : (v : ℕ) → after (version_by v) (version_changes w x v) (shown_version w v) ≡ shown_version x v
  one_version v = ⊎_elim
      (λ under. ap (λ cs. after (version_by v) cs (shown_version w v)) (cond-true (nat_lt v (length w.versions)) _ _ (lt-ltb v (length w.versions) under)) ∙ old_version v under)
      (λ over. ap (λ cs. after (version_by v) cs (shown_version w v)) (cond-false (nat_lt v (length w.versions)) _ _ (le-ltb v (length w.versions) over)) ∙ cond-true (v == v) _ _ (here v))
      (cases_lt v (length w.versions))

  other_version : (v u : ℕ) → (u ≡ v → ⊥) → Leaves (version_by v) (version_changes w x u)
  other_version v u apart =
      let other = ne_eqb u v apart in
      left_version (version_by v) w x u (λ a b y. cond-false (u == v) _ _ other) (λ a b y. cond-false (u == v) _ _ other) (λ k l a b y. cond-false (u == v) _ _ other)

  pub all_versions : (v : ℕ) → after (version_by v) (each_below (version_changes w x) (length x.versions)) (shown_version w v) ≡ shown_version x v
  all_versions v = ⊎_elim
      (λ under. after_each (version_by v) (version_changes w x) v (other_version v) (length x.versions) under (shown_version w v) ∙ one_version v)
      (λ over.
      (leaves_past (version_by v) (version_changes w x) v (other_version v) (length x.versions) over).all (shown_version w v)
      ∙ shown_past w v (omega (arith, over, grown.longer)) ∙ sym (shown_past x v over))
      (cases_lt v (length x.versions))

  -- how many versions there are, after the changes of the first n
  count_old : (n : ℕ) → n ≤ length w.versions → after count_by (each_below (version_changes w x) n) (length w.versions) ≡ length w.versions
  count_old zero h = refl
  count_old (suc n) h =
      after_both count_by (each_below (version_changes w x) n) (version_changes w x n) (length w.versions) (length w.versions) (length w.versions) (count_old n (omega (arith, h)))
      (ap (λ cs. after count_by cs (length w.versions)) (cond-true (nat_lt n (length w.versions)) _ _ (lt-ltb n (length w.versions) (omega (arith, h))))
      ∙ (left_words count_by w x n (λ a b y. refl) (λ a b y. refl)).all (length w.versions))

  count_new : (n : ℕ) → length w.versions ≤ n → after count_by (each_below (version_changes w x) n) (length w.versions) ≡ n
  count_new zero h = omega (arith, h)
  count_new (suc n) h = ⊎_elim
      (λ last. count_old (suc n) (omega (arith, last)) ∙ omega (arith, h, last))
      (λ more. after_both count_by (each_below (version_changes w x) n) (version_changes w x n) (length w.versions) n (suc n) (count_new n more)
      (ap (λ cs. after count_by cs n) (cond-false (nat_lt n (length w.versions)) _ _ (le-ltb n (length w.versions) more)) ∙ omega arith))
      (cases_lt n (length w.versions))

  pub all_count : after count_by (each_below (version_changes w x) (length x.versions)) (length w.versions) ≡ length x.versions
  all_count = count_new (length x.versions) grown.longer

-- ---- transactions

-- a field of transaction t, which changes from the value a to b
of_field : {V : Type 0} (t : ℕ) (same : V → V → Bool) (to : V → V → TxnChange) (a b : V) (y : ShownTxn) → ((a b : V) → same a b ≡ true → a ≡ b) → field_by (to a a) y ≡ y →
    after (txn_by t) (field same (λ c d. change.Txn t (to c d)) a b) y ≡ field_by (to a b) y
of_field t same to a b y exact idle =
    after_field (txn_by t) same (λ c d. change.Txn t (to c d)) a b y
    (λ e. cond-true (t == t) _ _ (here t) ∙ ap (λ c. field_by (to a c) y) (sym (exact a b e)) ∙ idle)
    ∙ cond-true (t == t) _ _ (here t)

module _ (w x : World) (t : ℕ) where
  abbrev after_state : ShownTxn
  after_state = record (shown_txn w t) { state = (txn_in x.txns t).state }

  abbrev after_times : ShownTxn
  after_times = record after_state { begin = (txn_in x.txns t).begin; end = (txn_in x.txns t).end }

  abbrev after_counters : ShownTxn
  after_counters = record after_times { waits = waits x t; commit_deps = commit_deps x t }

  abbrev after_flags : ShownTxn
  after_flags = record after_counters { no_more_waits = (txn_in x.txns t).no_more_waits; abort_now = (txn_in x.txns t).abort_now }

  abbrev after_sets : ShownTxn
  after_sets = record after_flags { reads = read_set x t; writes = write_set x t; buckets = bucket_set x t }

  module _ {V : Type 0} (same : V → V → Bool) (to : V → V → TxnChange) (f : World → V) where
    -- the changes of a field, of which f gives the value
    abbrev changes_of : List Change
    changes_of = field same (λ c d. change.Txn t (to c d)) (f w) (f x)

  states : after (txn_by t) (state_changes w x t) (shown_txn w t) ≡ after_state
  states = of_field t same_state txn.State (txn_in w.txns t).state (txn_in x.txns t).state (shown_txn w t) state_exact refl

  times : after (txn_by t) (time_changes w x t) after_state ≡ after_times
  times =
      let half : ShownTxn = record after_state { begin = (txn_in x.txns t).begin } in
      after_both (txn_by t) (changes_of ◌==◌ txn.BeginTime (λ z. (txn_in z.txns t).begin)) (changes_of ◌==◌ txn.EndTime (λ z. (txn_in z.txns t).end)) after_state half after_times
      (of_field t ◌==◌ txn.BeginTime (txn_in w.txns t).begin (txn_in x.txns t).begin after_state eqb-true refl)
      (of_field t ◌==◌ txn.EndTime (txn_in w.txns t).end (txn_in x.txns t).end half eqb-true refl)

  counters : after (txn_by t) (counter_changes w x t) after_times ≡ after_counters
  counters =
      let half : ShownTxn = record after_times { waits = waits x t } in
      after_both (txn_by t) (changes_of ◌==◌ txn.Waits (λ z. waits z t)) (changes_of ◌==◌ txn.CommitDeps (λ z. commit_deps z t)) after_times half after_counters
      (of_field t ◌==◌ txn.Waits (waits w t) (waits x t) after_times eqb-true refl)
      (of_field t ◌==◌ txn.CommitDeps (commit_deps w t) (commit_deps x t) half eqb-true refl)

  flags : after (txn_by t) (flag_changes w x t) after_counters ≡ after_flags
  flags =
      let half : ShownTxn = record after_counters { no_more_waits = (txn_in x.txns t).no_more_waits } in
      after_both (txn_by t) (changes_of same_flag txn.NoMoreWaits (λ z. (txn_in z.txns t).no_more_waits)) (changes_of same_flag txn.AbortNow (λ z. (txn_in z.txns t).abort_now)) after_counters half after_flags
      (of_field t same_flag txn.NoMoreWaits (txn_in w.txns t).no_more_waits (txn_in x.txns t).no_more_waits after_counters flag_exact refl)
      (of_field t same_flag txn.AbortNow (txn_in w.txns t).abort_now (txn_in x.txns t).abort_now half flag_exact refl)

  sets : after (txn_by t) (set_changes w x t) after_flags ≡ after_sets
  sets =
      let first : ShownTxn = record after_flags { reads = read_set x t } in
      let second : ShownTxn = record first { writes = write_set x t } in
      let reads : List Change = changes_of same_numbers txn.Reads (λ z. read_set z t) in
      let writes : List Change = changes_of same_entries txn.Writes (λ z. write_set z t) in
      after_both (txn_by t) (reads ++ writes) (changes_of same_numbers txn.Buckets (λ z. bucket_set z t)) after_flags second after_sets
      (after_both (txn_by t) reads writes after_flags first second
      (of_field t same_numbers txn.Reads (read_set w t) (read_set x t) after_flags numbers_exact refl)
      (of_field t same_entries txn.Writes (write_set w t) (write_set x t) first entries_exact refl))
      (of_field t same_numbers txn.Buckets (bucket_set w t) (bucket_set x t) second numbers_exact refl)

  followers : after (txn_by t) (follower_changes w x t) after_sets ≡ shown_txn x t
  followers =
      let half : ShownTxn = record after_sets { waiting = waiting_list x t } in
      after_both (txn_by t) (changes_of same_numbers txn.Waiting (λ z. waiting_list z t)) (changes_of same_numbers txn.Dependents (λ z. dependents_of z t)) after_sets half (shown_txn x t)
      (of_field t same_numbers txn.Waiting (waiting_list w t) (waiting_list x t) after_sets numbers_exact refl)
      (of_field t same_numbers txn.Dependents (dependents_of w t) (dependents_of x t) half numbers_exact refl)

  fields : after (txn_by t) (state_changes w x t ++ time_changes w x t ++ counter_changes w x t ++ flag_changes w x t ++ set_changes w x t ++ follower_changes w x t) (shown_txn w t) ≡ shown_txn x t
  fields =
      let by = txn_by t in
      let two : List Change = state_changes w x t ++ time_changes w x t in
      let three : List Change = two ++ counter_changes w x t in
      let four : List Change = three ++ flag_changes w x t in
      let five : List Change = four ++ set_changes w x t in
      let start = shown_txn w t in
      after_both by five (follower_changes w x t) start after_sets (shown_txn x t)
      (after_both by four (set_changes w x t) start after_flags after_sets
      (after_both by three (flag_changes w x t) start after_counters after_flags
      (after_both by two (counter_changes w x t) start after_times after_counters
      (after_both by (state_changes w x t) (time_changes w x t) start after_state after_times states times) counters) flags) sets) followers

  one_txn : declared w.txns t ≡ true → declared x.txns t ≡ true → after (txn_by t) (txn_changes w x t) (shown_txn w t) ≡ shown_txn x t
  one_txn p q = ap (λ cs. after (txn_by t) cs (shown_txn w t)) (cond-true (declared w.txns t && declared x.txns t) _ _ (and_from _ _ p q)) ∙ fields

-- the place of a declared transaction
place_of : (ts : List Txn) (t : ℕ) → declared ts t ≡ true → (k : ℕ) × (t ≡ k + 1) × (k < length ts)
place_of ts zero h = cc
place_of ts (suc k) h = (k, sym (add-one k), under ts k h)
  where
    under : (ts : List Txn) (k : ℕ) → is_some (slice_get ts k) ≡ true → k < length ts
    under [] k h = cc
    under (x ∷ xs) zero h = omega arith
    under (x ∷ xs) (suc k) h = let rest = under xs k h in omega (arith, rest)

declared_at : (ts : List Txn) (k : ℕ) → k < length ts → is_some (slice_get ts k) ≡ true
declared_at [] k h = absurd (omega (arith, h))
declared_at (x ∷ xs) zero h = refl
declared_at (x ∷ xs) (suc k) h = declared_at xs k (omega (arith, h))

pub declared_in_both : (ts us : List Txn) (t : ℕ) → length us ≡ length ts → declared us t ≡ true → declared ts t ≡ true
declared_in_both ts us t same h =
    let p = place_of us t h in
    let at = p.2 in
    subst (λ n. declared ts n ≡ true) (sym (add-one p.0) ∙ sym p.1) (declared_at ts p.0 (omega (arith, at, same)))

pub all_txns : (w x : World) → length x.txns ≡ length w.txns → (t : ℕ) → declared x.txns t ≡ true → after (txn_by t) (each_below (λ i. txn_changes w x (i + 1)) (length x.txns)) (shown_txn w t) ≡ shown_txn x t
all_txns w x same t h =
    let p = place_of x.txns t h in
    let at = p.1 in
    after_each (txn_by t) (λ i. txn_changes w x (i + 1)) p.0
    (λ i apart. left_txn (txn_by t) w x (i + 1) (λ c y. cond-false (i + 1 == t) _ _ (ne_eqb (i + 1) t (λ e. apart (omega (arith, e, at))))))
    (length x.txns) p.2 (shown_txn w t)
    ∙ ap (λ n. after (txn_by t) (txn_changes w x n) (shown_txn w t)) (sym at)
    ∙ one_txn w x t (declared_in_both w.txns x.txns t same h) h

-- ---- buckets

module _ (w x : World) (b : ℕ) where
  one_bucket : b < w.buckets → after (bucket_by b) (bucket_changes w x b) (shown_bucket w b) ≡ shown_bucket x b
  one_bucket there =
      ap (λ cs. after (bucket_by b) cs (shown_bucket w b)) (cond-true (nat_lt b w.buckets) _ _ (lt-ltb b w.buckets there))
      ∙ after_both (bucket_by b) (field ◌==◌ (λ m n. LockCount b m n) (lock_count w b) (lock_count x b)) (field same_numbers (λ m n. LockList b m n) (lock_list w b) (lock_list x b)) (shown_bucket w b) (record (shown_bucket w b) { lock_count = lock_count x b }) (shown_bucket x b)
      (after_field (bucket_by b) ◌==◌ (λ m n. LockCount b m n) (lock_count w b) (lock_count x b) (shown_bucket w b)
      (λ e. cond-true (b == b) _ _ (here b) ∙ ap (λ n. record (shown_bucket w b) { lock_count = n }) (sym (eqb-true (lock_count w b) (lock_count x b) e)))
      ∙ cond-true (b == b) _ _ (here b))
      (after_field (bucket_by b) same_numbers (λ m n. LockList b m n) (lock_list w b) (lock_list x b) (record (shown_bucket w b) { lock_count = lock_count x b })
      (λ e. cond-true (b == b) _ _ (here b) ∙ ap (λ n. let z : ShownBucket = record { lock_count = lock_count x b; lock_list = n } in z) (sym (numbers_exact (lock_list w b) (lock_list x b) e)))
      ∙ cond-true (b == b) _ _ (here b))

  pub all_buckets : x.buckets ≡ w.buckets → b < x.buckets → after (bucket_by b) (each_below (bucket_changes w x) x.buckets) (shown_bucket w b) ≡ shown_bucket x b
  all_buckets same there =
      after_each (bucket_by b) (bucket_changes w x) b
      (λ c apart. let other = ne_eqb c b apart in left_bucket (bucket_by b) w x c (λ m n y. cond-false (c == b) _ _ other) (λ m n y. cond-false (c == b) _ _ other))
      x.buckets there (shown_bucket w b)
      ∙ one_bucket (omega (arith, there, same))
