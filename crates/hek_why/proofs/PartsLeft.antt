-- Which changes leave what alone.
use Rattle.std.proofs.Common.{◌≡◌, ℕ, Bool, List, [], ◌∷◌, ◌++◌, length}
use Rattle.std.proofs.lemmas.Bool.{cond_both}
use Rattle.std.specs.Prelude.{◌==◌, ◌&&◌, nat_lt}
use Rattle.hek_rules.specs.declared.word.BeginRecord.{BeginRecord}
use Rattle.hek_rules.specs.declared.word.EndRecord.{EndRecord}
use Rattle.hek_rules.specs.World.{World, txn_in, declared}
use Rattle.hek_rules.specs.Waits.{waits, commit_deps}
use Rattle.hek_rules.specs.Shown.{begin_word, end_word, read_set, write_set, bucket_set, waiting_list, dependents_of, lock_count, lock_list}
use Rattle.hek_machine.specs.Observed.{key_in, value_in}
use Rattle.hek_why.specs.declared.change.Change.{Change}
use Rattle.hek_why.specs.declared.change.Change.TheVariants.{Begin, End, NewVersion, Txn, LockCount, LockList}
use Rattle.hek_why.specs.declared.change.TxnChange.{TxnChange}
use Rattle.hek_why.specs.declared.change.TxnChange.TheVariants as txn
use Rattle.hek_why.specs.Same.{same_flag, same_begin, same_end, same_state, same_numbers, same_entries}
use Rattle.hek_why.specs.Changes.{field, word_changes, version_changes, state_changes, time_changes, counter_changes, flag_changes, set_changes, follower_changes, txn_changes, bucket_changes}
use Rattle.hek_why.proofs.Leading.{Leaves, leaves_none, leaves_both, leaves_unless}

module _ {X : Type 0} (by : Change → X → X) (w x : World) where
  -- the changes of a field, of which f gives the value
  left_field : {V : Type 0} (same : V → V → Bool) (change : V → V → Change) (f : World → V) → ((a b : V) (y : X) → by (change a b) y ≡ y) → Leaves by (field same change (f w) (f x))
  left_field same change f h = leaves_unless by (same (f w) (f x)) (change (f w) (f x)) (h (f w) (f x))

  pub left_words : (v : ℕ) → ((a b : BeginRecord) (y : X) → by (Begin v a b) y ≡ y) → ((a b : EndRecord) (y : X) → by (End v a b) y ≡ y) → Leaves by (word_changes w x v)
  left_words v begins ends =
      leaves_both by (field same_begin (λ a b. Begin v a b) (begin_word w v) (begin_word x v)) (field same_end (λ a b. End v a b) (end_word w v) (end_word x v))
      (left_field same_begin (λ a b. Begin v a b) (λ z. begin_word z v) begins)
      (left_field same_end (λ a b. End v a b) (λ z. end_word z v) ends)

  pub left_version : (v : ℕ) → ((a b : BeginRecord) (y : X) → by (Begin v a b) y ≡ y) → ((a b : EndRecord) (y : X) → by (End v a b) y ≡ y) →
      ((k l : ℕ) (a : BeginRecord) (b : EndRecord) (y : X) → by (NewVersion v k l a b) y ≡ y) → Leaves by (version_changes w x v)
  left_version v begins ends news =
      cond_both (nat_lt v (length w.versions)) (word_changes w x v) (NewVersion v (key_in x v) (value_in x v) (begin_word x v) (end_word x v) ∷ []) (λ (cs : List Change). Leaves by cs)
      (λ _. left_words v begins ends)
      (λ _. record { all = news (key_in x v) (value_in x v) (begin_word x v) (end_word x v) })

  pub left_bucket : (b : ℕ) → ((m n : ℕ) (y : X) → by (LockCount b m n) y ≡ y) → ((m n : List ℕ) (y : X) → by (LockList b m n) y ≡ y) → Leaves by (bucket_changes w x b)
  left_bucket b counts lists =
      cond_both (nat_lt b w.buckets) (field ◌==◌ (λ m n. LockCount b m n) (lock_count w b) (lock_count x b) ++ field same_numbers (λ m n. LockList b m n) (lock_list w b) (lock_list x b)) [] (λ (cs : List Change). Leaves by cs)
      (λ _. leaves_both by (field ◌==◌ (λ m n. LockCount b m n) (lock_count w b) (lock_count x b)) (field same_numbers (λ m n. LockList b m n) (lock_list w b) (lock_list x b))
      (left_field ◌==◌ (λ m n. LockCount b m n) (λ z. lock_count z b) counts)
      (left_field same_numbers (λ m n. LockList b m n) (λ z. lock_list z b) lists))
      (λ _. leaves_none by)

  module _ (t : ℕ) (h : (c : TxnChange) (y : X) → by (Txn t c) y ≡ y) where
    left_of : {V : Type 0} (same : V → V → Bool) (change : V → V → TxnChange) (f : World → V) → Leaves by (field same (λ a b. Txn t (change a b)) (f w) (f x))
    left_of same change f = left_field same (λ a b. Txn t (change a b)) f (λ a b y. h (change a b) y)

    left_times : Leaves by (time_changes w x t)
    left_times = leaves_both by _ _ (left_of ◌==◌ txn.BeginTime (λ z. (txn_in z.txns t).begin)) (left_of ◌==◌ txn.EndTime (λ z. (txn_in z.txns t).end))

    left_counters : Leaves by (counter_changes w x t)
    left_counters = leaves_both by _ _ (left_of ◌==◌ txn.Waits (λ z. waits z t)) (left_of ◌==◌ txn.CommitDeps (λ z. commit_deps z t))

    left_flags : Leaves by (flag_changes w x t)
    left_flags = leaves_both by _ _ (left_of same_flag txn.NoMoreWaits (λ z. (txn_in z.txns t).no_more_waits)) (left_of same_flag txn.AbortNow (λ z. (txn_in z.txns t).abort_now))

    left_sets : Leaves by (set_changes w x t)
    left_sets =
        leaves_both by _ _ (leaves_both by _ _ (left_of same_numbers txn.Reads (λ z. read_set z t)) (left_of same_entries txn.Writes (λ z. write_set z t)))
        (left_of same_numbers txn.Buckets (λ z. bucket_set z t))

    left_followers : Leaves by (follower_changes w x t)
    left_followers = leaves_both by _ _ (left_of same_numbers txn.Waiting (λ z. waiting_list z t)) (left_of same_numbers txn.Dependents (λ z. dependents_of z t))

    pub left_txn : Leaves by (txn_changes w x t)
    left_txn =
        cond_both (declared w.txns t && declared x.txns t) (state_changes w x t ++ time_changes w x t ++ counter_changes w x t ++ flag_changes w x t ++ set_changes w x t ++ follower_changes w x t) [] (λ (cs : List Change). Leaves by cs)
        (λ _. leaves_both by _ (follower_changes w x t) (leaves_both by _ (set_changes w x t) (leaves_both by _ (flag_changes w x t) (leaves_both by _ (counter_changes w x t)
        (leaves_both by (state_changes w x t) (time_changes w x t) (left_of same_state txn.State (λ z. (txn_in z.txns t).state)) left_times)
        left_counters) left_flags) left_sets) left_followers)
        (λ _. leaves_none by)
