-- What differs between two worlds, field by field. The transactions and buckets are those that both have.
use Rattle.std.specs.Prelude.{ℕ, zero, suc, ◌≡◌, ◌+◌, Bool, ◌&&◌, ◌==◌, nat_lt, if◌then◌else◌, List, [], ◌∷◌, ◌++◌, length}
use Rattle.hek_rules.specs.World.{World, txn_in, declared}
use Rattle.hek_rules.specs.Waits.{waits, commit_deps}
use Rattle.hek_rules.specs.Shown.{begin_word, end_word, read_set, write_set, bucket_set, waiting_list, dependents_of, lock_count, lock_list}
use Rattle.hek_machine.specs.declared.engine.Engine.{Engine}
use Rattle.hek_machine.specs.Stands.{StandsFor}
use Rattle.hek_machine.specs.Observed.{key_in, value_in}
use Rattle.hek_why.specs.declared.change.Change.{Change}
use Rattle.hek_why.specs.declared.change.Change.TheVariants.{Clock, Begin, End, NewVersion, Txn, LockCount, LockList}
use Rattle.hek_why.specs.declared.change.TxnChange.{TxnChange}
use Rattle.hek_why.specs.declared.change.TxnChange.TheVariants as txn
use Rattle.hek_why.specs.Same.{same_flag, same_begin, same_end, same_state, same_numbers, same_entries}

-- the change, unless both values are the same
abbrev pub unless : Bool → Change → List Change
unless same change = if same then [] else change ∷ []

-- what differs in a field, by its values before and after
abbrev pub field : {X : Type 0} → (X → X → Bool) → (X → X → Change) → X → X → List Change
field same change before after = unless (same before after) (change before after)

-- what f gives of the numbers below n, one after another
abbrev pub each_below : {X : Type 0} → (ℕ → List X) → ℕ → List X
each_below f zero = []
each_below f (suc n) = each_below f n ++ f n

-- ---- versions

abbrev pub word_changes : World → World → ℕ → List Change
word_changes w x v =
    field same_begin (λ a b. Begin v a b) (begin_word w v) (begin_word x v)
    ++ field same_end (λ a b. End v a b) (end_word w v) (end_word x v)

-- the words of version v that differ, or the whole version if it is new
abbrev pub version_changes : World → World → ℕ → List Change
version_changes w x v =
    if nat_lt v (length w.versions) then word_changes w x v
    else NewVersion v (key_in x v) (value_in x v) (begin_word x v) (end_word x v) ∷ []

-- ---- transactions

abbrev pub state_changes : World → World → ℕ → List Change
state_changes w x t = field same_state (λ a b. Txn t (txn.State a b)) (txn_in w.txns t).state (txn_in x.txns t).state

abbrev pub time_changes : World → World → ℕ → List Change
time_changes w x t =
    field ◌==◌ (λ a b. Txn t (txn.BeginTime a b)) (txn_in w.txns t).begin (txn_in x.txns t).begin
    ++ field ◌==◌ (λ a b. Txn t (txn.EndTime a b)) (txn_in w.txns t).end (txn_in x.txns t).end

abbrev pub counter_changes : World → World → ℕ → List Change
counter_changes w x t =
    field ◌==◌ (λ a b. Txn t (txn.Waits a b)) (waits w t) (waits x t)
    ++ field ◌==◌ (λ a b. Txn t (txn.CommitDeps a b)) (commit_deps w t) (commit_deps x t)

abbrev pub flag_changes : World → World → ℕ → List Change
flag_changes w x t =
    field same_flag (λ a b. Txn t (txn.NoMoreWaits a b)) (txn_in w.txns t).no_more_waits (txn_in x.txns t).no_more_waits
    ++ field same_flag (λ a b. Txn t (txn.AbortNow a b)) (txn_in w.txns t).abort_now (txn_in x.txns t).abort_now

abbrev pub set_changes : World → World → ℕ → List Change
set_changes w x t =
    field same_numbers (λ a b. Txn t (txn.Reads a b)) (read_set w t) (read_set x t)
    ++ field same_entries (λ a b. Txn t (txn.Writes a b)) (write_set w t) (write_set x t)
    ++ field same_numbers (λ a b. Txn t (txn.Buckets a b)) (bucket_set w t) (bucket_set x t)

abbrev pub follower_changes : World → World → ℕ → List Change
follower_changes w x t =
    field same_numbers (λ a b. Txn t (txn.Waiting a b)) (waiting_list w t) (waiting_list x t)
    ++ field same_numbers (λ a b. Txn t (txn.Dependents a b)) (dependents_of w t) (dependents_of x t)

abbrev pub txn_changes : World → World → ℕ → List Change
txn_changes w x t =
    if declared w.txns t && declared x.txns t
    then state_changes w x t ++ time_changes w x t ++ counter_changes w x t ++ flag_changes w x t ++ set_changes w x t
    ++ follower_changes w x t
    else []

-- ---- buckets

abbrev pub bucket_changes : World → World → ℕ → List Change
bucket_changes w x b =
    if nat_lt b w.buckets
    then field ◌==◌ (λ m n. LockCount b m n) (lock_count w b) (lock_count x b)
    ++ field same_numbers (λ m n. LockList b m n) (lock_list w b) (lock_list x b)
    else []

-- ---- all

abbrev pub changes_in : World → World → List Change
changes_in w x =
    field ◌==◌ (λ a b. Clock a b) w.clock x.clock
    ++ each_below (version_changes w x) (length x.versions)
    ++ each_below (λ i. txn_changes w x (i + 1)) (length x.txns)
    ++ each_below (bucket_changes w x) x.buckets

-- the list has what differs between every two worlds that the machines represent
abbrev pub AreChanges : Engine → Engine → List Change → Type 0
AreChanges m n list = (w x : World) → StandsFor m w → StandsFor n x → changes_in w x ≡ list

-- the new list is the old one with these changes after it, for every two worlds that the machines represent
abbrev pub Adds : Engine → Engine → (World → World → List Change) → List Change → List Change → Type 0
Adds m n f old new = (w x : World) → StandsFor m w → StandsFor n x → old ++ f w x ≡ new
