-- What is known of a transaction after some of its operations.
use Rattle.std.specs.Prelude.{ℕ, ◌≡◌, ◌<◌, ◌==◌, ◌↔◌, ◌⊎◌, Bool, true, List, [], ◌∷◌, Option, Some, None, is_some, slice_get, take, IsTrue, ◌||◌}
use Rattle.std.specs.HashMap.{get}
use Rattle.std.specs.List.{list_any}
use Rattle.hek_rules.specs.Listing.{value_of}
use Rattle.hek_history.specs.declared.history.Operation.{Operation}
use Rattle.hek_history.specs.declared.history.Operation.TheVariants.{Scan as OfScan}
use Rattle.hek_history.specs.declared.history.Scope.{Scope}
use Rattle.hek_history.specs.Answers.{covers}
use Rattle.hek_levels.specs.declared.log.Change.{Change}
use Rattle.hek_levels.specs.declared.log.Need.{Need}
use Rattle.hek_levels.specs.declared.log.Read.{Read}
use Rattle.hek_levels.specs.declared.log.Scan.{Scan}
use Rattle.hek_history_levels.specs.declared.own.Own.{Own}
use Rattle.hek_history_levels.specs.declared.transaction.Taken.{Taken}
use Rattle.hek_history_levels.specs.Changes.{left_by, IsPassing}
use Rattle.hek_history_levels.specs.Reads.{Says, IsJudged, IsRead, HasRead}
use Rattle.hek_history_levels.specs.Fits.{AreFittingTo}

abbrev pub value_in : Option Change → Option (Option ℕ)
value_in None = None
value_in (Some c) = Some c.value

abbrev pub value_at : List Change → Option ℕ → Option (Option ℕ)
value_at changes None = None
value_at changes (Some p) = value_in (slice_get changes p)

-- what a transaction has left at a key so far
abbrev pub own_left : Own → ℕ → Option (Option ℕ)
own_left own key = value_at own.writes.items (get ◌==◌ own.places key)

-- each key has the place of its change
pub record ArePlaced (places : ℕ → Option ℕ) (changes : List Change) : Type 0 where
  pub found : (key p : ℕ) → places key ≡ Some p → (c : Change) × (slice_get changes p ≡ Some c) × (c.key ≡ key)
  pub all : (p : ℕ) (c : Change) → slice_get changes p ≡ Some c → places c.key ≡ Some p

abbrev pub IsOwn : Own → Type 0
IsOwn own = ArePlaced (get ◌==◌ own.places) own.writes.items

-- what is undone where a key is changed
abbrev pub undone : ℕ → Option (Option ℕ) → List Change
undone k None = []
undone k (Some v) = record { key = k; value = v } ∷ []

-- an operation of one key
abbrev pub IsOfKey : Operation → Type 0
IsOfKey (OfScan scope pairs) = ⊥
IsOfKey op = Unit {0}

-- the reads of the n-th operation, where the transaction itself has left this
pub record IsReadBy (lenient : Bool) (own : ℕ → Option (Option ℕ)) (op : Operation) (key : ℕ) (need : Need) : Type 0 where
  pub says : Says op key need
  pub unchanged : own key ≡ None
  pub judged : IsJudged lenient need

-- these and those of the n-th operation
abbrev pub AreReadsWith : Bool → (ℕ → Option (Option ℕ)) → ℕ → Operation → List Read → List Scan → List Read → List Scan → Type 0
AreReadsWith lenient own n op reads scans more_reads more_scans =
    (m key : ℕ) (need : Need) → HasRead more_reads more_scans m key need ↔ (HasRead reads scans m key need ⊎ ((m ≡ n) × IsReadBy lenient own op key need))

-- of the keys of its scope a scan misses each that it does not have, and the transaction itself has not changed
abbrev pub AreExcepted : Scope → List (ℕ × ℕ) → (ℕ → Option (Option ℕ)) → List ℕ → Type 0
AreExcepted scope pairs own keys = (key : ℕ) → covers scope key ≡ true → list_any (λ k. k == key) keys ≡ (is_some (value_of pairs key) || is_some (own key))

-- what is known after the first n operations
pub record IsTaken (lenient : Bool) (ops : List Operation) (n : ℕ) (taken : Taken) : Type 0 where
  pub own : IsOwn taken.own
  pub left : (key : ℕ) → own_left taken.own key ≡ left_by (take n ops) key
  pub passing : (c : Change) → ((i : ℕ) × (slice_get taken.own.passing.items i ≡ Some c)) ↔ IsPassing ops n c
  pub fits : IsTrue taken.fits ↔ AreFittingTo lenient ops n
  pub reads : (m key : ℕ) (need : Need) → HasRead taken.reads.items taken.scans.items m key need ↔ ((m < n) × IsRead lenient ops m key need)
