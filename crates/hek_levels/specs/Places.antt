-- What a map of places knows of an order.
use Rattle.std.specs.Prelude.{ℕ, ◌≡◌, ◌<◌, ◌≤◌, Bool, true, false, List, Option, Some, None, slice_get}
use Rattle.hek_rules.specs.Listing.{value_of}
use Rattle.hek_levels.specs.declared.log.Log.{Log}
use Rattle.hek_levels.specs.declared.log.Read.{Read}
use Rattle.hek_levels.specs.declared.log.Scan.{Scan}
use Rattle.hek_levels.specs.declared.log.Turn.{Turn}
use Rattle.hek_levels.specs.declared.log.Place.{Place}
use Rattle.hek_levels.specs.declared.log.Place.TheVariants.{Listed, Missing}
use Rattle.hek_levels.specs.declared.certificate.Writer.{Writer}
use Rattle.hek_levels.specs.declared.certificate.Writer.TheVariants as writer
use Rattle.hek_levels.specs.declared.certificate.Certificate.{Certificate}
use Rattle.hek_levels.specs.Logs.{read_at, scans_of, turns_of, misses, does_write, is_kept, is_possible, offers}
use Rattle.hek_levels.specs.Seen.{At}
use Rattle.hek_levels.specs.Explanations.{source_at, given_at, given_of}

-- the places of the first n transactions, each of which may take place
pub record IsPlacing (log : Log) (order : List ℕ) (n : ℕ) (places : ℕ → Option ℕ) : Type 0 where
  pub there : (t i : ℕ) → places t ≡ Some i → (i < n) × At order i t
  pub all : (i t : ℕ) → i < n → At order i t → places t ≡ Some i
  pub possible : (i t : ℕ) → i < n → At order i t → is_possible log t ≡ true

-- a writer is placed before i
abbrev pub IsPlacedBefore : (ℕ → Option ℕ) → ℕ → Writer → Type 0
IsPlacedBefore places i writer.Opening = Unit {0}
IsPlacedBefore places i (writer.Transaction x) = (j : ℕ) × (places x ≡ Some j) × (j < i)

-- the writer is a source of the read at a place of the transaction at the place i, and before i
abbrev pub IsSourcedBy : Log → (ℕ → Option ℕ) → ℕ → ℕ → Place → Writer → Type 0
IsSourcedBy log places i t r w = (read : Read) → read_at log t r ≡ Some read → (offers log w read ≡ true) × IsPlacedBefore places i w

-- each read in the list of the transaction at a place has a source before that
abbrev pub AreListedSourced : Log → Certificate → (ℕ → Option ℕ) → Type 0
AreListedSourced log c places = (i t r : ℕ) → At c.order.items i t → IsSourcedBy log places i t (Listed r) (source_at c t (Listed r))

-- nobody among the first n writes the key, and it has no row at the opening
pub record IsUntouched (log : Log) (order : List ℕ) (n key : ℕ) : Type 0 where
  pub opening : value_of log.rows.items key ≡ None
  pub written : (j x : ℕ) → j < n → At order j x → does_write log x key ≡ false

-- the keys that the scans of t miss, which stands at the place i: those that have a source that is given have it before i, and the
-- others are not touched
pub record AreMissingSourced (log : Log) (c : Certificate) (places : ℕ → Option ℕ) (i t : ℕ) : Type 0 where
  pub given : (s key : ℕ) (w : Writer) → given_at (given_of c t) s key ≡ Some w → IsSourcedBy log places i t (Missing s key) w
  pub others : (s key : ℕ) (scan : Scan) → slice_get (scans_of log t) s ≡ Some scan → misses scan key ≡ true → given_at (given_of c t) s key ≡ None →
      IsUntouched log c.order.items i key

abbrev pub AreAllMissingSourced : Log → Certificate → (ℕ → Option ℕ) → Type 0
AreAllMissingSourced log c places = (i t : ℕ) → At c.order.items i t → AreMissingSourced log c places i t

-- turns are kept among the first n, and none of them is before itself
abbrev pub AreInTurn : Log → List ℕ → ℕ → Type 0
AreInTurn log order n = (i j t x : ℕ) → i < n → j ≤ i → At order i t → At order j x → is_kept log t x ≡ false

-- whoever is not touched is not touched before the place n
abbrev pub AreTouched : Log → List ℕ → ℕ → (ℕ → Bool) → Type 0
AreTouched log order n touched = (key : ℕ) → touched key ≡ false → IsUntouched log order n key

-- the latest first number of a turn of each lane among the first n, or a later one
abbrev pub AreLatest : Log → List ℕ → ℕ → (ℕ → Option ℕ) → Type 0
AreLatest log order n latest = (i x k : ℕ) (turn : Turn) → i < n → At order i x → slice_get (turns_of log x) k ≡ Some turn → (m : ℕ) × (latest turn.lane ≡ Some m) × (turn.first ≤ m)
