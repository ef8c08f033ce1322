-- Living versions: which versions are over or gone for a reader, and which versions of a key a list may leave out.
use Rattle.std.specs.Prelude.{◌≡◌, ℕ, zero, suc, ◌-◌, ◌%◌, ◌<◌, ◌≤◌, ◌==◌, ◌||◌, ◌&&◌, not, nat_lt, if◌then◌else◌, Bool, true, false, Option, Some, None, List, length, filter, slice_index_or}
use Rattle.hek_rules.specs.Words.{infinity, begin_time, end_time, writer_of}
use Rattle.hek_rules.specs.declared.word.BeginRecord.{BeginRecord}
use Rattle.hek_rules.specs.declared.word.BeginRecord.TheVariants.{At, By}
use Rattle.hek_store.specs.declared.version.Version.{Version}
use Rattle.hek_store.specs.Stored.{no_version, of_key}

-- an End time that is not after this time
abbrev pub is_past : ℕ → Option ℕ → Bool
is_past time None = false
is_past time (Some until) = not (nat_lt time until)

-- by the times of Begin and End: no transaction that looks at this time or later sees the version
abbrev pub is_over_by : ℕ → Option ℕ → Option ℕ → Bool
is_over_by time None until = false
is_over_by time (Some from) until = is_past time until || from == infinity

abbrev pub is_over : ℕ → Version → Bool
is_over time x = is_over_by time (begin_time x.begin) (end_time x.end)

-- Begin is a time, or t
abbrev pub is_at_or_by : ℕ → BeginRecord → Bool
is_at_or_by t (At time) = true
is_at_or_by t (By u) = u == t

abbrev pub is_writer : ℕ → Option ℕ → Bool
is_writer t None = false
is_writer t (Some u) = u == t

-- t writes over the version, which another transaction is not still making
abbrev pub is_replaced : ℕ → Version → Bool
is_replaced t x = is_at_or_by t x.begin && is_writer t (writer_of x.end)

-- there was a writer, and it is not the writer now
abbrev pub loses_writer : Option ℕ → Option ℕ → Bool
loses_writer None now = false
loses_writer (Some t) None = true
loses_writer (Some t) (Some u) = not (u == t)

-- the reader, or everybody for None, does not see the version when looking at this time or later
abbrev pub is_gone : Option ℕ → ℕ → Version → Bool
is_gone None time x = is_over time x
is_gone (Some t) time x = is_over time x || is_replaced t x

-- the versions of a key without those before some place, all of which are gone
pub record IsLiving (versions : List Version) (key : ℕ) (gone : Version → Bool) (vs : List ℕ) : Type 0 where
  pub from : ℕ
  pub left : vs ≡ filter (λ v. not (nat_lt v from)) (of_key versions key)
  pub over : (v : ℕ) → v < from → v < length versions → (slice_index_or versions v no_version).key ≡ key → gone (slice_index_or versions v no_version) ≡ true

-- the place of a link, or the count of places for link 0
abbrev pub place_of : ℕ → ℕ → ℕ
place_of count zero = count
place_of count (suc place) = place

-- a start of a slot: a link to one of its versions, or 0; each version of the slot before it is gone
pub record IsStart (slots slot : ℕ) (gone : Version → Bool) (versions : List Version) (link : ℕ) : Type 0 where
  pub within : link ≤ length versions
  pub in_slot : 0 < link → (slice_index_or versions (link - 1) no_version).key % slots ≡ slot
  pub over : (v : ℕ) → v < place_of (length versions) link → v < length versions → (slice_index_or versions v no_version).key % slots ≡ slot → gone (slice_index_or versions v no_version) ≡ true

-- the start of a slot for a reader: the slot's own one for its owner, the one for all for others
abbrev pub start_for : List ℕ → List ℕ → List ℕ → ℕ → ℕ → ℕ
start_for starts own_starts owners slot reader =
    if slice_index_or owners slot 0 == reader then slice_index_or own_starts slot 0 else slice_index_or starts slot 0
