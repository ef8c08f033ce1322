-- What a log says of a transaction, and what a writer leaves at a key.
use Rattle.std.specs.Prelude.{ℕ, ◌==◌, ◌&&◌, nat_lt, not, Bool, true, false, if◌then◌else◌, List, [], ◌∷◌, Option, Some, None, is_some, slice_get}
use Rattle.std.specs.List.{list_any}
use Rattle.hek_rules.specs.Listing.{value_of}
use Rattle.hek_history.specs.declared.history.Status.{Status}
use Rattle.hek_history.specs.declared.history.Status.TheVariants.{Committed, Aborted, Unknown}
use Rattle.hek_history.specs.Answers.{covers}
use Rattle.hek_history.specs.Histories.{committed_by}
use Rattle.hek_levels.specs.declared.log.Log.{Log}
use Rattle.hek_levels.specs.declared.log.Transaction.{Transaction}
use Rattle.hek_levels.specs.declared.log.Need.{Need}
use Rattle.hek_levels.specs.declared.log.Need.TheVariants.{Absent, Present, Value}
use Rattle.hek_levels.specs.declared.log.Read.{Read}
use Rattle.hek_levels.specs.declared.log.Scan.{Scan}
use Rattle.hek_levels.specs.declared.log.Place.{Place}
use Rattle.hek_levels.specs.declared.log.Place.TheVariants.{Listed, Missing}
use Rattle.hek_levels.specs.declared.log.Change.{Change}
use Rattle.hek_levels.specs.declared.log.Turn.{Turn}
use Rattle.hek_levels.specs.declared.certificate.Writer.{Writer}
use Rattle.hek_levels.specs.declared.certificate.Writer.TheVariants as writer

-- whether a value, or its absence, meets the need
abbrev pub meets : Need → Option ℕ → Bool
meets Absent None = true
meets Absent (Some x) = false
meets Present None = false
meets Present (Some x) = true
meets (Value y) None = false
meets (Value y) (Some x) = x == y

-- what changes leave at a key, if one is of it
abbrev pub left_in : List Change → ℕ → Option (Option ℕ)
left_in [] key = None
left_in (c ∷ cs) key = if c.key == key then Some c.value else left_in cs key

abbrev pub transaction : Log → ℕ → Option Transaction
transaction log t = slice_get log.transactions.items t

-- of the transaction t: its reads, its scans, its writes, its turns, whether it committed, and whether it may take place. A number
-- that names none has nothing
abbrev pub reads_in : Option Transaction → List Read
reads_in None = []
reads_in (Some x) = x.reads.items

abbrev pub reads_of : Log → ℕ → List Read
reads_of log t = reads_in (transaction log t)

abbrev pub scans_in : Option Transaction → List Scan
scans_in None = []
scans_in (Some x) = x.scans.items

abbrev pub scans_of : Log → ℕ → List Scan
scans_of log t = scans_in (transaction log t)

-- whether a scan says that a key is absent
abbrev pub misses : Scan → ℕ → Bool
misses scan key = covers scan.scope key && not (list_any (λ k. k == key) scan.except.items)

abbrev pub missing_in : Option Scan → ℕ → Option Read
missing_in None key = None
missing_in (Some scan) key = if misses scan key then Some (record { operation = scan.operation; key = key; need = Absent }) else None

-- the read of t at a place
abbrev pub read_at : Log → ℕ → Place → Option Read
read_at log t (Listed r) = slice_get (reads_of log t) r
read_at log t (Missing s key) = missing_in (slice_get (scans_of log t) s) key

abbrev pub writes_in : Option Transaction → List Change
writes_in None = []
writes_in (Some x) = x.writes.items

abbrev pub writes_of : Log → ℕ → List Change
writes_of log t = writes_in (transaction log t)

abbrev pub turns_in : Option Transaction → List Turn
turns_in None = []
turns_in (Some x) = x.turns.items

abbrev pub turns_of : Log → ℕ → List Turn
turns_of log t = turns_in (transaction log t)

abbrev pub aborted_by : Status → Bool
aborted_by Committed = false
aborted_by Aborted = true
aborted_by Unknown = false

abbrev pub committed_in : Option Transaction → Bool
committed_in None = false
committed_in (Some x) = committed_by x.status

abbrev pub is_committed : Log → ℕ → Bool
is_committed log t = committed_in (transaction log t)

-- it did not abort, and its answers fit its own changes
abbrev pub possible_in : Option Transaction → Bool
possible_in None = false
possible_in (Some x) = if aborted_by x.status then false else x.fits

abbrev pub is_possible : Log → ℕ → Bool
is_possible log t = possible_in (transaction log t)

-- whether one turn is before another, and whether the other sees that
abbrev pub is_before_turn : Turn → Turn → Bool
is_before_turn x y = (x.lane == y.lane) && nat_lt x.last y.first

abbrev pub is_seen_turn : Turn → Turn → Bool
is_seen_turn x y = y.seen && is_before_turn x y

-- whether a turn of x is before one of t
abbrev pub is_kept : Log → ℕ → ℕ → Bool
is_kept log x t = list_any (λ a. list_any (λ b. is_before_turn a b) (turns_of log t)) (turns_of log x)

-- whether a turn of x is before one of t that sees it
abbrev pub is_earlier : Log → ℕ → ℕ → Bool
is_earlier log x t = list_any (λ a. list_any (λ b. is_seen_turn a b) (turns_of log t)) (turns_of log x)

-- what a writer leaves at a key; the opening writes each
abbrev pub left_by : Log → ℕ → Writer → Option (Option ℕ)
left_by log key writer.Opening = Some (value_of log.rows.items key)
left_by log key (writer.Transaction t) = left_in (writes_of log t) key

abbrev pub does_write : Log → ℕ → ℕ → Bool
does_write log t key = is_some (left_in (writes_of log t) key)

abbrev pub meets_in : Need → Option (Option ℕ) → Bool
meets_in need None = false
meets_in need (Some v) = meets need v

-- whether w leaves at the key what was found there
abbrev pub offers : Log → Writer → Read → Bool
offers log w read = meets_in read.need (left_by log read.key w)
