-- What a sweep knows: from a transaction back along the order, whom one of its reads sees.
use Rattle.std.specs.Prelude.{ℕ, ◌≡◌, ◌<◌, ◌≤◌, ◌⊎◌, Bool, true, false, List, Option, Some, slice_get}
use Rattle.hek_levels.specs.declared.log.Log.{Log}
use Rattle.hek_levels.specs.declared.log.Read.{Read}
use Rattle.hek_levels.specs.declared.log.Place.{Place}
use Rattle.hek_levels.specs.declared.log.Turn.{Turn}
use Rattle.hek_levels.specs.declared.rules.Rules.{Rules}
use Rattle.hek_levels.specs.declared.rules.Links.{Links}
use Rattle.hek_levels.specs.declared.certificate.Writer.TheVariants as writer
use Rattle.hek_levels.specs.Logs.{read_at, turns_of, does_write, is_earlier}
use Rattle.hek_levels.specs.Seen.{Explanation, At, rank, SeesByOwn, Sees, ReadsFrom, Precedes}

-- the last place among the first n of a writer of each key
pub record AreLast (log : Log) (order : List ℕ) (n : ℕ) (last : ℕ → Option ℕ) : Type 0 where
  pub all : (i x key : ℕ) → i < n → At order i x → does_write log x key ≡ true → (m : ℕ) × (last key ≡ Some m) × (i ≤ m)

-- x is marked
abbrev pub IsMarked : (ℕ → Option ℕ) → ℕ → Type 0
IsMarked marked x = (n : ℕ) × (marked x ≡ Some n)

-- each source of t is marked
abbrev pub AreMarked : Log → Explanation → (ℕ → Option ℕ) → ℕ → Type 0
AreMarked log e marked t = (x : ℕ) → ReadsFrom log e t x → IsMarked marked x

-- what was marked is marked still
abbrev pub AreKept : (ℕ → Option ℕ) → (ℕ → Option ℕ) → Type 0
AreKept old new = (x : ℕ) → IsMarked old x → IsMarked new x

-- the latest first number of a lane, or a later one
abbrev pub IsFrom : (ℕ → Option ℕ) → ℕ → ℕ → Type 0
IsFrom latest lane first = (m : ℕ) × (latest lane ≡ Some m) × (first ≤ m)

-- no latest first number falls
abbrev pub AreRaised : (ℕ → Option ℕ) → (ℕ → Option ℕ) → Type 0
AreRaised old new = (lane first : ℕ) → IsFrom old lane first → IsFrom new lane first

-- the latest first number of the lane of each turn of y that is seen is at least its own
abbrev pub AreLaned : Log → (ℕ → Option ℕ) → ℕ → Type 0
AreLaned log lanes y = (i : ℕ) (turn : Turn) → slice_get (turns_of log y) i ≡ Some turn → turn.seen ≡ true → IsFrom lanes turn.lane turn.first

-- the keys that y writes are marked
abbrev pub AreKeyed : Log → (ℕ → Option ℕ) → ℕ → Type 0
AreKeyed log keys y = (key : ℕ) → does_write log y key ≡ true → IsMarked keys key

-- what one that is seen shows is known
pub record IsShown (rules : Rules) (log : Log) (e : Explanation) (marked lanes keys : ℕ → Option ℕ) (some : Bool) (y : ℕ) : Type 0 where
  pub any : some ≡ true
  pub sources : rules.causes ≡ true → AreMarked log e marked y
  pub writes : AreKeyed log keys y
  pub turns : AreLaned log lanes y

-- a turn of x is before the latest first number of its lane
abbrev pub IsBeforeAny : Log → (ℕ → Option ℕ) → ℕ → Type 0
IsBeforeAny log lanes x = (i : ℕ) × (turn : Turn) × (m : ℕ) × (slice_get (turns_of log x) i ≡ Some turn) × (lanes turn.lane ≡ Some m) × (turn.last < m)

-- y may see x by writes or by its turns
abbrev pub MayLink : Links → Log → ℕ → ℕ → Type 0
MayLink links log y x = ((links.writers ≡ true) × ((key : ℕ) × (does_write log x key ≡ true) × (does_write log y key ≡ true))) ⊎ ((links.turns ≡ true) × (is_earlier log x y ≡ true))

-- one that is seen may see x so
abbrev pub MayLinkAny : Links → Log → (ℕ → Option ℕ) → (ℕ → Option ℕ) → ℕ → Type 0
MayLinkAny links log lanes keys x = ((links.writers ≡ true) × ((key : ℕ) × (does_write log x key ≡ true) × IsMarked keys key)) ⊎ ((links.turns ≡ true) × IsBeforeAny log lanes x)

-- y may be seen, by what is known
abbrev pub MaySee : Rules → Log → ℕ → (ℕ → Option ℕ) → (ℕ → Option ℕ) → (ℕ → Option ℕ) → Bool → ℕ → Type 0
MaySee rules log t marked lanes keys some y =
    (rules.whole ≡ true)
    ⊎ (((rules.prefix ≡ true) × (some ≡ true))
    ⊎ (IsMarked marked y ⊎ (MayLink rules.first log t y ⊎ MayLinkAny rules.next log lanes keys y)))

-- the sources of z may be brought by turns
abbrev pub MayCarry : Rules → Log → ℕ → (ℕ → Option ℕ) → ℕ → Type 0
MayCarry rules log t lanes z = ((rules.first.turn_reads ≡ true) × (is_earlier log z t ≡ true)) ⊎ ((rules.next.turn_reads ≡ true) × IsBeforeAny log lanes z)

-- a transaction that brings the sources of those before it by turns: the reader itself, or one that is seen
abbrev pub Carries : Rules → Log → Explanation → ℕ → ℕ → ℕ → Type 0
Carries rules log e t n y = ((rules.first.turn_reads ≡ true) × (y ≡ t)) ⊎ ((rules.next.turn_reads ≡ true) × Sees rules log e t n y)

-- what is known of the places from p on: what the reader sees by its own reads is marked; what those show who are seen there is known,
-- and they don't write the key; and the sources that turns bring are marked
pub record IsSwept (rules : Rules) (log : Log) (e : Explanation) (t n key p : ℕ) (marked lanes keys : ℕ → Option ℕ) (some : Bool) : Type 0 where
  pub own : (x : ℕ) → SeesByOwn rules.own log e t n x → IsMarked marked x
  pub shown : (y j : ℕ) → p ≤ j → At e.order j y → Sees rules log e t n y → IsShown rules log e marked lanes keys some y
  pub apart : (y j : ℕ) → p ≤ j → At e.order j y → Sees rules log e t n y → does_write log y key ≡ false
  pub carried : (z j y : ℕ) → p ≤ j → At e.order j z → Carries rules log e t n y → Precedes log e z y → AreMarked log e marked z

-- no turn of t sees another
abbrev pub HasNoSeenTurns : Log → ℕ → Type 0
HasNoSeenTurns log t = (i : ℕ) (turn : Turn) → slice_get (turns_of log t) i ≡ Some turn → turn.seen ≡ false

-- a read of t sees nobody but sources of its own reads
pub record IsDirect (rules : Rules) (log : Log) (t : ℕ) : Type 0 where
  pub whole : rules.whole ≡ false
  pub causes : rules.causes ≡ false
  pub prefix : rules.prefix ≡ false
  pub writers : rules.first.writers ≡ false
  pub turn_reads : rules.first.turn_reads ≡ false
  pub turns : rules.first.turns ≡ true → HasNoSeenTurns log t
  pub next_writers : rules.next.writers ≡ false
  pub next_turns : rules.next.turns ≡ false
  pub next_turn_reads : rules.next.turn_reads ≡ false

-- no writer of the key from the place low on is seen
abbrev pub IsNewestFrom : Rules → Log → Explanation → ℕ → ℕ → ℕ → ℕ → Type 0
IsNewestFrom rules log e t n key low = (j x : ℕ) → low ≤ j → At e.order j x → Sees rules log e t n x → does_write log x key ≡ false

-- no writer of its key that a read of t sees is newer than its source
abbrev pub IsNewestAt : Rules → Log → Explanation → ℕ → Place → Type 0
IsNewestAt rules log e t r = (read : Read) (x : ℕ) → read_at log t r ≡ Some read → Sees rules log e t read.operation x → does_write log x read.key ≡ true →
    rank e.order (writer.Transaction x) ≤ rank e.order (e.source t r)
