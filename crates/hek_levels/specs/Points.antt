-- Points: where transactions read, and where they commit.
use Rattle.std.specs.Prelude.{ℕ, zero, suc, ◌≡◌, ◌<◌, ◌≤◌, ◌||◌, Bool, true, false, if◌then◌else◌, List, [], ◌∷◌, Option, Some, None, length, slice_get}
use Rattle.hek_history.specs.declared.history.Point.{Point}
use Rattle.hek_history.specs.declared.history.Point.TheVariants.{Begin, Commit}
use Rattle.hek_levels.specs.declared.log.Log.{Log}
use Rattle.hek_levels.specs.declared.log.Read.{Read}
use Rattle.hek_levels.specs.declared.log.Place.{Place}
use Rattle.hek_levels.specs.declared.certificate.Writer.{Writer}
use Rattle.hek_levels.specs.declared.certificate.Writer.TheVariants as writer
use Rattle.hek_levels.specs.declared.rules.Asked.{Asked}
use Rattle.hek_levels.specs.declared.rules.Rules.{Rules}
use Rattle.hek_levels.specs.Levels.{asked_of}
use Rattle.hek_levels.specs.Logs.{read_at, does_write, is_earlier, left_by, offers}
use Rattle.hek_levels.specs.Seen.{Explanation, At}
use Rattle.hek_levels.specs.Explanations.{Explains}
use Rattle.hek_levels.specs.Sweeps.{AreLast, AreLaned}

-- who commits among points, in order
abbrev pub commits_of : List Point → List ℕ
commits_of [] = []
commits_of (Begin t ∷ points) = commits_of points
commits_of (Commit t ∷ points) = t ∷ commits_of points

-- the last writer of a key among the first n of an order
abbrev pub writer_with : Log → ℕ → Option ℕ → Writer → Writer
writer_with log key None w = w
writer_with log key (Some x) w = if does_write log x key then writer.Transaction x else w

abbrev pub last_writer : Log → List ℕ → ℕ → ℕ → Writer
last_writer log order key zero = writer.Opening
last_writer log order key (suc n) = writer_with log key (slice_get order n) (last_writer log order key n)

-- t reads what the first n of an order left
abbrev pub ReadsAt : Log → List ℕ → ℕ → ℕ → Type 0
ReadsAt log order n t = (r : Place) (read : Read) → read_at log t r ≡ Some read → offers log (last_writer log order read.key n) read ≡ true

-- whether a transaction sees those before it in lanes where turns are seen
abbrev pub sees_turns : Rules → Bool
sees_turns rules = rules.first.turns || rules.first.turn_reads

-- t, which commits at the place j and reads what the first n left, sees nobody else but by its turns
pub record IsClosed (rules : Rules) (log : Log) (order : List ℕ) (n j t : ℕ) : Type 0 where
  pub before : n ≤ j
  pub whole : rules.whole ≡ true → n ≡ j
  pub writers : rules.first.writers ≡ true → (k x key : ℕ) → n ≤ k → k < j → At order k x → does_write log x key ≡ true → does_write log t key ≡ false

-- what is known after points at which the first i of an order have committed: the rows, after how many commits each has begun that has,
-- the last writer of each key, and in each lane the latest turn of one that has begun and sees turns
pub record IsReplay (asked : Asked) (log : Log) (order : List ℕ) (i : ℕ) (rows begun last looking : ℕ → Option ℕ) : Type 0 where
  pub left : (key : ℕ) → left_by log key (last_writer log order key i) ≡ Some (rows key)
  pub lasts : AreLast log order i last
  pub reads : (t n : ℕ) → begun t ≡ Some n → (n ≤ i) × ReadsAt log order n t
  pub looks : (t n : ℕ) → begun t ≡ Some n → sees_turns (asked_of asked t) ≡ true → AreLaned log looking t
  pub apart : (t n j x : ℕ) → begun t ≡ Some n → sees_turns (asked_of asked t) ≡ true → n ≤ j → j < i → At order j x → is_earlier log x t ≡ false
  pub committed : (j t : ℕ) → j < i → At order j t → (n : ℕ) × (begun t ≡ Some n) × IsClosed (asked_of asked t) log order n j t

-- all of an order have begun and committed as they may
abbrev pub HasReplay : Asked → Log → List ℕ → Type 0
HasReplay asked log order = (rows : ℕ → Option ℕ) × (begun : ℕ → Option ℕ) × (last : ℕ → Option ℕ) × (looking : ℕ → Option ℕ) × IsReplay asked log order (length order) rows begun last looking

-- an explanation has this order
abbrev pub IsExplainedBy : Asked → Log → List ℕ → Type 0
IsExplainedBy asked log order = (e : Explanation) × (e.order ≡ order) × Explains asked log e
