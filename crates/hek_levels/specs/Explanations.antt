-- Explanations: in which order the transactions of a log may have committed, and whose writes each read found.
use Rattle.std.specs.Prelude.{ℕ, ◌≡◌, ◌<◌, ◌≤◌, ◌==◌, ◌&&◌, true, if◌then◌else◌, List, [], ◌∷◌, Option, Some, None, slice_get}
use Rattle.hek_levels.specs.declared.log.Log.{Log}
use Rattle.hek_levels.specs.declared.log.Read.{Read}
use Rattle.hek_levels.specs.declared.log.Place.{Place}
use Rattle.hek_levels.specs.declared.log.Place.TheVariants.{Listed, Missing}
use Rattle.hek_levels.specs.declared.certificate.Writer.{Writer}
use Rattle.hek_levels.specs.declared.certificate.Writer.TheVariants as writer
use Rattle.hek_levels.specs.declared.certificate.Missing.{Missing as Given}
use Rattle.hek_levels.specs.declared.certificate.Sources.{Sources}
use Rattle.hek_levels.specs.declared.certificate.Certificate.{Certificate}
use Rattle.hek_levels.specs.declared.rules.Asked.{Asked}
use Rattle.hek_levels.specs.Levels.{asked_of}
use Rattle.hek_levels.specs.Logs.{read_at, is_committed, is_possible, is_kept, does_write, offers}
use Rattle.hek_levels.specs.Seen.{Explanation, At, TakesPlace, rank, IsBefore, Sees}

-- the read has a source: who wrote the key before, and left there what was found
pub record IsSource (log : Log) (e : Explanation) (t : ℕ) (read : Read) (w : Writer) : Type 0 where
  pub offered : offers log w read ≡ true
  pub before : rank e.order w < rank e.order (writer.Transaction t)

pub record Explains (asked : Asked) (log : Log) (e : Explanation) : Type 0 where
  -- who takes place did not abort, and does not contradict itself
  pub possible : (i t : ℕ) → At e.order i t → is_possible log t ≡ true
  -- it commits once
  pub once : (i j t : ℕ) → At e.order i t → At e.order j t → i ≡ j
  -- all that are known to have committed do
  pub committed : (t : ℕ) → is_committed log t ≡ true → TakesPlace e t
  -- each read has a source
  pub sources : (t : ℕ) (r : Place) (read : Read) → TakesPlace e t → read_at log t r ≡ Some read → IsSource log e t read (e.source t r)
  -- turns are kept
  pub turns : (x t : ℕ) → is_kept log x t ≡ true → TakesPlace e x → TakesPlace e t → IsBefore e x t
  -- no writer of its key that a read sees is newer than its source
  pub newest : (t : ℕ) (r : Place) (read : Read) (x : ℕ) → TakesPlace e t → read_at log t r ≡ Some read → Sees (asked_of asked t) log e t read.operation x → does_write log x read.key ≡ true →
      rank e.order (writer.Transaction x) ≤ rank e.order (e.source t r)

-- there is one
abbrev pub HasExplanation : Asked → Log → Type 0
HasExplanation asked log = (e : Explanation) × Explains asked log e

-- there is none
abbrev pub HasNoExplanation : Asked → Log → Type 0
HasNoExplanation asked log = (e : Explanation) → Explains asked log e → ⊥

-- the explanation that a certificate is
abbrev pub listed : Option Writer → Writer
listed None = writer.Opening
listed (Some w) = w

abbrev pub writers_in : Option Sources → List Writer
writers_in None = []
writers_in (Some s) = s.writers.items

abbrev pub given_in : Option Sources → List Given
given_in None = []
given_in (Some s) = s.missing.items

-- the first that is given of a scan and a key
abbrev pub given_at : List Given → ℕ → ℕ → Option Writer
given_at [] scan key = None
given_at (g ∷ gs) scan key = if (g.scan == scan) && (g.key == key) then Some g.writer else given_at gs scan key

abbrev pub sources_of : Certificate → ℕ → Option Sources
sources_of c t = slice_get c.sources.items t

abbrev pub given_of : Certificate → ℕ → List Given
given_of c t = given_in (sources_of c t)

abbrev pub source_at : Certificate → ℕ → Place → Writer
source_at c t (Listed r) = listed (slice_get (writers_in (sources_of c t)) r)
source_at c t (Missing scan key) = listed (given_at (given_of c t) scan key)

abbrev pub explanation : Certificate → Explanation
explanation c = record { order = c.order.items; source = λ t r. source_at c t r }
