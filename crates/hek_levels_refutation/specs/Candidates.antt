-- Which writers may be the source of a read.
use Rattle.std.specs.Prelude.{ℕ, ◌≡◌, ◌<◌, ◌≤◌, true}
use Rattle.hek_levels.specs.declared.log.Log.{Log}
use Rattle.hek_levels.specs.declared.log.Read.{Read}
use Rattle.hek_levels.specs.declared.certificate.Writer.{Writer}
use Rattle.hek_levels.specs.declared.certificate.Writer.TheVariants as writer
use Rattle.hek_levels.specs.Logs.{is_possible, offers}
use Rattle.hek_levels_refutation.specs.Claims.{number_of}

-- the opening, or a transaction that may take place and is not t
abbrev pub MayWrite : Log → ℕ → Writer → Type 0
MayWrite log t writer.Opening = Unit {0}
MayWrite log t (writer.Transaction x) = (is_possible log x ≡ true) × (x ≡ t → ⊥)

-- w may be the source of a read of t
abbrev pub IsCandidate : Log → ℕ → Read → Writer → Type 0
IsCandidate log t read w = MayWrite log t w × (offers log w read ≡ true)

-- no candidate has a number from the first on and below the second
abbrev pub IsNoneBetween : Log → ℕ → Read → ℕ → ℕ → Type 0
IsNoneBetween log t read from to = (w : Writer) → from ≤ number_of w → number_of w < to → IsCandidate log t read w → ⊥
