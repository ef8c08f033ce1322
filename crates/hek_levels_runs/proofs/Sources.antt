-- Of whom a key has its value at a place: the last writer of the key that commits before, or the opening.
use Rattle.std.proofs.Common.{◌≡◌, ℕ, ◌<◌, ◌≤◌, true, List, Option, Some, sym, ap, ◌∙◌, subst, inl, inr, take}
use Rattle.std.specs.Global.{Vec}
use Rattle.hek_rules.specs.Listing.{value_of}
use Rattle.hek_history.specs.declared.history.History.{History}
use Rattle.hek_history.specs.declared.history.Point.{Point}
use Rattle.hek_history.specs.declared.history.Point.TheVariants.{Commit}
use Rattle.hek_history.specs.Histories.{rows_after}
use Rattle.hek_history.specs.Explanation.{At, IsExplanation}
use Rattle.hek_history.proofs.Origins.{IsUntouched, IsLeftBy, HasSource, source}
use Rattle.hek_levels.specs.declared.log.Log.{Log}
use Rattle.hek_levels.specs.declared.log.Turn.{Turn}
use Rattle.hek_levels.specs.declared.certificate.Writer.{Writer}
use Rattle.hek_levels.specs.declared.certificate.Writer.TheVariants as writer
use Rattle.hek_levels.specs.Logs.{does_write, left_by}
use Rattle.hek_levels.specs.Seen.{rank}
use Rattle.hek_history_levels.specs.Steps.{IsLogOf}
use Rattle.hek_levels.specs.Points.{commits_of}
use Rattle.hek_levels_runs.proofs.Logged.{so_writes, left_is, opening_is}
use Rattle.hek_levels_runs.proofs.Commits.{rank_upto}

-- the writer that a source names
abbrev writer_of : (h : History) (key : ℕ) (rows : List (ℕ × ℕ)) (points : List Point) (i : ℕ) → HasSource h key rows points i → Writer
writer_of h key rows points i (inl u) = writer.Opening
writer_of h key rows points i (inr s) = writer.Transaction s.1

-- the last writer of a key before a place
abbrev pub source_at : History → List Point → ℕ → ℕ → Writer
source_at h points key i = writer_of h key h.rows.items points i (source h key h.rows.items points i)

-- w has left the key as it is at the place i of the points
pub record IsSourceAt (h : History) (points : List Point) (log : Log) (key i : ℕ) (w : Writer) : Type 0 where
  -- it leaves the value that the key has there
  pub leaves : left_by log key w ≡ Some (value_of (rows_after h (take i points)) key)
  -- if it is a transaction, it commits before
  pub before : (x : ℕ) → w ≡ writer.Transaction x → (j : ℕ) × (j < i) × At points j (Commit x)
  -- no writer of the key that commits before is after it
  pub last : (m x : ℕ) → m < i → At points m (Commit x) → does_write log x key ≡ true → rank (commits_of points) (writer.Transaction x) ≤ rank (commits_of points) w

-- the opening is no transaction, and two transactions are two writers
opening_apart : (x : ℕ) → writer.Opening ≡ writer.Transaction x → ⊥
opening_apart x e = cc

one_transaction : (x y : ℕ) → writer.Transaction x ≡ writer.Transaction y → x ≡ y
one_transaction x y e = cc

module _ (h : History) (points : List Point) (e : IsExplanation h points) (turns : List (Vec Turn)) (log : Log) (l : IsLogOf h turns log) where
  -- where nobody has written the key, where somebody has, and in either case
  of_opening : (key i : ℕ) → IsUntouched h key h.rows.items points i → IsSourceAt h points log key i writer.Opening
  of_opening key i u = record {
    leaves = opening_is h turns log l key ∙ ap (λ (v : Option ℕ). Some v) (sym u.same);
    before = λ x is. absurd (opening_apart x is);
    last = λ m x less there w. absurd (u.none m x less there (so_writes h turns log l x key w));
  }

  of_writer : (key i j w : ℕ) → IsLeftBy h key h.rows.items points i j w → IsSourceAt h points log key i (writer.Transaction w)
  of_writer key i j w b = record {
    leaves = left_is h turns log l w key b.writes_it ∙ ap (λ (v : Option ℕ). Some v) (sym b.value);
    before = λ x is. (j, b.before, subst (λ (y : ℕ). At points j (Commit y)) (one_transaction w x is) b.there);
    last = λ m x less there writes_it. rank_upto h points e m j x w there b.there (b.last m x less there (so_writes h turns log l x key writes_it));
  }

  of_source : (key i : ℕ) (s : HasSource h key h.rows.items points i) → IsSourceAt h points log key i (writer_of h key h.rows.items points i s)
  of_source key i (inl u) = of_opening key i u
  of_source key i (inr s) = of_writer key i s.0 s.1 s.2

  -- it has left the key as it is
  pub is_source_at : (key i : ℕ) → IsSourceAt h points log key i (source_at h points key i)
  is_source_at key i = of_source key i (source h key h.rows.items points i)
