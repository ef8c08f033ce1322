-- The place of a point in a list of points.
use Rattle.std.specs.Prelude.{ℕ, suc, ◌+◌, ◌*◌, ◌==◌, Bool, true, false, if◌then◌else◌, List, [], ◌∷◌}
use Rattle.hek_history.specs.declared.history.Point.{Point}
use Rattle.hek_history.specs.declared.history.Point.TheVariants.{Begin, Commit}

abbrev pub number_of : Point → ℕ
number_of (Begin t) = 2 * t
number_of (Commit t) = 2 * t + 1

abbrev pub is_same : Point → Point → Bool
is_same (Begin t) (Begin x) = t == x
is_same (Begin t) (Commit x) = false
is_same (Commit t) (Begin x) = false
is_same (Commit t) (Commit x) = t == x

-- the first place of a point; of one that is not there a place after all, by its number
abbrev pub place : List Point → Point → ℕ
place [] p = number_of p
place (q ∷ points) p = if is_same q p then 0 else suc (place points p)
