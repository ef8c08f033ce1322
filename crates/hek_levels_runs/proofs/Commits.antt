-- The places of commits, among points and in the order of commits.
use Rattle.std.proofs.Common.{◌≡◌, ℕ, zero, suc, ◌<◌, ◌≤◌, List, [], ◌∷◌, Some, refl, sym, ap, ◌∙◌, inl, inr, arith}
use Rattle.std.proofs.lemmas.Bool.{cases_lt}
use Rattle.std.proofs.lemmas.Option.{none-some, same_Some}
use Rattle.std.specs.Prelude.{slice_get}
use Rattle.hek_history.specs.declared.history.History.{History}
use Rattle.hek_history.specs.declared.history.Point.{Point}
use Rattle.hek_history.specs.declared.history.Point.TheVariants.{Begin, Commit}
use Rattle.hek_history.specs.Explanation.{At, IsExplanation}
use Rattle.hek_history.proofs.Places.{same_place}
use Rattle.hek_history.proofs.Transcripts.{kinds_apart, commits_apart, no_point}
use Rattle.hek_levels.specs.declared.log.Place.{Place}
use Rattle.hek_levels.specs.declared.certificate.Writer.{Writer}
use Rattle.hek_levels.specs.declared.certificate.Writer.TheVariants as writer
use Rattle.hek_levels.specs.Seen.{Explanation, TakesPlace, place, rank, IsBefore}
use Rattle.hek_levels.proofs.Orders.{takes, placed}
use Rattle.hek_levels.specs.Points.{commits_of}

-- how many commit before a place
abbrev pub spot : List Point → ℕ → ℕ
spot points zero = zero
spot [] (suc i) = zero
spot (Begin t ∷ points) (suc i) = spot points i
spot (Commit t ∷ points) (suc i) = suc (spot points i)

-- a commit at a place stands in the order after those before it
pub at_spot : (points : List Point) (i t : ℕ) → At points i (Commit t) → slice_get (commits_of points) (spot points i) ≡ Some t
at_spot [] i t a = absurd (no_point (Commit t) a)
at_spot (Begin x ∷ points) zero t a = absurd (kinds_apart x t (same_Some (Begin x) (Commit t) a))
at_spot (Begin x ∷ points) (suc i) t a = at_spot points i t a
at_spot (Commit x ∷ points) zero t a = ap (λ (n : ℕ). Some n) (commits_apart x t (same_Some (Commit x) (Commit t) a))
at_spot (Commit x ∷ points) (suc i) t a = at_spot points i t a

-- the commit of a transaction of the order
pub record IsCommitAt (points : List Point) (n t : ℕ) : Type 0 where
  pub at : ℕ
  pub there : At points at (Commit t)
  pub spot_is : spot points at ≡ n

-- each transaction of the order has a commit
pub commit_at : (points : List Point) (n t : ℕ) → slice_get (commits_of points) n ≡ Some t → IsCommitAt points n t
commit_at [] n t e = absurd (none-some t e)
commit_at (Begin x ∷ points) n t e =
    let r = commit_at points n t e in
    record { at = suc r.at; there = r.there; spot_is = r.spot_is }
commit_at (Commit x ∷ points) zero t e = record { at = zero; there = ap (λ (m : ℕ). Some (Commit m)) (same_Some x t e); spot_is = refl }
commit_at (Commit x ∷ points) (suc n) t e =
    let r = commit_at points n t e in
    record { at = suc r.at; there = r.there; spot_is = ap suc r.spot_is }

-- no fewer commit before a later place
pub spot_upto : (points : List Point) (i j : ℕ) → i ≤ j → spot points i ≤ spot points j
spot_upto points zero j l = omega arith
spot_upto points (suc i) zero l = absurd (omega (arith, l))
spot_upto [] (suc i) (suc j) l = omega arith
spot_upto (Begin x ∷ points) (suc i) (suc j) l = spot_upto points i j (omega (arith, l))
spot_upto (Commit x ∷ points) (suc i) (suc j) l = let rest = spot_upto points i j (omega (arith, l)) in omega (arith, rest)

-- and still more before a place after a commit
pub spot_before : (points : List Point) (i j t : ℕ) → At points i (Commit t) → i < j → spot points i < spot points j
spot_before points i zero t a l = absurd (omega (arith, l))
spot_before [] i (suc j) t a l = absurd (no_point (Commit t) a)
spot_before (Begin x ∷ points) zero (suc j) t a l = absurd (kinds_apart x t (same_Some (Begin x) (Commit t) a))
spot_before (Begin x ∷ points) (suc i) (suc j) t a l = spot_before points i j t a (omega (arith, l))
spot_before (Commit x ∷ points) zero (suc j) t a l = omega arith
spot_before (Commit x ∷ points) (suc i) (suc j) t a l = let rest = spot_before points i j t a (omega (arith, l)) in omega (arith, rest)

module _ (h : History) (points : List Point) (x : IsExplanation h points) where
  -- each stands once in the order
  pub commits_once : (i j t : ℕ) → slice_get (commits_of points) i ≡ Some t → slice_get (commits_of points) j ≡ Some t → i ≡ j
  commits_once i j t a b =
      let c = commit_at points i t a in
      let d = commit_at points j t b in
      sym c.spot_is ∙ ap (spot points) (same_place h points x c.at d.at (Commit t) c.there d.there) ∙ d.spot_is

  -- its place in the order is by how many commit before
  pub place_is : (k t : ℕ) → At points k (Commit t) → place (commits_of points) t ≡ spot points k
  place_is k t a = placed (commits_of points) commits_once (spot points k) t (at_spot points k t a)

  -- a commit before another is before it in the order, and one not after it not after it
  pub rank_before : (j k w t : ℕ) → At points j (Commit w) → At points k (Commit t) → j < k → rank (commits_of points) (writer.Transaction w) < rank (commits_of points) (writer.Transaction t)
  rank_before j k w t a b l =
      let first = place_is j w a in
      let second = place_is k t b in
      let less = spot_before points j k w a l in
      omega (arith, first, second, less)

  pub rank_upto : (j k w t : ℕ) → At points j (Commit w) → At points k (Commit t) → j ≤ k → rank (commits_of points) (writer.Transaction w) ≤ rank (commits_of points) (writer.Transaction t)
  rank_upto j k w t a b l =
      let first = place_is j w a in
      let second = place_is k t b in
      let less = spot_upto points j k l in
      omega (arith, first, second, less)

  -- who is before a transaction in the order commits before it
  pub before_commits : (source : ℕ → Place → Writer) (k w t : ℕ) → At points k (Commit t) → IsBefore (record { order = commits_of points; source = source }) w t → (j : ℕ) × (j < k) × At points j (Commit w)
  before_commits source k w t a b =
      let e : Explanation = record { order = commits_of points; source = source } in
      let stands : TakesPlace e w = takes e w t b (spot points k, at_spot points k t a) in
      let c = commit_at points stands.0 w stands.1 in
      let first = place_is c.at w c.there in
      let second = place_is k t a in (
        c.at,
        elim (cases_lt c.at k) [
          | inl less ↦ less
          | inr ge ↦ absurd (let upto = spot_upto points k c.at ge in omega (arith, first, second, upto, b))
        ],
        c.there,
      )
