-- Of two who write one key, one commits before the other begins.
use Rattle.std.proofs.Common.{◌≡◌, ℕ, ◌<◌, true, List, inl, inr, ◌⊎◌}
use Rattle.std.proofs.lemmas.Bool.{cases_order}
use Rattle.hek_history.specs.declared.history.History.{History}
use Rattle.hek_history.specs.declared.history.Point.{Point}
use Rattle.hek_history.specs.declared.history.Point.TheVariants.{Begin, Commit}
use Rattle.hek_history.specs.Histories.{writes}
use Rattle.hek_history.specs.Explanation.{At, Stand, IsExplanation, Occurs}
use Rattle.hek_history.proofs.Places.{same_point, same_place, ordered}

commits_apart : (x y : ℕ) → ◌≡◌ {A = Point} (Commit x) (Commit y) → x ≡ y
commits_apart x y e = cc

-- a point before the other, where its place is less
put_before : (points : List Point) (i j : ℕ) (p q : Point) → At points i p → At points j q → i < j → Stand points p q
put_before points i j p q a b lt = (i, j, a, b, lt)

module _ (h : History) (points : List Point) (e : IsExplanation h points) where
  -- own: it reads before it commits
  pub own : (t : ℕ) → Occurs points t → Stand points (Begin t) (Commit t)
  own t o =
      let c = e.commits o.0 t o.1 in
      put_before points c.begun.0 o.0 (Begin t) (Commit t) c.begun.2 o.1 c.begun.1

  -- winner: of two who write one key, one commits before the other reads
  pub winner : (t x key : ℕ) → (t ≡ x → ⊥) → writes h t key ≡ true → writes h x key ≡ true → Stand points (Begin t) (Commit x) → Stand points (Commit t) (Begin x)
  winner t x key other wt wx s =
      let b = e.begins s.0 t s.2 in
      let o : Occurs points t = (b.ends.0, b.ends.2) in
      let c = e.commits o.0 t o.1 in
      let d = e.commits s.1 x s.3 in
      let here : c.begun.0 ≡ s.0 = same_place h points e c.begun.0 s.0 (Begin t) c.begun.2 s.2 in
      let lt : s.0 < s.1 = s.4 in
      let mine : c.begun.0 < o.0 = c.begun.1 in
      elim (cases_order o.0 d.begun.0) [
        | inl same ↦ absurd (let p : At points d.begun.0 (Commit t) = rw same at o.1 in let q : Commit t ≡ Begin x = same_point points d.begun.0 (Commit t) (Begin x) p d.begun.2 in let f : ⊥ = cc in f)
        | inr differ ↦
            elim differ [
              | inl before ↦ put_before points o.0 d.begun.0 (Commit t) (Begin x) o.1 d.begun.2 before
              | inr behind ↦
                  elim (cases_order o.0 s.1) [
                    | inl one ↦ absurd (let p : At points s.1 (Commit t) = rw one at o.1 in other (commits_apart t x (same_point points s.1 (Commit t) (Commit x) p s.3)))
                    | inr apart ↦
                        elim apart [
                          -- t commits between the points of x
                          | inl t_first ↦ absurd (d.first d.begun.0 o.0 t key d.begun.2 o.1 behind t_first wx wt)
                          -- x commits between the points of t
                          | inr x_first ↦ absurd (c.first s.0 s.1 x key s.2 s.3 lt x_first wt wx)
                        ]
                  ]
            ]
      ]

  -- of two who write one key, one commits before the other reads
  pub apart : (t x key : ℕ) → (t ≡ x → ⊥) → writes h t key ≡ true → writes h x key ≡ true → Occurs points t → Occurs points x →
      Stand points (Commit t) (Begin x) ⊎ Stand points (Commit x) (Begin t)
  apart t x key other wt wx o k =
      let b : Stand points (Begin t) (Commit t) = own t o in
      elim (ordered points b.0 k.0 (Begin t) (Commit x) b.2 k.1) [
        | inl same ↦ absurd (let f : ⊥ = cc in f)
        | inr differ ↦
            elim differ [
              | inl behind ↦ inl (winner t x key other wt wx behind)
              | inr before ↦ inr before
            ]
      ]
