-- Who is seen is earlier.
use Rattle.std.proofs.Common.{ℕ, ◌<◌, List, [], ◌∷◌, inl, inr, arith}
use Rattle.hek_levels.specs.declared.log.Log.{Log}
use Rattle.hek_levels.specs.declared.rules.Rules.{Rules}
use Rattle.hek_levels.specs.declared.rules.Links.{Links}
use Rattle.hek_levels.specs.declared.rules.Own.{Own}
use Rattle.hek_levels.specs.declared.rules.Own.TheVariants.{Nothing, Earlier, All}
use Rattle.hek_levels.specs.Seen.{Explanation, At, TakesPlace, IsBefore, ReadsFrom, SeesByOwn, IsLinked, SeesFirst, Shows, SeesBy, Sees, IsOrdered}
use Rattle.hek_levels.proofs.Orders.{takes, placed}

pub before_trans : (e : Explanation) (x y z : ℕ) → IsBefore e x y → IsBefore e y z → IsBefore e x z
before_trans e x y z a b = omega arith

module _ (log : Log) (e : Explanation) (o : IsOrdered log e) where
  pub reads-earlier : (t x : ℕ) → TakesPlace e t → ReadsFrom log e t x → IsBefore e x t
  reads-earlier t x p r = o.back t r.0 r.1 x p r.2 r.3

  pub own-earlier : (own : Own) (t n x : ℕ) → TakesPlace e t → SeesByOwn own log e t n x → IsBefore e x t
  own-earlier Nothing t n x p s = absurd s
  own-earlier Earlier t n x p s = o.back t s.0 s.1 x p s.2 s.4
  own-earlier All t n x p s = reads-earlier t x p s

  pub linked-earlier : (links : Links) (t x : ℕ) → TakesPlace e t → IsLinked links log e t x → IsBefore e x t
  linked-earlier links t x p s =
      elim s [
        | inl w ↦ w.1.3
        | inr other ↦
            elim other [
              | inl turn ↦ turn.1.1
              | inr carried ↦
                  let z = carried.1.0 in
                  let first : IsBefore e z t = carried.1.1.1 in
                  let second = reads-earlier z x (takes e z t first p) carried.1.2 in
                  before_trans e x z t second first
            ]
      ]

  pub first-earlier : (rules : Rules) (t n x : ℕ) → TakesPlace e t → SeesFirst rules log e t n x → IsBefore e x t
  first-earlier rules t n x p s =
      elim s [
        | inl whole ↦ whole.1
        | inr other ↦ elim other [ inl own ↦ own-earlier rules.own t n x p own | inr linked ↦ linked-earlier rules.first t x p linked ]
      ]

  pub shows-earlier : (rules : Rules) (y x : ℕ) → TakesPlace e y → Shows rules log e y x → IsBefore e x y
  shows-earlier rules y x p s =
      elim s [
        | inl before ↦ before.1
        | inr other ↦ elim other [ inl reads ↦ reads-earlier y x p reads.1 | inr linked ↦ linked-earlier rules.next y x p linked ]
      ]

  pub seen_by-earlier : (rules : Rules) (t n : ℕ) → TakesPlace e t → (ys : List ℕ) (x : ℕ) → SeesBy rules log e t n ys x → IsBefore e x t
  seen_by-earlier rules t n p [] x s = first-earlier rules t n x p s
  seen_by-earlier rules t n p (y ∷ ys) x s =
      let later = seen_by-earlier rules t n p ys y s.1 in
      before_trans e x y t (shows-earlier rules y x (takes e y t later p) s.0) later

  pub seen-earlier : (rules : Rules) (t n x : ℕ) → TakesPlace e t → Sees rules log e t n x → IsBefore e x t
  seen-earlier rules t n x p s = seen_by-earlier rules t n p s.0 x s.1

  -- where it stands
  pub stands_before : (i j x t : ℕ) → At e.order i t → At e.order j x → IsBefore e x t → j < i
  stands_before i j x t a b l =
      let first = placed e.order o.once j x b in
      let second = placed e.order o.once i t a in
      omega arith
