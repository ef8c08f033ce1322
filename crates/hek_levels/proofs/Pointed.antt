-- Who reads at one point what the others left, and commits at another, is explained.
use Rattle.std.proofs.Common.{◌≡◌, ℕ, ◌<◌, ◌≤◌, true, false, List, [], ◌∷◌, Option, Some, None, refl, sym, ap, ◌∙◌, subst, inl, inr, length, arith}
use Rattle.std.proofs.lemmas.Bool.{cases_Bool, cases_lt, both_ways}
use Rattle.std.proofs.lemmas.Option.{slice_get_within}
use Rattle.hek_levels.specs.declared.log.Log.{Log}
use Rattle.hek_levels.specs.declared.log.Read.{Read}
use Rattle.hek_levels.specs.declared.log.Place.{Place}
use Rattle.hek_levels.specs.declared.rules.Asked.{Asked}
use Rattle.hek_levels.specs.declared.rules.Own.{Own}
use Rattle.hek_levels.specs.declared.rules.Own.TheVariants.{Nothing, Earlier, All}
use Rattle.hek_levels.specs.declared.certificate.Writer.{Writer}
use Rattle.hek_levels.specs.declared.certificate.Writer.TheVariants as writer
use Rattle.hek_levels.specs.Levels.{asked_of}
use Rattle.hek_levels.specs.Logs.{read_at, does_write, is_earlier, is_committed, offers}
use Rattle.hek_levels.specs.Seen.{Explanation, At, TakesPlace, place, rank, IsBefore, SeesByOwn, IsLinked, SeesFirst, SeesBy, Sees, IsOrdered}
use Rattle.hek_levels.specs.Explanations.{IsSource}
use Rattle.hek_levels.specs.Places.{IsPlacing, AreInTurn}
use Rattle.hek_levels.specs.Points.{last_writer, ReadsAt, sees_turns, IsClosed, IsReplay, HasReplay, IsExplainedBy}
use Rattle.hek_levels.proofs.Orders.{takes, placed}
use Rattle.hek_levels.proofs.Earlier.{reads-earlier, shows-earlier}
use Rattle.hek_levels.proofs.Judged.{once_placed, all_placed, in_turn}
use Rattle.hek_levels.proofs.Lasts.{last-of, last-newest}

-- how many had committed where t began
begins_in : Option ℕ → ℕ
begins_in None = 0
begins_in (Some n) = n

abbrev source_in : Log → List ℕ → Option Read → ℕ → Writer
source_in log order None n = writer.Opening
source_in log order (Some read) n = last_writer log order read.key n

-- the explanation: each read has the last writer of its key before t began as its source
abbrev replayed : Log → List ℕ → (ℕ → ℕ) → Explanation
replayed log order begins = record { order = order; source = λ t r. source_in log order (read_at log t r) (begins t) }

-- where t, which stands at the place j, began
record HasBegun (asked : Asked) (log : Log) (order : List ℕ) (begins : ℕ → ℕ) (j t : ℕ) : Type 0 where
  reads : ReadsAt log order (begins t) t
  closed : IsClosed (asked_of asked t) log order (begins t) j t
  apart : sees_turns (asked_of asked t) ≡ true → (k x : ℕ) → begins t ≤ k → k < length order → At order k x → is_earlier log x t ≡ false

begun-at : (asked : Asked) (log : Log) (order : List ℕ) (rows begun last looking : ℕ → Option ℕ) → IsReplay asked log order (length order) rows begun last looking →
    (j t : ℕ) → At order j t → HasBegun asked log order (λ (x : ℕ). begins_in (begun x)) j t
unfolding begins_in
begun-at asked log order rows begun last looking r j t a =
    let k = r.committed j t (slice_get_within order j t a) a in
    let is : begins_in (begun t) ≡ k.0 = ap begins_in k.1 in
    record {
      reads = subst (λ (n : ℕ). ReadsAt log order n t) (sym is) (r.reads t k.0 k.1).1;
      closed = subst (λ (n : ℕ). IsClosed (asked_of asked t) log order n j t) (sym is) k.2;
      apart = (λ on q x le l b. r.apart t k.0 q x k.1 on (subst (λ (n : ℕ). n ≤ q) is le) l b);
    }

module _ (asked : Asked) (log : Log) (order : List ℕ) (once : (i j t : ℕ) → At order i t → At order j t → i ≡ j) (begins : ℕ → ℕ)
    (begun : (j t : ℕ) → At order j t → HasBegun asked log order begins j t) where
  abbrev e : Explanation
  e = replayed log order begins

  source-is : (t : ℕ) (r : Place) (read : Read) → read_at log t r ≡ Some read → e.source t r ≡ last_writer log order read.key (begins t)
  source-is t r read there = ap (λ (o : Option Read). source_in log order o (begins t)) there

  before-place : (j t x : ℕ) → At order j t → IsBefore e x t → place order x < j
  before-place j t x a l = let is = placed order once j t a in omega (arith, l)

  last-below : (t : ℕ) (r : Place) (read : Read) (x : ℕ) → read_at log t r ≡ Some read → e.source t r ≡ writer.Transaction x → place order x < begins t
  last-below t r read x there is =
      let f = last-of log order read.key (begins t) x (sym (source-is t r read there) ∙ is) in
      let at = placed order once f.k x f.there in
      let l = f.less in
      omega arith

  back : (t : ℕ) (r : Place) (read : Read) (x : ℕ) → TakesPlace e t → read_at log t r ≡ Some read → e.source t r ≡ writer.Transaction x → IsBefore e x t
  back t r read x p there is =
      let l = last-below t r read x there is in
      let le = (begun p.0 t p.1).closed.before in
      let at = placed order once p.0 t p.1 in
      omega arith

  ordered : IsOrdered log e
  ordered = record { once = once; back = back }

  source-before : (t : ℕ) (r : Place) (read : Read) → TakesPlace e t → read_at log t r ≡ Some read → rank order (e.source t r) < rank order (writer.Transaction t)
  source-before t r read p there = go (e.source t r) refl
    where
      go : (w : Writer) → e.source t r ≡ w → rank order w < rank order (writer.Transaction t)
      go writer.Opening is = omega arith
      go (writer.Transaction x) is = back t r read x p there is

  sourced : (t : ℕ) (r : Place) (read : Read) → TakesPlace e t → read_at log t r ≡ Some read → IsSource log e t read (e.source t r)
  sourced t r read p there = record {
    offered = subst (λ (w : Writer). offers log w read ≡ true) (sym (source-is t r read there)) ((begun p.0 t p.1).reads r read there);
    before = source-before t r read p there;
  }

  -- ---- whom a read of t sees

  module _ (j t : ℕ) (a : At order j t) where
    begin_of : HasBegun asked log order begins j t
    begin_of = begun j t a

    within : (x : ℕ) → IsBefore e x t → place order x < length order
    within x l = let less = before-place j t x a l in let end = slice_get_within order j t a in omega (arith, less, end)

    at-of : (x : ℕ) → IsBefore e x t → At order (place order x) x
    at-of x l =
        let k = takes e x t l (j, a) in
        let is = placed order once k.0 x k.1 in
        subst (λ (n : ℕ). At order n x) (sym is) k.1

    -- one before t, but for those from its begin on
    below : (x : ℕ) → IsBefore e x t → (begins t ≤ place order x → ⊥) → place order x < begins t
    below x l not_from = elim (cases_lt (place order x) (begins t)) [ inl less ↦ less | inr ge ↦ absurd (not_from ge) ]

    turns-on : (asked_of asked t).first.turns ≡ true → sees_turns (asked_of asked t) ≡ true
    turns-on on = rw on refl

    reads-on : (asked_of asked t).first.turn_reads ≡ true → sees_turns (asked_of asked t) ≡ true
    reads-on on = elim (cases_Bool (asked_of asked t).first.turns) [ inl a' ↦ rw a' refl | inr a' ↦ rw a' on ]

    precedes-below : (x : ℕ) → sees_turns (asked_of asked t) ≡ true → is_earlier log x t ≡ true → IsBefore e x t → place order x < begins t
    precedes-below x on earlier l = below x l (λ ge. both_ways _ (begin_of.apart on (place order x) x ge (within x l) (at-of x l)) earlier)

    own-below : (own : Own) (n x : ℕ) → SeesByOwn own log e t n x → place order x < begins t
    own-below Nothing n x s = absurd s
    own-below Earlier n x s = last-below t s.0 s.1 x s.2 s.4
    own-below All n x s = last-below t s.0 s.1 x s.2 s.3

    linked-below : (x : ℕ) → IsLinked (asked_of asked t).first log e t x → place order x < begins t
    linked-below x s =
        elim s [
          | inl w ↦
              let l : IsBefore e x t = w.1.3 in
              below x l (λ ge. both_ways _ (begin_of.closed.writers w.0 (place order x) x w.1.0 ge (before-place j t x a l) (at-of x l) w.1.1) w.1.2)
          | inr other ↦
              elim other [
                | inl turn ↦ precedes-below x (turns-on turn.0) turn.1.0 turn.1.1
                | inr by ↦
                    let z = by.1.0 in
                    let l : IsBefore e z t = by.1.1.1 in
                    let less = precedes-below z (reads-on by.0) by.1.1.0 l in
                    let more : IsBefore e x z = reads-earlier log e ordered z x (takes e z t l (j, a)) by.1.2 in
                    omega arith
              ]
        ]

    first-below : (n x : ℕ) → SeesFirst (asked_of asked t) log e t n x → place order x < begins t
    first-below n x s =
        elim s [
          | inl whole ↦
              let is = begin_of.closed.whole whole.0 in
              let less = before-place j t x a whole.1 in
              omega arith
          | inr other ↦ elim other [ inl own ↦ own-below (asked_of asked t).own n x own | inr links ↦ linked-below x links ]
        ]

    below-before : (y : ℕ) → place order y < begins t → IsBefore e y t
    below-before y less =
        let le = begin_of.closed.before in
        let at = placed order once j t a in
        omega arith

    seen_by-below : (n : ℕ) (ys : List ℕ) (x : ℕ) → SeesBy (asked_of asked t) log e t n ys x → place order x < begins t
    seen_by-below n [] x s = first-below n x s
    seen_by-below n (y ∷ ys) x s =
        let less = seen_by-below n ys y s.1 in
        let more : IsBefore e x y = shows-earlier log e ordered (asked_of asked t) y x (takes e y t (below-before y less) (j, a)) s.0 in
        omega arith

    seen-newest : (r : Place) (read : Read) (n x : ℕ) → read_at log t r ≡ Some read → Sees (asked_of asked t) log e t n x → does_write log x read.key ≡ true →
        rank order (writer.Transaction x) ≤ rank order (e.source t r)
    seen-newest r read n x there s w =
        let less = seen_by-below n s.0 x s.1 in
        let newest = last-newest log order read.key once (begins t) (place order x) x less (at-of x (below-before x less)) w in
        subst (λ (v : Writer). rank order (writer.Transaction x) ≤ rank order v) (sym (source-is t r read there)) newest

-- together
pub explained_by_points : (asked : Asked) (log : Log) (order : List ℕ) (places : ℕ → Option ℕ) → IsPlacing log order (length order) places → ((t : ℕ) → is_committed log t ≡ true → places t ≡ None → ⊥) →
    AreInTurn log order (length order) → HasReplay asked log order → IsExplainedBy asked log order
explained_by_points asked log order places p all turns h =
    let once = once_placed log order places p in
    let begins = λ (x : ℕ). begins_in (h.1 x) in
    let begun = begun-at asked log order h.0 h.1 h.2 h.3 h.4 in (
      replayed log order begins,
      refl,
      record {
        possible = (λ i t a. p.possible i t (slice_get_within order i t a) a);
        once = once;
        committed = all_placed log order places p all;
        sources = (λ t r read k there. sourced asked log order once begins begun t r read k there);
        turns = (λ x t kept px pt. in_turn log order once turns x t kept px pt);
        newest = (λ t r read x k there sees w. seen-newest asked log order once begins begun k.0 t k.1 r read read.operation x there sees w);
      },
    )
