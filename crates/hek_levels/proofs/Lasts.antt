-- The last writer of a key among the first of an order.
use Rattle.std.proofs.Common.{◌≡◌, ℕ, zero, suc, ◌+◌, ◌<◌, ◌≤◌, true, false, cond, List, Option, Some, None, refl, sym, ap, ◌∙◌, subst, inl, inr, ◌⊎◌, arith}
use Rattle.std.specs.Prelude.{slice_get, is_some}
use Rattle.std.proofs.lemmas.Bool.{cases_Bool}
use Rattle.hek_levels.specs.declared.log.Log.{Log}
use Rattle.hek_levels.specs.declared.certificate.Writer.{Writer}
use Rattle.hek_levels.specs.declared.certificate.Writer.TheVariants as writer
use Rattle.hek_levels.specs.Logs.{does_write, writes_of, left_in}
use Rattle.hek_levels.specs.Seen.{At, rank}
use Rattle.hek_levels.specs.Points.{writer_with, last_writer}
use Rattle.hek_levels.specs.Sweeps.{AreLast}
use Rattle.hek_levels.proofs.Orders.{same_at, cases_below, placed}

-- the last places with those of one more
pub last_more : (log : Log) (order : List ℕ) (i t : ℕ) (f g : ℕ → Option ℕ) → AreLast log order i f → At order i t →
    ((k : ℕ) → g k ≡ cond (is_some (left_in (writes_of log t) k)) (Some i) (f k)) → AreLast log order (i + 1) g
last_more log order i t f g known a more = record {
  all = (λ j x key l b w.
      elim (cases_below j i l) [
        | inl less ↦
            let old = known.all j x key less b w in
            elim (cases_Bool (is_some (left_in (writes_of log t) key))) [
              | inl so ↦ (i, more key ∙ rw so refl, omega (arith, less))
              | inr not_so ↦ (old.0, more key ∙ rw not_so old.1, old.2)
            ]
        | inr same ↦
            let is : x ≡ t = same_at order i x t (subst (λ (n : ℕ). At order n x) same b) a in
            let does : is_some (left_in (writes_of log t) key) ≡ true = subst (λ (y : ℕ). does_write log y key ≡ true) is w in
            (i, more key ∙ rw does refl, omega (arith, same))
      ]);
}

-- one among the first n, or the opening
pub record IsLastOf (log : Log) (order : List ℕ) (key n : ℕ) (x : ℕ) : Type 0 where
  pub k : ℕ
  pub less : k < n
  pub there : At order k x
  pub writes : does_write log x key ≡ true

writer-is : (x y : ℕ) → ◌≡◌ {A = Writer} (writer.Transaction x) (writer.Transaction y) → x ≡ y
writer-is x y e = cc

module _ (log : Log) (order : List ℕ) (key : ℕ) where
  -- one place more
  last-step : (n x : ℕ) → (last_writer log order key n ≡ writer.Transaction x → IsLastOf log order key n x) → last_writer log order key (suc n) ≡ writer.Transaction x → IsLastOf log order key (suc n) x
  last-step n x before e = go (slice_get order n) refl e
    where
      old : last_writer log order key n ≡ writer.Transaction x → IsLastOf log order key (suc n) x
      old f = let r = before f in let l = r.less in record { k = r.k; less = omega (arith, l); there = r.there; writes = r.writes }

      go : (o : Option ℕ) → slice_get order n ≡ o → writer_with log key o (last_writer log order key n) ≡ writer.Transaction x → IsLastOf log order key (suc n) x
      go None is f = old f
      go (Some y) is f =
          elim (cases_Bool (does_write log y key)) [
            | inr not_so ↦ old (rw not_so at f)
            | inl does ↦
                let same : y ≡ x = writer-is y x (rw does at f) in
                record { k = n; less = omega arith; there = is ∙ ap Some same; writes = subst (λ (z : ℕ). does_write log z key ≡ true) same does }
          ]

  pub last-of : (n x : ℕ) → last_writer log order key n ≡ writer.Transaction x → IsLastOf log order key n x
  last-of zero x e = cc
  last-of (suc n) x e = last-step n x (last-of n x) e

  module _ (once : (i j t : ℕ) → At order i t → At order j t → i ≡ j) where
    newest-step : (n k x : ℕ) → (k < n → suc k ≤ rank order (last_writer log order key n)) → k < suc n → At order k x → does_write log x key ≡ true → suc k ≤ rank order (last_writer log order key (suc n))
    newest-step n k x older l a w = go (slice_get order n) refl
      where
        here : (y : ℕ) → At order n y → suc k ≤ rank order (writer.Transaction y)
        here y b = let is = placed order once n y b in omega (arith, l, is)

        cases : (k < n) ⊎ (k ≡ n)
        cases = cases_below k n (omega (arith, l))

        go : (o : Option ℕ) → slice_get order n ≡ o → suc k ≤ rank order (writer_with log key o (last_writer log order key n))
        go None is =
            elim cases [
              | inl less ↦ older less
              | inr same ↦ absurd (let f : None ≡ Some x = sym is ∙ subst (λ (m : ℕ). At order m x) same a in cc)
            ]
        go (Some y) is =
            elim (cases_Bool (does_write log y key)) [
              | inl does ↦ rw does (here y is)
              | inr not_so ↦
                  rw not_so
                  (elim cases [
                    | inl less ↦ older less
                    | inr same ↦
                        absurd
                        (let z : x ≡ y = same_at order n x y (subst (λ (m : ℕ). At order m x) same a) is in
                        let f : false ≡ true = sym not_so ∙ subst (λ (u : ℕ). does_write log u key ≡ true) z w in
                        cc)
                  ])
            ]

    pub last-newest : (n k x : ℕ) → k < n → At order k x → does_write log x key ≡ true → suc k ≤ rank order (last_writer log order key n)
    last-newest zero k x l a w = absurd (omega (arith, l))
    last-newest (suc n) k x l a w = newest-step n k x (λ less. last-newest n k x less a w) l a w
