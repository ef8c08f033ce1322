-- The rules of a certificate, each in one explanation.
use Rattle.std.proofs.Common.{◌≡◌, ℕ, ◌+◌, ◌<◌, ◌≤◌, true, false, Bool, Option, Some, None, refl, sym, ap, ◌∙◌, subst, inl, inr, length, arith}
use Rattle.std.proofs.lemmas.Bool.{cases_order, cases_lt}
use Rattle.std.proofs.lemmas.Option.{slice_get_within}
use Rattle.std.specs.Prelude.{slice_get, not, IfSome}
use Rattle.hek_levels.specs.declared.log.Log.{Log}
use Rattle.hek_levels.specs.declared.log.Read.{Read}
use Rattle.hek_levels.specs.declared.log.Transaction.{Transaction}
use Rattle.hek_levels.specs.declared.log.Place.{Place}
use Rattle.hek_levels.specs.declared.rules.Asked.{Asked}
use Rattle.hek_levels.specs.Levels.{asked_of}
use Rattle.hek_levels.specs.declared.certificate.Writer.{Writer}
use Rattle.hek_levels.specs.declared.certificate.Writer.TheVariants as writer
use Rattle.hek_levels.specs.Logs.{read_at, is_possible, possible_in, does_write}
use Rattle.hek_levels.specs.Seen.{Explanation, TakesPlace, rank, IsBefore, Sees}
use Rattle.hek_levels.specs.Explanations.{Explains}
use Rattle.hek_levels_refutation.specs.Claims.{number_of}
use Rattle.hek_levels_refutation.specs.Candidates.{MayWrite, IsCandidate, IsNoneBetween}
use Rattle.hek_levels.proofs.Orders.{takes, rank-injective, cases_below}

-- ---- numbers of writers

pub number-injective : (w v : Writer) → number_of w ≡ number_of v → w ≡ v
number-injective writer.Opening writer.Opening e = refl
number-injective writer.Opening (writer.Transaction x) e = absurd (omega arith)
number-injective (writer.Transaction t) writer.Opening e = absurd (omega arith)
number-injective (writer.Transaction t) (writer.Transaction x) e = let same : t ≡ x = omega arith in ap (λ (n : ℕ). writer.Transaction n) same

possible_in-some : (log : Log) (x : ℕ) → is_possible log x ≡ true → (y : Transaction) × (slice_get log.transactions.items x ≡ Some y)
possible_in-some log x e = go (slice_get log.transactions.items x) refl e
  where
    go : (o : Option Transaction) → slice_get log.transactions.items x ≡ o → possible_in o ≡ true → (y : Transaction) × (slice_get log.transactions.items x ≡ Some y)
    go None is e = cc
    go (Some y) is e = (y, is)

number_within : (log : Log) (t : ℕ) (w : Writer) → MayWrite log t w → number_of w < length log.transactions.items + 1
number_within log t writer.Opening m = omega arith
number_within log t (writer.Transaction x) m = let s = possible_in-some log x m.0 in let lt = slice_get_within log.transactions.items x s.0 s.1 in omega arith

pub none_more : (log : Log) (t : ℕ) (read : Read) (from n : ℕ) (w : Writer) → number_of w ≡ n → IsNoneBetween log t read from n → (IsCandidate log t read w → ⊥) → IsNoneBetween log t read from (n + 1)
none_more log t read from n w is before here v low high c =
    elim (cases_below (number_of v) n high) [
      | inl less ↦ before v low less c
      | inr same ↦ here (subst (IsCandidate log t read) (number-injective v w (same ∙ sym is)) c)
    ]

-- a number of a candidate is below that of all writers
pub candidate_within : (log : Log) (t : ℕ) (read : Read) (w : Writer) → IsCandidate log t read w → number_of w < length log.transactions.items + 1
candidate_within log t read w c = number_within log t w c.0

module _ (asked : Asked) (log : Log) (e : Explanation) (x : Explains asked log e) where
  may_write : (t : ℕ) → TakesPlace e t → (w : Writer) → rank e.order w < rank e.order (writer.Transaction t) → MayWrite log t w
  may_write t o writer.Opening l = tt
  may_write t o (writer.Transaction y) l = let k = takes e y t l o in (x.possible k.0 y k.1, λ same. let b : IsBefore e t t = subst (λ (n : ℕ). IsBefore e n t) same l in omega arith)

  pub candidate : (t : ℕ) (r : Place) (read : Read) → TakesPlace e t → read_at log t r ≡ Some read → IsCandidate log t read (e.source t r)
  candidate t r read o there = let s = x.sources t r read o there in (may_write t o (e.source t r) s.before, s.offered)

  -- all candidates are below the number of writers
  pub started : (t : ℕ) (r : Place) (read : Read) → TakesPlace e t → read_at log t r ≡ Some read → number_of (e.source t r) < length log.transactions.items + 1
  started t r read o there = candidate_within log t read (e.source t r) (candidate t r read o there)

  pub skipped : (t : ℕ) (r : Place) (read : Read) (from to : ℕ) → TakesPlace e t → read_at log t r ≡ Some read → from ≤ number_of (e.source t r) → IsNoneBetween log t read from to → to ≤ number_of (e.source t r)
  skipped t r read from to o there low none =
      elim (cases_lt (number_of (e.source t r)) to) [ inl less ↦ absurd (none (e.source t r) low less (candidate t r read o there)) | inr ge ↦ ge ]

  pub skipped_back : (t : ℕ) (r : Place) (read : Read) (from to : ℕ) → TakesPlace e t → read_at log t r ≡ Some read → number_of (e.source t r) < to → IsNoneBetween log t read from to → number_of (e.source t r) < from
  skipped_back t r read from to o there high none =
      elim (cases_lt (number_of (e.source t r)) from) [ inl less ↦ less | inr ge ↦ absurd (none (e.source t r) ge high (candidate t r read o there)) ]

  pub only_one : (t : ℕ) (r : Place) (read : Read) (from to : ℕ) (w : Writer) → number_of w ≡ from → TakesPlace e t → read_at log t r ≡ Some read → from ≤ number_of (e.source t r) → number_of (e.source t r) < to →
      IsNoneBetween log t read (from + 1) to → e.source t r ≡ w
  only_one t r read from to w is o there low high none =
      elim (cases_lt from (number_of (e.source t r))) [
        | inl less ↦ absurd (none (e.source t r) (omega arith) high (candidate t r read o there))
        | inr ge ↦ let same : number_of (e.source t r) ≡ number_of w = omega arith in number-injective (e.source t r) w same
      ]

  pub none_left : (t : ℕ) (r : Place) (read : Read) (from to : ℕ) → TakesPlace e t → read_at log t r ≡ Some read → from ≤ number_of (e.source t r) → number_of (e.source t r) < to → IsNoneBetween log t read from to → ⊥
  none_left t r read from to o there low high none = none (e.source t r) low high (candidate t r read o there)

  pub dropped : (t : ℕ) (r : Place) (from : ℕ) → from ≤ number_of (e.source t r) → (number_of (e.source t r) ≡ from → ⊥) → from + 1 ≤ number_of (e.source t r)
  dropped t r from low other =
      elim (cases_order from (number_of (e.source t r))) [
        | inl same ↦ absurd (other (sym same))
        | inr differ ↦ elim differ [ inl less ↦ omega arith | inr more ↦ absurd (omega arith) ]
      ]

  pub dropped_back : (t : ℕ) (r : Place) (end last : ℕ) → last + 1 ≡ end → number_of (e.source t r) < end → (number_of (e.source t r) ≡ last → ⊥) → number_of (e.source t r) < last
  dropped_back t r end last is high other =
      elim (cases_order (number_of (e.source t r)) last) [
        | inl same ↦ absurd (other same)
        | inr differ ↦ elim differ [ inl less ↦ less | inr more ↦ absurd (omega arith) ]
      ]

  pub read-before : (t : ℕ) (r : Place) (read : Read) (w : Writer) → TakesPlace e t → read_at log t r ≡ Some read → e.source t r ≡ w → rank e.order w < rank e.order (writer.Transaction t)
  read-before t r read w o there is = subst (λ (v : Writer). rank e.order v < rank e.order (writer.Transaction t)) is (x.sources t r read o there).before

  -- a writer that is seen and is not the source
  pub newest : (t : ℕ) (r : Place) (read : Read) (y : ℕ) (w : Writer) → TakesPlace e t → read_at log t r ≡ Some read → Sees (asked_of asked t) log e t read.operation y → does_write log y read.key ≡ true → e.source t r ≡ w →
      (w ≡ writer.Transaction y → ⊥) → rank e.order (writer.Transaction y) < rank e.order w
  newest t r read y w o there sees does is other =
      let le : rank e.order (writer.Transaction y) ≤ rank e.order w = subst (λ (v : Writer). rank e.order (writer.Transaction y) ≤ rank e.order v) is (x.newest t r read y o there sees does) in
      elim (cases_order (rank e.order (writer.Transaction y)) (rank e.order w)) [
        | inl same ↦ absurd (other (rank-injective e.order w (writer.Transaction y) (sym same)))
        | inr differ ↦ elim differ [ inl lt ↦ lt | inr gt ↦ absurd (omega arith) ]
      ]

  -- who is older than a writer that is seen
  pub older : (t : ℕ) (r : Place) (read : Read) (y : ℕ) (w : Writer) → TakesPlace e t → read_at log t r ≡ Some read → Sees (asked_of asked t) log e t read.operation y → does_write log y read.key ≡ true →
      rank e.order w < rank e.order (writer.Transaction y) → e.source t r ≡ w → ⊥
  older t r read y w o there sees does l is =
      let le : rank e.order (writer.Transaction y) ≤ rank e.order w = subst (λ (v : Writer). rank e.order (writer.Transaction y) ≤ rank e.order v) is (x.newest t r read y o there sees does) in
      omega arith

-- of two writers that are not one, one is before the other
pub turned : (e : Explanation) (w v : Writer) → (w ≡ v → ⊥) → (rank e.order w < rank e.order v → ⊥) → rank e.order v < rank e.order w
turned e w v other not_so =
    elim (cases_order (rank e.order w) (rank e.order v)) [
      | inl same ↦ absurd (other (rank-injective e.order w v same))
      | inr differ ↦ elim differ [ inl lt ↦ absurd (not_so lt) | inr gt ↦ gt ]
    ]

-- ---- premises

pub if_some : {A : Type 0} {P Q : A → Type 0} (o : Option A) → IfSome o P → ((a : A) → P a → Q a) → IfSome o Q
if_some None p f = tt
if_some (Some a) p f = f a p

pub as_pair : (e : Explanation) (w v : Writer) (x t : ℕ) → w ≡ writer.Transaction x → v ≡ writer.Transaction t → rank e.order w < rank e.order v → IsBefore e x t
as_pair e w v x t a b l = let f = ap (rank e.order) a in let g = ap (rank e.order) b in omega (arith, f, g, l)

pub not_numbered : (e : Explanation) (t : ℕ) (r : Place) (u : ℕ) (q : Place) (w v : Writer) (n : ℕ) → u ≡ t → q ≡ r → w ≡ v → number_of v ≡ n → (TakesPlace e u → e.source u q ≡ w → ⊥) →
    TakesPlace e t → number_of (e.source t r) ≡ n → ⊥
not_numbered e t r u q w v n a b d is never o same =
    never (subst (TakesPlace e) (sym a) o) (ap (λ (m : ℕ). e.source m q) a ∙ ap (e.source t) b ∙ number-injective (e.source t r) v (same ∙ sym is) ∙ sym d)

pub same_source : (e : Explanation) (t : ℕ) (r : Place) (u : ℕ) (q : Place) (w : Writer) → t ≡ u → r ≡ q → e.source u q ≡ w → e.source t r ≡ w
same_source e t r u q w a b is = ap (λ (n : ℕ). e.source n r) a ∙ ap (e.source u) b ∙ is

pub not_false : (b : Bool) → not b ≡ false → b ≡ true
not_false true e = refl
not_false false e = cc
