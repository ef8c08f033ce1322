-- Keys that are touched, and sources that are given.
use Rattle.std.proofs.Common.{◌≡◌, ◌==◌, ℕ, ◌+◌, Bool, true, false, cond, List, Option, Some, None, refl, sym, ap, ◌∙◌, subst, inl, inr, length, arith}
use Rattle.std.specs.Prelude.{slice_get, is_some, ◌&&◌, ◌||◌}
use Rattle.std.proofs.lemmas.Bool.{cases_Bool, both_ways, eqb-true}
use Rattle.hek_rules.specs.Listing.{value_of}
use Rattle.hek_levels.specs.declared.log.Log.{Log}
use Rattle.hek_levels.specs.declared.log.Need.{Need}
use Rattle.hek_levels.specs.declared.log.Read.{Read}
use Rattle.hek_levels.specs.declared.log.Scan.{Scan}
use Rattle.hek_levels.specs.declared.log.Place.{Place}
use Rattle.hek_levels.specs.declared.log.Place.TheVariants.{Listed, Missing}
use Rattle.hek_levels.specs.declared.certificate.Writer.{Writer}
use Rattle.hek_levels.specs.declared.certificate.Missing.{Missing as Given}
use Rattle.hek_levels.specs.declared.certificate.Certificate.{Certificate}
use Rattle.hek_levels.specs.Logs.{meets, misses, scans_of, read_at, writes_of, left_in, does_write}
use Rattle.hek_levels.specs.Seen.{At}
use Rattle.hek_levels.specs.Explanations.{given_at, given_of}
use Rattle.hek_levels.specs.Places.{IsSourcedBy, AreMissingSourced, AreTouched}
use Rattle.hek_levels.specs.Uncommitted.{is_found, did_other_leave}
use Rattle.hek_levels.proofs.Orders.{same_at, cases_below}
use Rattle.hek_levels.proofs.Turned.{both-true}
use Rattle.hek_levels.proofs.Givens.{given_else}
use Rattle.hek_levels.proofs.Judged.{IsMissing}

pub not_some : {A : Type 0} (o : Option A) → is_some o ≡ false → o ≡ None
not_some None e = refl
not_some (Some a) e = cc

-- what cannot be there is not
pub none-there : {A : Type 0} (o : Option A) → (is_some o ≡ true → ⊥) → o ≡ None
none-there None never = refl
none-there (Some a) never = absurd (never refl)

-- ---- what a map has of a scan and a key

pub given-kept : (f : ℕ × ℕ → Option Writer) (a b : ℕ) (w : Writer) → is_some (f (a, b)) ≡ true → (s k : ℕ) →
    f (s, k) ≡ cond (is_some (f (s, k))) (f (s, k)) (cond ((a == s) && (b == k)) (Some w) None)
given-kept f a b w had s k =
    elim (cases_Bool (is_some (f (s, k)))) [
      | inl here ↦ rw here refl
      | inr none ↦
          elim (cases_Bool ((a == s) && (b == k))) [
            | inl same ↦
                absurd
                (let both = both-true (a == s) (b == k) same in
                let first : is_some (f (s, b)) ≡ true = subst (λ (n : ℕ). is_some (f (n, b)) ≡ true) (eqb-true a s both.0) had in
                let second : is_some (f (s, k)) ≡ true = subst (λ (n : ℕ). is_some (f (s, n)) ≡ true) (eqb-true b k both.1) first in
                both_ways _ none second)
            | inr other ↦ rw none (rw other (not_some (f (s, k)) none))
          ]
    ]

pub given-new : (f g : ℕ × ℕ → Option Writer) (a b : ℕ) (w : Writer) → is_some (f (a, b)) ≡ false → ((q : ℕ × ℕ) → g q ≡ cond ((a == q.0) && (b == q.1)) (Some w) (f q)) → (s k : ℕ) →
    g (s, k) ≡ cond (is_some (f (s, k))) (f (s, k)) (cond ((a == s) && (b == k)) (Some w) None)
given-new f g a b w had more s k =
    more (s, k)
    ∙ elim (cases_Bool ((a == s) && (b == k))) [
      | inl same ↦
          let both = both-true (a == s) (b == k) same in
          let first : is_some (f (s, b)) ≡ false = subst (λ (n : ℕ). is_some (f (n, b)) ≡ false) (eqb-true a s both.0) had in
          let second : is_some (f (s, k)) ≡ false = subst (λ (n : ℕ). is_some (f (s, n)) ≡ false) (eqb-true b k both.1) first in
          rw same (rw second refl)
      | inr other ↦ elim (cases_Bool (is_some (f (s, k)))) [ inl here ↦ rw other (rw here refl) | inr none ↦ rw other (rw none (not_some (f (s, k)) none)) ]
    ]

pub by-place-more : (o : Option Writer) (b : Bool) (w : Writer) (rest : Option Writer) → given_else (cond (is_some o) o (cond b (Some w) None)) rest ≡ given_else o (cond b (Some w) rest)
by-place-more None true w rest = refl
by-place-more None false w rest = refl
by-place-more (Some v) b w rest = refl

-- ---- keys that are touched

or-false : (a b : Bool) → (a || b) ≡ false → (a ≡ false) × (b ≡ false)
or-false true b e = cc
or-false false b e = (refl, e)

pub touched-start : (log : Log) (order : List ℕ) (g : ℕ → Bool) → ((k : ℕ) → g k ≡ is_some (value_of log.rows.items k)) → AreTouched log order 0 g
touched-start log order g is key e = record {
  opening = not_some (value_of log.rows.items key) (sym (is key) ∙ e);
  written = (λ j x l a. absurd (omega (arith, l)));
}

pub touched-more : (log : Log) (order : List ℕ) (i t : ℕ) (f g : ℕ → Bool) → AreTouched log order i f → At order i t → ((k : ℕ) → g k ≡ (is_some (left_in (writes_of log t) k) || f k)) → AreTouched log order (i + 1) g
touched-more log order i t f g known a more key e =
    let parts = or-false (is_some (left_in (writes_of log t) key)) (f key) (sym (more key) ∙ e) in
    let old = known key parts.1 in
    record {
      opening = old.opening;
      written = (λ j x l b.
          elim (cases_below j i l) [
            | inl less ↦ old.written j x less b
            | inr same ↦ subst (λ (y : ℕ). does_write log y key ≡ false) (same_at order i t x a (subst (λ (n : ℕ). At order n x) same b)) parts.0
          ]);
    }

pub missing-sourced : (log : Log) (c : Certificate) (places : ℕ → Option ℕ) (i t : ℕ) (touched : ℕ → Bool) (given : ℕ → ℕ → Option Writer) (list : List Given) (scans : List Scan) → list ≡ given_of c t → scans ≡ scans_of log t →
    AreTouched log c.order.items i touched → ((s k : ℕ) → given s k ≡ given_at list s k) →
    ((n : ℕ) (scan : Scan) → slice_get scans n ≡ Some scan → (key : ℕ) → misses scan key ≡ true → touched key ≡ true → is_some (given n key) ≡ true) →
    ((s k : ℕ) (w : Writer) → given_at list s k ≡ Some w → IsSourcedBy log places i t (Missing s k) w) → AreMissingSourced log c places i t
missing-sourced log c places i t touched given list scans same alike known map all right = record {
  given = (λ s key w is. right s key w (ap (λ (xs : List Given). given_at xs s key) same ∙ is));
  others = (λ s key scan there missed none.
      elim (cases_Bool (touched key)) [
        | inr not_so ↦ known key not_so
        | inl touches ↦
            absurd
            (let some = all s scan (ap (λ (xs : List Scan). slice_get xs s) alike ∙ there) key missed touches in
            let is : given s key ≡ None = map s key ∙ ap (λ (xs : List Given). given_at xs s key) same ∙ none in
            both_ways _ (ap is_some is) some)
      ]);
}

-- ---- a key that a scan misses and that is not there

pub lacked : (log : Log) (t s key : ℕ) (read : Read) (value : ℕ → Option ℕ) → IsMissing log t s key read → value key ≡ None → meets read.need (value read.key) ≡ true
lacked log t s key read value m none = ap (λ (n : ℕ). meets read.need (value n)) m.key ∙ ap (λ (o : Option ℕ). meets read.need o) none ∙ ap (λ (n : Need). meets n None) m.need

or-left : (a b : Bool) → a ≡ true → (a || b) ≡ true
or-left true b e = refl
or-left false b e = cc

pub not-lost : (log : Log) (t s key : ℕ) (read : Read) → IsMissing log t s key read → value_of log.rows.items key ≡ None → is_found log t read ≡ true
not-lost log t s key read m none =
    or-left (meets read.need (value_of log.rows.items read.key)) (did_other_leave log t read.key read.need (length log.transactions.items)) (lacked log t s key read (value_of log.rows.items) m none)

-- each read is one in the list, or one that a scan misses
pub met-all : (log : Log) (t : ℕ) (value : ℕ → Option ℕ) → ((r : ℕ) (read : Read) → read_at log t (Listed r) ≡ Some read → meets read.need (value read.key) ≡ true) →
    ((s key : ℕ) (read : Read) → read_at log t (Missing s key) ≡ Some read → meets read.need (value read.key) ≡ true) → (r : Place) (read : Read) → read_at log t r ≡ Some read → meets read.need (value read.key) ≡ true
met-all log t value in_list in_scans (Listed r) read there = in_list r read there
met-all log t value in_list in_scans (Missing s key) read there = in_scans s key read there
