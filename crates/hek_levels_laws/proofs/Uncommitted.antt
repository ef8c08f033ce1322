-- What was at some time there, in other words.
use Rattle.std.proofs.Common.{◌≡◌, ◌==◌, ◌<◌, ℕ, zero, suc, true, false, Bool, cond, List, [], ◌∷◌, ◌++◌, Option, Some, None, refl, sym, ap, ◌∙◌, subst, inl, inr, length, arith}
use Rattle.std.specs.Prelude.{not, ◌&&◌, ◌||◌, slice_get}
use Rattle.std.proofs.lemmas.Bool.{cases_Bool, eqb-true, eqb-false, eq-eqb, ne_eqb, or_cases, or_left, or_right, and_parts, and_from, not_from_false}
use Rattle.std.proofs.lemmas.Option.{slice_get_within}
use Rattle.hek_levels.specs.declared.log.Log.{Log}
use Rattle.hek_levels.specs.declared.log.Need.{Need}
use Rattle.hek_levels.specs.declared.log.Read.{Read}
use Rattle.hek_levels.specs.declared.log.Change.{Change}
use Rattle.hek_levels.specs.declared.log.Transaction.{Transaction}
use Rattle.hek_levels.specs.declared.certificate.Writer.{Writer}
use Rattle.hek_levels.specs.declared.certificate.Writer.TheVariants as writer
use Rattle.hek_levels.specs.Logs.{meets, meets_in, left_in, offers, transaction, writes_in, writes_of, possible_in, aborted_by}
use Rattle.hek_levels.specs.Seen.{Explanation, rank}
use Rattle.hek_levels.specs.Uncommitted.{passing_in, passing_of, does_meet, is_met_in, did_leave, did_other_leave, is_found, alive_in}
use Rattle.hek_levels.proofs.Orders.{placed}
use Rattle.hek_levels_laws.specs.Laws.{DidLeave, IsFound, ExplainedIsReadUncommitted, FoundSays}

-- ---- changes that meet a need

-- one of the list is of the key, and meets the need
abbrev IsMetAt : ℕ → Need → List Change → Type 0
IsMetAt key need cs = (n : ℕ) × (c : Change) × (slice_get cs n ≡ Some c) × (c.key ≡ key) × (meets need c.value ≡ true)

met_at : (key : ℕ) (need : Need) (cs : List Change) → is_met_in key need cs ≡ true → IsMetAt key need cs
met_at key need [] e = cc
met_at key need (c ∷ cs) e =
    elim (or_cases (does_meet key need c) (is_met_in key need cs) e) [
      | inl here ↦ let p = and_parts (c.key == key) (meets need c.value) here in (zero, c, refl, eqb-true c.key key p.0, p.1)
      | inr later ↦ let r = met_at key need cs later in (suc r.0, r.1, r.2, r.3, r.4)
    ]

one_change : (c d : Change) → ◌≡◌ {A = Option Change} (Some c) (Some d) → c ≡ d
one_change c d e = cc

is_met : (key : ℕ) (need : Need) (cs : List Change) (n : ℕ) (c : Change) → slice_get cs n ≡ Some c → c.key ≡ key → meets need c.value ≡ true → is_met_in key need cs ≡ true
is_met key need [] n c there of met = cc
is_met key need (d ∷ cs) zero c there of met =
    let same : d ≡ c = one_change d c there in
    or_left (does_meet key need d) (is_met_in key need cs)
    (subst (λ (x : Change). does_meet key need x ≡ true) (sym same) (and_from (c.key == key) (meets need c.value) (eq-eqb c.key key of) met))
is_met key need (d ∷ cs) (suc n) c there of met = or_right (does_meet key need d) (is_met_in key need cs) (is_met key need cs n c there of met)

or_both : (a b c : Bool) → ((a || b) || c) ≡ (a || (b || c))
or_both true b c = refl
or_both false b c = refl

met_in_both : (key : ℕ) (need : Need) (cs ds : List Change) → is_met_in key need (cs ++ ds) ≡ (is_met_in key need cs || is_met_in key need ds)
met_in_both key need [] ds = refl
met_in_both key need (c ∷ cs) ds =
    ap (λ (b : Bool). does_meet key need c || b) (met_in_both key need cs ds) ∙ sym (or_both (does_meet key need c) (is_met_in key need cs) (is_met_in key need ds))

left_so : (log : Log) (x : ℕ) (read : Read) → did_leave log x read.key read.need ≡ true → DidLeave log x read
left_so log x read e = met_at read.key read.need (writes_of log x ++ passing_of log x) (met_in_both read.key read.need (writes_of log x) (passing_of log x) ∙ e)

left_then : (log : Log) (x : ℕ) (read : Read) → DidLeave log x read → did_leave log x read.key read.need ≡ true
left_then log x read d = sym (met_in_both read.key read.need (writes_of log x) (passing_of log x)) ∙ is_met read.key read.need (writes_of log x ++ passing_of log x) d.0 d.1 d.2 d.3 d.4

-- ---- others that left it

other_so : (log : Log) (t : ℕ) (read : Read) (n : ℕ) → did_other_leave log t read.key read.need n ≡ true → (x : ℕ) × (x ≡ t → ⊥) × DidLeave log x read
other_so log t read zero e = cc
other_so log t read (suc n) e =
    elim (or_cases (did_other_leave log t read.key read.need n) (not (n == t) && did_leave log n read.key read.need) e) [
      | inl before ↦ other_so log t read n before
      | inr here ↦
          let p = and_parts (not (n == t)) (did_leave log n read.key read.need) here in
          (n, λ same. absurd (let f = ap not (eq-eqb n t same) in let g = sym f ∙ p.0 in cc), left_so log n read p.1)
    ]

other_then : (log : Log) (t : ℕ) (read : Read) (x n : ℕ) → x < n → (x ≡ t → ⊥) → did_leave log x read.key read.need ≡ true → did_other_leave log t read.key read.need n ≡ true
other_then log t read x zero l other did = absurd (omega (arith, l))
other_then log t read x (suc n) l other did =
    elim (cases_Bool (x == n)) [
      | inl same ↦
          let is = eqb-true x n same in
          or_right (did_other_leave log t read.key read.need n) (not (n == t) && did_leave log n read.key read.need)
          (subst (λ (m : ℕ). (not (m == t) && did_leave log m read.key read.need) ≡ true) is (and_from (not (x == t)) (did_leave log x read.key read.need) (not_from_false (x == t) (ne_eqb x t other)) did))
      | inr differ ↦
          let apart = eqb-false x n differ in
          or_left (did_other_leave log t read.key read.need n) (not (n == t) && did_leave log n read.key read.need)
          (other_then log t read x n (below_other x n l apart) other did)
    ]
  where
    below_other : (x n : ℕ) → x < suc n → (x ≡ n → ⊥) → x < n
    below_other x n l apart = omega arith

-- who left something is in the log
left_within : (log : Log) (x : ℕ) (read : Read) → DidLeave log x read → x < length log.transactions.items
left_within log x read d = go (transaction log x) refl d.2
  where
    go : (o : Option Transaction) → transaction log x ≡ o → slice_get (writes_in o ++ passing_in o) d.0 ≡ Some d.1 → x < length log.transactions.items
    go None is there = cc
    go (Some y) is there = slice_get_within log.transactions.items x y is

found_so : (log : Log) (t : ℕ) (read : Read) → is_found log t read ≡ true → IsFound log t read
found_so log t read e =
    elim (or_cases _ _ e) [
      | inl opening ↦ inl opening
      | inr other ↦ inr (other_so log t read (length log.transactions.items) other)
    ]

found_then : (log : Log) (t : ℕ) (read : Read) → IsFound log t read → is_found log t read ≡ true
found_then log t read f =
    elim f [
      | inl opening ↦ or_left _ _ opening
      | inr other ↦ or_right _ _ (other_then log t read other.0 (length log.transactions.items) (left_within log other.0 read other.2) other.1 (left_then log other.0 read other.2))
    ]

pub says : FoundSays
says log t read = (found_so log t read, found_then log t read)

-- ---- an explanation

left_at : (key : ℕ) (need : Need) (cs : List Change) → meets_in need (left_in cs key) ≡ true → is_met_in key need cs ≡ true
left_at key need [] e = cc
left_at key need (c ∷ cs) e =
    elim (cases_Bool (c.key == key)) [
      | inl same ↦ let here : meets need c.value ≡ true = rw same at e in or_left (does_meet key need c) (is_met_in key need cs) (and_from (c.key == key) (meets need c.value) same here)
      | inr other ↦ or_right (does_meet key need c) (is_met_in key need cs) (left_at key need cs (rw other at e))
    ]

source_found : (log : Log) (e : Explanation) (t : ℕ) (read : Read) (w : Writer) → offers log w read ≡ true → rank e.order w < rank e.order (writer.Transaction t) → IsFound log t read
source_found log e t read writer.Opening o l = inl o
source_found log e t read (writer.Transaction x) o l =
    inr (x, λ same. not_before same, left_so log x read (or_left (is_met_in read.key read.need (writes_of log x)) (is_met_in read.key read.need (passing_of log x)) (left_at read.key read.need (writes_of log x) o)))
  where
    not_before : x ≡ t → ⊥
    not_before same = let k = ap (λ (n : ℕ). rank e.order (writer.Transaction n)) same in omega arith

-- who may take place did not abort
possible-alive : (o : Option Transaction) → possible_in o ≡ true → alive_in o ≡ true
possible-alive None e = cc
possible-alive (Some x) e = go (aborted_by x.status) e
  where
    go : (b : Bool) → cond b false x.fits ≡ true → not b ≡ true
    go true f = cc
    go false f = refl

pub explained_is_so : ExplainedIsReadUncommitted
explained_is_so asked log e x = (
  λ t k r read there. let s = x.sources t r read (x.committed t k) there in found_then log t read (source_found log e t read (e.source t r) s.offered s.before),
  (
    e.order,
    record {
      alive = (λ i t a. possible-alive (transaction log t) (x.possible i t a));
      once = x.once;
      committed = x.committed;
      turns = (λ i j y t a b kept.
          let l = x.turns y t kept (i, a) (j, b) in
          let first = placed e.order x.once i y a in
          let second = placed e.order x.once j t b in
          omega arith);
    },
  ),
)
