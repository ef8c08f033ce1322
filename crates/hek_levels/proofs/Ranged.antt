-- Keys of rows.
use Rattle.std.proofs.Common.{◌≡◌, ℕ, ◌<◌, ◌≤◌, true, false, List, Ordering, Less, Equal, Greater, sym, ap, ◌∙◌, inl, inr, arith}
use Rattle.std.specs.Prelude.{is_some, not, ◌==◌}
use Rattle.std.specs.BTreeMap.{BTreeMap}
use Rattle.std.specs.BTreeMap.Range.{range_contains, entries_between}
use Rattle.std.specs.declared.ops.Bound.TheVariants.{Included, Excluded}
use Rattle.std.specs.Ordering.{nat_cmp, is_eq, is_le}
use Rattle.std.specs.Cmp.{nat_cmp_is}
use Rattle.std.proofs.lemmas.Bool.{cases_order, eq-eqb, ne_eqb}
use Rattle.hek_levels.specs.Rows.{row_of}
use Rattle.hek_levels.proofs.Among.{IsIn, in-lookup, in-filter}

less-cmp : (a b : ℕ) → a < b → nat_cmp a b ≡ Less
less-cmp a b l = sym (nat_cmp_is a b Less l)

equal-cmp : (a b : ℕ) → a ≡ b → nat_cmp a b ≡ Equal
equal-cmp a b l = sym (nat_cmp_is a b Equal l)

greater-cmp : (a b : ℕ) → b < a → nat_cmp a b ≡ Greater
greater-cmp a b l = sym (nat_cmp_is a b Greater l)

same-key : (a b : ℕ) → is_eq (nat_cmp a b) ≡ true → a ≡ b
same-key a b e =
    elim (cases_order a b) [
      | inl same ↦ same
      | inr differ ↦
          elim differ [
            | inl less ↦ absurd (let f : false ≡ true = sym (ap is_eq (less-cmp a b less)) ∙ e in cc)
            | inr more ↦ absurd (let f : false ≡ true = sym (ap is_eq (greater-cmp a b more)) ∙ e in cc)
          ]
    ]

from-start : (a b : ℕ) → a ≤ b → is_le (nat_cmp a b) ≡ true
from-start a b le =
    elim (cases_order a b) [
      | inl same ↦ ap is_le (equal-cmp a b same)
      | inr differ ↦ elim differ [ inl less ↦ ap is_le (less-cmp a b less) | inr more ↦ absurd (omega arith) ]
    ]

in-range : (from to key : ℕ) → from ≤ key → key < to → range_contains nat_cmp (Included from) (Excluded to) key ≡ true
in-range from to key le lt = rw (from-start from key le) (ap (λ (o : Ordering). not (is_le o)) (greater-cmp to key lt))

-- a key that has a row has an entry
pub in-rows : (rows : BTreeMap ℕ ℕ) (key : ℕ) → is_some (row_of rows key) ≡ true → (e : ℕ × ℕ) × IsIn rows.entries e × (e.0 ≡ key)
in-rows rows key some =
    let f = in-lookup (λ (k : ℕ). is_eq (nat_cmp key k)) rows.entries some in
    (f.0, f.1, sym (same-key key f.0.0 f.2))

-- one within the range is among those of the range
pub in-between : (from to : ℕ) (es : List (ℕ × ℕ)) (e : ℕ × ℕ) → from ≤ e.0 → e.0 < to → IsIn es e → IsIn (entries_between nat_cmp (Included from) (Excluded to) es) e
in-between from to es e le lt m = in-filter (λ (f : ℕ × ℕ). range_contains nat_cmp (Included from) (Excluded to) f.0) es e (in-range from to e.0 le lt) m

-- whether two keys compare as equal
pub eq-cmp : (a b : ℕ) → is_eq (nat_cmp a b) ≡ (a == b)
eq-cmp a b =
    elim (cases_order a b) [
      | inl same ↦ ap is_eq (equal-cmp a b same) ∙ sym (eq-eqb a b same)
      | inr differ ↦
          elim differ [
            | inl less ↦ ap is_eq (less-cmp a b less) ∙ sym (ne_eqb a b (λ same. absurd (omega (arith, less, same))))
            | inr more ↦ ap is_eq (greater-cmp a b more) ∙ sym (ne_eqb a b (λ same. absurd (omega (arith, more, same))))
          ]
    ]
