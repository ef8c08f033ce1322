-- One counter of a list is lowered or raised by one.
use Rattle.std.proofs.Common.{◌≡◌, ℕ, zero, suc, ◌+◌, ◌-◌, List, [], ◌∷◌, refl, ◌∙◌, ap, sym, arith, ⊎_elim}
use Rattle.std.proofs.lemmas.Bool.{cases_eq}
use Rattle.std.proofs.lemmas.Bool.Decides.{nat_tests}
use Rattle.std.specs.Prelude.{◌==◌, slice_set, slice_index_or, true, false}
use Rattle.hek_txn.specs.TxnTable.{entry_at, set_at}
use Rattle.hek_txn.specs.TxnLemmas.{entry_at_set}
use Rattle.hek_txn.proofs.EntryLemmas.{entry_at-other}
use Rattle.hek_refinement.proofs.Pairs.{bit}
use Rattle.hek_refinement.proofs.Entries.{HasPlace}

less_none : (n m : ℕ) → m ≡ 0 → n ≡ n - m
less_none n m h = omega (arith, h)

no_bit : (j : ℕ) → bit (0 == suc j) ≡ 0
no_bit j = grind (arith, nat_tests)

no_bit_back : (i : ℕ) → bit (suc i == 0) ≡ 0
no_bit_back i = grind (arith, nat_tests)

same_bit : (i j : ℕ) → bit (suc i == suc j) ≡ bit (i == j)
same_bit i j = grind (arith, nat_tests)

lowered_place : (xs : List ℕ) (i j : ℕ) → slice_index_or (slice_set xs i (slice_index_or xs i 0 - 1)) j 0 ≡ slice_index_or xs j 0 - bit (i == j)
lowered_place [] i j = omega arith
lowered_place (x ∷ xs) zero zero = refl
lowered_place (x ∷ xs) zero (suc j) = less_none (slice_index_or xs j 0) _ (no_bit j)
lowered_place (x ∷ xs) (suc i) zero = less_none x _ (no_bit_back i)
lowered_place (x ∷ xs) (suc i) (suc j) = lowered_place xs i j ∙ ap (λ b. slice_index_or xs j 0 - b) (sym (same_bit i j))

-- the counter of any ID after one is lowered; an ID without a place has 0
pub entry-lowered : (xs : List ℕ) (x u : ℕ) → entry_at 0 (set_at xs x (entry_at 0 xs x - 1)) u ≡ entry_at 0 xs u - bit (x == u)
entry-lowered xs zero zero = refl
entry-lowered xs zero (suc j) = less_none (slice_index_or xs j 0) _ (no_bit j)
entry-lowered xs (suc i) zero = less_none 0 _ (no_bit_back i)
entry-lowered xs (suc i) (suc j) = lowered_place xs i j ∙ ap (λ b. slice_index_or xs j 0 - b) (sym (same_bit i j))

pub entry-raised : (xs : List ℕ) (x u : ℕ) → HasPlace xs x → entry_at 0 (set_at xs x (entry_at 0 xs x + 1)) u ≡ entry_at 0 xs u + bit (x == u)
entry-raised xs x u h =
    ⊎_elim
    (λ e.
    let yes : (x == u) ≡ true = grind (arith, nat_tests) in let b = ap bit yes in
    let at = ap (entry_at 0 (set_at xs x (entry_at 0 xs x + 1))) e ∙ entry_at_set 0 xs x (entry_at 0 xs x + 1) h.named h.within in
    let same = ap (entry_at 0 xs) e in omega (arith, at, same, b))
    (λ ne.
    let no : (x == u) ≡ false = grind (arith, nat_tests) in let b = ap bit no in
    let at = entry_at-other 0 xs x u (entry_at 0 xs x + 1) ne in omega (arith, at, b))
    (cases_eq u x)
