-- A transaction that a list or a word of a sound world names is declared.
use Rattle.std.proofs.Common.{◌≡◌, ℕ, zero, suc, ◌<◌, true, false, List, [], ◌∷◌, ◌∙◌, ap, sym, arith, length}
use Rattle.std.specs.Prelude.{slice_index_or}
use Rattle.std.proofs.lemmas.Bool.Decides.{nat_tests}
use Rattle.hek_rules.specs.Listing.{has, is_among, seconds_of, firsts_of}
use Rattle.hek_rules.specs.World.{World, txn_in, is_not_begun, is_present}
use Rattle.hek_txn.specs.TxnTable.{TxnTable, Declared, dependents_of as dependents_in}
use Rattle.hek_laws.specs.Sound.{Sound}
use Rattle.hek_laws.proofs.Sound.Grounded.{begun-range, present-begun}
use Rattle.hek_refinement.specs.Shows.{ShowsTxns}
use Rattle.hek_refinement.proofs.Pairs.{among-seconds, among-firsts}

pub begun-known : (x : TxnTable) (w : World) (u : ℕ) → ShowsTxns x w → is_not_begun (txn_in w.txns u).state ≡ false → Declared x u
begun-known x w u s h =
    let r = begun-range w.txns u h in let named = r.0 in let within = r.1 in let long = ap length s.cores in
    record { named = named; within = omega (arith, within, long) }

pub present-known : (x : TxnTable) (w : World) (u : ℕ) → ShowsTxns x w → is_present (txn_in w.txns u).state ≡ true → Declared x u
present-known x w u s h = begun-known x w u s (present-begun (txn_in w.txns u).state h)

-- an element at a place of a list is in the list
pub among-at : (xs : List ℕ) (k d : ℕ) → k < length xs → is_among xs (slice_index_or xs k d) ≡ true
among-at [] k d h = absurd (omega (arith, h))
among-at (x ∷ xs) zero d h = grind (arith, nat_tests)
among-at (x ∷ xs) (suc k) d h = let rest = among-at xs k d (omega (arith, h)) in grind (arith, nat_tests, rest)

pub has-second : (ps : List (ℕ × ℕ)) (a : ℕ) (xs : List ℕ) (k d : ℕ) → xs ≡ seconds_of ps a → k < length xs → has ps a (slice_index_or xs k d) ≡ true
has-second ps a xs k d e h = sym (among-seconds ps a (slice_index_or xs k d)) ∙ ap (λ ys. is_among ys (slice_index_or xs k d)) (sym e) ∙ among-at xs k d h

pub has-first : (ps : List (ℕ × ℕ)) (b : ℕ) (xs : List ℕ) (k d : ℕ) → xs ≡ firsts_of ps b → k < length xs → has ps (slice_index_or xs k d) b ≡ true
has-first ps b xs k d e h = sym (among-firsts ps (slice_index_or xs k d) b) ∙ ap (λ ys. is_among ys (slice_index_or xs k d)) (sym e) ∙ among-at xs k d h

pub dependents-known : (x : TxnTable) (w : World) (t : ℕ) → Sound w → ShowsTxns x w →
    (k d : ℕ) → k < length (dependents_in x t).items → Declared x (slice_index_or (dependents_in x t).items k d)
dependents-known x w t o s k d h =
    let u : ℕ = slice_index_or (dependents_in x t).items k d in
    begun-known x w u s (o.dependent_begun t u (has-second w.dependents t (dependents_in x t).items k d (s.dependents t) h))
