-- Read locks in slots.
use Rattle.std.proofs.Common.{◌≡◌, sym, ap, ◌∙◌, ℕ, ◌-◌, ◌<◌, ◌≤◌, List, length, get_or, take, set, arith, Option, Some, None}
use Rattle.std.specs.Prelude.{◌==◌, position}
use Rattle.std.specs.List.{swap_remove}
use Rattle.std.specs.Option.{option_map_or}
use Rattle.std.proofs.lemmas.Grind.{common_steps}
use Rattle.std.proofs.lemmas.List.Quantifiers.{position-Some}
use Rattle.std.proofs.Math.Seq.{take-set-lt}
use Rattle.hek_changes.specs.Holders.{without_one}

-- the last of the first k takes the place of the one at i
last_in_place : (slots : List ℕ) (k i : ℕ) → i < k → k ≤ length slots → take (k - 1) (set slots i (get_or slots (k - 1) 0)) ≡ swap_remove (take k slots) i 0
last_in_place slots k i within fits = grind (arith, common_steps, take-set-lt k slots i (get_or slots (k - 1) 0) within)

-- the transaction t holds none
pub none_dropped : (readers : List ℕ) (t : ℕ) → None ≡ position (λ reader. reader == t) readers → readers ≡ without_one t readers
none_dropped readers t e = ap (λ (o : Option ℕ). option_map_or (λ i. swap_remove readers i 0) o readers) e

-- it holds the one at i, among the first k
pub one_dropped : (slots : List ℕ) (k t i : ℕ) → k ≤ length slots → Some i ≡ position (λ reader. reader == t) (take k slots) → take (k - 1) (set slots i (get_or slots (k - 1) 0)) ≡ without_one t (take k slots)
one_dropped slots k t i fits e =
    let found = position-Some (λ reader. reader == t) (take k slots) i 0 (sym e) in
    let within : i < k = grind (arith, common_steps, found.0) in
    last_in_place slots k i within fits ∙ ap (λ (o : Option ℕ). option_map_or (λ j. swap_remove (take k slots) j 0) o (take k slots)) e
