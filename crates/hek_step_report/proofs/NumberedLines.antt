-- Lines of versions, transactions and buckets that a loop appends, one at a time.
use Rattle.std.proofs.Common.{◌≡◌, ℕ, zero, suc, ◌+◌, ◌-◌, ◌<◌, List, [], ◌++◌, append_assoc, ◌∙◌, ap, sym, arith}
use Rattle.std.proofs.lemmas.List.{append-nil}
use Rattle.hek_rules.specs.World.{World}
use Rattle.hek_machine.specs.declared.engine.Engine.{Engine}
use Rattle.hek_machine.specs.Stands.{StandsFor}
use Rattle.hek_machine.specs.Judgements.{IsShown}
use Rattle.hek_step_report.specs.StateText.{numbered}

-- with the lines of the numbers left, from `at` on, the lines so far are all
abbrev pub Numbers : Engine → (World → ℕ → List ℕ) → (World → ℕ) → ℕ → ℕ → List ℕ → (World → List ℕ) → Type 0
Numbers m text count i at lines all = (w : World) → StandsFor m w → lines ++ numbered (text w) at (count w - i) ≡ all w

numbered_more : (text : ℕ → List ℕ) (at i count : ℕ) → i < count → numbered text at (count - i) ≡ text at ++ numbered text (at + 1) (count - (i + 1))
numbered_more text at i count below =
    let one : count - i ≡ suc (count - (i + 1)) = omega (arith, below) in
    ap (numbered text at) one

numbered_all : (text : ℕ → List ℕ) (at i count : ℕ) → i ≡ count → numbered text at (count - i) ≡ []
numbered_all text at i count same =
    let none : count - i ≡ zero = omega (arith, same) in
    ap (numbered text at) none

-- the line of one more number
pub numbers_next : (m : Engine) (text : World → ℕ → List ℕ) (count : World → ℕ) (i at next n k : ℕ) (before after : List ℕ) (all : World → List ℕ) →
    i < n → IsShown m count n → k ≡ at → next ≡ at + 1 → ((w : World) → StandsFor m w → i < count w → after ≡ before ++ text w k) →
    Numbers m text count i at before all → Numbers m text count (i + 1) next after all
numbers_next m text count i at next n k before after all below counted same one added so_far w s =
    let here : i < count w = let e = counted w s in omega (arith, below, e) in
    let rest : List ℕ = numbered (text w) (at + 1) (count w - (i + 1)) in
    ap (λ (j : ℕ). after ++ numbered (text w) j (count w - (i + 1))) one
    ∙ ap (λ (xs : List ℕ). xs ++ rest) (added w s here ∙ ap (λ (j : ℕ). before ++ text w j) same)
    ∙ append_assoc before (text w at) rest
    ∙ ap (λ (xs : List ℕ). before ++ xs) (sym (numbered_more (text w) at i (count w) here))
    ∙ so_far w s

-- no number is left
pub numbers_end : (m : Engine) (text : World → ℕ → List ℕ) (count : World → ℕ) (i at n : ℕ) (lines : List ℕ) (all : World → List ℕ) →
    i ≡ n → IsShown m count n → Numbers m text count i at lines all → IsShown m all lines
numbers_end m text count i at n lines all same counted so_far w s =
    sym (so_far w s)
    ∙ ap (λ (xs : List ℕ). lines ++ xs) (numbered_all (text w) at i (count w) (let e = counted w s in omega (arith, same, e)))
    ∙ append-nil lines
