-- Changes that a loop appends, number by number.
use Rattle.std.proofs.Common.{◌≡◌, ℕ, ◌+◌, List, ◌++◌, append_assoc, ◌∙◌, ap, sym, subst, add-one}
use Rattle.hek_rules.specs.World.{World}
use Rattle.hek_machine.specs.declared.engine.Engine.{Engine}
use Rattle.hek_machine.specs.Stands.{StandsFor}
use Rattle.hek_machine.specs.Judgements.{IsShown}
use Rattle.hek_why.specs.declared.change.Change.{Change}
use Rattle.hek_why.specs.Changes.{each_below, Adds}

-- the changes of the next number are appended
pub adds_next : (m n : Engine) (f : World → World → ℕ → List Change) (i v : ℕ) (a b c : List Change) → v ≡ i → Adds m n (λ w x. f w x v) b c →
    Adds m n (λ w x. each_below (f w x) i) a b → Adds m n (λ w x. each_below (f w x) (i + 1)) a c
adds_next m n f i v a b c same more so_far w x s r =
    subst (λ (k : ℕ). a ++ each_below (f w x) k ≡ c) (sym (add-one i))
    (sym (append_assoc a (each_below (f w x) i) (f w x i)) ∙ ap (λ ys. ys ++ f w x i) (so_far w x s r) ∙ ap (λ k. b ++ f w x k) (sym same) ∙ more w x s r)

-- at the end of the loop the changes of all numbers are there
pub adds_all : (m n : Engine) (f : World → World → ℕ → List Change) (number : World → ℕ) (i count : ℕ) (a b : List Change) → i ≡ count → IsShown n number count →
    Adds m n (λ w x. each_below (f w x) i) a b → Adds m n (λ w x. each_below (f w x) (number x)) a b
adds_all m n f number i count a b same shown so_far w x s r = ap (λ k. a ++ each_below (f w x) k) (shown x r ∙ sym same) ∙ so_far w x s r
