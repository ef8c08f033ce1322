use Rattle.std.proofs.Common.{arith, ◌∷◌, [], ◌++◌, take, subst, ℕ}
use Rattle.hek_permute.specs.Moves.{counts_of}
use Rattle.hek_permute.specs.Numbers.{AreTooMany}
use Rattle.hek_permute.proofs.Counting.{too_many_all}
use Rattle.hek_permute.proofs.number.count_of.Goals as goal

pub returns-in_err-count : goal.returns-in_err-count
returns-in_err-count c =
    rw c.from_residual.ensures
    (too_many_all c.args.form c.args.moves.now c.loop-of_one.of_one-index c.of_one-item.result (omega arith) c.of_one-item.is
    (subst (λ (n : ℕ). AreTooMany (counts_of c.args.form (take c.loop-of_one.of_one-index c.args.moves.now) ++ n ∷ [])) c.move_count.ensures
    (c.in_err-count.ensures (counts_of c.args.form (take c.loop-of_one.of_one-index c.args.moves.now)) c.loop-of_one.invariant)))
