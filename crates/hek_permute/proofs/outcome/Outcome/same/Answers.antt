use Rattle.std.proofs.Common.{rules, ◌≡◌}
use Rattle.std.specs.Bool.{Decides}
use Rattle.std.proofs.lemmas.Slice.Eq.{slice_eq-Decides}
use Rattle.hek_permute.specs.declared.outcome.Ending.{Ending}
use Rattle.hek_permute.specs.contracts.outcome.EndingPartialEq.TheImpl as ending
use Rattle.hek_permute.proofs.outcome.Outcome.same.Goals as goal

ending-decides : (a b : Ending) → Decides (ending.ghosts.eq a b) (a ≡ b)
ending-decides a b = search rules

pub returns : goal.returns
returns c =
    let ends : Decides c.eq-ends.result (c.self.inside.ends.items ≡ c.other.inside.ends.items) = slice_eq-Decides ending-decides _ _ _ c.eq-ends.ensures in
    search (rules, ends)
