use Rattle.std.proofs.Common.{rules, ◌≡◌}
use Rattle.std.specs.Bool.{Decides}
use Rattle.std.specs.Cmp.{unsigned_Decides}
use Rattle.std.proofs.lemmas.Slice.Eq.{slice_eq-Decides}
use Rattle.hek_permute.proofs.find.is_that.Goals as goal

pub returns-in-Some : goal.returns-in-Some
returns-in-Some c =
    let same : Decides c.eq.result (c.as_slice.result.now ≡ c.args.front.now) = slice_eq-Decides unsigned_Decides _ _ _ c.eq.ensures in
    search (rules, same)
