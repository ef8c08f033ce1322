use Rattle.std.proofs.Common.{rules, ◌≡◌}
use Rattle.std.specs.Bool.{Decides}
use Rattle.std.proofs.lemmas.Slice.Eq.{slice_eq-Decides}
use Rattle.std.proofs.lemmas.Bool.Decides.{Decides-eqb}
use Rattle.hek_rules.proofs.lists.Members.same.Goals as goal

pub returns : goal.returns
returns c =
    let h : Decides c.eq.result (c.self.inside.members.value.items ≡ c.other.inside.members.value.items) = slice_eq-Decides Decides-eqb _ _ _ c.eq.ensures in
    search rules
