use Rattle.std.proofs.Common.{rules, ◌≡◌, ℕ, arith, ◌&&◌, eqb}
use Rattle.std.specs.Bool.{Decides}
use Rattle.std.proofs.lemmas.Slice.Eq.{slice_eq-Decides}
use Rattle.std.proofs.lemmas.Bool.Decides.{nat_tests}
use Rattle.hek_rules.proofs.lists.Pairs.same.Goals as goal

pairs_decide : (a b : ℕ × ℕ) → Decides (eqb a.0 b.0 && eqb a.1 b.1) (a ≡ b)
pairs_decide a b = grind (arith, nat_tests)

pub returns : goal.returns
returns c =
    let h : Decides c.eq.result (c.self.inside.pairs.items ≡ c.other.inside.pairs.items) = slice_eq-Decides pairs_decide _ _ _ c.eq.ensures in
    search rules
