use Rattle.std.proofs.Common.{◌≡◌, ◌-◌, ◌<◌, Option, Some, length, subst, sym, arith}
use Rattle.std.specs.Prelude.{slice_get}
use Rattle.hek_rules.specs.declared.event.Level.{Level}
use Rattle.hek_permute.specs.Leveled.{levels_at}
use Rattle.hek_permute.proofs.Grown.{const_at}
use Rattle.hek_permute.proofs.leveled.level_at.Goals as goal

pub returns-in-Some : goal.returns-in-Some
returns-in-Some c =
    let within : c.args.txn - 1 < length c.args.schedule.now.txns = omega (arith, c.requires) in
    subst (λ (given : Option Level). slice_get (levels_at given c.args.schedule.now) (c.args.txn - 1) ≡ Some c.in-Some.level) (sym c.in-Some.is)
    (const_at c.args.schedule.now.txns c.in-Some.level (c.args.txn - 1) within)
