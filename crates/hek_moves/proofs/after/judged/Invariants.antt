use Rattle.std.proofs.Common.{◌≡◌, ◌++◌, drop, map}
use Rattle.hek_program.specs.declared.always.Always.{Always}
use Rattle.hek_program.specs.Conditions.{all_hold}
use Rattle.hek_program.specs.Told.{at_end}
use Rattle.hek_moves.proofs.after.judged.Given as goal

abbrev pub invariant-loop-one : goal.invariant-loop-one
invariant-loop-one l =
    l.holds.items ++ map (λ (one : Always). all_hold (at_end l.rows l.committed) one.condition) (drop l.one-index l.always)
    ≡ map (λ (one : Always). all_hold (at_end l.rows l.committed) one.condition) l.always
