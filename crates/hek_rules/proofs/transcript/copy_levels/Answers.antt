use Rattle.std.proofs.Common.{◌≡◌, ◌-◌, ℕ, Some, slice_get, subst, arith}
use Rattle.hek_rules.specs.Plan.{levels_of}
use Rattle.hek_rules.proofs.TakeLemmas.{pushed}
use Rattle.hek_rules.proofs.transcript.copy_levels.Goals as goal

pub loop-place-preserved : goal.loop-place-preserved
loop-place-preserved c =
    let place : c.new.result - 1 ≡ c.loop-place.place = omega (arith, c.new.ensures) in
    let here = subst (λ (n : ℕ). slice_get (levels_of c.args.schedule.now) n ≡ Some c.level_of.result) place c.level_of.ensures in
    pushed (levels_of c.args.schedule.now) c.loop-place.levels.items c.push.new.self.items c.loop-place.place c.level_of.result c.loop-place.invariant c.in_ok-push.ensures.items here
