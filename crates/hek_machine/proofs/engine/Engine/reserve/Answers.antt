use Rattle.std.proofs.Common.{arith}
use Rattle.hek_machine.proofs.Needs.{writes-few, waits-few}
use Rattle.hek_machine.proofs.Reserves.{there-kept}
use Rattle.hek_machine.proofs.engine.Engine.reserve.Goals as goal

pub reserve_own-requires-clause-few_waits : goal.reserve_own-requires-clause-few_waits
reserve_own-requires-clause-few_waits c =
    let e = c.needs_of.ensures.waits in let f = waits-few c.args.effects.now in let s = c.needs_of.ensures.small in let g = c.requires.few in omega (arith, e, f, s, g)

pub reserve_own-requires-clause-few_writes : goal.reserve_own-requires-clause-few_writes
reserve_own-requires-clause-few_writes c =
    let e = c.needs_of.ensures.writes in let f = writes-few c.args.effects.now in let s = c.needs_of.ensures.small in let g = c.requires.few in omega (arith, e, f, s, g)

pub reserve_others-requires : goal.reserve_others-requires
reserve_others-requires c = record { there = λ e i. there-kept c.args.self.now _ c.in_ok-reserve_own.ensures.reserved e (c.requires.there e i) }
