use Rattle.hek_machine.proofs.Reserves.{reserved-shows}
use Rattle.hek_machine.proofs.Joining.{reserved_kept}
use Rattle.hek_machine.proofs.EffectTurns.{kept-more}
use Rattle.hek_machine.proofs.RuleWalks.{effects_there, reserved-ordered, reserved-back, reserved-stands, on_err}
use Rattle.hek_machine.proofs.engine.Engine.carry_out.Goals as goal

pub reserve-requires-clause-there : goal.reserve-requires-clause-there
reserve-requires-clause-there c = effects_there c.args.self.now c.args.t c.args.effects.now c.requires.ordered c.requires.allowed

pub apply_all-requires-clause-ordered : goal.apply_all-requires-clause-ordered
apply_all-requires-clause-ordered c = reserved-ordered c.args.self.now c.reserve.new.self c.in_ok-reserve.ensures.reserved c.requires.ordered

pub apply_all-requires-clause-allowed : goal.apply_all-requires-clause-allowed
apply_all-requires-clause-allowed c = λ w s. c.requires.allowed w (reserved-back c.args.self.now c.reserve.new.self c.in_ok-reserve.ensures.reserved w s)

pub returns-in_err-reserve-clause-still : goal.returns-in_err-reserve-clause-still
returns-in_err-reserve-clause-still c = on_err _ _ (reserved-shows c.args.self.now c.reserve.new.self c.reserve.ensures.reserved)

pub returns-clause-done : goal.returns-clause-done
returns-clause-done c = λ w s. c.apply_all.ensures.shows w (reserved-stands c.args.self.now c.reserve.new.self c.in_ok-reserve.ensures.reserved w s)

pub returns-clause-kept : goal.returns-clause-kept
returns-clause-kept c =
    kept-more c.args.self.now c.reserve.new.self c.apply_all.new.self c.args.t (reserved_kept c.args.self.now c.reserve.new.self c.args.t c.in_ok-reserve.ensures.reserved) c.apply_all.ensures.kept
