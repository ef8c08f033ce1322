use Rattle.std.proofs.Common.{◌≡◌, ℕ, drop, subst, sym}
use Rattle.hek_permute.specs.Plays.{shown_to, skips}
use Rattle.hek_permute.proofs.Acts.{IsOther, some-goes-on, none-goes-on}
use Rattle.hek_permute.proofs.moves.Moves.is_skipped.Goals as goal

pub returns-in-Some-Makes-clause-goes_on : goal.returns-in-Some-Makes-clause-goes_on
returns-in-Some-Makes-clause-goes_on c = λ _.
    subst (λ (t : ℕ). skips (drop c.args.place (shown_to c.args.self.now t c.args.history.now).acts) ≡ 0) c.new.ensures
    (some-goes-on (shown_to c.args.self.now c.new.result c.args.history.now).acts c.args.place c.act.result c.in-Some-Makes.field-0 c.act.ensures c.in-Some-Makes.is
    (subst IsOther (sym c.in-Some-Makes.field-0-is) tt))

pub returns-in-Some-Fails-clause-goes_on : goal.returns-in-Some-Fails-clause-goes_on
returns-in-Some-Fails-clause-goes_on c = λ _.
    subst (λ (t : ℕ). skips (drop c.args.place (shown_to c.args.self.now t c.args.history.now).acts) ≡ 0) c.new.ensures
    (some-goes-on (shown_to c.args.self.now c.new.result c.args.history.now).acts c.args.place c.act.result c.in-Some-Fails.field-0 c.act.ensures c.in-Some-Fails.is
    (subst IsOther (sym c.in-Some-Fails.field-0-is) tt))

pub returns-in-None-clause-goes_on : goal.returns-in-None-clause-goes_on
returns-in-None-clause-goes_on c = λ _.
    subst (λ (t : ℕ). skips (drop c.args.place (shown_to c.args.self.now t c.args.history.now).acts) ≡ 0) c.new.ensures
    (none-goes-on (shown_to c.args.self.now c.new.result c.args.history.now).acts c.args.place c.act.result c.act.ensures c.in-None.is)
