use Rattle.std.proofs.Common.{◌≢◌, ◌-◌, All, subst, rules, arith, take-take}
use Rattle.std.proofs.lemmas.List.Elements.{All-take, All-more}
use Rattle.hek_history_log.proofs.input.len_through_line.Goals as goal

pub loop-place-preserved : goal.loop-place-preserved
loop-place-preserved c = (search rules, All-more (λ x. x ≢ 10) _ _ 0 (search rules) c.loop-place.invariant.1 (search rules))

pub returns-clause-before : goal.returns-clause-before
returns-clause-before c =
    let place = c.loop-place.place in
    subst (All (λ x. x ≢ 10)) (take-take (place - 1) place c.args.bytes.now (omega arith)) (All-take (λ x. x ≢ 10) (place - 1) _ c.loop-place.invariant.1)
