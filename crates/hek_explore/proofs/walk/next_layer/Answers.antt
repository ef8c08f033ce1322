use Rattle.std.proofs.Common.{rules, ◌≡◌, ◌∙◌, [], ◌++◌, List, subst}
use Rattle.hek_explore.specs.Counts.{Group}
use Rattle.hek_explore.proofs.Classes.{IsPassedTo, none-left, pass-none, pass-each, pass-all}
use Rattle.hek_explore.proofs.walk.next_layer.Goals as goal

pub loop-rest-init : goal.loop-rest-init
loop-rest-init g c =
    pass-none c.args.schedule.now c.args.form c.args.moves.now c.args.layer.now c.in_ok-next.next c.classes-rest.result.now c.in_ok-next.ensures c.classes-rest.ensures

pub loop-rest-preserved : goal.loop-rest-preserved
loop-rest-preserved g c =
    pass-each c.args.schedule.now c.args.form c.args.moves.now c.args.layer.now c.split_at.result.0.now c.split_at.result.1.now c.loop-rest.next c.put_all.new.next
    (c.in_ok-put_all.ensures (search rules) c.args.schedule.now c.args.form c.args.moves.now c.in_ok-grown.ensures)
    (subst (λ (l : List Group). IsPassedTo c.args.schedule.now c.args.form c.args.moves.now c.args.layer.now c.loop-rest.next l) c.split_at.ensures.by_index.0 c.loop-rest.invariant)

pub returns : goal.returns
returns g c =
    let none : c.loop-rest.rest.now ≡ [] = none-left c.loop-rest.rest.now (search rules) in
    pass-all c.args.schedule.now c.args.form c.args.moves.now c.args.layer.now c.loop-rest.next c.loop-rest.rest.now none c.loop-rest.invariant
