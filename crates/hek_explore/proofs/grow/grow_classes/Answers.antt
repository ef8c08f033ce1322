use Rattle.std.proofs.Common.{rules, refl, ◌≡◌, [], ◌∷◌}
use Rattle.hek_explore.proofs.Classes.{none-left}
use Rattle.hek_explore.proofs.Growing.{grown-first, grown-more, grown-last}
use Rattle.hek_explore.proofs.grow.grow_classes.Goals as goal

pub loop-class-init : goal.loop-class-init
loop-class-init c = grown-first c.args.schedule.now c.args.form c.args.moves.now c.args.classes.now c.args.classes.now c.in_ok-all.all.items refl (search rules)

pub loop-class-preserved : goal.loop-class-preserved
loop-class-preserved c =
    let is : c.loop-class.rest.now ≡ c.in-Some.class.now ∷ c.in-Some.later.now = search rules in
    grown-more c.args.schedule.now c.args.form c.args.moves.now c.args.classes.now c.in-Some.class.now c.loop-class.rest.now c.in-Some.later.now c.loop-class.all.items c.push_back.new.self.items
    c.in_ok-grow_class.field-0 is (search rules) c.in_ok-grow_class.ensures c.loop-class.invariant

pub returns : goal.returns
returns c =
    let none : c.loop-class.rest.now ≡ [] = none-left c.loop-class.rest.now (search rules) in
    grown-last c.args.schedule.now c.args.form c.args.moves.now c.args.classes.now c.loop-class.rest.now c.loop-class.all.items none c.loop-class.invariant
