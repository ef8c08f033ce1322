use Rattle.std.proofs.Common.{rules, refl, ◌≡◌, [], ◌∷◌}
use Rattle.hek_explore.proofs.Classes.{none-left}
use Rattle.hek_explore.proofs.Growing.{put-first, put-more, put-last}
use Rattle.hek_explore.proofs.walk.put_all.Goals as goal

pub loop-class-init : goal.loop-class-init
loop-class-init g c = λ p form works are. put-first p form works c.args.classes.now c.args.next.now c.args.all.items are

pub loop-class-preserved : goal.loop-class-preserved
loop-class-preserved g c = λ p form works are.
    let is : c.loop-class.rest.now ≡ c.in-Some.class.now ∷ c.in-Some.later.now = search rules in
    let front : c.loop-class.all.items ≡ c.in-Some-pop_front.grown ∷ c.pop_front.new.self.items = search rules in
    put-more p form works c.args.classes.now c.args.next.now c.in-Some.class.now c.loop-class.rest.now c.in-Some.later.now c.loop-class.all.items c.in-Some-pop_front.grown c.pop_front.new.self.items c.loop-class.next c.extend.new.next
    is front c.in_ok-extend.ensures (c.loop-class.invariant p form works are)

pub returns : goal.returns
returns g c = λ whole p form works are.
    let none : c.loop-class.rest.now ≡ [] = none-left c.loop-class.rest.now (search rules) in
    put-last p form works c.args.classes.now c.args.next.now c.loop-class.rest.now c.loop-class.next c.loop-class.all.items none (c.loop-class.invariant p form works are)
