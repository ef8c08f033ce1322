use Rattle.std.proofs.Common.{rules, ◌≡◌, [], ◌∷◌}
use Rattle.hek_explore.proofs.Classes.{extending-none, extending-more, extending-all}
use Rattle.hek_explore.proofs.walk.extend.Goals as goal

pub loop-found-init : goal.loop-found-init
loop-found-init g c = λ p form works are. extending-none p form works c.args.class.now c.args.next.now c.args.grown are

pub loop-found-preserved : goal.loop-found-preserved
loop-found-preserved g c = λ p form works are.
    let is : c.loop-found.grown ≡ c.in-Some.found ∷ c.take_first.new.self = search rules in
    extending-more p form works c.args.class.now c.args.next.now c.loop-found.next c.put.new.next c.in-Some.found c.take_first.new.self c.loop-found.grown is
    c.in_ok-put.ensures (c.loop-found.invariant p form works are)

pub returns : goal.returns
returns g c = λ p form works are.
    let none : c.loop-found.grown ≡ [] = search rules in
    extending-all p form works c.args.class.now c.args.next.now c.loop-found.next c.loop-found.grown none (c.loop-found.invariant p form works are)
