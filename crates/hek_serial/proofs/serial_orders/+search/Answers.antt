use Rattle.std.proofs.Common.{◌≡◌, ◌<◌, ℕ, List, [], ◌∷◌, ap, refl, arith, length}
use Rattle.std.proofs.lemmas.Bool.Decides.{nat_tests}
use Rattle.std.specs.List.{zip}
use Rattle.hek_serial.specs.SerialOrders.{IsSerialFrom}
use Rattle.hek_serial.proofs.SerialOrders.{next-among, none-among, without-shorter}
use Rattle.hek_serial.proofs.serial_orders.+search.Goals as goal

pub loop-t-init : goal.loop-t-init
loop-t-init t c = record { rows = refl; untried = λ u ts follows. next-among (zip c.args.events.now c.args.replies.now) c.args.left.now u follows.0 }

pub search-requires : goal.search-requires
search-requires t c =
    let turn = rw c.in-Some-turn.is at c.in_ok-turn.ensures in
    let h = zip c.args.events.now c.args.replies.now in
    let shorter = without-shorter c.args.left.now c.in-Some.t.now (next-among h c.args.left.now c.in-Some.t.now turn.next) in
    (omega (arith, ap length c.deref.ensures.value, ap length turn.others, shorter, c.decreases), (c.requires.same, c.requires.links))

pub returns-clause-found : goal.returns-clause-found
returns-clause-found t c [] follows = grind (arith, nat_tests, ap length follows, c.if-is_empty.ensures)
returns-clause-found t c (u ∷ ts) follows = none-among c.loop-t.untried.now u c.in_default.ensures.cases (c.loop-t.invariant.untried u ts follows)
