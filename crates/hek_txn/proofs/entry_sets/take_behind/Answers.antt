use Rattle.std.proofs.Common.{◌-◌, ◌<◌, ap, length, Vec, Global, arith}
use Rattle.hek_txn.proofs.Held.{none_behind, taken_behind}
use Rattle.hek_txn.proofs.entry_sets.take_behind.Goals as goal

pub returns-then-eq-clause-items : goal.returns-then-eq-clause-items
returns-then-eq-clause-items g c =
    let same = ap (λ (v : Vec g.row.T.Denot Global). v.items) c.loop-place.invariant.kept in
    let within : c.loop-place.place - 1 < length c.args.items.now.items = omega (arith, c.loop-place-test.true, c.loop-place.auto.place, c.len-place.ensures, c.args.items.now.ok) in
    taken_behind g.T.PartialEq.eq g.met.T.Eq.laws c.args.item c.index.result.now c.eq.result c.args.gone (c.loop-place.place - 1) c.args.items.now.items c.loop-place.items.items c.remove.new.self.items same
    c.remove.ensures.items c.index.ensures c.eq.ensures c.if-eq.true c.requires.once (omega (arith, c.loop-place-test.true)) within

pub returns-clause-items : goal.returns-clause-items
returns-clause-items g c =
    let same = ap (λ (v : Vec g.row.T.Denot Global). v.items) c.loop-place.invariant.kept in
    none_behind (g.T.PartialEq.eq c.args.item) c.loop-place.place c.args.gone c.args.items.now.items c.loop-place.items.items same c.loop-place-test.false c.loop-place.invariant.none
