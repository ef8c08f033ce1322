use Rattle.std.proofs.Common.{◌≡◌, ◌+◌, ◌-◌, ◌<◌, ◌++◌, drop, length, set, take, ap, ◌∙◌, sym, subst, arith}
use Rattle.hek_rules.specs.Events.{txn_of}
use Rattle.hek_serial.specs.Links.{next_in, with_near, with_far}
use Rattle.hek_serial.proofs.LinkSteps.{AreFrom, none_linked, all_linked, one_linked, event-at, near_back}
use Rattle.hek_serial.proofs.links.Links.new.Goals as goal

pub loop-place-init : goal.loop-place-init
loop-place-init c =
    none_linked c.args.events.now c.args.below c.in_ok-near.near.items c.in_ok-next.next.items c.new-far.result (c.in_ok-near.ensures.items_if_clones_equal (λ y h. h)) c.new-far.ensures
    (omega (arith, c.in_ok-next.ensures.len))

pub loop-place-preserved : goal.loop-place-preserved
loop-place-preserved c =
    let es = c.args.events.now in
    let i = c.loop-place.place - 1 in
    let e = c.index-events-place.result in
    let near = c.loop-place.near.items in
    let far = c.loop-place.far in
    let some = c.loop-place-test.true in
    let next : c.loop-place.place ≡ i + 1 = omega (arith, some) in
    let within = c.loop-place.auto.place in
    let inside : i < length es = omega (arith, some, within) in
    let before : AreFrom es (i + 1) near far c.loop-place.next.items = subst (λ n. AreFrom es n near far c.loop-place.next.items) next c.loop-place.invariant in
    let after = one_linked es i e near far c.loop-place.next.items inside (event-at es i e inside c.index-events-place.is) before in
    let was : c.deref_mut.result.now ≡ near = c.deref_mut.ensures.value in
    let back = near_back near c.link.new.near (drop (length c.link.new.near) near) i c.loop-place.near.len (txn_of e) (c.in_ok-next-2.ensures.near ∙ ap (λ ns. with_near ns i (txn_of e)) was) c.loop-place.near.ok.0 in
    subst (λ n. AreFrom es i (take c.loop-place.near.len (c.link.new.near ++ drop (length c.link.new.near) near)) c.link.new.far (set c.loop-place.next.items i n)) (sym (c.in_ok-next-2.ensures.next ∙ ap (λ ns. next_in ns far (length es) (txn_of e)) was))
    (subst (λ f. AreFrom es i (take c.loop-place.near.len (c.link.new.near ++ drop (length c.link.new.near) near)) f (set c.loop-place.next.items i (next_in near far (length es) (txn_of e)))) (sym (c.in_ok-next-2.ensures.far ∙ ap (λ ns. with_far ns far i (txn_of e)) was))
    (subst (λ ns. AreFrom es i ns (with_far near far i (txn_of e)) (set c.loop-place.next.items i (next_in near far (length es) (txn_of e)))) (sym back) after))

pub returns : goal.returns
returns c =
    let end : c.loop-place.place ≡ 0 = omega (arith, c.loop-place-test.false) in
    all_linked _ _ _ _ (subst (λ n. AreFrom c.args.events.now n c.loop-place.near.items c.loop-place.far c.loop-place.next.items) end c.loop-place.invariant)
