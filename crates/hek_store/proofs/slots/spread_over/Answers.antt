use Rattle.std.proofs.Common.{◌+◌, ◌*◌, ◌/◌, ◌%◌, ◌<◌, length, ◌++◌, ◌∷◌, [], refl, sym, ◌∙◌, ap, arith, mod-lt, take}
use Rattle.hek_store.specs.Chained.{keys_of, no_ends}
use Rattle.hek_store.proofs.Added.{last_in, same_item, buckets_after, keys_take}
use Rattle.hek_store.proofs.slots.spread_over.Goals as goal

pub append-now-requires-clause-last : goal.append-now-requires-clause-last
append-now-requires-clause-last c =
    let slots = c.capacity-count.result / 2 * 2 + 1 in
    let slot = c.index.result.now.key % slots in
    let some : 0 < slots = omega arith in
    let below : slot < slots = mod-lt c.index.result.now.key some in
    let count = c.loop-place.invariant.chained.count in
    let here : slot < length c.loop-place.ends.items = omega (arith, count, below) in
    last_in (λ k. k % slots) slot (keys_of (take c.loop-place.place c.args.versions.now.items)) c.loop-place.links.items c.index-in-loop-place.result.now
    c.loop-place.invariant.chained.linked
    (c.index-in-loop-place.ensures ∙ same_item c.loop-place.ends.items slot c.index-in-loop-place.result.now no_ends here ∙ c.loop-place.invariant.chained.ended slot below)

pub loop-place-preserved : goal.loop-place-preserved
loop-place-preserved c =
    let slots = c.capacity-count.result / 2 * 2 + 1 in
    let key = c.index.result.now.key in
    let slot = key % slots in
    let some : 0 < slots = omega arith in
    let below : slot < slots = mod-lt key some in
    let count = c.loop-place.invariant.chained.count in
    let here : slot < length c.loop-place.ends.items = omega (arith, count, below) in
    let within = c.loop-place-test.true in
    let long = c.len-place-end.ensures in
    let new_keys = keys_take c.args.versions.now.items c.loop-place.place c.index.result.now (omega (arith, within, long))
    ∙ ap (λ x. keys_of (take c.loop-place.place c.args.versions.now.items) ++ x.key ∷ []) (sym c.index.ensures) in
    record {
      chained = buckets_after slots key slot (keys_of (take c.loop-place.place c.args.versions.now.items)) (keys_of (take (c.loop-place.place + 1) c.args.versions.now.items)) c.loop-place.links.items
          c.append-now.new.links.items c.loop-place.ends.items c.index-in-loop-place.result.now c.append-now.result some refl below c.loop-place.invariant.chained
          (c.index-in-loop-place.ensures ∙ same_item c.loop-place.ends.items slot c.index-in-loop-place.result.now no_ends here)
          new_keys c.append-now.ensures.links c.append-now.ensures.ends;
      len = let more = c.append-now.ensures.len in let was = c.loop-place.invariant.len in omega (arith, more, was);
      room = c.append-now.ensures.capacity ∙ c.loop-place.invariant.room;
    }
