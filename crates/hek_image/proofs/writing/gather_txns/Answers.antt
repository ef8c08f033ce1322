use Rattle.std.proofs.Common.{◌≡◌, ◌++◌, ℕ, ◌-◌, Some, slice_get, map, List, subst, arith, ap, ◌∙◌}
use Rattle.std.specs.Map.{keys_of}
use Rattle.std.proofs.lemmas.Grind.{common_steps}
use Rattle.hek_rules.specs.declared.event.Level.{Level}
use Rattle.hek_image.specs.Schedules.{txn_bytes}
use Rattle.hek_image.proofs.Parts.{at_place, one_more, pair_at, two_parts}
use Rattle.hek_image.proofs.writing.gather_txns.Goals as goal

pub loop-place-preserved : goal.loop-place-preserved
loop-place-preserved g c =
    let ts = c.args.schedule.now.txns in
    let i = c.loop-place.place in
    let so_far = c.loop-place.invariant in
    let front = c.in_ok-gather.ensures in
    let rest = c.in_ok-gather-2.ensures in
    let first = g.S.Sink.holds c.loop-place.sink ++ c.loop-place.block.items in
    let name = c.name_of-name.result.now in
    let level = c.level_of.result in
    let place : c.new-txn.result - 1 ≡ i = omega (arith, c.new-txn.ensures) in
    let here = subst (λ (n : ℕ). slice_get (keys_of ts) n ≡ Some name) place c.name_of-name.ensures in
    let there = subst (λ (n : ℕ). slice_get (map (λ (p : List ℕ × Level). p.1) ts) n ≡ Some level) place c.level_of.ensures in
    let bytes : c.as_slice.result.now ++ c.as_bytes.result.now ≡ txn_bytes (name, level) = grind (arith, common_steps) in
    record {
      works = rest.fails;
      tells = λ told. rest.tells (front.tells (so_far.tells told));
      bytes = λ told.
          let told1 = so_far.tells told in
          let told2 = front.tells told1 in
          let both = two_parts _ _ _ _ _ (front.ok told1) (rest.ok told2) ∙ ap (λ (bs : List ℕ). first ++ bs) bytes in
          one_more txn_bytes ts i (name, level) first _ _ (at_place ts i (name, level) (pair_at ts i name level here there)) both (so_far.bytes told);
    }
