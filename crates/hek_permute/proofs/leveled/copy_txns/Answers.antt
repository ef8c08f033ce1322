use Rattle.std.proofs.Common.{◌≡◌, ◌-◌, ◌≤◌, ◌∙◌, ℕ, Some, length, ap, subst, arith}
use Rattle.std.specs.Prelude.{slice_get}
use Rattle.std.specs.List.{zip}
use Rattle.std.proofs.lemmas.List.{take_all}
use Rattle.hek_rules.specs.Plan.{names_of}
use Rattle.hek_permute.specs.Leveled.{levels_at}
use Rattle.hek_permute.proofs.Grown.{txns_more, pair_at, length_leveled}
use Rattle.hek_permute.proofs.leveled.copy_txns.Goals as goal

pub loop-place-preserved : goal.loop-place-preserved
loop-place-preserved c =
    let names = names_of c.args.schedule.now in
    let levels = levels_at c.args.level c.args.schedule.now in
    let name = c.name_of-name.result.now in
    let level = c.level_at-level.result in
    let place : c.new-txn.result - 1 ≡ c.loop-place.place = omega (arith, c.new-txn.ensures) in
    let name_here = subst (λ (n : ℕ). slice_get names n ≡ Some name) place c.name_of-name.ensures in
    let level_here = subst (λ (n : ℕ). slice_get levels n ≡ Some level) place c.level_at-level.ensures in
    txns_more c.args.made.now c.loop-place.made c.add_txn.new.self (zip names levels) c.loop-place.place (name, level) c.loop-place.invariant c.in_ok-add_txn.ensures.ok
    (pair_at names levels c.loop-place.place name level name_here level_here)

pub returns : goal.returns
returns c =
    let all = zip (names_of c.args.schedule.now) (levels_at c.args.level c.args.schedule.now) in
    let within : length all ≤ c.loop-place.place = omega (arith, length_leveled c.args.level c.args.schedule.now, c.txn_count-place-end.ensures, c.loop-place-test.false) in
    c.loop-place.invariant ∙ ap (λ txns. record c.args.made.now { txns = txns }) (take_all c.loop-place.place all within)
