use Rattle.std.proofs.Common.{◌≡◌, ℕ, true, refl}
use Rattle.std.specs.Prelude.{is_some}
use Rattle.hek_levels.specs.Absences.{given_in_map}
use Rattle.hek_levels.proofs.Turned.{element-more, element-all}
use Rattle.hek_levels.proofs.absent.are_given.Goals as goal

pub loop-m-preserved : goal.loop-m-preserved
loop-m-preserved c =
    element-more (λ (key : ℕ). is_some (given_in_map c.args.map.now c.args.n key) ≡ true) c.as_slice-keys.result.now c.loop-m.m c.loop-m.invariant (c.if-not-is_given.ensures refl)

pub returns : goal.returns
returns c is_so key missed there =
    let f = c.in_ok-list.ensures key missed there in
    element-all (λ (k : ℕ). is_some (given_in_map c.args.map.now c.args.n k) ≡ true) c.as_slice-keys.result.now c.in_ok-list.list.items c.loop-m.m c.as_slice-keys.ensures.value c.loop-m-test.false c.loop-m.invariant f.0 key f.1
