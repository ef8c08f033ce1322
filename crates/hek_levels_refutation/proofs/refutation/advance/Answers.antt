use Rattle.std.proofs.Common.{List, refl, subst}
use Rattle.std.proofs.lemmas.Option.{slice_get_within}
use Rattle.hek_levels_refutation.specs.declared.claim.Shown.{Shown}
use Rattle.hek_levels_refutation.specs.Claims.{IsLastAssumed}
use Rattle.hek_levels_refutation.proofs.Boxes.{step_none, step_turned, step_more}
use Rattle.hek_levels_refutation.proofs.refutation.advance.Goals as goal

pub returns-then-not-is_contradiction : goal.returns-then-not-is_contradiction
returns-then-not-is_contradiction c =
    step_more c.args.asked.now c.args.log.now c.args.shown.now.items c.as_slice.result.now c.add.new.shown.items c.in-Some.new
    c.requires c.as_slice.ensures.value c.in-Some.ensures.follows c.in-Some.ensures.turns c.in_ok-add.ensures

pub returns : goal.returns
returns c =
    step_turned c.args.asked.now c.args.log.now c.args.shown.now.items c.as_slice.result.now c.as_slice-2.result.now c.turn_over.new.shown.items c.in-Some.new c.in-Some-last_assumed.last.place
    c.in-Some-last_assumed.last.contrary c.requires c.as_slice.ensures.value c.as_slice-2.ensures.value c.in-Some-last_assumed.ensures
    c.in-Some.ensures.follows (c.if-not-is_contradiction.ensures refl) c.in_ok-turn_over.ensures

pub returns-in_default-last_assumed : goal.returns-in_default-last_assumed
returns-in_default-last_assumed c =
    step_none c.args.asked.now c.args.log.now c.args.shown.now.items c.as_slice.result.now c.as_slice-2.result.now c.in-Some.new
    c.requires c.as_slice.ensures.value c.as_slice-2.ensures.value c.in_default-last_assumed.ensures c.in-Some.ensures.follows (c.if-not-is_contradiction.ensures refl)

pub turn_over-requires : goal.turn_over-requires
turn_over-requires c =
    let last = subst (λ (s : List Shown). IsLastAssumed s c.in-Some-last_assumed.last.place c.in-Some-last_assumed.last.contrary) c.as_slice-2.ensures.value c.in-Some-last_assumed.ensures in
    slice_get_within c.args.shown.now.items c.in-Some-last_assumed.last.place last.step last.there
