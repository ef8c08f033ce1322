use Rattle.std.proofs.Common.{ℕ, List, length, refl, subst}
use Rattle.std.specs.HashMap.{get}
use Rattle.std.specs.Prelude.{◌==◌}
use Rattle.hek_levels.specs.Places.{IsPlacing, AreInTurn}
use Rattle.hek_levels.proofs.Judged.{ordered_by, explained, if_ok_two}
use Rattle.hek_levels.proofs.judging.explains.Goals as goal

pub are_newest-requires-clause-placing : goal.are_newest-requires-clause-placing
are_newest-requires-clause-placing c =
    subst (λ (xs : List ℕ). IsPlacing c.args.log.now xs (length xs) (get ◌==◌ c.find_places.new.places)) c.as_slice-order.ensures.value (c.in_ok-find_places.ensures c.if-not-branch.false)

pub are_newest-requires-clause-ordered : goal.are_newest-requires-clause-ordered
are_newest-requires-clause-ordered c =
    ordered_by c.args.log.now c.args.certificate.now (get ◌==◌ c.find_places.new.places)
    (subst (λ (xs : List ℕ). IsPlacing c.args.log.now xs (length xs) (get ◌==◌ c.find_places.new.places)) c.as_slice-order.ensures.value (c.in_ok-find_places.ensures c.if-not-branch.false))
    (c.if-not-are_sourced.ensures refl) (c.in_ok-are_missing_sourced.ensures c.if-not-branch-2.false)

pub returns : goal.returns
returns c =
    if_ok_two c.are_newest.result c.are_newest.ensures.listed c.are_newest.ensures.given
    (λ yes' f g true'.
    explained c.args.asked.now c.args.log.now c.args.certificate.now (get ◌==◌ c.find_places.new.places)
    (subst (λ (xs : List ℕ). IsPlacing c.args.log.now xs (length xs) (get ◌==◌ c.find_places.new.places)) c.as_slice-order.ensures.value (c.in_ok-find_places.ensures c.if-not-branch.false))
    (c.if-not-are_sourced.ensures refl) (c.in_ok-are_missing_sourced.ensures c.if-not-branch-2.false) (c.if-not-have_all_places.ensures refl)
    (subst (λ (xs : List ℕ). AreInTurn c.args.log.now xs (length xs)) c.as_slice-order.ensures.value (c.in_ok-are_in_turn.ensures c.if-not-branch-3.false))
    (f true') (g true'))
