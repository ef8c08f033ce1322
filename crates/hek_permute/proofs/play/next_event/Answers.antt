use Rattle.std.proofs.Common.{rules, refl, ◌≡◌, ◌+◌, Some}
use Rattle.std.proofs.lemmas.Option.{slice_get_read}
use Rattle.std.specs.Prelude.{slice_get}
use Rattle.hek_permute.proofs.Seats.{next-own}
use Rattle.hek_permute.proofs.play.next_event.Goals as goal

pub returns-in_ok-txn-in-Goes : goal.returns-in_ok-txn-in-Goes
returns-in_ok-txn-in-Goes c =
    let work : slice_get c.args.moves.now c.in-Goes.at ≡ Some c.in-Some-Some.of_one.now =
    slice_get_read c.args.moves.now _ c.in-Goes.at c.in-Some-Some.of_one.now refl c.in-Some-Some.ensures.lookup.3.0 c.in-Some-Some.ensures.lookup.1 in
    let place : slice_get c.args.places.now c.in-Goes.at ≡ Some c.in-Some-Some.place.now =
    slice_get_read c.args.places.now _ c.in-Goes.at c.in-Some-Some.place.now refl c.in-Some-Some.ensures'.lookup.3.0 c.in-Some-Some.ensures'.lookup.1 in
    let who : c.in_ok-txn-in-Goes.txn ≡ c.in-Goes.at + 1 = search rules in
    next-own c.args.form c.args.moves.now c.args.mover c.args.history.now c.args.places.now c.args.turn c.in-Goes.at c.in-Some-Some.of_one.now c.in-Some-Some.place.now
    c.in_ok-txn-in-Goes.txn c.event.result c.in-Goes.is work place who c.event.ensures
