use Rattle.std.proofs.Common.{rules, refl, ◌≡◌, ◌+◌, Some}
use Rattle.std.proofs.lemmas.Option.{slice_get_read}
use Rattle.std.specs.Prelude.{slice_get}
use Rattle.hek_permute.proofs.Seats.{sends-goes, sends-asks}
use Rattle.hek_permute.proofs.play.send.Goals as goal

pub returns-then-may_go : goal.returns-then-may_go
returns-then-may_go c =
    let work : slice_get c.args.moves.now c.args.at ≡ Some c.in-Some-Some.of_one.now =
    slice_get_read c.args.moves.now _ c.args.at c.in-Some-Some.of_one.now refl c.in-Some-Some.ensures.lookup.3.0 c.in-Some-Some.ensures.lookup.1 in
    let place : slice_get c.args.places.now c.args.at ≡ Some c.in-Some-Some.place.now =
    slice_get_read c.args.places.now _ c.args.at c.in-Some-Some.place.now refl c.in-Some-Some.ensures'.lookup.3.0 c.in-Some-Some.ensures'.lookup.1 in
    let who : c.in_ok-txn.txn ≡ c.args.at + 1 = search rules in
    sends-goes c.args.form c.args.moves.now c.args.history.now c.args.places.now c.args.at c.in-Some-Some.of_one.now c.in-Some-Some.place.now c.in_ok-txn.txn c.may_go.result
    work place who c.may_go.ensures c.if-may_go.true

pub returns-else-may_go : goal.returns-else-may_go
returns-else-may_go c =
    let work : slice_get c.args.moves.now c.args.at ≡ Some c.in-Some-Some.of_one.now =
    slice_get_read c.args.moves.now _ c.args.at c.in-Some-Some.of_one.now refl c.in-Some-Some.ensures.lookup.3.0 c.in-Some-Some.ensures.lookup.1 in
    let place : slice_get c.args.places.now c.args.at ≡ Some c.in-Some-Some.place.now =
    slice_get_read c.args.places.now _ c.args.at c.in-Some-Some.place.now refl c.in-Some-Some.ensures'.lookup.3.0 c.in-Some-Some.ensures'.lookup.1 in
    let who : c.in_ok-txn.txn ≡ c.args.at + 1 = search rules in
    sends-asks c.args.form c.args.moves.now c.args.history.now c.args.places.now c.args.at c.in-Some-Some.of_one.now c.in-Some-Some.place.now c.in_ok-txn.txn c.may_go.result
    work place who c.may_go.ensures c.asks.result c.if-may_go.false c.asks.ensures
