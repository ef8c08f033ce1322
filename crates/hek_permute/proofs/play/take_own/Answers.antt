use Rattle.std.proofs.Common.{rules, refl, ◌≡◌, ◌+◌, Some, take}
use Rattle.std.proofs.lemmas.Option.{slice_get_read}
use Rattle.std.specs.Prelude.{slice_get}
use Rattle.hek_permute.proofs.Seats.{own-rests, own-goes_on}
use Rattle.hek_permute.proofs.play.take_own.Goals as goal

pub returns-then-rests : goal.returns-then-rests
returns-then-rests c =
    let work : slice_get c.args.moves.now c.args.at ≡ Some c.in-Some-Some.of_one.now =
    slice_get_read c.args.moves.now _ c.args.at c.in-Some-Some.of_one.now refl c.in-Some-Some.ensures.lookup.3.0 c.in-Some-Some.ensures.lookup.1 in
    let place : slice_get c.args.places.now c.args.at ≡ Some c.in-Some-Some.place.now =
    slice_get_read c.args.places.now _ c.args.at c.in-Some-Some.place.now refl c.in-Some-Some.ensures'.lookup.3.0 c.in-Some-Some.ensures'.lookup.1 in
    let who : c.in_ok-txn.txn ≡ c.args.at + 1 = search rules in
    own-rests c.args.form c.args.moves.now (take c.args.before c.args.history.now) c.args.history.now c.front_of-old.result.now c.args.places.now c.args.at c.args.turn c.args.reply.now
    c.in-Some-Some.of_one.now c.in-Some-Some.place.now c.in-Some.later c.in_ok-txn.txn c.answered.result c.rests.result work place who c.front_of-old.ensures c.answered.ensures
    c.in-Some.is c.rests.ensures c.passed.result c.if-rests.true c.passed.ensures

pub returns-else-rests : goal.returns-else-rests
returns-else-rests c =
    let work : slice_get c.args.moves.now c.args.at ≡ Some c.in-Some-Some.of_one.now =
    slice_get_read c.args.moves.now _ c.args.at c.in-Some-Some.of_one.now refl c.in-Some-Some.ensures.lookup.3.0 c.in-Some-Some.ensures.lookup.1 in
    let place : slice_get c.args.places.now c.args.at ≡ Some c.in-Some-Some.place.now =
    slice_get_read c.args.places.now _ c.args.at c.in-Some-Some.place.now refl c.in-Some-Some.ensures'.lookup.3.0 c.in-Some-Some.ensures'.lookup.1 in
    let who : c.in_ok-txn.txn ≡ c.args.at + 1 = search rules in
    own-goes_on c.args.form c.args.moves.now (take c.args.before c.args.history.now) c.args.history.now c.front_of-old.result.now c.args.places.now c.args.at c.args.turn c.args.reply.now
    c.in-Some-Some.of_one.now c.in-Some-Some.place.now c.in-Some.later c.in_ok-txn.txn c.answered.result c.rests.result work place who c.front_of-old.ensures c.answered.ensures
    c.in-Some.is c.rests.ensures c.if-rests.false
