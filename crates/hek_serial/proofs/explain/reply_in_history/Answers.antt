use Rattle.std.proofs.Common.{◌∙◌, ap, sym, arith}
use Rattle.std.specs.List.{zip}
use Rattle.hek_rules.specs.Recorded.{Recorded}
use Rattle.hek_rules.proofs.Zips.{zip-length}
use Rattle.hek_serial.specs.Explained.{reply_at, reply_to}
use Rattle.hek_serial.proofs.Explained.{at_is, nothing_there}
use Rattle.hek_serial.proofs.LinkSteps.{event-at}
use Rattle.hek_serial.proofs.explain.reply_in_history.Goals as goal

pub returns-then-place-events : goal.returns-then-place-events
returns-then-place-events c =
    let h = zip c.args.events.now c.args.replies.now in
    let s : Recorded = record { buckets = c.args.buckets; rows = c.args.pairs.now; levels = c.args.levels.now; history = h } in
    let long = zip-length c.args.events.now c.args.replies.now c.requires.same in
    sym (ap (reply_at s c.args.place) (nothing_there h c.args.place (omega (arith, long, c.if-place-events.true))))

pub returns-in-None : goal.returns-in-None
returns-in-None c =
    let es = c.args.events.now in
    let e = c.index-events-place.result in
    let s : Recorded = record { buckets = c.args.buckets; rows = c.args.pairs.now; levels = c.args.levels.now; history = zip es c.args.replies.now } in
    let at = event-at es c.args.place e (omega (arith, c.if-place-events.false)) c.index-events-place.is in
    ap (reply_to s c.args.place e) c.in-None.ensures ∙ sym (at_is s es c.args.replies.now c.args.place e c.requires.same at)

pub returns-in_ok-reply-in-Some : goal.returns-in_ok-reply-in-Some
returns-in_ok-reply-in-Some c =
    let es = c.args.events.now in
    let e = c.index-events-place.result in
    let s : Recorded = record { buckets = c.args.buckets; rows = c.args.pairs.now; levels = c.args.levels.now; history = zip es c.args.replies.now } in
    let at = event-at es c.args.place e (omega (arith, c.if-place-events.false)) c.index-events-place.is in
    c.in_ok-reply-in-Some.ensures e at ∙ ap (reply_to s c.args.place e) c.in-Some.ensures ∙ sym (at_is s es c.args.replies.now c.args.place e c.requires.same at)
