use Rattle.std.proofs.Common.{subst, arith}
use Rattle.std.specs.List.{zip}
use Rattle.hek_rules.proofs.Zips.{zip-length}
use Rattle.hek_serial.specs.Ends.{AreEnds}
use Rattle.hek_serial.proofs.EndSteps.{ends_more, all_taken}
use Rattle.hek_serial.proofs.Judged.{entry_at}
use Rattle.hek_serial.proofs.ends.end_times.Goals as goal

pub loop-i-preserved : goal.loop-i-preserved
loop-i-preserved c =
    let es = c.args.events.now in
    let rs = c.args.replies.now in
    let e = c.index-events-i.result in
    let r = c.index-replies-i.result in
    let at = entry_at es rs c.loop-i.i e r c.requires c.loop-i-test.true c.index-events-i.is c.index-replies-i.is in
    ends_more (zip es rs) c.loop-i.i e r c.loop-i.ends c.note_end.new.ends at c.loop-i.invariant c.in_ok-note_end.ensures

pub returns : goal.returns
returns c =
    let h = zip c.args.events.now c.args.replies.now in
    let long = zip-length c.args.events.now c.args.replies.now c.requires in
    subst (λ g. AreEnds g c.loop-i.ends) (all_taken h c.loop-i.i (omega (arith, long))) c.loop-i.invariant
