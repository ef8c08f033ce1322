use Rattle.std.proofs.Common.{◌≡◌, ◌∙◌, ◌+◌, ◌++◌, ap, sym, subst, arith}
use Rattle.std.specs.List.{zip}
use Rattle.hek_rules.specs.Serial.{write_of, writes_of}
use Rattle.hek_rules.proofs.Zips.{zip-length}
use Rattle.hek_serial.specs.Links.{IsNextOf}
use Rattle.hek_serial.proofs.EndSteps.{all_taken}
use Rattle.hek_serial.proofs.Judged.{entry_at}
use Rattle.hek_serial.proofs.LinkSteps.{first_is}
use Rattle.hek_serial.proofs.Skips.{writes-between}
use Rattle.hek_serial.proofs.Undo.{writes_one_more}
use Rattle.hek_serial.proofs.serial_orders.writes_by.Goals as goal

pub loop-at-init : goal.loop-at-init
loop-at-init c =
    let es = c.args.events.now in
    let rs = c.args.replies.now in
    let is = first_is es c.args.links.now.near.items c.args.links.now.far c.args.links.now.next.items c.args.t c.first-at.result c.requires.links c.first-at.ensures in
    record { within = is.within; here = is.there; writes = c.new-writes.ensures.items ∙ sym (writes-between c.args.t es rs 0 c.first-at.result is.on is.between) }

pub loop-at-preserved : goal.loop-at-preserved
loop-at-preserved c =
    let es = c.args.events.now in
    let rs = c.args.replies.now in
    let t = c.args.t in
    let i = c.loop-at.at in
    let n = c.next-at.result in
    let e = c.index-events-at.result in
    let r = c.index-replies-at.result in
    let at = entry_at es rs i e r c.requires.same c.loop-at-test.true c.index-events-at.is c.index-replies-at.is in
    let is = subst (IsNextOf t es (i + 1)) (sym c.next-at.ensures) (c.requires.links.follows t i (c.loop-at.invariant.here c.loop-at-test.true)) in
    record {
      within = is.within;
      here = is.there;
      writes = c.in_ok-push_write.ensures ∙ ap (λ ws. ws ++ write_of t e r) c.loop-at.invariant.writes
          ∙ sym (writes_one_more t (zip es rs) i e r at) ∙ sym (writes-between t es rs (i + 1) n is.on is.between);
    }

pub loop-at-smaller : goal.loop-at-smaller
loop-at-smaller c =
    let is = c.requires.links.follows c.args.t c.loop-at.at (c.loop-at.invariant.here c.loop-at-test.true) in
    let on = is.on in
    let within = is.within in
    omega (arith, on, within, c.next-at.ensures, c.loop-at-test.true)

pub next-at-requires : goal.next-at-requires
next-at-requires c = let long = c.requires.links.long in omega (arith, long, c.loop-at-test.true)

pub returns : goal.returns
returns c =
    let long = zip-length c.args.events.now c.args.replies.now c.requires.same in
    c.loop-at.invariant.writes ∙ ap (writes_of c.args.t) (all_taken (zip c.args.events.now c.args.replies.now) c.loop-at.at (omega (arith, long, c.loop-at-test.false)))
