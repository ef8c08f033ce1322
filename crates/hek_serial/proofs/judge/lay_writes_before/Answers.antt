use Rattle.std.proofs.Common.{◌∙◌, ◌+◌, ◌<◌, length, ap, sym, subst, arith}
use Rattle.std.specs.List.{zip}
use Rattle.hek_rules.specs.Serial.{write_of, lay_all}
use Rattle.hek_serial.specs.BucketRows.{BucketRows}
use Rattle.hek_serial.specs.Links.{IsNextOf}
use Rattle.hek_serial.proofs.Judged.{entry_at}
use Rattle.hek_serial.proofs.LinkSteps.{first_is}
use Rattle.hek_serial.proofs.Skips.{writes-between}
use Rattle.hek_serial.proofs.Undo.{lay_one_more}
use Rattle.hek_serial.proofs.judge.lay_writes_before.Goals as goal

pub loop-at-init : goal.loop-at-init
loop-at-init c =
    let t = c.args.t in
    let rows = c.args.rows.now in
    let is = first_is c.args.events.now c.args.links.now.near.items c.args.links.now.far c.args.links.now.next.items t c.first-at.result c.requires.links c.first-at.ensures in
    record {
      within = is.within;
      here = is.there;
      skipped = λ j a l. is.between j (omega arith) l;
      rows = ap (λ ws. record { buckets = rows.buckets; rows = lay_all ws rows.rows }) (sym (writes-between t c.args.events.now c.args.replies.now 0 c.first-at.result is.on is.between));
    }

pub loop-at-preserved : goal.loop-at-preserved
loop-at-preserved c =
    let es = c.args.events.now in
    let rs = c.args.replies.now in
    let h = zip es rs in
    let t = c.args.t in
    let i = c.loop-at.at in
    let n = c.next-at.result in
    let e = c.index-events-at.result in
    let r = c.index-replies-at.result in
    let rows = c.args.rows.now in
    let inside : i < length es = omega (arith, c.loop-at-test.true, c.requires.within) in
    let at = entry_at es rs i e r c.requires.same inside c.index-events-at.is c.index-replies-at.is in
    let is = subst (IsNextOf t es (i + 1)) (sym c.next-at.ensures) (c.requires.links.follows t i (c.loop-at.invariant.here inside)) in
    record {
      within = is.within;
      here = is.there;
      skipped = λ j a l. is.between j (omega (arith, a, c.loop-at-test.true)) l;
      rows = c.in_ok-lay_at.ensures ∙ ap (λ (s : BucketRows). record { buckets = s.buckets; rows = lay_all (write_of t e r) s.rows }) c.loop-at.invariant.rows
          ∙ ap (λ xs. record { buckets = rows.buckets; rows = xs })
          (sym (lay_one_more t h i e r rows.rows at) ∙ ap (λ ws. lay_all ws rows.rows) (sym (writes-between t es rs (i + 1) n is.on is.between)));
    }

pub loop-at-smaller : goal.loop-at-smaller
loop-at-smaller c =
    let is = c.requires.links.follows c.args.t c.loop-at.at (c.loop-at.invariant.here (omega (arith, c.loop-at-test.true, c.requires.within))) in
    let on = is.on in
    let within = is.within in
    omega (arith, on, within, c.next-at.ensures, c.loop-at-test.true, c.requires.within)

pub next-at-requires : goal.next-at-requires
next-at-requires c = let long = c.requires.links.long in omega (arith, long, c.loop-at-test.true, c.requires.within)

pub returns : goal.returns
returns c =
    let rows = c.args.rows.now in
    c.loop-at.invariant.rows
    ∙ ap (λ ws. record { buckets = rows.buckets; rows = lay_all ws rows.rows })
    (writes-between c.args.t c.args.events.now c.args.replies.now c.args.place c.loop-at.at (omega (arith, c.loop-at-test.false)) c.loop-at.invariant.skipped)
