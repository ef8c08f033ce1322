use Rattle.std.proofs.Common.{◌∙◌, ap, length, arith}
use Rattle.std.specs.List.{zip}
use Rattle.hek_rules.specs.Serial.{writes_of, lay_all}
use Rattle.hek_rules.proofs.Zips.{zip-length}
use Rattle.hek_serial.proofs.EndSteps.{all_taken}
use Rattle.hek_serial.proofs.judge.lay_writes_of.Goals as goal

pub returns : goal.returns
returns c =
    let h = zip c.args.events.now c.args.replies.now in
    let rows = c.args.rows.now in
    let long = zip-length c.args.events.now c.args.replies.now c.requires.same in
    c.in_ok-lay_writes_before.ensures
    ∙ ap (λ g. record { buckets = rows.buckets; rows = lay_all (writes_of c.args.t g) rows.rows }) (all_taken h (length c.args.events.now) (omega (arith, long)))
