use Rattle.std.proofs.Common.{◌∙◌, ap, sym}
use Rattle.hek_rules.specs.Listing.{put, take_out, value_of}
use Rattle.hek_serial.specs.BucketRows.{BucketRows}
use Rattle.hek_serial.proofs.Undo.{put_back, take_back}
use Rattle.hek_serial.proofs.rows.Rows.change.Goals as goal

pub returns-in-Some-clause-back : goal.returns-in-Some-clause-back
returns-in-Some-clause-back c =
    ap (λ (s : BucketRows). put c.key_of-key.result c.in-Some.value s.rows) c.in_ok-lay.ensures
    ∙ rw c.key_of-key.ensures (put_back c.args.write c.args.self.now.rows c.in-Some.value c.value_of-before.ensures.rising
    (ap (value_of c.args.self.now.rows) (sym c.key_of-key.ensures) ∙ sym c.in-Some.ensures.value))

pub returns-in-None-clause-back : goal.returns-in-None-clause-back
returns-in-None-clause-back c =
    ap (λ (s : BucketRows). take_out c.key_of-key.result s.rows) c.in_ok-lay.ensures
    ∙ rw c.key_of-key.ensures (take_back c.args.write c.args.self.now.rows c.value_of-before.ensures.rising
    (ap (value_of c.args.self.now.rows) (sym c.key_of-key.ensures) ∙ sym c.in-None.ensures.value))
