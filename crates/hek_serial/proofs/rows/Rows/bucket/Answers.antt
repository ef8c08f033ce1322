use Rattle.std.proofs.Common.{◌∙◌, ap, sym, arith}
use Rattle.hek_rules.specs.Serial.{rows_of}
use Rattle.hek_serial.specs.BucketRows.{BucketRows}
use Rattle.hek_serial.proofs.Parts.{part-read, part-past, rows_of-gathered}
use Rattle.hek_serial.proofs.rows.Rows.bucket.Goals as goal

pub returns-in_ok-pairs : goal.returns-in_ok-pairs
returns-in_ok-pairs c =
    let parts = c.self.inside.parts.items in
    let b = c.args.bucket in
    let n = c.len.ensures in
    c.in_ok-pairs.ensures ∙ part-read parts b c.index.result.now (omega (arith, c.if-bucket-len.true, n)) c.index.ensures ∙ sym (rows_of-gathered parts b c.self.invariant)
    ∙ ap (λ (s : BucketRows). rows_of s.buckets b s.rows) c.self.view_is

pub returns-else-bucket-len : goal.returns-else-bucket-len
returns-else-bucket-len c =
    let parts = c.self.inside.parts.items in
    let b = c.args.bucket in
    let n = c.len.ensures in
    c.new.ensures.items ∙ sym (part-past parts b (omega (arith, c.if-bucket-len.false, n))) ∙ sym (rows_of-gathered parts b c.self.invariant)
    ∙ ap (λ (s : BucketRows). rows_of s.buckets b s.rows) c.self.view_is
