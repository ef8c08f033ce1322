use Rattle.std.proofs.Common.{◌≡◌, ◌∙◌, [], length, ap, sym, arith}
use Rattle.std.proofs.lemmas.Bool.{eqb-true, eq-eqb}
use Rattle.hek_rules.specs.Serial.{rows_of}
use Rattle.hek_serial.specs.BucketRows.{BucketRows}
use Rattle.hek_serial.proofs.Parts.{part-read, part-past, no_pairs, rows_of-gathered}
use Rattle.hek_serial.proofs.rows.Rows.is_bucket.Goals as goal

pub returns-then-bucket-len : goal.returns-then-bucket-len
returns-then-bucket-len c =
    let parts = c.self.inside.parts.items in
    let b = c.args.bucket in
    let n = c.len.ensures in
    let is = part-read parts b c.index.result.now (omega (arith, c.if-bucket-len.true, n)) c.index.ensures ∙ sym (rows_of-gathered parts b c.self.invariant)
    ∙ ap (λ (s : BucketRows). rows_of s.buckets b s.rows) c.self.view_is in
    (λ y. c.is.ensures.0 y ∙ is, λ e. c.is.ensures.1 (e ∙ sym is))

pub returns-else-bucket-len : goal.returns-else-bucket-len
returns-else-bucket-len c =
    let parts = c.self.inside.parts.items in
    let b = c.args.bucket in
    let n = c.len.ensures in
    let is : [] ≡ rows_of c.args.self.now.buckets b c.args.self.now.rows = sym (part-past parts b (omega (arith, c.if-bucket-len.false, n))) ∙ sym (rows_of-gathered parts b c.self.invariant)
    ∙ ap (λ (s : BucketRows). rows_of s.buckets b s.rows) c.self.view_is in
    (λ y. no_pairs c.args.pairs.now (eqb-true _ _ (sym c.is_empty.ensures ∙ y)) ∙ is, λ e. c.is_empty.ensures ∙ eq-eqb (length c.args.pairs.now) 0 (ap length (e ∙ sym is)))
