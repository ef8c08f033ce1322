use Rattle.std.proofs.Common.{◌≡◌, ◌∙◌, ℕ, List, [], length, replicate, ap, sym, subst, arith}
use Rattle.hek_serial.specs.BucketRows.{BucketRows, AreParts, gathered}
use Rattle.hek_serial.proofs.Parts.{gathered-empty, parts-empty, length-empty}
use Rattle.hek_serial.proofs.rows.Rows.new.Goals as goal

pub invariant_of-result : goal.invariant_of-result
invariant_of-result c = subst AreParts (sym c.loop-bucket.invariant) (parts-empty c.loop-bucket._bucket (omega (arith, c.loop-bucket-test.false, c.requires)))

pub returns : goal.returns
returns c =
    let held : List (List (ℕ × ℕ)) → BucketRows = λ ps. record { buckets = length ps; rows = gathered ps } in
    let all : c.loop-bucket._bucket ≡ c.args.buckets = omega arith in
    ap held (c.loop-bucket.invariant ∙ ap (λ n. replicate n []) all)
    ∙ ap (λ n. record { buckets = n; rows = gathered (replicate c.args.buckets []) }) (length-empty c.args.buckets)
    ∙ ap (λ rs. record { buckets = c.args.buckets; rows = rs }) (gathered-empty c.args.buckets)
