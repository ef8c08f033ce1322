use Rattle.std.proofs.Common.{◌∙◌, ◌%◌, ℕ, List, length, set, ap, sym, subst, arith}
use Rattle.std.proofs.Math.Nat.{mod-lt}
use Rattle.std.proofs.lemmas.List.{length-set}
use Rattle.hek_rules.specs.Serial.{lay}
use Rattle.hek_laws.specs.Rows.{key_of}
use Rattle.hek_serial.specs.BucketRows.{BucketRows, AreParts, gathered, part_at}
use Rattle.hek_serial.proofs.Parts.{part-laid, parts-lay, gathered-lay}
use Rattle.hek_serial.proofs.rows.Rows.lay.Goals as goal

pub invariant_of-self-2 : goal.invariant_of-self-2
invariant_of-self-2 c =
    let parts = c.self.inside.parts.items in
    let is = part-laid parts c.args.write c.key_of.result c.len.result c.index_mut.result.now c.lay.new.self c.self.invariant c.key_of.ensures (omega (arith, c.len.ensures)) c.index_mut.ensures.value c.in_ok-lay.ensures.ok in
    subst AreParts (sym is) (parts-lay parts c.args.write (mod-lt (key_of c.args.write) c.self.invariant.some) c.self.invariant)

pub returns : goal.returns
returns c =
    let parts = c.self.inside.parts.items in
    let w = c.args.write in
    let new = lay w (part_at parts (key_of w % length parts)) in
    let is = part-laid parts w c.key_of.result c.len.result c.index_mut.result.now c.lay.new.self c.self.invariant c.key_of.ensures (omega (arith, c.len.ensures)) c.index_mut.ensures.value c.in_ok-lay.ensures.ok in
    let held : List (List (ℕ × ℕ)) → BucketRows = λ ps. record { buckets = length ps; rows = gathered ps } in
    ap held is ∙ ap (λ n. record { buckets = n; rows = gathered (set parts (key_of w % length parts) new) }) (length-set parts (key_of w % length parts) new)
    ∙ ap (λ rs. record { buckets = length parts; rows = rs }) (gathered-lay parts w (mod-lt (key_of w) c.self.invariant.some) c.self.invariant)
    ∙ ap (λ (s : BucketRows). record { buckets = s.buckets; rows = lay w s.rows }) c.self.view_is
