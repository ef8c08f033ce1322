use Rattle.std.proofs.Common.{◌∙◌, ap, sym, subst, arith}
use Rattle.hek_rules.specs.Listing.{value_of as value_in}
use Rattle.hek_laws.specs.Rows.{AreRising}
use Rattle.hek_serial.specs.BucketRows.{BucketRows}
use Rattle.hek_serial.proofs.Parts.{part-of, rising-gathered, value_of-gathered}
use Rattle.hek_serial.proofs.rows.Rows.value_of.Goals as goal

pub returns-clause-value : goal.returns-clause-value
returns-clause-value c =
    let parts = c.self.inside.parts.items in
    let key = c.args.key in
    c.value_of.ensures ∙ ap (λ p. value_in p key) (part-of parts key c.len.result c.index.result.now c.self.invariant (omega (arith, c.len.ensures)) c.index.ensures)
    ∙ sym (value_of-gathered parts key c.self.invariant) ∙ ap (λ (s : BucketRows). value_in s.rows key) c.self.view_is

pub returns-clause-rising : goal.returns-clause-rising
returns-clause-rising c = subst (λ (s : BucketRows). AreRising s.rows) c.self.view_is (rising-gathered c.self.inside.parts.items)
