use Rattle.std.proofs.Common.{◌∙◌, ap, sym, subst}
use Rattle.hek_rules.specs.Listing.{take_out as taken_out, value_of as value_in}
use Rattle.hek_laws.specs.Rows.{AreRising}
use Rattle.hek_serial.proofs.Maps.{remove-take_out, rising-take_out, lookup-value_of}
use Rattle.hek_serial.proofs.number_map.NumberMap.take_out.Goals as goal

pub invariant_of-self : goal.invariant_of-self
invariant_of-self c =
    subst AreRising (sym (c.remove.ensures.entries ∙ remove-take_out c.self.inside.map.entries c.args.key c.self.invariant))
    (rising-take_out c.self.inside.map.entries c.args.key c.self.invariant)

pub returns-clause-rest : goal.returns-clause-rest
returns-clause-rest c = c.remove.ensures.entries ∙ remove-take_out c.self.inside.map.entries c.args.key c.self.invariant ∙ ap (taken_out c.args.key) c.self.view_is

pub returns-clause-value : goal.returns-clause-value
returns-clause-value c = c.remove.ensures.value ∙ lookup-value_of c.self.inside.map.entries c.args.key ∙ ap (λ m. value_in m c.args.key) c.self.view_is
