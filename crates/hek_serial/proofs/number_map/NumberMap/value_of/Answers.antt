use Rattle.std.proofs.Common.{◌∙◌, ap}
use Rattle.hek_rules.specs.Listing.{value_of as value_in}
use Rattle.hek_serial.proofs.Maps.{lookup-value_of}
use Rattle.hek_serial.proofs.number_map.NumberMap.value_of.Goals as goal

pub returns : goal.returns
returns c = c.copied.ensures ∙ c.get.ensures.value ∙ lookup-value_of c.self.inside.map.entries c.args.key ∙ ap (λ m. value_in m c.args.key) c.self.view_is
