use Rattle.std.proofs.Common.{◌∙◌, ap, sym, subst}
use Rattle.hek_rules.specs.Listing.{put as put_in, value_of as value_in}
use Rattle.hek_laws.proofs.Lists.Rising.{rising-put}
use Rattle.hek_laws.specs.Rows.{AreRising}
use Rattle.hek_laws.proofs.Lists.Maps.{insert-put}
use Rattle.hek_serial.proofs.Maps.{lookup-value_of}
use Rattle.hek_serial.proofs.number_map.NumberMap.put.Goals as goal

pub invariant_of-self-2 : goal.invariant_of-self-2
invariant_of-self-2 c =
    subst AreRising (sym (c.in_ok-before.ensures.entries ∙ insert-put c.self.inside.map.entries c.args.key c.args.value))
    (rising-put c.self.inside.map.entries c.args.key c.args.value c.self.invariant)

pub returns-clause-ok : goal.returns-clause-ok
returns-clause-ok c = c.in_ok-before.ensures.entries ∙ insert-put c.self.inside.map.entries c.args.key c.args.value ∙ ap (put_in c.args.key c.args.value) c.self.view_is

pub returns-clause-value : goal.returns-clause-value
returns-clause-value c = c.in_ok-before.ensures.old ∙ lookup-value_of c.self.inside.map.entries c.args.key ∙ ap (λ m. value_in m c.args.key) c.self.view_is
