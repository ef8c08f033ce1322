use Rattle.std.proofs.Common.{ℕ, Option, ◌∙◌, sym, ap, length}
use Rattle.hek_levels.specs.Logs.{meets}
use Rattle.hek_levels.specs.declared.uncommitted.Who.{Who}
use Rattle.hek_levels.specs.Uncommitted.{is_other}
use Rattle.hek_levels.proofs.Founds.{other_below, found_else}
use Rattle.hek_levels.proofs.uncommitted.is_found.Goals as goal

pub returns-else-meets : goal.returns-else-meets
returns-else-meets c =
    c.is_other.ensures ∙ ap (λ (w : Option Who). is_other w c.args.t) (c.who_leaves.ensures ∙ c.requires.index c.args.read.key c.args.read.need)
    ∙ other_below c.args.log.now c.args.t c.args.read.key c.args.read.need (length c.args.log.now.transactions.items)
    ∙ found_else _ _ (ap (λ (o : Option ℕ). meets c.args.read.need o) (sym (c.row_of.ensures ∙ c.requires.rows c.args.read.key)) ∙ sym c.if-meets.ensures)
