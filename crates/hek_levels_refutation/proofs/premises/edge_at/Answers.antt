use Rattle.std.proofs.Common.{◌∙◌, sym}
use Rattle.hek_levels_refutation.proofs.premises.edge_at.Goals as goal

pub returns-in-Transaction : goal.returns-in-Transaction
returns-in-Transaction c rules e hold =
    let s = c.in-Some.ensures rules c.args.log.now e hold in (
      s.0,
      (c.in-Some.found.place, c.in-Some-read_at._read, sym c.in-Some-read_at.ensures, s.1 ∙ c.in-Transaction.is),
    )
