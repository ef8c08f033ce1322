use Rattle.std.proofs.Common.{sym, subst, ◌<◌, length}
use Rattle.std.specs.List.{All}
use Rattle.hek_machine.proofs.CommittedRows.{rows_below}
use Rattle.hek_machine.proofs.engine.Engine.rows.Goals as goal

pub pairs_of-requires : goal.pairs_of-requires
pairs_of-requires c =
    let m = c.args.self.now in
    subst (All (λ v. v < length m.store.versions)) (sym c.deref.ensures.value) (rows_below m c.in_ok-vs.vs.items c.requires.ordered c.in_ok-vs.ensures)
