use Rattle.std.proofs.Common.{rules, subst}
use Rattle.hek_machine.specs.Judgements.{IsShown}
use Rattle.hek_rules.specs.World.{version_in}
use Rattle.hek_machine.proofs.CommittedRows.{is_row, found_more}
use Rattle.hek_machine.proofs.engine.Engine.committed_versions.Goals.{then-is_row+in_ok-push, else-is_row}
use Rattle.hek_machine.proofs.engine.Engine.committed_versions.Goals as goal

pub loop-i-preserved : goal.loop-i-preserved
loop-i-preserved c = record {
  found = found_more c.args.self.now c.loop-i.i c.is_row.result c.loop-i.found.items c.if-is_row.found.items (search rules)
      (subst (λ v. IsShown c.args.self.now (λ w. is_row w v (version_in w.versions v)) c.is_row.result) c.new-v.ensures c.is_row.ensures)
      (elim c.if-is_row.branch [ then-is_row+in_ok-push w ↦ search rules | else-is_row w ↦ search rules ]) c.loop-i.invariant.found;
}
