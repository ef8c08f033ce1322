use Rattle.hek_machine.proofs.CommittedRows.{Found}
use Rattle.hek_machine.proofs.engine.Engine.committed_versions.Given as goal

abbrev pub invariant-loop-i : goal.invariant-loop-i
invariant-loop-i l = record {
  found : Found l.self l.found.items l.i;
}
