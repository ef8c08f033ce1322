use Rattle.std.specs.Prelude.{◌+◌}
use Rattle.hek_permute.specs.Searches.{NoneBelow}
use Rattle.hek_permute.proofs.find.find_shortest.Given as goal

abbrev pub invariant-loop-less : goal.invariant-loop-less
invariant-loop-less g l = NoneBelow l.schedule l.form l.moves l.sought (l.less + 1)
