use Rattle.std.proofs.Common.{List, length}
use Rattle.hek_rules.specs.Plan.{Plan}
use Rattle.hek_permute.specs.declared.moves.Form.{Form}
use Rattle.hek_permute.specs.Moves.{Work}
use Rattle.hek_explore.specs.Counts.{AreGrown}
use Rattle.hek_explore.proofs.Classes.{IsExtending}
use Rattle.hek_explore.proofs.walk.extend.Given as goal

abbrev pub invariant-loop-found : goal.invariant-loop-found
invariant-loop-found g l = (p : Plan) (form : Form) (works : List Work) → AreGrown p form works l.class l.fn.grown → IsExtending p form works l.class l.fn.next l.next l.grown

abbrev pub decreases-loop-found : goal.decreases-loop-found
decreases-loop-found g l = length l.grown
