use Rattle.std.proofs.Common.{List, length}
use Rattle.hek_rules.specs.Plan.{Plan}
use Rattle.hek_permute.specs.declared.moves.Form.{Form}
use Rattle.hek_permute.specs.Moves.{Work}
use Rattle.hek_explore.specs.Counts.{AreAllGrown, Group}
use Rattle.hek_explore.specs.Deals.{AreExtended}
use Rattle.hek_explore.proofs.walk.put_all.Given as goal

-- what is left to put, after which all is put
abbrev pub invariant-loop-class : goal.invariant-loop-class
invariant-loop-class g l =
    (p : Plan) (form : Form) (works : List Work) → AreAllGrown p form works l.classes l.fn.all.items
    → AreAllGrown p form works l.rest l.all.items × ((new : List Group) → AreExtended p form works l.rest l.next new → AreExtended p form works l.classes l.fn.next new)

abbrev pub decreases-loop-class : goal.decreases-loop-class
decreases-loop-class g l = length l.rest
