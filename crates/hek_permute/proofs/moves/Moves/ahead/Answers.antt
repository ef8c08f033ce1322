use Rattle.std.proofs.Common.{◌∙◌, refl}
use Rattle.hek_permute.proofs.Acts.{ahead-on}
use Rattle.hek_permute.proofs.moves.Moves.ahead.Goals as goal

pub loop-at-preserved : goal.loop-at-preserved
loop-at-preserved c = c.loop-at.invariant ∙ ahead-on _ c.loop-at.at (c.loop-at-test.ensures.skips refl)
