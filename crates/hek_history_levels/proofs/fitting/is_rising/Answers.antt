use Rattle.std.proofs.Common.{◌<◌, suc, refl, length, arith}
use Rattle.std.proofs.lemmas.Option.{slice_get_within}
use Rattle.hek_history.proofs.Fronts.{rising_more, falls}
use Rattle.hek_history_levels.proofs.fitting.is_rising.Goals as goal

pub returns-then-pairs-n : goal.returns-then-pairs-n
returns-then-pairs-n c = (λ f. cc, λ all. absurd (falls c.args.pairs.now c.loop-n.n c.loop-n.auto.n c.loop-n-test.true c.if-pairs-n.true all))

pub loop-n-preserved : goal.loop-n-preserved
loop-n-preserved c = rising_more c.args.pairs.now c.loop-n.n c.loop-n.auto.n c.if-pairs-n.false c.loop-n.invariant

pub returns : goal.returns
returns c = (
  λ yes' n p q a b. (let lt : suc n < length c.args.pairs.now = slice_get_within c.args.pairs.now (suc n) q b in c.loop-n.invariant n p q (omega arith) a b),
  λ all. refl,
)
