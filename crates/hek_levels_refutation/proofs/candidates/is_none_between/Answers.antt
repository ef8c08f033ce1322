use Rattle.std.proofs.Common.{arith}
use Rattle.std.proofs.lemmas.Bool.{false≢true}
use Rattle.hek_levels_refutation.proofs.Refuting.{none_more}
use Rattle.hek_levels_refutation.proofs.candidates.is_none_between.Goals as goal

pub loop-n-init : goal.loop-n-init
loop-n-init c w low high k = omega (arith, low, high)

pub loop-n-preserved : goal.loop-n-preserved
loop-n-preserved c = none_more c.args.log.now c.args.t c.args.read c.args.from c.loop-n.n c.writer_of.result c.writer_of.ensures c.loop-n.invariant (λ k. false≢true (c.if-is_candidate.ensures k))

pub returns : goal.returns
returns c yes' w low high k = c.loop-n.invariant w low (omega (arith, high, c.loop-n-test.false)) k
