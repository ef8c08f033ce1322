use Rattle.std.proofs.Common.{rules}
use Rattle.hek_machine.proofs.ClaimRules.{claim_passed, claim_met}
use Rattle.hek_machine.proofs.engine.Engine.is_claimed.Goals as goal

pub loop-v-preserved : goal.loop-v-preserved
loop-v-preserved c = record {
  left = claim_passed c.args.self.now c.args.t c.loop-v.v-index c.v-item.result c.args.vs.now c.is_claim.result (search rules) (search rules) c.loop-v.invariant.left c.is_claim.ensures c.if-is_claim.false;
}

pub returns-then-is_claim : goal.returns-then-is_claim
returns-then-is_claim c =
    claim_met c.args.self.now c.args.t c.loop-v.v-index c.v-item.result c.args.vs.now c.is_claim.result (search rules) (search rules) c.loop-v.invariant.left c.is_claim.ensures c.if-is_claim.true
