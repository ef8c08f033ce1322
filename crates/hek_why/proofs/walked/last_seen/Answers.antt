use Rattle.hek_rules.specs.Walk.{seen_of}
use Rattle.hek_why.proofs.LastSeen.{last_or-none}
use Rattle.hek_why.proofs.walked.last_seen.Goals as goal

pub loop-v-init : goal.loop-v-init
loop-v-init c = λ w s. last_or-none (seen_of w c.args.t c.args.vs.now)
