use Rattle.std.proofs.lemmas.Result.{IfOk-weaker}
use Rattle.hek_rules.specs.declared.reply.Reply.{Reply}
use Rattle.hek_rules.specs.Aims.{purpose_of}
use Rattle.hek_machine.specs.Stands.{IsRule}
use Rattle.hek_machine.specs.Walked.{reply_or_abort}
use Rattle.hek_machine.specs.Written.{key_walk, after_walk}
use Rattle.hek_machine.proofs.KeyRules.{bucket_places, key_replies}
use Rattle.hek_machine.proofs.RuleWalks.{Came}
use Rattle.hek_machine.proofs.engine.Engine.walk_key.Goals as goal

pub walk_over-requires-clause-versions : goal.walk_over-requires-clause-versions
walk_over-requires-clause-versions c = c.requires.versions.below

pub walk_over-requires-clause-places : goal.walk_over-requires-clause-places
walk_over-requires-clause-places c =
    bucket_places c.args.self.now c.args.t c.args.key c.bucket_of-bucket.result c.args.vs.now c.bucket_of-bucket.ensures c.requires.versions

pub returns-clause-rule : goal.returns-clause-rule
returns-clause-rule c =
    let m = c.args.self.now in
    let p = purpose_of c.args.aim.now in
    IfOk-weaker c.walk_over.result (Came m c.walk_over.new.self c.args.t p c.bucket_of-bucket.result c.args.vs.now)
    (λ o. (answer : Reply) → IsRule (λ w. after_walk w c.args.t answer (key_walk w c.args.t p c.args.key)) m c.walk_over.new.self (reply_or_abort o answer))
    (λ o came answer. key_replies m c.walk_over.new.self c.args.t c.args.key c.bucket_of-bucket.result c.args.vs.now p answer o c.bucket_of-bucket.ensures c.requires.versions came)
    c.walk_over.ensures.after
