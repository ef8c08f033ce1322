use Rattle.hek_rules.specs.Walk.{ToWrite}
use Rattle.hek_rules.specs.Table.{delete_rule}
use Rattle.hek_machine.specs.Written.{key_walk, after_walk}
use Rattle.hek_machine.proofs.KeyRules.{enough_as, delete_row_is, reply_rule}
use Rattle.hek_machine.proofs.engine.Engine.delete.Goals as goal

pub last_seen-target-requires-clause-versions : goal.last_seen-target-requires-clause-versions
last_seen-target-requires-clause-versions c = (enough_as c.args.self.now c.args.t c.args.key _ _ c.as_slice-vs.ensures.value c.in_ok-list_versions_of.ensures).below

pub returns-clause-rule : goal.returns-clause-rule
returns-clause-rule c =
    let m = c.args.self.now in
    reply_rule m c.walk_key.new.self (λ w. delete_rule w c.args.t c.args.key) (λ w. after_walk w c.args.t c.deleted-reply.result (key_walk w c.args.t ToWrite c.args.key)) c.in_ok-refused.refused c.deleted-reply.result
    c.reply_or_abort.result c.reply_or_abort.ensures
    (delete_row_is m c.args.t c.args.key c.as_slice-vs.result.now c.last_seen-target.result c.deleted-reply.result (enough_as c.args.self.now c.args.t c.args.key _ _ c.as_slice-vs.ensures.value c.in_ok-list_versions_of.ensures)
    c.last_seen-target.ensures c.deleted-reply.ensures) (c.in_ok-refused.ensures.rule c.deleted-reply.result)

pub walk_key-requires-clause-versions : goal.walk_key-requires-clause-versions
walk_key-requires-clause-versions c = (enough_as c.args.self.now c.args.t c.args.key _ _ c.as_slice-vs.ensures.value c.in_ok-list_versions_of.ensures)
