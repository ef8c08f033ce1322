use Rattle.std.proofs.Common.{None}
use Rattle.hek_rules.specs.Walk.{ToRead}
use Rattle.hek_rules.specs.Table.{after_insert, insert_rule}
use Rattle.hek_rules.specs.declared.reply.Reply.TheVariants.{Exists}
use Rattle.hek_machine.specs.Written.{key_walk, after_walk}
use Rattle.hek_machine.proofs.KeyRules.{enough_as, insert_exists, insert_sees_none, rule_of_last, reply_rule}
use Rattle.hek_machine.proofs.engine.Engine.insert.Goals as goal

pub last_seen-requires-clause-versions : goal.last_seen-requires-clause-versions
last_seen-requires-clause-versions c = (enough_as c.args.self.now c.args.t c.args.key _ _ c.as_slice-vs.ensures.value c.in_ok-list_versions_of.ensures).below

pub returns-in_ok-refused-in-Some-clause-rule : goal.returns-in_ok-refused-in-Some-clause-rule
returns-in_ok-refused-in-Some-clause-rule c =
    let m = c.args.self.now in
    reply_rule m c.walk_key.new.self (λ w. insert_rule w c.args.t c.args.key c.args.value) (λ w. after_walk w c.args.t Exists (key_walk w c.args.t ToRead c.args.key)) c.in_ok-refused-in-Some.refused Exists c.reply_or_abort.result c.reply_or_abort.ensures
    (insert_exists m c.args.t c.args.key c.args.value _ c.as_slice-vs.result.now c.last_seen.result (enough_as c.args.self.now c.args.t c.args.key _ _ c.as_slice-vs.ensures.value c.in_ok-list_versions_of.ensures)
    c.last_seen.ensures c.in-Some.is) (c.in_ok-refused-in-Some.ensures.rule Exists)

pub returns-in-None-clause-rule : goal.returns-in-None-clause-rule
returns-in-None-clause-rule c =
    let m = c.args.self.now in
    rule_of_last m c.insert_new.new.self (λ w. insert_rule w c.args.t c.args.key c.args.value) (λ w. after_insert w c.args.t c.args.key c.args.value None (key_walk w c.args.t ToRead c.args.key)) c.insert_new.result
    (insert_sees_none m c.args.t c.args.key c.args.value c.as_slice-vs.result.now c.last_seen.result (enough_as c.args.self.now c.args.t c.args.key _ _ c.as_slice-vs.ensures.value c.in_ok-list_versions_of.ensures)
    c.last_seen.ensures c.in-None.is) c.insert_new.ensures.rule

pub walk_key-requires-clause-versions : goal.walk_key-requires-clause-versions
walk_key-requires-clause-versions c = (enough_as c.args.self.now c.args.t c.args.key _ _ c.as_slice-vs.ensures.value c.in_ok-list_versions_of.ensures)

pub insert_new-requires-clause-versions : goal.insert_new-requires-clause-versions
insert_new-requires-clause-versions c = (enough_as c.args.self.now c.args.t c.args.key _ _ c.as_slice-vs.ensures.value c.in_ok-list_versions_of.ensures)
