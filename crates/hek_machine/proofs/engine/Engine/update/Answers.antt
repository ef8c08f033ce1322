use Rattle.hek_rules.specs.Walk.{ToWrite}
use Rattle.hek_rules.specs.Table.{update_rule}
use Rattle.hek_rules.specs.declared.reply.Reply.TheVariants.{Absent, Done}
use Rattle.hek_machine.specs.Written.{key_walk, after_walk, after_making}
use Rattle.hek_machine.proofs.KeyRules.{enough_as, update_makes, update_sees_none, reply_rule}
use Rattle.hek_machine.proofs.engine.Engine.update.Goals as goal

pub last_seen-last-requires-clause-versions : goal.last_seen-last-requires-clause-versions
last_seen-last-requires-clause-versions c = (enough_as c.args.self.now c.args.t c.args.key _ _ c.as_slice-vs.ensures.value c.in_ok-list_versions_of.ensures).below

pub returns-in_ok-refused-in-Some-clause-rule : goal.returns-in_ok-refused-in-Some-clause-rule
returns-in_ok-refused-in-Some-clause-rule c =
    let m = c.args.self.now in
    reply_rule m c.make.new.self (λ w. update_rule w c.args.t c.args.key c.args.value) (λ w. after_making w c.args.t c.args.key c.args.value (key_walk w c.args.t ToWrite c.args.key)) c.in_ok-refused-in-Some.refused Done c.reply_or_abort.result c.reply_or_abort.ensures
    (update_makes m c.args.t c.args.key c.args.value _ c.as_slice-vs.result.now c.last_seen-last.result (enough_as c.args.self.now c.args.t c.args.key _ _ c.as_slice-vs.ensures.value c.in_ok-list_versions_of.ensures)
    c.last_seen-last.ensures c.in-Some.is) c.in_ok-refused-in-Some.ensures.rule

pub returns-in_ok-refused-in-None-clause-rule : goal.returns-in_ok-refused-in-None-clause-rule
returns-in_ok-refused-in-None-clause-rule c =
    let m = c.args.self.now in
    reply_rule m c.walk_key.new.self (λ w. update_rule w c.args.t c.args.key c.args.value) (λ w. after_walk w c.args.t Absent (key_walk w c.args.t ToWrite c.args.key)) c.in_ok-refused-in-None.refused Absent c.reply_or_abort-in-None.result c.reply_or_abort-in-None.ensures
    (update_sees_none m c.args.t c.args.key c.args.value c.as_slice-vs.result.now c.last_seen-last.result (enough_as c.args.self.now c.args.t c.args.key _ _ c.as_slice-vs.ensures.value c.in_ok-list_versions_of.ensures)
    c.last_seen-last.ensures c.in-None.is) (c.in_ok-refused-in-None.ensures.rule Absent)

pub make-requires-clause-versions : goal.make-requires-clause-versions
make-requires-clause-versions c = (enough_as c.args.self.now c.args.t c.args.key _ _ c.as_slice-vs.ensures.value c.in_ok-list_versions_of.ensures)

pub walk_key-requires-clause-versions : goal.walk_key-requires-clause-versions
walk_key-requires-clause-versions c = (enough_as c.args.self.now c.args.t c.args.key _ _ c.as_slice-vs.ensures.value c.in_ok-list_versions_of.ensures)
