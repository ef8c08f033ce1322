use Rattle.std.proofs.Common.{None}
use Rattle.hek_rules.specs.Walk.{ToRead}
use Rattle.hek_rules.specs.Table.{after_insert}
use Rattle.hek_rules.specs.declared.reply.Reply.TheVariants.{Done}
use Rattle.hek_machine.specs.Written.{key_walk, after_conflict, after_making}
use Rattle.hek_machine.proofs.KeyRules.{insert_claimed, insert_unclaimed, rule_of_last, reply_rule}
use Rattle.hek_machine.proofs.engine.Engine.insert_new.Goals as goal

pub is_claimed-requires-clause-versions : goal.is_claimed-requires-clause-versions
is_claimed-requires-clause-versions c = c.requires.versions.below

pub returns-then-is_claimed-clause-rule : goal.returns-then-is_claimed-clause-rule
returns-then-is_claimed-clause-rule c =
    let m = c.args.self.now in
    rule_of_last m c.conflict.new.self (λ w. after_insert w c.args.t c.args.key c.args.value None (key_walk w c.args.t ToRead c.args.key)) (λ w. after_conflict w c.args.t (key_walk w c.args.t ToRead c.args.key)) c.conflict.result
    (insert_claimed m c.args.t c.args.key c.args.value c.args.vs.now c.is_claimed.result c.requires.versions c.is_claimed.ensures c.if-is_claimed.true) c.conflict.ensures.rule

pub returns-in_ok-refused-clause-rule : goal.returns-in_ok-refused-clause-rule
returns-in_ok-refused-clause-rule c =
    let m = c.args.self.now in
    reply_rule m c.make.new.self (λ w. after_insert w c.args.t c.args.key c.args.value None (key_walk w c.args.t ToRead c.args.key)) (λ w. after_making w c.args.t c.args.key c.args.value (key_walk w c.args.t ToRead c.args.key))
    c.in_ok-refused.refused Done c.reply_or_abort.result c.reply_or_abort.ensures (insert_unclaimed m c.args.t c.args.key c.args.value c.args.vs.now c.is_claimed.result c.requires.versions c.is_claimed.ensures c.if-is_claimed.false) c.in_ok-refused.ensures.rule
