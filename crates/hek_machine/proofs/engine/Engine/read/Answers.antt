use Rattle.std.proofs.Common.{sym, ◌∙◌}
use Rattle.hek_rules.specs.Walk.{ToRead}
use Rattle.hek_machine.specs.Written.{key_walk}
use Rattle.hek_machine.proofs.KeyRules.{read_replies}
use Rattle.hek_machine.proofs.engine.Engine.read.Goals as goal

pub returns-clause-rule : goal.returns-clause-rule
returns-clause-rule c =
    read_replies c.args.self.now c.settle.new.self c.args.t c.args.key c.in_ok-refused-2.refused c.walk_along.new.met.seen c.found-reply.result c.reply_or_abort.result c.reply_or_abort.ensures
    (λ none. c.in_ok-refused.ensures.seen (sym c.in_ok-refused-2.ensures.same ∙ none)) c.found-reply.ensures (c.in_ok-refused-2.ensures.after (λ w. key_walk w c.args.t ToRead c.args.key) (rw c.as_slice.ensures.value c.in_ok-refused.ensures.judged))
