use Rattle.std.proofs.Common.{sym, ◌∙◌, subst, ◌<◌, length}
use Rattle.std.specs.List.{All}
use Rattle.hek_rules.specs.Walk.{ToRead, walk, of_bucket}
use Rattle.hek_machine.proofs.ScanRules.{scan_replies}
use Rattle.hek_machine.proofs.engine.Engine.scan.Goals as goal

pub pairs_of-requires : goal.pairs_of-requires
pairs_of-requires c = subst (All (λ v. v < length c.args.self.now.store.versions)) (sym c.deref.ensures.value) c.in_ok-refused.ensures.below

pub returns-clause-rule : goal.returns-clause-rule
returns-clause-rule c =
    scan_replies c.args.self.now c.settle.new.self c.args.t c.args.bucket c.in_ok-refused-2.refused c.walk_bucket.new.seen.items c.in_ok-pairs.pairs c.reply_or_abort.result c.reply_or_abort.ensures
    (λ none. c.in_ok-refused.ensures.seen (sym c.in_ok-refused-2.ensures.same ∙ none)) (rw (← c.deref.ensures.value) c.in_ok-pairs.ensures)
    (c.in_ok-refused-2.ensures.after (λ w. walk w c.args.t ToRead c.args.bucket (of_bucket w c.args.bucket)) (rw c.as_slice.ensures.value c.in_ok-refused.ensures.judged))
