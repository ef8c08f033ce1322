use Rattle.std.proofs.Common.{ap, ◌∙◌, true, is_some}
use Rattle.hek_live.specs.declared.replies.TryWrite.TheVariants as write
use Rattle.hek_test_threads.proofs.Told.{told_set, told_kept, stays}
use Rattle.hek_test_threads.proofs.live.worker.Worker.write.Goals as goal

pub invariant_of-self : goal.invariant_of-self
invariant_of-self c =
    let old = c.args.self.now in
    let moved = c.tokens_follow_replies.ensures.try_write _ _ _ _ _ (write.Written _) c.in-Written.ensures.told.2 in record {
      own = c.try_write.ensures.own ∙ old.own;
      enough = old.enough;
      named = old.named;
      reads_told = told_kept old.reads _ _ c.args.word old.reads_told (moved.read ∙ stays _) moved.reads;
      writes_told = told_set old.writes _ _ c.args.word true old.writes_told c.requires (ap is_some moved.write) (λ j ne. ap is_some (moved.writes j ne));
    }
