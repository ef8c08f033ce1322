use Rattle.std.proofs.Common.{ap, ◌∙◌, true, is_some}
use Rattle.hek_live.specs.declared.replies.TryRead.TheVariants as read
use Rattle.hek_test_threads.proofs.Told.{told_set, told_kept, comes}
use Rattle.hek_test_threads.proofs.live.worker.Worker.read.Goals as goal

pub invariant_of-self : goal.invariant_of-self
invariant_of-self c =
    let old = c.args.self.now in
    let moved = c.tokens_follow_replies.ensures.try_read _ _ _ _ (read.Taken _) c.in-Taken.ensures.told.2 in record {
      own = c.try_read.ensures.own ∙ old.own;
      enough = old.enough;
      named = old.named;
      reads_told = told_set old.reads _ _ c.args.word true old.reads_told c.requires (moved.read ∙ comes _) moved.reads;
      writes_told = told_kept old.writes _ _ c.args.word old.writes_told (ap is_some moved.write) (λ j ne. ap is_some (moved.writes j ne));
    }
