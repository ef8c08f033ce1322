use Rattle.std.proofs.Common.{ap, ◌∙◌, false, is_some}
use Rattle.hek_live.specs.declared.replies.DropRead.TheVariants as drop
use Rattle.hek_test_threads.proofs.Told.{told_set, told_kept, goes}
use Rattle.hek_test_threads.proofs.live.worker.Worker.drop_read.Goals as goal

pub invariant_of-self : goal.invariant_of-self
invariant_of-self c =
    let old = c.args.self.now in
    let moved = c.tokens_follow_replies.ensures.drop_read _ _ _ _ drop.Dropped c.in-Dropped.ensures.told.2 in record {
      own = c.drop_read.ensures.own ∙ old.own;
      enough = old.enough;
      named = old.named;
      reads_told = told_set old.reads _ _ c.args.word false old.reads_told c.requires (moved.read ∙ goes _) moved.reads;
      writes_told = told_kept old.writes _ _ c.args.word old.writes_told (ap is_some moved.write) (λ j ne. ap is_some (moved.writes j ne));
    }

pub invariant_of-self-in-Last : goal.invariant_of-self-in-Last
invariant_of-self-in-Last c =
    let old = c.args.self.now in
    let moved = c.tokens_follow_replies.ensures.drop_read _ _ _ _ (drop.Last _) c.in-Last.ensures.told.2 in record {
      own = c.drop_read.ensures.own ∙ old.own;
      enough = old.enough;
      named = old.named;
      reads_told = told_set old.reads _ _ c.args.word false old.reads_told c.requires (moved.read ∙ goes _) moved.reads;
      writes_told = told_kept old.writes _ _ c.args.word old.writes_told (ap is_some moved.write) (λ j ne. ap is_some (moved.writes j ne));
    }
