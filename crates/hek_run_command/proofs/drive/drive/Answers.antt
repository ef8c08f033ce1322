use Rattle.std.proofs.Common.{◌≡◌, false}
use Rattle.hek_run_command.proofs.DrivenLaws.{silent, one_more}
use Rattle.hek_run_command.proofs.drive.drive.Goals as goal

-- one more answer is written
pub loop-number-preserved : goal.loop-number-preserved
loop-number-preserved g c =
    let held = g.W.Write.contents c.args.out.now in
    let ends = c.args.driving.ends in (
      c.status_after-status.ensures,
      λ quiet. one_more ends held _ _ _ _ (silent ends held _ _ (c.loop-number.invariant.1 quiet) (c.in_ok-prompt.ensures quiet)) c.in_ok-is_fault.ensures.written,
    )
