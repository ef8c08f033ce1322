use Rattle.std.proofs.Common.{◌≡◌, false}
use Rattle.hek_run_command.proofs.DrivenLaws.{greeted}
use Rattle.hek_run_command.proofs.drive.drive_schedule.Goals as goal

pub returns-clause-written : goal.returns-clause-written
returns-clause-written g c =
    greeted c.drive.result (c.args.driving.prompts ≡ false) c.args.driving.ends (g.W.Write.contents c.args.out.now) (g.W.Write.contents c.greet.new.out)
    (g.W.Write.contents c.drive.new.out) c.greet.ensures c.drive.ensures.written
