use Rattle.std.proofs.Common.{length, sym, subst}
use Rattle.std.specs.List.{zip}
use Rattle.hek_rules.proofs.Zips.{zip-length}
use Rattle.hek_serial.specs.Replay.{IsFirstIfDeclared}
use Rattle.hek_serial.proofs.replay.lay_and_judge_declared.Goals as goal

pub returns-in_ok-lay_writes_of-in-None-clause-first : goal.returns-in_ok-lay_writes_of-in-None-clause-first
returns-in_ok-lay_writes_of-in-None-clause-first c =
    subst (λ o. IsFirstIfDeclared o c.args.rows.now.buckets c.args.t c.args.rows.now.rows (zip c.args.events.now c.args.replies.now) (length c.args.events.now)) c.in-None.ensures
    (sym (zip-length c.args.events.now c.args.replies.now c.requires.same))
