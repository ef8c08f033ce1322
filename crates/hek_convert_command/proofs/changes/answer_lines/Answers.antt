use Rattle.std.proofs.Common.{take}
use Rattle.hek_convert_command.proofs.ChangeLaws.{none_answered, one_answered, one_more_line, all_lines}
use Rattle.hek_convert_command.proofs.changes.answer_lines.Goals as goal

pub loop-line-init : goal.loop-line-init
loop-line-init g c = none_answered c.args.printing c.args.followed c.args.book.now (g.W.Write.contents c.args.out.now) c.requires

pub loop-line-preserved : goal.loop-line-preserved
loop-line-preserved g c =
    let contents = g.W.Write.contents in
    one_answered c.args.printing c.args.followed (take c.loop-line.line-index c.args.listed.now) _ c.line-item.result c.loop-line.book c.answer_line.new.book (contents c.args.out.now) (contents c.loop-line.out) (contents c.answer_line.new.out)
    c.loop-line.status c.in_ok-asked.asked c.max-status.result
    (one_more_line c.args.listed.now c.line-item.result c.loop-line.line-index c.loop-line-test.true c.line-item.is) c.max-status.ensures c.in_ok-asked.ensures c.loop-line.invariant

pub returns : goal.returns
returns g c =
    let contents = g.W.Write.contents in
    all_lines c.args.printing c.args.followed c.args.listed.now c.loop-line.book (contents c.args.out.now) (contents c.loop-line.out) c.loop-line.status c.loop-line.line-index c.loop-line-test.false c.loop-line.invariant
