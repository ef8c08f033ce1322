use Rattle.hek_convert_command.proofs.ChangeLaws.{with_ending}
use Rattle.hek_convert_command.proofs.changes.answer_with.Goals as goal

pub returns : goal.returns
returns g c =
    let contents = g.W.Write.contents in
    with_ending c.args.printing c.args.listed.now c.has_over-followed.result c.answer_lines.new.book (contents c.args.out.now) (contents c.answer_lines.new.out) (contents c.send.new.out) c.in_ok-status.status c.max.result
    c.has_leak-leaks.result c.in_ok-text.text.items
    c.has_over-followed.ensures c.in_ok-status.ensures c.in_ok-send.ensures.written c.has_leak-leaks.ensures (rw c.leak_status.ensures at c.max.ensures)
