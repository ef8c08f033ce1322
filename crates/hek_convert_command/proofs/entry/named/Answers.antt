use Rattle.hek_convert_command.proofs.LineLaws.{no_name, of_name}
use Rattle.hek_convert_command.proofs.entry.named.Goals as goal

pub returns-in_err-word : goal.returns-in_err-word
returns-in_err-word c = no_name c.args.name.now c.args.old.now c.args.new.now c.args.txn.now c.from_residual.result c.from_residual.ensures c.in_err-word.ensures

pub returns : goal.returns
returns c = of_name c.args.name.now c.args.old.now c.args.new.now c.args.txn.now c.in_ok-word.word c.exchange_from.result c.in_ok-word.ensures c.exchange_from.ensures
