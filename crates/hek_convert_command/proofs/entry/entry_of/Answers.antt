use Rattle.hek_convert_command.proofs.OneEntry.{one_entry}
use Rattle.hek_convert_command.proofs.Spaces.{spaced_entry}
use Rattle.hek_convert_command.proofs.entry.entry_of.Goals as goal

pub returns-clause-written : goal.returns-clause-written
returns-clause-written c e words are is = spaced_entry c.args.line.now c.entry_by_words.result c.entry_by_words.ensures e words are is

pub returns-clause-only : goal.returns-clause-only
returns-clause-only c found is = one_entry c.args.line.now found c.entry_by_words.result c.utf8.line is c.entry_by_words.ensures
