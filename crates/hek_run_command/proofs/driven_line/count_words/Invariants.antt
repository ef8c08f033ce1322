use Rattle.std.proofs.Common.{length}
use Rattle.hek_run_command.proofs.driven_line.count_words.Given as goal

abbrev pub decreases-loop-after : goal.decreases-loop-after
decreases-loop-after l = length l.rest
