use Rattle.hek_page_command.proofs.Stepping.{added_from_copy}
use Rattle.hek_page_command.proofs.story.show_step.Goals as goal

pub returns-clause-added : goal.returns-clause-added
returns-clause-added c =
    added_from_copy c.args.machine.now c.in_ok-before.before c.show_from.new.machine c.args.story.now.steps.items c.show_from.new.story.steps.items
    c.in_ok-before.ensures c.in_ok-show_from.ensures.added
