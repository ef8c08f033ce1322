use Rattle.std.proofs.Common.{rules}
use Rattle.hek_page_command.proofs.story.add_step.Goals as goal

pub returns : goal.returns
returns c = record {
  added = record {
    text = c.in_ok-text.text;
    lead = c.in_ok-text.ensures;
    added = search rules;
  };
}
