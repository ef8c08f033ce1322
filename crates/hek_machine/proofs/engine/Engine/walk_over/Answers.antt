use Rattle.hek_rules.specs.Walk.{walk}
use Rattle.hek_rules.specs.Aims.{purpose_of}
use Rattle.hek_machine.proofs.RuleWalks.{allowed_by}
use Rattle.hek_machine.proofs.engine.Engine.walk_over.Goals as goal

pub settle-requires-clause-allowed : goal.settle-requires-clause-allowed
settle-requires-clause-allowed c =
    λ none. rw c.deref.ensures.value
    (allowed_by c.args.self.now c.args.t c.args.bucket c.args.vs.now c.args.aim.now c.in_ok-refused.refused c.walk.new.effects.items
    c.requires.places c.requires.walker none c.in_ok-refused.ensures)

pub returns-clause-after : goal.returns-clause-after
returns-clause-after c =
    c.settle.ensures.after (λ w. walk w c.args.t (purpose_of c.args.aim.now) c.args.bucket c.args.vs.now) (rw c.deref.ensures.value c.in_ok-refused.ensures)
