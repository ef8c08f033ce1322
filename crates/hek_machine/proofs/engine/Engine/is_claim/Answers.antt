use Rattle.std.proofs.Common.{sym, ◌∙◌, subst}
use Rattle.hek_visible.specs.Seen.{NamesCreator}
use Rattle.hek_machine.proofs.WalkRules.{sight_creator}
use Rattle.hek_machine.proofs.ClaimRules.{claim_shown}
use Rattle.hek_machine.proofs.engine.Engine.is_claim.Goals as goal

pub is_claim_by-requires-clause-maker : goal.is_claim_by-requires-clause-maker
is_claim_by-requires-clause-maker c =
    let m = c.args.self.now in subst (NamesCreator m.txns) (sym (c.content.ensures.value ∙ c.begin_of.ensures)) (sight_creator m c.args.v c.requires.ordered)

pub returns : goal.returns
returns c = claim_shown c.args.self.now c.args.t c.args.v c.content.result c.is_claim_by.result (c.content.ensures.value ∙ c.begin_of.ensures) c.is_claim_by.ensures
