use Rattle.std.proofs.Common.{rules, ◌∙◌, ap, sym}
use Rattle.std.specs.Prelude.{◌==◌, is_some}
use Rattle.hek_rules.specs.declared.word.EndRecord.TheVariants.{Until}
use Rattle.hek_rules.specs.Words.{infinity, end_number, end_time}
use Rattle.hek_machine.proofs.CommittedRows.{ender_declared, lasts_at}
use Rattle.hek_machine.proofs.engine.Engine.lasts.Goals as goal

pub state-requires : goal.state-requires
state-requires c = ender_declared c.args.self.now c.args.v c.in-Some.u c.requires.ordered (cc)

pub returns-else-is_none : goal.returns-else-is_none
returns-else-is_none c = λ w s.
    lasts_at c.args.self.now c.args.v (ap (λ x. is_some (end_time x)) (sym c.end_of-word.ensures) ∙ ap is_some (sym c.time.ensures) ∙ c.if-is_none.ensures) w s
    ∙ ap (λ x. end_number x == end_number (Until infinity)) (sym c.end_of-word.ensures)
    ∙ ap (λ x. end_number c.end_of-word.result == end_number x) (sym c.infinity.ensures) ∙ sym c.eq.ensures

pub returns-in-Some : goal.returns-in-Some
returns-in-Some c = search rules
