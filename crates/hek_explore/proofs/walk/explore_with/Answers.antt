use Rattle.std.proofs.Common.{List, Option, Some, None, Result, Ok, Err, subst, sym}
use Rattle.std.specs.Prelude.{IfOk, IfSome}
use Rattle.hek_rules.specs.Plan.{Plan}
use Rattle.hek_program.specs.declared.rule.Rule.{Rule}
use Rattle.hek_permute.specs.declared.moves.Form.{Form}
use Rattle.hek_permute.specs.Found.{Line}
use Rattle.hek_permute.specs.Moves.{Work, AreMoves}
use Rattle.hek_explore.specs.Counts.{IsCensus, IsCensusOf}
use Rattle.hek_explore.specs.Steps.{AreRuled}
use Rattle.hek_explore.proofs.walk.explore_with.Goals as goal

found-all : {E : Type 0} (p : Plan) (rules : List Rule) (form : Form) (works : List Work) (r : Result (Option (List Line)) E) → AreMoves p rules works
    → IfOk r (λ found. IfSome found (IsCensusOf p form works)) → IfOk r (λ found. IfSome found (IsCensus p rules form))
found-all p rules form works (Ok (Some rows)) are all = record { moves = works; are = are; all = all }
found-all p rules form works (Ok None) are all = tt
found-all p rules form works (Err e) are all = tt

pub explore_moves-requires-clause-are : goal.explore_moves-requires-clause-are
explore_moves-requires-clause-are g c =
    subst (λ (p : Plan). AreRuled p c.as_slice.result.now) (sym c.in_ok-grouped.ensures)
    (record {
      rules = c.args.rules.now;
      are = subst (λ (works : List Work). AreMoves c.args.schedule.now c.args.rules.now works) (sym c.as_slice.ensures.value) c.in_ok-moves.ensures;
    })

pub returns : goal.returns
returns g c =
    found-all c.args.schedule.now c.args.rules.now c.args.form c.as_slice.result.now c.explore_moves.result
    (subst (λ (works : List Work). AreMoves c.args.schedule.now c.args.rules.now works) (sym c.as_slice.ensures.value) c.in_ok-moves.ensures)
    (subst (λ (p : Plan). IfOk c.explore_moves.result (λ found. IfSome found (IsCensusOf p c.args.form c.as_slice.result.now))) c.in_ok-grouped.ensures c.explore_moves.ensures)
