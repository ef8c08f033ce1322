use Rattle.std.proofs.lemmas.Result.{IfOk-weaker}
use Rattle.hek_rules.specs.Walk.{walk, behind}
use Rattle.hek_machine.specs.Judgements.{IsShown, verdict}
use Rattle.hek_rules.specs.Aims.{purpose_of}
use Rattle.hek_machine.proofs.WalkRules.{walked, each_judged}
use Rattle.hek_machine.proofs.engine.Engine.walk.Goals as goal

pub returns : goal.returns
returns c =
    let m = c.args.self.now in let first = c.list_first.new.effects.items in let planned = c.judge_versions.new.effects.items in
    IfOk-weaker c.judge_versions.result (λ r. IsShown m (λ w. behind first (each_judged w c.args.t c.args.aim.now c.args.vs.now)) (verdict r planned))
    (λ r. IsShown m (λ w. walk w c.args.t (purpose_of c.args.aim.now) c.args.bucket c.args.vs.now) (verdict r planned))
    (λ r i. walked m c.args.t c.args.bucket c.args.vs.now c.args.aim.now first (verdict r planned) c.requires.aimed c.in_ok-list_first.ensures i) c.judge_versions.ensures
