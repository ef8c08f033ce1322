use Rattle.std.proofs.Common.{sym, ◌∙◌, ◌%◌, refl}
use Rattle.std.proofs.lemmas.Result.{IfOk-weaker}
use Rattle.hek_rules.specs.Walk.{ToRead}
use Rattle.hek_store.specs.Places.{key_versions_left}
use Rattle.hek_rules.specs.declared.event.Aim.TheVariants as aims
use Rattle.hek_machine.specs.Judgements.{IsShown, verdict}
use Rattle.hek_machine.specs.Written.{key_walk}
use Rattle.hek_machine.proofs.KeyRules.{bucket_places, walk-enough, seen-target}
use Rattle.hek_machine.proofs.RuleWalks.{allowed_by}
use Rattle.hek_machine.proofs.WalkRules.{walked}
use Rattle.hek_machine.proofs.engine.Engine.walk_along.Goals as goal

pub judge_along-requires-clause-versions : goal.judge_along-requires-clause-versions
judge_along-requires-clause-versions c = c.versions_for.ensures.below

pub returns-clause-judged : goal.returns-clause-judged
returns-clause-judged c =
    let m = c.args.self.now in
    let vs = key_versions_left c.versions_for.result in
    let bucket = c.args.key % m.store.buckets in
    let planned = c.judge_along.new.effects.items in
    IfOk-weaker c.judge_along.result _ (λ r. IsShown m (λ w. key_walk w c.args.t ToRead c.args.key) (verdict r planned))
    (λ r i w s. sym (walk-enough m w c.args.t c.args.key bucket vs ToRead s refl c.versions_for.ensures)
    ∙ walked m c.args.t bucket vs aims.ToRead c.list_first_of.new.effects.items (verdict r planned) _ c.in_ok-list_first_of.ensures i w s) c.judge_along.ensures.judged

pub returns-clause-allowed : goal.returns-clause-allowed
returns-clause-allowed c =
    let m = c.args.self.now in
    let vs = key_versions_left c.versions_for.result in
    let bucket = c.args.key % m.store.buckets in
    let planned = c.judge_along.new.effects.items in
    IfOk-weaker c.judge_along.result _ _
    (λ r i none. allowed_by m c.args.t bucket vs aims.ToRead r planned (bucket_places m c.args.t c.args.key bucket vs refl c.versions_for.ensures)
    c.requires.walker none (walked m c.args.t bucket vs aims.ToRead c.list_first_of.new.effects.items (verdict r planned) _ c.in_ok-list_first_of.ensures i)) c.judge_along.ensures.judged

pub returns-clause-seen : goal.returns-clause-seen
returns-clause-seen c =
    let m = c.args.self.now in
    IfOk-weaker c.judge_along.result _ _
    (λ r i none w s. seen-target m w c.args.t c.args.key (key_versions_left c.versions_for.result) c.judge_along.new.met.seen s c.versions_for.ensures (i none)) c.judge_along.ensures.seen
