use Rattle.std.proofs.Common.{◌<◌, length, sym, ◌∙◌, subst}
use Rattle.std.proofs.lemmas.Result.{IfOk-weaker}
use Rattle.std.specs.List.{All}
use Rattle.hek_rules.specs.Walk.{ToRead, walk, of_bucket}
use Rattle.hek_store.specs.Places.{versions_left}
use Rattle.hek_rules.specs.declared.event.Aim.TheVariants as aims
use Rattle.hek_machine.specs.Judgements.{IsShown, verdict}
use Rattle.hek_machine.proofs.KeyPlaces.{of_bucket-below}
use Rattle.hek_machine.proofs.RuleWalks.{allowed_by}
use Rattle.hek_machine.proofs.ScanRules.{bucket_places, bucket-walk, bucket-seen}
use Rattle.hek_machine.proofs.WalkRules.{walked}
use Rattle.hek_machine.proofs.engine.Engine.walk_bucket.Goals as goal

pub judge_bucket-requires-clause-versions : goal.judge_bucket-requires-clause-versions
judge_bucket-requires-clause-versions c =
    let m = c.args.self.now in
    subst (All (λ v. v < length m.store.versions)) (sym c.versions_in.ensures) (of_bucket-below m.store c.args.bucket)

pub returns-clause-judged : goal.returns-clause-judged
returns-clause-judged c =
    let m = c.args.self.now in
    let vs = versions_left c.versions_in.result in
    let planned = c.judge_bucket.new.effects.items in
    IfOk-weaker c.judge_bucket.result _ (λ r. IsShown m (λ w. walk w c.args.t ToRead c.args.bucket (of_bucket w c.args.bucket)) (verdict r planned))
    (λ r i w s. bucket-walk m w c.args.t c.args.bucket vs c.versions_in.ensures s
    ∙ walked m c.args.t c.args.bucket vs aims.ToRead c.list_first.new.effects.items (verdict r planned) _ c.in_ok-list_first.ensures i w s) c.judge_bucket.ensures.judged

pub returns-clause-allowed : goal.returns-clause-allowed
returns-clause-allowed c =
    let m = c.args.self.now in
    let vs = versions_left c.versions_in.result in
    let planned = c.judge_bucket.new.effects.items in
    IfOk-weaker c.judge_bucket.result _ _
    (λ r i none. allowed_by m c.args.t c.args.bucket vs aims.ToRead r planned (bucket_places m c.args.bucket vs c.versions_in.ensures c.requires.bucket)
    c.requires.walker none (walked m c.args.t c.args.bucket vs aims.ToRead c.list_first.new.effects.items (verdict r planned) _ c.in_ok-list_first.ensures i)) c.judge_bucket.ensures.judged

pub returns-clause-seen : goal.returns-clause-seen
returns-clause-seen c =
    let m = c.args.self.now in
    IfOk-weaker c.judge_bucket.result _ _
    (λ r i none w s. bucket-seen m w c.args.t c.args.bucket (versions_left c.versions_in.result) c.judge_bucket.new.seen.items c.versions_in.ensures (i none) s) c.judge_bucket.ensures.seen
