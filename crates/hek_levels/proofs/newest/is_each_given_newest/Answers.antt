use Rattle.std.proofs.Common.{subst}
use Rattle.hek_levels.specs.declared.log.Place.{Place}
use Rattle.hek_levels.specs.declared.log.Place.TheVariants as place
use Rattle.hek_levels.specs.declared.certificate.Missing.{Missing}
use Rattle.hek_levels.specs.Explanations.{explanation, given_of}
use Rattle.hek_levels.specs.Levels.{asked_of}
use Rattle.hek_levels.specs.Sweeps.{IsNewestAt}
use Rattle.hek_levels.proofs.Turned.{element-more, element-all, one-same}
use Rattle.hek_levels.proofs.newest.is_each_given_newest.Goals as goal

pub loop-n-preserved : goal.loop-n-preserved
loop-n-preserved c =
    element-more (λ (one : Missing). IsNewestAt (asked_of c.args.asked.now c.args.t) c.args.log.now (explanation c.args.certificate.now) c.args.t (place.Missing one.scan one.key)) c.missing_of-given.result.now c.loop-n.n
    c.loop-n.invariant
    (λ one there.
    subst (λ (r : Place). IsNewestAt (asked_of c.args.asked.now c.args.t) c.args.log.now (explanation c.args.certificate.now) c.args.t r)
    (one-same c.in-Some.place (place.Missing one.scan one.key) (c.in-Some.ensures one there)) (c.in_ok-is_newest.ensures c.if-not-branch.false))

pub returns : goal.returns
returns c is_so n one there =
    element-all (λ (given : Missing). IsNewestAt (asked_of c.args.asked.now c.args.t) c.args.log.now (explanation c.args.certificate.now) c.args.t (place.Missing given.scan given.key)) c.missing_of-given.result.now
    (given_of c.args.certificate.now c.args.t) c.loop-n.n c.missing_of-given.ensures c.loop-n-test.false c.loop-n.invariant n one there
