use Rattle.std.proofs.Common.{◌≡◌, ℕ, true, Option, arith, subst, below_more}
use Rattle.std.specs.Prelude.{IfNone}
use Rattle.hek_levels.specs.declared.log.Place.{Place}
use Rattle.hek_levels.specs.Logs.{is_committed}
use Rattle.hek_levels.specs.Uncommitted.{AreFoundBy}
use Rattle.hek_levels.proofs.Marks.{committed_within}
use Rattle.hek_levels.proofs.uncommitted.find_lost.Goals as goal

pub loop-t-preserved : goal.loop-t-preserved
loop-t-preserved c =
    below_more (λ (x : ℕ). is_committed c.args.log.now x ≡ true → AreFoundBy c.args.log.now x) c.loop-t.t c.loop-t.invariant
    (subst (λ (o : Option Place). IfNone o (is_committed c.args.log.now c.loop-t.t ≡ true → AreFoundBy c.args.log.now c.loop-t.t)) c.in_default.is c.in_ok-place.ensures.none)

pub returns-clause-none : goal.returns-clause-none
returns-clause-none c t k =
    let within = committed_within c.args.log.now t k in
    c.loop-t.invariant t (omega (arith, within, c.loop-t-test.false, c.len-t-end.ensures)) k
