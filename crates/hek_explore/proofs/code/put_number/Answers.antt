use Rattle.std.proofs.Common.{rules, ◌≡◌, ◌+◌, ◌≤◌, refl, arith}
use Rattle.std.specs.Prelude.{◌/◌}
use Rattle.hek_explore.proofs.Codes.{written-all, written-last, written-more}
use Rattle.hek_explore.proofs.code.put_number.Goals as goal

pub returns-then-rest-lt128 : goal.returns-then-rest-lt128
returns-then-rest-lt128 c =
    written-last c.args.code.now.items c.loop.code.items c.push.new.self.items c.args.value c.loop.counter c.loop.rest (omega arith) c.if-rest-lt128.true
    c.in_ok-push.ensures.items c.loop.invariant

pub loop-preserved : goal.loop-preserved
loop-preserved c =
    written-more c.args.code.now.items c.loop.code.items c.push-in-loop.new.self.items c.args.value c.loop.counter (c.loop.counter + 1) c.loop.rest (c.loop.rest / 128) refl refl
    c.if-rest-lt128.false c.in_ok-push-2.ensures.items c.loop.invariant

pub returns : goal.returns
returns c =
    let full : c.loop.counter ≡ 9 = omega arith in
    let same : c.in-Ok.last ≡ c.loop.rest = search rules in
    written-all c.args.code.now.items c.loop.code.items c.push-2.new.self.items c.args.value c.loop.counter c.loop.rest c.in-Ok.last full same c.in_ok-push-3.ensures.items
    c.loop.invariant
