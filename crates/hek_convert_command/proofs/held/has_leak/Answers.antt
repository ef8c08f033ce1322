use Rattle.std.proofs.Common.{◌≡◌, ◌≤◌, length, refl, arith, true}
use Rattle.hek_convert_command.proofs.ChangeLaws.{leak_at, no_leak, no_more_leaks}
use Rattle.hek_convert_command.proofs.held.has_leak.Goals as goal

pub returns-then-is_leaked : goal.returns-then-is_leaked
returns-then-is_leaked c = (λ yes. leak_at c.args.book.now c.in-Some.version.now c.in-Some.last.now c.in-Some.ensures.value (c.is_leaked.ensures.0 c.if-is_leaked.true), λ leak. refl)

pub loop-index-preserved : goal.loop-index-preserved
loop-index-preserved c =
    no_more_leaks c.args.book.now c.loop-index.index c.in-Some.version.now c.in-Some.last.now c.in-Some.ensures.entry (λ leaked. let found : c.is_leaked.result ≡ true = c.is_leaked.ensures.1 leaked in cc) c.loop-index.invariant

pub returns : goal.returns
returns c =
    let all : length c.args.book.now.ends.entries ≤ c.loop-index.index = omega (arith, c.loop-index-test.false, c.len-index-end.ensures.len) in
    (λ no. cc, λ leak. absurd (no_leak c.args.book.now c.loop-index.index all c.loop-index.invariant leak))
