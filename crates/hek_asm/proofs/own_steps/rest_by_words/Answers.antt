use Rattle.std.proofs.Common.{◌≡◌, ◌++◌, List, ℕ, Option, IfSome, map, subst, Bor}
use Rattle.hek_asm.specs.Trace.{line_rest}
use Rattle.hek_asm.proofs.OwnSteps.{words_rest}
use Rattle.hek_asm.proofs.own_steps.rest_by_words.Goals as goal

pub returns : goal.returns
returns c =
    let text : List ℕ = c.args.text.now in
    let reply = c.in_ok-reply.reply in
    let back = subst (λ (o : Option (Bor (List ℕ))). IfSome o (λ after. text ≡ line_rest reply ++ after.now)) c.in-Some-2.is c.in_ok-after.ensures in
    words_rest reply (map (λ w. w.now) c.as_slice.result.now) text c.in-Some-2.after.now c.in_ok-reply.ensures back
