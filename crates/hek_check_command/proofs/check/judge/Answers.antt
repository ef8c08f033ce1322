use Rattle.std.proofs.Common.{◌++◌, ◌∙◌, ap, subst, List, ℕ}
use Rattle.std.specs.Io.KnownBytes.{Appends}
use Rattle.hek_check_command.specs.Checked.{verdict_text, why_text, judged_as}
use Rattle.hek_check_command.proofs.check.judge.Goals as goal

pub returns-clause-ok : goal.returns-clause-ok
returns-clause-ok g c =
    let why = why_text c.args.why (judged_as c.args.level c.args.transcript.now) c.in_ok-verdict.verdict in
    record {
      verdict = c.in_ok-verdict.verdict;
      right = c.in_ok-verdict.ensures;
      written =
          subst (λ (xs : List ℕ). Appends (g.W.Write.contents c.args.out.now) (g.W.Write.contents c.send.new.out) xs)
          (c.in_ok-put_why.ensures ∙ ap (λ (xs : List ℕ). xs ++ why) (c.in_ok-put_verdict.ensures ∙ ap (λ (xs : List ℕ). xs ++ verdict_text c.in_ok-verdict.verdict) c.new-lines.ensures.items))
          c.in_ok-send.ensures.written;
      answer = c.status_of.ensures;
    }
