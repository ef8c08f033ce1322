use Rattle.std.proofs.Common.{◌≡◌, ℕ, ◌+◌, List, ◌∷◌, ◌++◌, rules, ap, sym, subst, ◌∙◌, drop}
use Rattle.std.proofs.lemmas.List.{at_drop_more}
use Rattle.hek_debug.specs.declared.command.Command.{Command}
use Rattle.hek_debug.specs.Sessions.{Session, session_after, stop_of}
use Rattle.hek_debug_command.specs.Debugged.{told_text, session_text}
use Rattle.hek_report.specs.Sent.{Passes}
use Rattle.hek_debug_command.proofs.Sending.{passes-next}
use Rattle.hek_debug_command.proofs.debug.do_all.Goals as goal

pub loop-command-preserved : goal.loop-command-preserved
loop-command-preserved g c =
    let held = g.W.Write.contents c.args.out.now in
    let now = g.W.Write.contents c.loop-command.out in
    let commands = c.args.commands.now in
    let i = c.loop-command.command-index in
    let s = c.loop-command.debugger in
    let command = c.command-item.result in
    let whole : List ℕ = session_text c.args.debugger.now commands in
    let line : List ℕ = told_text (session_after s command) (stop_of s command) in
    let rest : List ℕ = session_text c.do_one.new.debugger (drop (i + 1) commands) in
    let next : session_text s (drop i commands) ≡ line ++ rest =
    at_drop_more (session_text s) commands i command (search rules)
    ∙ ap (λ (x : Command). session_text s (x ∷ drop (i + 1) commands)) (sym (search rules))
    ∙ ap (λ (t : Session). line ++ session_text t (drop (i + 1) commands)) (sym c.in_ok-do_one.ensures.stands) in
    passes-next held now _ whole line rest (subst (λ (xs : List ℕ). Passes held whole now xs) next c.loop-command.invariant) c.in_ok-do_one.ensures.written
