use Rattle.std.proofs.Common.{◌≡◌, List, ◌++◌, ◌∷◌, [], ◌∙◌, ap, length}
use Rattle.std.specs.List.{zip}
use Rattle.hek_rules.specs.declared.event.Event.{Event}
use Rattle.hek_rules.specs.declared.reply.Reply.{Reply}
use Rattle.hek_rules.specs.Recorded.{Recorded}
use Rattle.hek_rules.proofs.Zips.{zip-append}
use Rattle.hek_rules.proofs.transcript.Transcript.push.Goals as goal
use Rattle.hek_rules.proofs.transcript.Transcript.push.Goals.{in-Ok, in-Err}

pushed : (es fs : List Event) (rs ss : List Reply) (e : Event) (r : Reply) → length rs ≡ length es → fs ≡ es ++ e ∷ [] → ss ≡ rs ++ r ∷ [] → zip fs ss ≡ zip es rs ++ (e, r) ∷ []
pushed es fs rs ss e r same new_events new_replies = rw (new_events, new_replies) (zip-append es rs e r same)

pub returns-clause-ok : goal.returns-clause-ok
returns-clause-ok c =
    elim c.match-push.branch [
      | in-Ok w ↦
          let all = pushed c.self.inside.events.items c.push.new.self.items c.self.inside.replies.items c.push-2.new.self.items c.args.event c.args.reply c.self.invariant.1 c.in_ok-push.ensures.items w.in-Ok.ensures.items in
          let before = c.self.view_is in
          rw w.result-is (w.self-is ∙ ap (λ h. record { buckets = c.self.inside.buckets; rows = c.self.inside.rows.items; levels = c.self.inside.levels.items; history = h }) all
          ∙ ap (λ (t : Recorded). record t { history = t.history ++ (c.args.event, c.args.reply) ∷ [] }) before)
      | in-Err w ↦ rw w.result-is tt
    ]
