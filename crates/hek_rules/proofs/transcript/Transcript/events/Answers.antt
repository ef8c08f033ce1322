use Rattle.std.proofs.Common.{◌∙◌, ap, sym, map}
use Rattle.std.proofs.lemmas.Slice.Zip.{firsts-zip}
use Rattle.hek_rules.specs.declared.event.Event.{Event}
use Rattle.hek_rules.specs.declared.reply.Reply.{Reply}
use Rattle.hek_rules.specs.Recorded.{Recorded}
use Rattle.hek_rules.proofs.transcript.Transcript.events.Goals as goal

pub returns : goal.returns
returns c =
    c.as_slice.ensures.value ∙ sym (firsts-zip c.self.inside.events.items c.self.inside.replies.items c.self.invariant.1)
    ∙ ap (λ (t : Recorded). map (λ (p : Event × Reply). p.0) t.history) c.self.view_is
