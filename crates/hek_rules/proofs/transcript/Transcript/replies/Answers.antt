use Rattle.std.proofs.Common.{◌∙◌, ap, sym, map}
use Rattle.std.proofs.lemmas.Slice.Zip.{seconds-zip}
use Rattle.hek_rules.specs.declared.event.Event.{Event}
use Rattle.hek_rules.specs.declared.reply.Reply.{Reply}
use Rattle.hek_rules.specs.Recorded.{Recorded}
use Rattle.hek_rules.proofs.transcript.Transcript.replies.Goals as goal

pub returns : goal.returns
returns c =
    c.as_slice.ensures.value ∙ sym (seconds-zip c.self.inside.events.items c.self.inside.replies.items c.self.invariant.1)
    ∙ ap (λ (t : Recorded). map (λ (p : Event × Reply). p.1) t.history) c.self.view_is
