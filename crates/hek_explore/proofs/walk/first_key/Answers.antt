use Rattle.std.proofs.Common.{ap, ◌∙◌, List}
use Rattle.hek_worker.specs.Kept.{Kept}
use Rattle.hek_permute.specs.declared.play.Place.{Place}
use Rattle.hek_permute.specs.declared.moves.Form.{Form}
use Rattle.hek_explore.specs.Codes.{code_of}
use Rattle.hek_explore.proofs.Classes.{start-key}
use Rattle.hek_explore.proofs.walk.first_key.Goals as goal

pub returns : goal.returns
returns c = λ (form : Form).
    start-key c.args.schedule.now c.in_ok-book.book.plan form c.args.moves.now c.in_ok-places.places.items c.in_ok-book.book.history
    c.into_parts-machine.result.0 c.in_ok-key.key c.requires (ap (λ (b : Kept). b.plan) c.in_ok-book.ensures ∙ c.schedule.ensures) c.in_ok-places.ensures
    (ap (λ (b : Kept). b.history) c.in_ok-book.ensures)
    (c.in_ok-key.ensures ∙ ap (λ (places : List Place). code_of c.in_ok-book.book.plan places c.in_ok-book.book.history) c.as_slice.ensures.value)
    c.into_parts-machine.ensures.replays
