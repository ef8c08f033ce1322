use Rattle.std.proofs.Common.{ap, ◌∙◌, List}
use Rattle.hek_rules.specs.Plan.{Plan}
use Rattle.hek_permute.specs.declared.play.Place.{Place}
use Rattle.hek_explore.specs.Codes.{code_of}
use Rattle.hek_explore.proofs.state.key_after.Goals as goal

pub returns : goal.returns
returns c = record {
  places = c.in_ok-book.places.items;
  history = c.in_ok-book.book.history;
  come = c.in_ok-book.ensures.come;
  is = c.in_ok-key.ensures
      ∙ ap (λ (places : List Place). code_of c.in_ok-book.book.plan places c.in_ok-book.book.history) c.as_slice.ensures.value
      ∙ ap (λ (p : Plan). code_of p c.in_ok-book.places.items c.in_ok-book.book.history) (c.in_ok-book.ensures.plan ∙ c.in_ok-grouped.ensures);
}
