use Rattle.std.proofs.Common.{rules, reverse, sym, ap, subst, ◌≡◌, ◌∙◌, List, ℕ}
use Rattle.hek_rules.specs.Plan.{Plan}
use Rattle.hek_permute.specs.declared.play.Place.{Place}
use Rattle.hek_explore.specs.Codes.{code_of}
use Rattle.hek_permute.specs.Plays.{Plays}
use Rattle.hek_explore.proofs.grow.replay.Goals as goal

pub returns : goal.returns
returns c =
    let same : c.in_ok-key.key ≡ c.key-2.result.now = search rules in
    record {
      plan_is = c.in_ok-book.ensures.plan;
      come = subst (λ (l : List ℕ). Plays c.args.form c.args.moves.now (reverse l) c.in_ok-book.places.items c.in_ok-book.book.history) c.first.ensures
          c.in_ok-book.ensures.come;
      key = ap (λ (p : Plan). code_of p c.in_ok-book.places.items c.in_ok-book.book.history) (sym c.in_ok-book.ensures.plan)
          ∙ ap (λ (places : List Place). code_of c.in_ok-book.book.plan places c.in_ok-book.book.history) (sym c.as_slice.ensures.value)
          ∙ sym c.in_ok-key.ensures ∙ same ∙ c.key-2.ensures;
    }
