use Rattle.std.proofs.Common.{◌≡◌, ◌<◌, ◌++◌, ◌∷◌, [], ◌∙◌, List, Some, length, set, ap}
use Rattle.std.specs.HashMap.{get}
use Rattle.std.specs.Prelude.{◌==◌, slice_get}
use Rattle.std.proofs.lemmas.Option.{slice_get_within}
use Rattle.hek_history.proofs.Fronts.{element_at}
use Rattle.hek_levels.specs.declared.log.Change.{Change}
use Rattle.hek_history_levels.proofs.Elements.{replaced-there, others-there}
use Rattle.hek_history_levels.proofs.Owned.{replaced-placed, replaced-left, replaced-undone}
use Rattle.hek_history_levels.proofs.own.replace.Goals as goal

pub returns-clause-own : goal.returns-clause-own
returns-clause-own c =
    let ws = c.args.own.now.writes.items in
    let old = c.requires.own.found c.args.change.key c.args.place c.requires.there in
    let within = slice_get_within ws c.args.place old.0 old.1 in
    replaced-placed (get ◌==◌ c.args.own.now.places) (get ◌==◌ c.args.own.now.places) ws c.requires.own c.args.change (set ws c.args.place c.args.change) c.args.place c.requires.there
    (replaced-there ws c.args.place c.args.change within) (λ p other. others-there ws c.args.place p c.args.change other)

pub returns-clause-left : goal.returns-clause-left
returns-clause-left c key =
    let ws = c.args.own.now.writes.items in
    let old = c.requires.own.found c.args.change.key c.args.place c.requires.there in
    let within = slice_get_within ws c.args.place old.0 old.1 in
    replaced-left (get ◌==◌ c.args.own.now.places) (get ◌==◌ c.args.own.now.places) ws c.requires.own c.args.change (set ws c.args.place c.args.change) c.args.place c.requires.there
    (replaced-there ws c.args.place c.args.change within) (λ p other. others-there ws c.args.place p c.args.change other) key

pub returns-clause-passing : goal.returns-clause-passing
returns-clause-passing c =
    let ws = c.args.own.now.writes.items in
    let old = c.requires.own.found c.args.change.key c.args.place c.requires.there in
    let within : c.args.place < length ws = slice_get_within ws c.args.place old.0 old.1 in
    let before : Change = c.index-before.result.now in
    let there : slice_get ws c.args.place ≡ Some before = element_at ws c.args.place before within c.index-before.ensures in
    let pushed : c.push.new.self.items ≡ c.args.own.now.passing.items ++ before ∷ [] = c.in_ok-push.ensures.items in
    pushed
    ∙ ap (λ (xs : List Change). c.args.own.now.passing.items ++ xs)
    (replaced-undone (get ◌==◌ c.args.own.now.places) (get ◌==◌ c.args.own.now.places) ws c.requires.own c.args.change (set ws c.args.place c.args.change) c.args.place c.requires.there
    (replaced-there ws c.args.place c.args.change within) (λ p other. others-there ws c.args.place p c.args.change other) before there)
