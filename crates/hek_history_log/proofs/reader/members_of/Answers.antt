use Rattle.std.proofs.Common.{◌≡◌, ℕ, List, [], ◌∷◌, map, Some, refl, sym, ap, ◌∙◌}
use Rattle.std.specs.Borrow.{Bor}
use Rattle.json.specs.declared.value.Value.{Value}
use Rattle.json.specs.Find.{as_object}
use Rattle.json.specs.Value.{value_view, members_view}
use Rattle.json.proofs.Trees.{view-Object}
use Rattle.hek_history_log.specs.MemberNames.{names_of}
use Rattle.hek_history_log.proofs.KeptLemmas.{some_is}
use Rattle.hek_history_log.proofs.reader.members_of.Goals as goal

names_of_view : {A : Type 0} (ms : List (Bor (List ℕ) × Value A)) → names_of (members_view ms) ≡ map (λ m. m.0.now) ms
names_of_view [] = refl
names_of_view (m ∷ ms) = ap (λ (ns : List (List ℕ)). m.0.now ∷ ns) (names_of_view ms)

pub returns-in-Object : goal.returns-in-Object
returns-in-Object c ms is =
    let given : Some (members_view c.in-Object.members.items) ≡ Some ms = ap as_object (sym (view-Object c.in-Object.members) ∙ ap value_view (sym c.in-Object.is)) ∙ is in
    ap (map (λ m. m.0.now)) c.as_slice.ensures.value ∙ sym (names_of_view c.in-Object.members.items) ∙ ap names_of (some_is _ _ given)
