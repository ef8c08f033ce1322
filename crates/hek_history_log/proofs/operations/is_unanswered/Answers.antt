use Rattle.std.proofs.Common.{◌≡◌, ◌++◌, ◌∷◌, [], List, Bool, true, false, refl, sym, ◌∙◌}
use Rattle.std.proofs.lemmas.Bool.{true≢false}
use Rattle.std.specs.Prelude.{codes}
use Rattle.json.specs.Json.{Json, boolean, string}
use Rattle.hek_history.specs.declared.history.Operation.{Operation}
use Rattle.hek_history.specs.declared.history.Operation.TheVariants.{Read, Put, Insert, Update, Delete, Scan}
use Rattle.hek_history_log.specs.Kinds.{answers}
use Rattle.hek_history_log.specs.LogText.{number_json, parts_of}
use Rattle.hek_history_log.proofs.operations.is_unanswered.Goals as goal

ends_in_answer : (op : Operation) → answers op ≡ true → (js : List Json) × (done : Bool) × (parts_of op ≡ js ++ boolean done ∷ [])
ends_in_answer (Read key found) e = absurd (true≢false (sym e))
ends_in_answer (Put key value) e = absurd (true≢false (sym e))
ends_in_answer (Insert key value done) e = (string (codes "insert") ∷ number_json key ∷ number_json value ∷ [], done, refl)
ends_in_answer (Update key value done) e = (string (codes "update") ∷ number_json key ∷ number_json value ∷ [], done, refl)
ends_in_answer (Delete key done) e = (string (codes "delete") ∷ number_json key ∷ [], done, refl)
ends_in_answer (Scan scope pairs) e = absurd (true≢false (sym e))

pub returns-then-has_answer : goal.returns-then-has_answer
returns-then-has_answer c op is =
    let p = c.in-Ok.ensures op is in
    let s = ends_in_answer op (sym (c.has_answer.ensures op p.0) ∙ c.if-has_answer.true) in
    c.ends_in_null.ensures s.0 s.1 (p.1 ∙ s.2)
