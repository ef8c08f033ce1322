use Rattle.std.proofs.Common.{◌≡◌, List, map, sym, ap, ◌∙◌}
use Rattle.json.specs.Json.{Json, array}
use Rattle.json.specs.Value.{value_view, items_view, items_of}
use Rattle.json.proofs.Trees.{view-Array}
use Rattle.hek_history_log.specs.LogText.{array_json}
use Rattle.hek_history_log.proofs.JsonLemmas.{array_same}
use Rattle.hek_history_log.proofs.symbols.items_of.Goals as goal

pub returns-in-Array-clause-items : goal.returns-in-Array-clause-items
returns-in-Array-clause-items c js is =
    let given : array (items_view c.in-Array.items.items) ≡ array_json js = sym (view-Array c.in-Array.items) ∙ ap value_view (sym c.in-Array.is) ∙ is in
    ap (map value_view) c.as_slice.ensures.value ∙ array_same (map value_view c.in-Array.items.items) js given
