use Rattle.std.proofs.Common.{◌≡◌, ◌++◌, List, map, ap, ◌∙◌}
use Rattle.hek_history.specs.declared.history.Operation.{Operation}
use Rattle.hek_history_log.specs.Contents.{content}
use Rattle.hek_history_log.specs.LogText.{operation_json}
use Rattle.hek_history_log.proofs.operations.read_operations.Goals as goal

pub returns : goal.returns
returns c buckets ops all given is =
    let g = c.in_ok-add_operations.ensures buckets ops all given (c.in-Some.ensures (map operation_json ops) is) in
    (g.0, g.1 ∙ ap (λ (l : List Operation). map content l ++ map content ops) c.in_ok-operations.ensures.items)
