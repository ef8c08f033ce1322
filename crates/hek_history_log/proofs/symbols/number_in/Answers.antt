use Rattle.json.specs.Value.{value_view}
use Rattle.hek_history_log.proofs.JsonLemmas.{as_u64-number_json}
use Rattle.hek_history_log.proofs.symbols.number_in.Goals as goal

pub returns : goal.returns
returns c n small is = as_u64-number_json (value_view c.args.value.now) c.as_u64.result n small is c.as_u64.ensures
