use Rattle.std.proofs.Common.{◌∙◌}
use Rattle.hek_history_levels.proofs.Takings.{seen-by}
use Rattle.hek_history_levels.proofs.transaction.seen.Goals as goal

pub returns : goal.returns
returns c =
    seen-by c.args.turns.now c.args.transaction.now c.in_ok-taken.taken c.in_ok-from_slice.field-0 c.in_ok-reads.reads c.in_ok-writes.writes c.is_lenient-lenient.result c.as_slice.result.now c.is_lenient-lenient.ensures
    c.as_slice.ensures.value c.in_ok-from_slice.ensures.items (c.in_ok-reads.ensures.items ∙ c.as_slice-2.ensures.value) (c.in_ok-writes.ensures.items ∙ c.as_slice-3.ensures.value) c.in_ok-taken.ensures
