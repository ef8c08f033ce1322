use Rattle.std.proofs.Common.{refl, ap}
use Rattle.std.specs.HashMap.{get}
use Rattle.std.specs.Prelude.{◌==◌, not}
use Rattle.std.proofs.lemmas.Bool.{both_ways}
use Rattle.hek_levels.proofs.Replays.{closed_writers}
use Rattle.hek_levels.proofs.points.is_closed.Goals as goal

pub returns-then-not-rules : goal.returns-then-not-rules
returns-then-not-rules c is_so = record {
  before = c.requires.before;
  whole = c.if-is_late.ensures refl;
  writers = (λ on k x key le l a w. absurd (both_ways _ (ap not on) c.if-not-rules.true));
}

pub returns-else-not-rules : goal.returns-else-not-rules
returns-else-not-rules c is_so = record {
  before = c.requires.before;
  whole = c.if-is_late.ensures refl;
  writers = (λ on. closed_writers c.args.log.now c.args.order.now c.args.low c.args.i c.args.t (get ◌==◌ c.args.last.now) c.requires.last (c.is_unwritten_since.ensures is_so));
}
