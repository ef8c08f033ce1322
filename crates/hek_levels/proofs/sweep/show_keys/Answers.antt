use Rattle.std.proofs.Common.{subst}
use Rattle.std.specs.HashMap.{get}
use Rattle.std.specs.Prelude.{◌==◌}
use Rattle.hek_levels.specs.declared.log.Change.{Change}
use Rattle.hek_levels.specs.Logs.{writes_of}
use Rattle.hek_levels.specs.Sweeps.{IsMarked}
use Rattle.hek_levels.proofs.Marks.{changed_by}
use Rattle.hek_levels.proofs.Turned.{element-more, element-all}
use Rattle.hek_levels.proofs.sweep.show_keys.Goals as goal

pub loop-n-preserved : goal.loop-n-preserved
loop-n-preserved c = record {
  kept = (λ x m. c.in_ok-show_key.ensures.kept x (c.loop-n.invariant.kept x m));
  there =
      element-more (λ (change : Change). IsMarked (get ◌==◌ c.show_key.new.keys) change.key) c.writes_of-changes.result.now c.loop-n.n
      (λ k change l at. c.in_ok-show_key.ensures.kept change.key (c.loop-n.invariant.there k change l at)) c.in_ok-show_key.ensures.there;
}

pub returns-clause-there : goal.returns-clause-there
returns-clause-there c key does =
    let by = changed_by (writes_of c.args.log.now c.args.y) key does in
    subst (IsMarked (get ◌==◌ c.loop-n.keys)) by.3
    (element-all (λ (change : Change). IsMarked (get ◌==◌ c.loop-n.keys) change.key) c.writes_of-changes.result.now (writes_of c.args.log.now c.args.y) c.loop-n.n c.writes_of-changes.ensures c.loop-n-test.false
    c.loop-n.invariant.there by.0 by.1 by.2)
