use Rattle.std.proofs.Common.{◌==◌, ◌≤◌, ◌∙◌, ℕ, Vec, Global, List, Option, length, sym, ap, arith}
use Rattle.std.specs.HashMap.{get}
use Rattle.std.specs.Prelude.{is_some, ◌||◌}
use Rattle.std.specs.List.{list_any}
use Rattle.std.proofs.lemmas.List.{take_all}
use Rattle.hek_levels.specs.declared.log.Change.{Change}
use Rattle.hek_levels.specs.Logs.{left_in}
use Rattle.hek_history_levels.proofs.Owned.{left-placed, key-noted, key-left}
use Rattle.hek_history_levels.proofs.reads.add_own.Goals as goal
use Rattle.hek_history_levels.proofs.reads.add_own.Goals.{then-covers+in_ok-push, else-covers}

pub loop-i-preserved : goal.loop-i-preserved
loop-i-preserved c key cover =
    elim c.if-covers.branch [
      | then-covers+in_ok-push w ↦
          key-noted c.as_slice-writes.result.now c.loop-i.i key _ c.loop-i.keys.items c.if-covers.keys.items c.args.keys.now.items c.loop-i-test.true (c.loop-i.invariant key cover)
          (ap (λ (v : Vec ℕ Global). v.items) w.keys-is ∙ w.in_ok-push.ensures.items)
      | else-covers w ↦
          key-left c.as_slice-writes.result.now c.loop-i.i key _ c.loop-i.keys.items c.if-covers.keys.items c.args.keys.now.items c.loop-i-test.true (c.loop-i.invariant key cover)
          c.args.scope cover (sym c.covers.ensures ∙ w.if-covers.false) (ap (λ (v : Vec ℕ Global). v.items) w.keys-is)
    ]

pub returns : goal.returns
returns c key cover =
    let end : length c.as_slice-writes.result.now ≤ c.loop-i.i = omega (arith, c.loop-i-test.false) in
    c.loop-i.invariant key cover
    ∙ ap (λ (o : Option (Option ℕ)). list_any (λ (k : ℕ). k == key) c.args.keys.now.items || is_some o)
    (ap (λ (cs : List Change). left_in cs key) (take_all c.loop-i.i c.as_slice-writes.result.now end ∙ c.as_slice-writes.ensures.value)
    ∙ left-placed (get ◌==◌ c.args.own.now.places) c.args.own.now.writes.items c.requires key)
