use Rattle.std.proofs.Common.{List, sym, ap, ◌∙◌}
use Rattle.std.specs.HashMap.{get}
use Rattle.std.specs.Prelude.{◌==◌, slice_get}
use Rattle.hek_levels.specs.declared.log.Turn.{Turn}
use Rattle.hek_levels.proofs.Turned.{latest_more, not_kept, turns_more}
use Rattle.hek_levels.proofs.turns.take_turns.Goals as goal

pub returns-clause-before : goal.returns-clause-before
returns-clause-before c is_so =
    let latest =
    latest_more c.args.log.now c.args.order.now c.args.i c.in-Some.t (get ◌==◌ c.args.latest.now) (get ◌==◌ c.begin_all.new.latest) c.requires.latest (sym c.in-Some.ensures) c.in_ok-begin_all.ensures.raised
    (λ n turn at. c.in_ok-begin_all.ensures.there n turn (ap (λ (ts : List Turn). slice_get ts n) c.turns_of.ensures ∙ at)) in
    turns_more c.args.log.now c.args.order.now c.args.i c.in-Some.t c.requires.before (sym c.in-Some.ensures)
    (not_kept c.args.log.now c.args.order.now c.args.i c.in-Some.t (get ◌==◌ c.begin_all.new.latest) latest (sym c.in-Some.ensures)
    (λ n m turn at known. c.have_come.ensures is_so n m turn (ap (λ (ts : List Turn). slice_get ts n) c.turns_of-2.ensures ∙ at) known))
