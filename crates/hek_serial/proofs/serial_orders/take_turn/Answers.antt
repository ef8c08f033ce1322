use Rattle.std.proofs.Common.{◌∙◌, ap, sym, arith}
use Rattle.std.specs.List.{zip}
use Rattle.hek_rules.specs.declared.event.Level.TheVariants.{Serializable}
use Rattle.hek_rules.proofs.Zips.{zip-length}
use Rattle.hek_serial.specs.Replay.{undone}
use Rattle.hek_serial.proofs.SerialOrders.{right-place, right-all}
use Rattle.hek_serial.proofs.serial_orders.take_turn.Goals as goal

pub returns-then-wrong-events : goal.returns-then-wrong-events
returns-then-wrong-events c =
    let h = zip c.args.events.now c.args.replies.now in
    let rows = c.args.rows.now in
    let long = zip-length c.args.events.now c.args.replies.now c.requires.same in
    record {
      none = λ ts follows.
          c.in_ok-wrong.ensures.first.wrong (omega (arith, long, c.if-wrong-events.true))
          (right-place Serializable rows.buckets c.args.t rows.rows h follows.1 c.in_ok-wrong.wrong);
      same = c.in_ok-undo_all.ensures.rows ∙ c.in_ok-wrong.ensures.back ∙ ap (λ us. undone us rows) c.requires.none;
    }

pub returns : goal.returns
returns c =
    let h = zip c.args.events.now c.args.replies.now in
    let rows = c.args.rows.now in
    let long = zip-length c.args.events.now c.args.replies.now c.requires.same in
    let first = c.in_ok-wrong.ensures.first in
    let within = first.within in
    record {
      next = sym c.comes_next.ensures ∙ c.if-not-comes_next.false;
      right = right-all Serializable rows.buckets c.args.t rows.rows h (λ j l. first.right j (omega (arith, long, l, c.if-wrong-events.false)));
      laid = c.in_ok-wrong.ensures.laid (omega (arith, long, within, c.if-wrong-events.false));
      back = c.in_ok-wrong.ensures.back ∙ ap (λ us. undone us rows) c.requires.none;
      others = c.in_ok-rest.ensures;
    }
