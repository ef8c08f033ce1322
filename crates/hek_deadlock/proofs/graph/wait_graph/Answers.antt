use Rattle.std.proofs.Common.{ℕ, ◌≡◌, ◌<◌, length, ap, ◌∙◌, arith}
use Rattle.std.proofs.lemmas.List.{get_or_default}
use Rattle.hek_deadlock.specs.Edges.{is_edge}
use Rattle.hek_deadlock.specs.Places.{id_at}
use Rattle.hek_deadlock.proofs.GraphRows.{no_rows, rows_more, rows_done}
use Rattle.hek_deadlock.proofs.graph.wait_graph.Goals as goal

pub loop-t-init : goal.loop-t-init
loop-t-init c = record {
  count = rw (c.in_ok-rows.ensures.items) (omega arith);
  rows = rw (c.in_ok-rows.ensures.items) (no_rows (is_edge c.args.store.now c.args.txns.now) c.args.ids.now);
}

pub loop-t-preserved : goal.loop-t-preserved
loop-t-preserved c =
    let within : c.loop-t.t-index < length c.args.ids.now = c.loop-t-test.true in
    let here : c.t-item.result ≡ id_at c.args.ids.now c.loop-t.t-index = c.t-item.is ∙ get_or_default c.args.ids.now c.loop-t.t-index c.t-item.result 0 within in
    record {
      count = omega (arith, c.in_ok-push.ensures.len, c.loop-t.invariant.count);
      rows =
          rows_more (is_edge c.args.store.now c.args.txns.now) c.args.ids.now c.loop-t.rows.items c.push.new.self.items c.in_ok-row_of.field-0 c.loop-t.t-index c.loop-t.invariant.count c.in_ok-push.ensures.items c.loop-t.invariant.rows
          (record {
            range = c.in_ok-row_of.ensures.range;
            edges = λ i lt. c.in_ok-row_of.ensures.edges i lt ∙ ap (λ (t : ℕ). is_edge c.args.store.now c.args.txns.now (id_at c.args.ids.now i) t) here;
          });
    }

pub returns : goal.returns
returns c =
    let end : length c.loop-t.rows.items ≡ length c.args.ids.now = omega (arith, c.loop-t.invariant.count, c.loop-t-test.false, c.loop-t.auto.t-index-end) in
    rows_done (is_edge c.args.store.now c.args.txns.now) c.args.ids.now c.loop-t.rows.items end c.loop-t.invariant.rows
