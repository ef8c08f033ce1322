use Rattle.std.proofs.Common.{ℕ, ◌≡◌, ◌≤◌, length, List, None, ap, ◌∙◌, sym, subst, arith}
use Rattle.std.specs.Prelude.{IfSome}
use Rattle.std.proofs.lemmas.Result.{IfOk-weaker}
use Rattle.hek_deadlock.specs.Edges.{is_edge, victim_in, IsWaiting}
use Rattle.hek_deadlock.specs.Places.{ArePlaces, answer_at, by_place}
use Rattle.hek_deadlock.specs.Victims.{IsVictimOrNone}
use Rattle.hek_deadlock.proofs.Waiting.{victim_waits, victim_of_walks}
use Rattle.hek_deadlock.proofs.Short.{victim_short}
use Rattle.hek_deadlock.proofs.Lone.{no_victim}
use Rattle.hek_deadlock.proofs.Detected.{graph_of, found_in, found_places, found_victim}
use Rattle.hek_deadlock.proofs.detector.detect.Goals as goal

pub returns-then-len-lt-SHORTEST_CYCLE-clause-victim : goal.returns-then-len-lt-SHORTEST_CYCLE-clause-victim
returns-then-len-lt-SHORTEST_CYCLE-clause-victim c =
    no_victim c.args.store.now c.args.txns.now c.in_ok-ids.ids.items (record { nodes = c.in_ok-ids.ensures.nodes; few = omega arith })

pub returns-then-len-lt-SHORTEST_CYCLE-clause-walks : goal.returns-then-len-lt-SHORTEST_CYCLE-clause-walks
returns-then-len-lt-SHORTEST_CYCLE-clause-walks c = victim_of_walks c.args.store.now c.args.txns.now None (returns-then-len-lt-SHORTEST_CYCLE-clause-victim c)

pub answer_at-requires : goal.answer_at-requires
answer_at-requires c =
    let graph = graph_of c.args.store.now c.args.txns.now c.in_ok-ids.ids.items c.deref.result.now c.in_ok-rows.rows.items c.in_ok-ids.ensures.rising c.in_ok-ids.ensures.nodes c.deref.ensures.value c.in_ok-rows.ensures in
    let found = found_in c.in_ok-rows.rows.items c.deref-2.result.now (by_place c.in_ok-found.found) c.deref-2.ensures.value c.in_ok-found.ensures in
    subst (λ (ids : List ℕ). IfSome (by_place c.in_ok-found.found) (ArePlaces ids)) (sym c.deref-3.ensures.value)
    (found_places c.args.store.now c.args.txns.now c.in_ok-ids.ids.items c.in_ok-rows.rows.items graph (by_place c.in_ok-found.found) found)

pub returns-clause-victim : goal.returns-clause-victim
returns-clause-victim c =
    let graph = graph_of c.args.store.now c.args.txns.now c.in_ok-ids.ids.items c.deref.result.now c.in_ok-rows.rows.items c.in_ok-ids.ensures.rising c.in_ok-ids.ensures.nodes c.deref.ensures.value c.in_ok-rows.ensures in
    let found = found_in c.in_ok-rows.rows.items c.deref-2.result.now (by_place c.in_ok-found.found) c.deref-2.ensures.value c.in_ok-found.ensures in
    IfOk-weaker c.answer_at.result (λ answer. answer ≡ answer_at c.deref-3.result.now (by_place c.in_ok-found.found)) (λ answer. answer ≡ victim_in c.args.store.now c.args.txns.now)
    (λ answer e.
    e
    ∙ ap (λ (ids : List ℕ). answer_at ids (by_place c.in_ok-found.found)) c.deref-3.ensures.value
    ∙ found_victim c.args.store.now c.args.txns.now c.in_ok-ids.ids.items c.in_ok-rows.rows.items graph (by_place c.in_ok-found.found) found)
    c.answer_at.ensures

pub returns-clause-walks : goal.returns-clause-walks
returns-clause-walks c =
    IfOk-weaker c.answer_at.result (λ answer. answer ≡ victim_in c.args.store.now c.args.txns.now) (IsVictimOrNone (is_edge c.args.store.now c.args.txns.now))
    (λ answer e. victim_of_walks c.args.store.now c.args.txns.now answer e)
    (returns-clause-victim c)

pub returns-clause-waiting : goal.returns-clause-waiting
returns-clause-waiting c =
    IfOk-weaker c.answer_at.result (λ answer. answer ≡ victim_in c.args.store.now c.args.txns.now) (λ answer. IfSome answer (λ a. IsWaiting c.args.txns.now a.0))
    (λ answer e. victim_waits c.args.store.now c.args.txns.now answer e)
    (returns-clause-victim c)

pub returns-clause-short : goal.returns-clause-short
returns-clause-short c =
    IfOk-weaker c.answer_at.result (λ answer. answer ≡ victim_in c.args.store.now c.args.txns.now) (λ answer. IfSome answer (λ a. length a.1 ≤ length c.args.txns.now.cores))
    (λ answer e. victim_short c.args.store.now c.args.txns.now answer e)
    (returns-clause-victim c)
