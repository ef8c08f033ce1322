use Rattle.std.proofs.Common.{ℕ, List, [], ◌∷◌, ◌++◌}
use Rattle.std.proofs.lemmas.Result.{on_ok_weaker}
use Rattle.hek_rules.specs.World.{World, txn_in}
use Rattle.hek_step_report.specs.StateText.{txn_front, phase_fields, counter_fields, flag_fields, held_fields, other_fields}
use Rattle.hek_step_report.proofs.ShownLines.{shown_after, shown_always}
use Rattle.hek_step_report.proofs.text.state.put_declared.Goals as goal

pub returns : goal.returns
returns c =
    let m = c.args.machine.now in
    let t = c.args.t in
    let front : List ℕ = txn_front c.args.schedule.now t in
    let new = c.put_text.new.lines.items in
    let end : World → List ℕ = λ w. 10 ∷ [] in
    let others : World → List ℕ = λ w. other_fields w t ++ end w in
    let held : World → List ℕ = λ w. held_fields w t ++ others w in
    let flags : World → List ℕ = λ w. flag_fields (txn_in w.txns t) ++ held w in
    let counters : World → List ℕ = λ w. counter_fields w t ++ flags w in
    let phase : World → List ℕ = λ w. phase_fields (txn_in w.txns t) ++ counters w in
    on_ok_weaker c.put_text.result
    (λ e.
    shown_after m (λ w. front) phase c.args.lines.now.items c.put_name.new.lines.items new (shown_always m front _ _ c.in_ok-put_name.ensures)
    (shown_after m (λ w. phase_fields (txn_in w.txns t)) counters c.put_name.new.lines.items c.put_phase.new.lines.items new c.in_ok-put_phase.ensures
    (shown_after m (λ w. counter_fields w t) flags c.put_phase.new.lines.items c.put_counters.new.lines.items new c.in_ok-put_counters.ensures
    (shown_after m (λ w. flag_fields (txn_in w.txns t)) held c.put_counters.new.lines.items c.put_flags.new.lines.items new c.in_ok-put_flags.ensures
    (shown_after m (λ w. held_fields w t) others c.put_flags.new.lines.items c.put_held.new.lines.items new c.in_ok-put_held.ensures
    (shown_after m (λ w. other_fields w t) end c.put_held.new.lines.items c.put_others.new.lines.items new c.in_ok-put_others.ensures
    (shown_always m (10 ∷ []) _ _ e)))))))
    c.put_text.ensures
