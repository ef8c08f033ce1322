use Rattle.std.proofs.Common.{◌≡◌, ℕ, drop}
use Rattle.hek_levels.specs.declared.log.Need.{Need}
use Rattle.hek_levels.specs.Uncommitted.{who_in, who_by}
use Rattle.hek_levels.proofs.uncommitted.note_changes.Given as goal

abbrev pub invariant-loop-change : goal.invariant-loop-change
invariant-loop-change l =
    (key : ℕ) (need : Need) → who_by key need l.t (drop l.change-index l.changes) (who_in l.changers key need) ≡ who_by key need l.t l.changes (who_in l.initial.changers key need)
