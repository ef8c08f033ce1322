-- Where a transcript is serial, the log of a history that records it holds at each level.
use Rattle.std.proofs.Common.{◌≡◌, ℕ, true, false, List, ap, ◌∙◌, subst}
use Rattle.hek_rules.specs.Recorded.{Recorded}
use Rattle.hek_rules.specs.Serial.{serial_order}
use Rattle.hek_history.specs.declared.history.History.{History}
use Rattle.hek_history.specs.declared.history.Point.{Point}
use Rattle.hek_history.specs.Histories.{serializable_in, serializable_at, is_serializable, lenient_in, lenient_at, is_lenient}
use Rattle.hek_history.specs.Explanation.{Occurs, IsExplanation}
use Rattle.hek_history_laws.specs.Recording.{Records}
use Rattle.hek_history_laws.specs.Laws.{points_of}
use Rattle.hek_history_laws.proofs.NoFault.{ender_of}
use Rattle.hek_history_laws.proofs.Points.{turn_committed}
use Rattle.hek_history_laws.proofs.Explained.{serial_runs_have_explanations}
use Rattle.hek_levels.specs.declared.log.Log.{Log}
use Rattle.hek_levels.specs.declared.rules.Asked.TheVariants as asked
use Rattle.hek_levels.specs.declared.rules.Level.{Level}
use Rattle.hek_levels.specs.declared.rules.Level.TheVariants as level
use Rattle.hek_levels.specs.Seen.{Explanation}
use Rattle.hek_levels.specs.Explanations.{Explains}
use Rattle.hek_levels.specs.Levels.{rules_of}
use Rattle.hek_levels.specs.Points.{commits_of}
use Rattle.hek_levels_laws.proofs.Implied.{levels_imply}
use Rattle.hek_levels_laws.proofs.Uncommitted.{explained_is_so}
use Rattle.hek_levels_runs.specs.Laws.{HoldsAt, SerialRunsHold}
use Rattle.hek_levels_runs.proofs.Explained.{serial_explanations_explain}

-- ---- what explains a log as serializable explains it at each level

module _ (log : Log) (e : Explanation) (x : Explains (asked.All (rules_of level.Serializable)) log e) where
  -- level by level
  as_snapshot : Explains (asked.All (rules_of level.Snapshot)) log e
  as_snapshot = levels_imply.serializable log e x

  as_prefix : Explains (asked.All (rules_of level.Prefix)) log e
  as_prefix = levels_imply.snapshot log e as_snapshot

  as_parallel : Explains (asked.All (rules_of level.ParallelSnapshot)) log e
  as_parallel = levels_imply.snapshot_too log e as_snapshot

  as_causal : Explains (asked.All (rules_of level.Causal)) log e
  as_causal = levels_imply.parallel_snapshot log e as_parallel

  as_atomic : Explains (asked.All (rules_of level.ReadAtomic)) log e
  as_atomic = levels_imply.causal log e as_causal

  as_view : Explains (asked.All (rules_of level.MonotonicView)) log e
  as_view = levels_imply.read_atomic log e as_atomic

  as_committed : Explains (asked.All (rules_of level.ReadCommitted)) log e
  as_committed = levels_imply.monotonic_view log e as_view

  -- and so at each
  at_each : (weaker : Level) → Explains (asked.All (rules_of weaker)) log e
  at_each level.ReadCommitted = as_committed
  at_each level.MonotonicView = as_view
  at_each level.ReadAtomic = as_atomic
  at_each level.Causal = as_causal
  at_each level.Prefix = as_prefix
  at_each level.ParallelSnapshot = as_parallel
  at_each level.Snapshot = as_snapshot
  at_each level.Serializable = x

-- ---- each transaction of the serial order is serializable

module _ (s : Recorded) (h : History) (place : ℕ → ℕ) (rec : Records h place s) where
  -- it is a committed transaction of the transcript, which a history records as serializable
  is_level : (t : ℕ) → Occurs (points_of place (serial_order s.history)) t → (is_serializable h t ≡ true) × (is_lenient h t ≡ false)
  is_level t o =
      let r = turn_committed place (serial_order s.history) o.0 t o.1 in
      let turn = r.2 in
      let end = ender_of s r.0 turn.entry turn.there in
      let found = rec.committed turn.entry.1 end.committed in
      subst (λ (p : ℕ). (is_serializable h p ≡ true) × (is_lenient h p ≡ false)) turn.named (
        ap serializable_in found.at ∙ ap serializable_at found.run.level,
        ap lenient_in found.at ∙ ap lenient_at found.run.level,
      )

-- ---- the law

pub serial_runs_hold : SerialRunsHold
serial_runs_hold s h place turns log some serial rec l keep =
    let points : List Point = points_of place (serial_order s.history) in
    let explained : IsExplanation h points = (serial_runs_have_explanations s h place some serial rec).0.0 in
    let found : HoldsAt level.Serializable log (commits_of points) = serial_explanations_explain h points turns log explained (is_level s h place rec) l keep in
    (λ weaker. (found.0, found.1, at_each log found.0 found.2 weaker), explained_is_so (asked.All (rules_of level.Serializable)) log found.0 found.2)
