-- The creator and the ender of a version, and the transaction whose write set has them: before the stamp and after it.
use Rattle.std.specs.Prelude.{ℕ, ◌≡◌, ◌==◌, ◌⊎◌, true, Some, None}
use Rattle.hek_rules.specs.declared.event.State.TheVariants.{Committed}
use Rattle.hek_rules.specs.declared.word.BeginRecord.{BeginRecord}
use Rattle.hek_rules.specs.declared.word.BeginRecord.TheVariants.{At, By}
use Rattle.hek_rules.specs.Words.{infinity}
use Rattle.hek_rules.specs.World.{Txn, Ender, EndedAt, Held, is_aborted}

-- the creator of a version that t made: t, or t's end time after it committed, or infinity after it aborted
abbrev pub MadeFor : Txn → ℕ → BeginRecord → Type 0
MadeFor x t (At time) = ((x.state ≡ Committed) × (time ≡ x.end)) ⊎ ((is_aborted x.state ≡ true) × (time ≡ infinity))
MadeFor x t (By u) = (u == t) ≡ true

-- the ender of a version that t ended: t, or t's end time after it committed, or anything after it aborted
abbrev pub EndedFor : Txn → ℕ → Ender → Type 0
EndedFor x t (EndedAt time) = ((x.state ≡ Committed) × (time ≡ x.end)) ⊎ (is_aborted x.state ≡ true)
EndedFor x t (Held None no_more) = is_aborted x.state ≡ true
EndedFor x t (Held (Some u) no_more) = ((u == t) ≡ true) ⊎ (is_aborted x.state ≡ true)
