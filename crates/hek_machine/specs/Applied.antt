-- One effect of a walk: when it may be done, and what it leaves.
use Rattle.std.specs.Prelude.{◌≡◌, ℕ, ◌+◌, ◌<◌, ◌^◌, Bool, false, List, length}
use Rattle.hek_rules.specs.declared.event.Effect.{Effect}
use Rattle.hek_rules.specs.declared.event.Effect.TheVariants.{LockBucket, DependOn, MakeWait, ReadLock, WriteLock}
use Rattle.hek_rules.specs.World.{World, Version, txn_in, is_not_begun}
use Rattle.hek_rules.specs.Walk.{Purpose, apply}
use Rattle.hek_laws.specs.Laws.{IsAllowedWalk}
use Rattle.hek_laws.specs.Sound.{Sound}
use Rattle.hek_txn.specs.TxnTable.{Declared}
use Rattle.hek_refinement.specs.MayLock.{MayRead, MayWrite}
use Rattle.hek_machine.specs.declared.engine.Engine.{Engine}
use Rattle.hek_machine.specs.Stands.{Shows}

-- the condition of an effect of t in a world
abbrev pub May : World → ℕ → Effect → Type 0
May w t (LockBucket b) = b < w.buckets
May w t (DependOn u) = is_not_begun (txn_in w.txns u).state ≡ false
May w t (MakeWait u) = is_not_begun (txn_in w.txns u).state ≡ false
May w t (ReadLock v) = MayRead w t v
May w t (WriteLock v) = MayWrite w t v

-- the parts show a sound world in which t may do the effect
pub record CanApply (m : Engine) (t : ℕ) (effect : Effect) (w : World) : Type 0 where
  pub shows : Shows m w
  pub sound : Sound w
  pub walker : Declared m.txns t
  pub few : length w.versions + length w.txns + 1 < 2 ^ 64
  pub named : length w.txns + 1 < 2 ^ 54
  pub may : May w t effect

pub record IsAble (m : Engine) (t : ℕ) (effect : Effect) : Type 0 where
  pub world : World
  pub can : CanApply m t effect world

abbrev pub Applies : Engine → Engine → ℕ → Effect → Type 0
Applies old new t effect = (w : World) → CanApply old t effect w → Shows new (apply t w effect)

-- these are the effects of an allowed walk of t in the world
pub record Allowed (w : World) (t : ℕ) (effects : List Effect) : Type 0 where
  pub purpose : Purpose
  pub bucket : ℕ
  pub test : ℕ → Version → Bool
  pub walk : IsAllowedWalk w t purpose bucket test effects
