-- The world after a walk that was allowed or refused.
use Rattle.std.specs.Prelude.{◌≡◌, ℕ, ◌<◌, ◌+◌, ◌^◌, length, Bool, List, Option, Some, None}
use Rattle.hek_rules.specs.declared.event.Cause.{Cause}
use Rattle.hek_rules.specs.World.{World, Version, places}
use Rattle.hek_rules.specs.Walk.{Judgement, Refuse, Allow, apply_all}
use Rattle.hek_rules.specs.declared.reply.Reply.{Reply}
use Rattle.hek_rules.specs.declared.reply.Reply.TheVariants as reply
use Rattle.hek_rules.specs.Table.{abort}
use Rattle.hek_laws.specs.Sound.{Sound}
use Rattle.hek_txn.specs.TxnTable.{Declared}
use Rattle.hek_machine.specs.declared.engine.Engine.{Engine}
use Rattle.hek_machine.specs.Stands.{Shows, StandsFor}

-- the versions of one bucket that pass some test
pub record AreVersionPlaces (m : Engine) (bucket : ℕ) (vs : List ℕ) : Type 0 where
  pub test : ℕ → Version → Bool
  pub same : (w : World) → StandsFor m w → places test 0 w.versions ≡ vs
  pub there : (w : World) → StandsFor m w → bucket < w.buckets

-- the parts after a judgement: its effects are done, or t has aborted by the refusal
abbrev pub After : Engine → ℕ → World → Judgement → Option Cause → Type 0
After m t w (Allow effects) None = Shows m (apply_all t w effects)
After m t w (Allow effects) (Some cause) = ⊥
After m t w (Refuse cause) None = ⊥
After m t w (Refuse cause) (Some other) = (cause ≡ other) × Shows m (abort w t cause)

-- the reply after a walk: an abort if there is a cause, otherwise this answer
abbrev pub reply_or_abort : Option Cause → Reply → Reply
reply_or_abort None answer = answer
reply_or_abort (Some cause) answer = reply.Aborted cause

-- the reply of a delete that was allowed, from its target
abbrev pub deleted_reply : Option ℕ → Reply
deleted_reply None = reply.Absent
deleted_reply (Some v) = reply.Done

-- the parts show a sound world in which t may make a version
pub record CanAddVersion (m : Engine) (t : ℕ) (w : World) : Type 0 where
  pub shows : Shows m w
  pub sound : Sound w
  pub walker : Declared m.txns t
  pub small : length w.versions < 2 ^ 58
  pub named : length w.txns + 1 < 2 ^ 54

pub record IsAdding (m : Engine) (t : ℕ) : Type 0 where
  pub world : World
  pub can : CanAddVersion m t world
