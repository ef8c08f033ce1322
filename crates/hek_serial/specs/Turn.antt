-- The turn of a transaction, the next of those that are left.
use Rattle.std.specs.Prelude.{ℕ, ◌≡◌, true, List, ◌∷◌}
use Rattle.hek_rules.specs.declared.event.Level.TheVariants.{Serializable}
use Rattle.hek_rules.specs.declared.event.Event.{Event}
use Rattle.hek_rules.specs.declared.reply.Reply.{Reply}
use Rattle.hek_rules.specs.Serial.{lay_all, writes_of, AreRight}
use Rattle.hek_serial.specs.BucketRows.{BucketRows}
use Rattle.hek_serial.specs.Replay.{undone}
use Rattle.hek_serial.specs.SerialOrders.{comes_next, without, IsSerialFrom}
use Rattle.hek_rules.specs.declared.serial.Write.{Write}

-- t takes its turn: it may come next, its replies are right, and its writes are applied
pub record IsTurn (history : List (Event × Reply)) (left : List ℕ) (t : ℕ) (before after : BucketRows) (undo : List Write) (rest : List ℕ) : Type 0 where
  pub next : comes_next history left t ≡ true
  pub right : AreRight Serializable before.buckets t before.rows history
  pub laid : after ≡ record before { rows = lay_all (writes_of t history) before.rows }
  pub back : undone undo after ≡ before
  pub others : rest ≡ without t left

-- no order begins with t, and the rows are as before
pub record HasNoTurn (history : List (Event × Reply)) (left : List ℕ) (t : ℕ) (before after : BucketRows) : Type 0 where
  pub none : (ts : List ℕ) → IsSerialFrom before.buckets history before.rows left (t ∷ ts) → ⊥
  pub same : after ≡ before
