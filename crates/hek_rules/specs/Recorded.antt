-- What a transcript records.
use Rattle.std.specs.Prelude.{ℕ, List}
use Rattle.hek_rules.specs.declared.event.Level.{Level}
use Rattle.hek_rules.specs.declared.event.Event.{Event}
use Rattle.hek_rules.specs.declared.reply.Reply.{Reply}

-- the buckets, rows and levels that a run began with, and its history: each event with its reply
pub record Recorded : Type 0 where
  pub buckets : ℕ
  pub rows : List (ℕ × ℕ)
  pub levels : List Level
  pub history : List (Event × Reply)
