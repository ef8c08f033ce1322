-- What contracts see of a book.
use Rattle.std.specs.Prelude.{List}
use Rattle.hek_rules.specs.Plan.{Plan}
use Rattle.hek_worker.specs.declared.entry.Entry.{Entry}

-- the schedule that a book's machine was loaded with, and the history since
pub record Kept : Type 0 where
  pub plan : Plan
  pub history : List Entry
