-- Which keys a transaction writes in a transcript.
use Rattle.std.specs.Prelude.{ℕ, ◌==◌, Bool, List}
use Rattle.std.specs.List.{list_any}
use Rattle.hek_rules.specs.declared.event.Event.{Event}
use Rattle.hek_rules.specs.declared.reply.Reply.{Reply}
use Rattle.hek_rules.specs.declared.serial.Write.{Write}
use Rattle.hek_rules.specs.Serial.{writes_of}
use Rattle.hek_laws.specs.Rows.{key_of}

-- whether t was answered `done` to an insert, an update or a delete of the key
abbrev pub has_written : List (Event × Reply) → ℕ → ℕ → Bool
has_written history t key = list_any (λ (x : Write). key_of x == key) (writes_of t history)
