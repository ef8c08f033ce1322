-- Changes of words as numbers: those that hek.h names.
use Rattle.std.specs.Prelude.{◌≡◌, ℕ, Option}
use Rattle.std.specs.Option.{option_map_or}
use Rattle.hek_changes.specs.declared.change.BeginChange.{BeginChange}
use Rattle.hek_changes.specs.declared.change.EndChange.{EndChange}
use Rattle.hek_changes.specs.declared.change.BeginChange.TheVariants as on_begin
use Rattle.hek_changes.specs.declared.change.EndChange.TheVariants as on_end
use Rattle.hek_changes.specs.Changes.{IsBeginChange, IsEndChange}

abbrev pub begin_change_number : BeginChange → ℕ
begin_change_number on_begin.Stamped = 1
begin_change_number on_begin.Voided = 2

abbrev pub end_change_number : EndChange → ℕ
end_change_number on_end.ReaderCame = 1
end_change_number on_end.ReaderWent = 2
end_change_number on_end.WriterCame = 3
end_change_number on_end.WriterWent = 4
end_change_number on_end.Cleared = 5
end_change_number on_end.Stamped = 6
end_change_number on_end.ClearedThenRead = 7
end_change_number on_end.ClearedThenWritten = 8
end_change_number on_end.ReaderBecameWriter = 9
end_change_number on_end.ClearedThenReaderBecameWriter = 10

-- the number of the change that an exchange of a Begin word by the transaction t is; 0 if it is none
abbrev pub IsBeginAnswer : ℕ → ℕ → ℕ → ℕ → Type 0
IsBeginAnswer t old new n = (found : Option BeginChange) × IsBeginChange t old new found × (n ≡ option_map_or begin_change_number found 0)

-- the number of the change that an exchange of an End word by the transaction t is; 0 if it is none
abbrev pub IsEndAnswer : ℕ → ℕ → ℕ → ℕ → Type 0
IsEndAnswer t old new n = (found : Option EndChange) × IsEndChange t old new found × (n ≡ option_map_or end_change_number found 0)
