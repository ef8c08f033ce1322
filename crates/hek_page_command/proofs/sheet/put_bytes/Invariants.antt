use Rattle.std.proofs.Common.{◌≡◌, ◌++◌, length}
use Rattle.std.specs.List.{flat_map}
use Rattle.hek_page_command.specs.Sheets.{escaped}
use Rattle.hek_page_command.proofs.sheet.put_bytes.Given as goal

-- the bytes that are written, with those that are left, are all
abbrev pub invariant-loop-byte : goal.invariant-loop-byte
invariant-loop-byte l = l.sheet.items ++ flat_map escaped l.rest ≡ l.initial.sheet.items ++ flat_map escaped l.fn.bytes

abbrev pub decreases-loop-byte : goal.decreases-loop-byte
decreases-loop-byte l = length l.rest
