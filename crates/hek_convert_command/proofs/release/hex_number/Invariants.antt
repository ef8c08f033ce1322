use Rattle.std.proofs.Common.{◌≡◌, take}
use Rattle.std.specs.Str.Parse.{digits_value, AllDigits}
use Rattle.hek_convert_command.proofs.release.hex_number.Given as goal

-- the bytes before the index are digits, and the value is theirs
abbrev pub invariant-loop-byte : goal.invariant-loop-byte
invariant-loop-byte l = record {
  digits : AllDigits 16 (take l.byte-index l.text);
  so_far : l.value ≡ digits_value 16 (take l.byte-index l.text);
}
