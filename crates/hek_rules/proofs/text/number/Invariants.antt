use Rattle.std.proofs.Common.{◌≡◌, take}
use Rattle.std.specs.Str.Parse.{digits_value, AllDigits}
use Rattle.hek_rules.proofs.text.number.Given as goal

-- the bytes before the index are digits, and the value is that of these digits
abbrev pub invariant-loop-byte : goal.invariant-loop-byte
invariant-loop-byte l = record {
  digits : AllDigits 10 (take l.byte-index l.word);
  so_far : l.value ≡ digits_value 10 (take l.byte-index l.word);
}
