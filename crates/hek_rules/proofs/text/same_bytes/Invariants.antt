use Rattle.std.proofs.Common.{◌≡◌, drop}
use Rattle.std.specs.Str.{bytes_eq}
use Rattle.hek_rules.proofs.text.same_bytes.Given as goal

-- the byte lists are equal exactly if their rests are
abbrev pub invariant-loop-i : goal.invariant-loop-i
invariant-loop-i l = bytes_eq (drop l.i l.bytes) (drop l.i l.other) ≡ bytes_eq l.bytes l.other
