-- The record that any number encodes, canonical or not. No number is lost: each is the number of its record.
use Rattle.std.specs.Prelude.{ℕ, ◌-◌, ◌/◌, ◌%◌, ◌^◌, ◌==◌, nat_lt, if◌then◌else◌, true, false, Option, Some, None}
use Rattle.hek_rules.specs.declared.word.BeginRecord.{BeginRecord}
use Rattle.hek_rules.specs.declared.word.BeginRecord.TheVariants.{At, By}
use Rattle.hek_rules.specs.declared.word.EndRecord.{EndRecord}
use Rattle.hek_rules.specs.declared.word.EndRecord.TheVariants.{Until, Lock}

unfoldable pub begin_record : ℕ → BeginRecord
begin_record n = if nat_lt n (2 ^ 63) then At n else By (n - 2 ^ 63)

-- the writer that bits 0 to 53 of a number encode
abbrev pub writer_record : ℕ → Option ℕ
writer_record w = if w == 2 ^ 54 - 1 then None else Some w

-- the lock that a number without its bit 63 encodes
abbrev pub lock_record : ℕ → EndRecord
lock_record m =
    if nat_lt m (2 ^ 62) then Lock (m / 2 ^ 54) (writer_record (m % 2 ^ 54)) false
    else Lock ((m - 2 ^ 62) / 2 ^ 54) (writer_record ((m - 2 ^ 62) % 2 ^ 54)) true

unfoldable pub end_record : ℕ → EndRecord
end_record n = if nat_lt n (2 ^ 63) then Until n else lock_record (n - 2 ^ 63)
