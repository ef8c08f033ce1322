-- Devices over memory: what they hold, and what one take or put does.
use Rattle.std.specs.Prelude.{ℕ, ◌+◌, ◌-◌, ◌^◌, ◌==◌, min, Bool, true, false, List, ◌++◌, length, take, drop, Option, Some, None, is_none, unwrap_or, if◌then◌else◌}
use Rattle.hek_rules.specs.declared.device.memory.Ending.{Ending}
use Rattle.hek_rules.specs.declared.device.memory.Ending.TheVariants.{Ends, Fails, Endless}

-- a source: the bytes left, the most bytes of a take, what follows the last byte, bytes given so far, whether it failed
pub record Supply : Type 0 where
  pub rest : List ℕ
  pub piece : ℕ
  pub ending : Ending
  pub given : ℕ
  pub failed : Bool

-- a sink: the bytes in it, room for how many more, the most bytes of a put, whether it failed
pub record Filling : Type 0 where
  pub bytes : List ℕ
  pub room : ℕ
  pub piece : ℕ
  pub failed : Bool

-- whether a source gives no bytes after its last one
abbrev pub is_finite : Ending → Bool
is_finite Ends = true
is_finite Fails = true
is_finite Endless = false

-- what a take with room for `count` bytes answers after the last byte
abbrev pub after_bytes : Ending → ℕ → Option ℕ
after_bytes Ends count = Some 0
after_bytes Fails count = None
after_bytes Endless count = Some count

-- what a take into a buffer of this length answers
abbrev pub take_answer : Supply → ℕ → Option ℕ
take_answer s len =
    if len == 0 then Some 0
    else if length s.rest == 0 then after_bytes s.ending (min s.piece len)
    else Some (min s.piece (min len (length s.rest)))

-- the source after a take with this answer
abbrev pub after_take : Supply → Option ℕ → Supply
after_take s answer =
    record s { rest = drop (unwrap_or answer 0) s.rest; given = min (s.given + unwrap_or answer 0) (2 ^ 64 - 1); failed = is_none answer }

-- how many of `len` bytes a put takes
abbrev pub put_count : Filling → ℕ → ℕ
put_count s len = min s.piece (min len s.room)

-- the sink after a put of these bytes with this answer
abbrev pub after_put : Filling → List ℕ → Option ℕ → Filling
after_put s bytes None = record s { failed = true }
after_put s bytes (Some n) = record s { bytes = s.bytes ++ take n bytes; room = s.room - n }
