-- What no word of a machine holds that has drawn, declared or read so much.
use Rattle.std.specs.Prelude.{◌≢◌, ℕ, ◌<◌, ◌≤◌, Option, Some}
use Rattle.hek_rules.specs.Words.{infinity}

-- a time t is not drawn yet where the next time is c; infinity is no time that is drawn
abbrev pub IsPastClock : Option ℕ → Option ℕ → Type 0
IsPastClock (Some c) (Some t) = (c ≤ t) × (t ≢ infinity)
IsPastClock c t = ⊥

-- a number is greater than the greatest, where both are known
abbrev pub IsPast : Option ℕ → Option ℕ → Type 0
IsPast (Some most) (Some n) = most < n
IsPast most n = ⊥
