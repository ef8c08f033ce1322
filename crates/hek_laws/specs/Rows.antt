-- Rows by key: pairs of a key and a value, each key above the ones before it.
use Rattle.std.specs.Prelude.{ℕ, ◌<◌, List, [], ◌∷◌}
use Rattle.hek_rules.specs.declared.serial.Write.{Write}
use Rattle.hek_rules.specs.declared.serial.Write.TheVariants.{Put, Remove}

-- each of these keys is above k
abbrev pub AreAbove : ℕ → List (ℕ × ℕ) → Type 0
AreAbove k [] = Unit {0}
AreAbove k (p ∷ ps) = (k < p.0) × AreAbove k ps

-- each key is above those before it
abbrev pub AreRising : List (ℕ × ℕ) → Type 0
AreRising [] = Unit {0}
AreRising (p ∷ ps) = AreAbove p.0 ps × AreRising ps

-- the key of a write
abbrev pub key_of : Write → ℕ
key_of (Put key value) = key
key_of (Remove key) = key
