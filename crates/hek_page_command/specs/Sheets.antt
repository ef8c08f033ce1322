-- How a page has its data.
use Rattle.std.specs.Prelude.{ℕ, List, [], ◌∷◌, nat_eq, if◌then◌else◌, codes}

-- a byte of the data as a page has it: `<`, byte 60, as an escape of JSON, so that no data end their element
abbrev pub escaped : ℕ → List ℕ
escaped byte = if nat_eq byte 60 then codes "\\u003c" else byte ∷ []
