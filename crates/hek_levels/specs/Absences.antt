-- What is known of the keys that scans miss.
use Rattle.std.specs.Prelude.{ℕ, ◌≡◌, ◌==◌, ◌&&◌, true, Option, is_some}
use Rattle.std.specs.declared.hash.FoldHasher.{FoldHasher}
use Rattle.std.specs.declared.hash.BuildHasherDefault.{BuildHasherDefault}
use Rattle.std.specs.HashMap.{get as get_in, HashMap}
use Rattle.std.specs.BTreeMap.{BTreeMap}
use Rattle.hek_levels.specs.declared.log.Scan.{Scan}
use Rattle.hek_levels.specs.declared.certificate.Writer.{Writer}
use Rattle.hek_levels.specs.Logs.{misses}
use Rattle.hek_levels.specs.Rows.{row_of}

-- what a map has of a scan and a key
abbrev pub given_in_map : HashMap (ℕ × ℕ) Writer (BuildHasherDefault FoldHasher) → ℕ → ℕ → Option Writer
given_in_map map scan key = get_in (λ (a b : ℕ × ℕ). (a.0 == b.0) && (a.1 == b.1)) map (scan, key)

-- each key with a row that the scan misses, which is the n-th, has a source that is given
abbrev pub AreGiven : BTreeMap ℕ ℕ → (ℕ → ℕ → Option Writer) → ℕ → Scan → Type 0
AreGiven rows given n scan = (key : ℕ) → misses scan key ≡ true → is_some (row_of rows key) ≡ true → is_some (given n key) ≡ true
