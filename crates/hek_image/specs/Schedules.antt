-- The images of a schedule, one in each version of the format. All numbers are big-endian.
use Rattle.std.specs.Prelude.{◌≡◌, ℕ, Bool, true, false, List, [], ◌∷◌, ◌++◌, length, unwrap_or}
use Rattle.std.specs.List.{AllByRecursion, flat_map}
use Rattle.std.specs.Int.{w16, w32, w64, to_be_bytes}
use Rattle.hek_rules.specs.declared.event.Level.{Level}
use Rattle.hek_rules.specs.declared.event.Level.TheVariants.{Serializable, Repeatable, Snapshot}
use Rattle.hek_rules.specs.declared.event.Event.{Event}
use Rattle.hek_rules.specs.Events.{opcode_of, kind_of, txn_of, first_of, second_of}
use Rattle.hek_rules.specs.Plan.{Plan}

-- the bytes of HKSC
abbrev pub magic : List ℕ
magic = 0x48 ∷ 0x4B ∷ 0x53 ∷ 0x43 ∷ []

-- magic, version and the number of buckets
abbrev pub front_bytes : ℕ → ℕ → List ℕ
front_bytes version buckets = magic ++ to_be_bytes w16 version ++ to_be_bytes w32 buckets

-- the numbers of rows, transactions and steps
abbrev pub count_bytes : Plan → List ℕ
count_bytes p = to_be_bytes w32 (length p.rows) ++ to_be_bytes w32 (length p.txns) ++ to_be_bytes w32 (length p.steps)

abbrev pub row_bytes : ℕ × ℕ → List ℕ
row_bytes r = to_be_bytes w64 r.0 ++ to_be_bytes w64 r.1

abbrev pub level_byte : Level → ℕ
level_byte Serializable = 1
level_byte Repeatable = 2
level_byte Snapshot = 3

abbrev pub txn_bytes : List ℕ × Level → List ℕ
txn_bytes t = level_byte t.1 ∷ length t.0 ∷ t.0

-- opcode, transaction and two operands; 0 for each that is missing
abbrev pub step_bytes : Event → List ℕ
step_bytes e = opcode_of (kind_of e) ∷ to_be_bytes w32 (unwrap_or (txn_of e) 0) ++ to_be_bytes w64 (first_of e) ++ to_be_bytes w64 (second_of e)

-- the image of this version: two versions differ in the version field alone
abbrev pub image_in : ℕ → Plan → List ℕ
image_in version p = front_bytes version p.buckets ++ (count_bytes p ++ (flat_map row_bytes p.rows ++ (flat_map txn_bytes p.txns ++ flat_map step_bytes p.steps)))

-- the image that is written
abbrev pub image : Plan → List ℕ
image p = image_in 2 p

abbrev pub is_snapshot : Level → Bool
is_snapshot Snapshot = true
is_snapshot other = false

-- no transaction of the schedule is at the snapshot level, so that the schedule has a version 1 image too
abbrev pub HasNoSnapshot : Plan → Type 0
HasNoSnapshot p = AllByRecursion (λ t. is_snapshot t.1 ≡ false) p.txns
