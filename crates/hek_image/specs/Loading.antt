-- What bytes say, read from front to back, or the first fault.
use Rattle.std.specs.Prelude.{ℕ, zero, suc, ◌+◌, Bool, ◌&&◌, ◌||◌, not, ◌==◌, nat_lt, nat_le, List, [], ◌∷◌, ◌++◌, length, take, drop, is_some, unwrap_or, Result, Ok, Err, if◌then◌else◌}
use Rattle.std.specs.Int.{Width, w8, w16, w32, w64, byte_len, from_be_bytes}
use Rattle.std.specs.Str.{bytes_eq}
use Rattle.hek_rules.specs.declared.event.Level.{Level}
use Rattle.hek_rules.specs.declared.event.Level.TheVariants.{Serializable, Repeatable, Snapshot}
use Rattle.hek_rules.specs.declared.kind.EventKind.{EventKind}
use Rattle.hek_rules.specs.declared.kind.EventKind.TheVariants as kind
use Rattle.hek_rules.specs.Name.{is_name}
use Rattle.hek_rules.specs.Events.{kind_coded, operand_count, event_of, is_detect, is_scan}
use Rattle.hek_rules.specs.Plan.{Plan, has_key, has_name, max_buckets, max_rows, max_steps, max_txns}
use Rattle.hek_image.specs.declared.fault.LoadFault.{LoadFault}
use Rattle.hek_image.specs.declared.fault.LoadFault.TheVariants.{BadMagic, BadVersion, Short, BadField, Trailing}
use Rattle.hek_image.specs.Schedules.{magic}

-- where a field begins, and the bytes from there on
pub record Place : Type 0 where
  pub at : ℕ
  pub rest : List ℕ

-- a value, and where the next field begins
abbrev pub Reader : Type 0 → Type 0
Reader A = Place → Result (A × Place) LoadFault

abbrev pub then_read : {A B : Type 0} → Result (A × Place) LoadFault → (A → Reader B) → Result (B × Place) LoadFault
then_read (Ok x) f = f x.0 x.1
then_read (Err e) f = Err e

-- a reader, and then the one that f makes of its value
unfoldable pub both : {A B : Type 0} → Reader A → (A → Reader B) → Reader B
both r f p = then_read (r p) f

-- a field that is judged at once
abbrev pub checked_from : {A : Type 0} → Result (A × Place) LoadFault → (A → Bool) → LoadFault → Result (A × Place) LoadFault
checked_from (Ok x) test fault = if test x.0 then Ok x else Err fault
checked_from (Err e) test fault = Err e

-- a field that passes a test; otherwise this fault
unfoldable pub required : {A : Type 0} → Reader A → (A → Bool) → LoadFault → Reader A
required r test fault p = checked_from (r p) test fault

-- a field that passes a test; otherwise the fault of the place where it begins
unfoldable pub checked_read : {A : Type 0} → Reader A → (A → Bool) → Reader A
checked_read r test p = checked_from (r p) test (BadField p.at)

-- n bytes
unfoldable pub bytes_at : ℕ → Reader (List ℕ)
bytes_at n p = if nat_lt (length p.rest) n then Err Short else Ok (take n p.rest, record { at = p.at + n; rest = drop n p.rest })

abbrev pub value : {A : Type 0} → A → Reader A
value x p = Ok (x, p)

unfoldable pub number_at : Width → Reader ℕ
number_at w = both (bytes_at (byte_len w)) (λ bytes. value (from_be_bytes w bytes))

-- a number in a range
abbrev pub is_within : ℕ → ℕ → ℕ → Bool
is_within low high n = nat_le low n && nat_le n high

unfoldable pub number_within : ℕ → ℕ → Width → Reader ℕ
number_within low high w = checked_read (number_at w) (is_within low high)

-- ---- rows, transactions and steps, each added to the plan
unfoldable pub row_at : Plan → Reader Plan
row_at plan = both (checked_read (number_at w64) (λ k. not (has_key plan k))) (λ key.
    both (number_at w64) (λ v.
    value (record plan { rows = plan.rows ++ (key, v) ∷ [] })))

abbrev pub level_coded : ℕ → Level
level_coded n = if n == 1 then Serializable else if n == 2 then Repeatable else Snapshot

-- a name that no transaction has yet
abbrev pub is_new_name : Plan → List ℕ → Bool
is_new_name plan w = is_name w && not (has_name plan w)

-- version 1 has two levels, version 2 has three
unfoldable pub txn_at : ℕ → Plan → Reader Plan
txn_at version plan = both (number_within 1 (version + 1) w8) (λ level.
    both (number_within 1 32 w8) (λ len.
    both (checked_read (bytes_at len) (is_new_name plan)) (λ name.
    value (record plan { txns = plan.txns ++ (name, level_coded level) ∷ [] }))))

abbrev pub is_opcode : ℕ → Bool
is_opcode n = is_some (kind_coded n)

unfoldable pub kind_at : Reader EventKind
kind_at = both (checked_read (number_at w8) is_opcode) (λ n. value (unwrap_or (kind_coded n) kind.Detect))

-- the transaction of a step fits: declared, or 0 for `detect`
abbrev pub step_txn_fits : Plan → EventKind → ℕ → Bool
step_txn_fits plan k t = if is_detect k then t == 0 else (nat_lt 0 t && nat_le t (length plan.txns))

-- the first operand of a step fits: 0 if its kind has none, and for a scan a bucket that exists
abbrev pub first_fits : Plan → EventKind → ℕ → Bool
first_fits plan k a = if operand_count k == 0 then a == 0 else (not (is_scan k) || nat_lt a plan.buckets)

abbrev pub second_fits : EventKind → ℕ → Bool
second_fits k b = operand_count k == 2 || b == 0

unfoldable pub step_at : Plan → Reader Plan
step_at plan = both kind_at (λ k.
    both (checked_read (number_at w32) (step_txn_fits plan k)) (λ t.
    both (checked_read (number_at w64) (first_fits plan k)) (λ a.
    both (checked_read (number_at w64) (second_fits k)) (λ b.
    value (record plan { steps = plan.steps ++ event_of k t a b ∷ [] })))))

-- n items, one after another
unfoldable pub times : ℕ → (Plan → Reader Plan) → Plan → Reader Plan
times zero item plan p = Ok (plan, p)
times (suc n) item plan p = then_read (item plan p) (times n item)

-- ---- the whole image
-- the version, and the numbers of rows, transactions and steps
pub record Header : Type 0 where
  pub version : ℕ
  pub rows : ℕ
  pub txns : ℕ
  pub steps : ℕ

unfoldable pub magic_at : Reader (List ℕ)
magic_at = required (bytes_at 4) (λ m. bytes_eq m magic) BadMagic

-- the versions of the format, 1 and 2
abbrev pub is_version : ℕ → Bool
is_version n = is_within 1 2 n

unfoldable pub image_version : Reader ℕ
image_version = required (number_at w16) is_version BadVersion

unfoldable pub header_at : Reader (Plan × Header)
header_at = both magic_at (λ m.
    both image_version (λ version.
    both (number_within 1 max_buckets w32) (λ buckets.
    both (number_within 0 max_rows w32) (λ rows.
    both (number_within 0 max_txns w32) (λ txns.
    both (number_within 0 max_steps w32) (λ steps.
    value (record { buckets = buckets; rows = []; txns = []; steps = [] }, record { version = version; rows = rows; txns = txns; steps = steps })))))))

-- everything in an image, without a look at what follows
unfoldable pub plan_at : Reader Plan
plan_at = both header_at (λ head.
    both (times head.1.rows row_at head.0) (λ plan.
    both (times head.1.txns (txn_at head.1.version) plan) (λ full.
    times head.1.steps step_at full)))

abbrev pub ended : Result (Plan × Place) LoadFault → Result Plan LoadFault
ended (Ok x) = if length x.1.rest == 0 then Ok x.0 else Err Trailing
ended (Err e) = Err e

unfoldable pub loading : List ℕ → Result Plan LoadFault
loading bytes = ended (plan_at (record { at = 0; rest = bytes }))
