-- What a transaction's own replies tell of a key, and what rows at the end tell.
use Rattle.std.specs.Prelude.{ℕ, ◌-◌, ◌%◌, ◌==◌, Bool, cond, if◌then◌else◌, List, [], ◌∷◌, Option, Some, None, option_map, slice_get}
use Rattle.hek_rules.specs.declared.event.Event.{Event}
use Rattle.hek_rules.specs.declared.event.Event.TheVariants.{Read, Scan, Insert, Update, Delete}
use Rattle.hek_rules.specs.declared.reply.Reply.{Reply}
use Rattle.hek_rules.specs.declared.reply.Reply.TheVariants.{Found, Absent, Rows, Done}
use Rattle.hek_program.specs.declared.term.Factor.{Factor}
use Rattle.hek_program.specs.declared.term.Factor.TheVariants.{Number, Key, Name}

-- the value that a list of rows has at a key
abbrev pub value_at : ℕ → List (ℕ × ℕ) → Option ℕ
value_at key [] = None
value_at key (row ∷ rows) = if row.0 == key then Some row.1 else value_at key rows

-- what there is at a key after a reply, if the event was of that key
abbrev pub told : ℕ → ℕ → Option ℕ → Option ℕ → Option ℕ
told key other new old = if other == key then new else old

-- What a transaction knows to be at a key after its own event with this reply: what it found there, what it wrote, or
-- nothing where it found nothing, also by a write, or deleted. A scan tells it of each key of the bucket.
abbrev pub known_after : ℕ → ℕ → Option ℕ → Event → Reply → Option ℕ
known_after buckets key old (Read t k) (Found value) = told key k (Some value) old
known_after buckets key old (Read t k) Absent = told key k None old
known_after buckets key old (Scan t bucket) (Rows pairs) = if (key % buckets) == bucket then value_at key pairs else old
known_after buckets key old (Insert t k value) Done = told key k (Some value) old
known_after buckets key old (Update t k value) Done = told key k (Some value) old
known_after buckets key old (Update t k value) Absent = told key k None old
known_after buckets key old (Delete t k) Done = told key k None old
known_after buckets key old (Delete t k) Absent = told key k None old
known_after buckets key old e r = old

-- what it knows to be there after these events of its own, if it knew that before
abbrev pub known_on : ℕ → ℕ → Option ℕ → List (Event × Reply) → Option ℕ
known_on buckets key old [] = old
known_on buckets key old (x ∷ xs) = known_on buckets key (known_after buckets key old x.0 x.1) xs

-- the value of each factor for a transaction with these events; it knows of no other's commit
abbrev pub seen_by : ℕ → List (Event × Reply) → Factor → Option ℕ
seen_by buckets own (Number n) = Some n
seen_by buckets own (Key key) = known_on buckets key None own
seen_by buckets own (Name t) = None

abbrev pub one_if : Bool → ℕ
one_if b = cond b 1 0

-- the value of each factor at the end of an order: by the rows, and by who committed
abbrev pub at_end : List (ℕ × ℕ) → List Bool → Factor → Option ℕ
at_end rows committed (Number n) = Some n
at_end rows committed (Key key) = value_at key rows
at_end rows committed (Name t) = option_map one_if (slice_get committed (t - 1))
