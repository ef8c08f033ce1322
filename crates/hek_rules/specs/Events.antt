-- Events and their kinds: the word and opcode of each kind, how many operands it has, and an event's parts.
use Rattle.std.specs.Prelude.{◌≡◌, ℕ, Bool, true, false, List, codes, Option, Some, None, if◌then◌else◌, ◌==◌, unwrap_or}
use Rattle.std.specs.Str.{bytes_eq}
use Rattle.hek_rules.specs.declared.event.Event.{Event}
use Rattle.hek_rules.specs.declared.event.Event.TheVariants as event
use Rattle.hek_rules.specs.declared.kind.EventKind.{EventKind}
use Rattle.hek_rules.specs.declared.kind.EventKind.TheVariants as kind

abbrev pub word_of : EventKind → List ℕ
word_of kind.Begin = codes "begin"
word_of kind.Read = codes "read"
word_of kind.Scan = codes "scan"
word_of kind.Insert = codes "insert"
word_of kind.Update = codes "update"
word_of kind.Delete = codes "delete"
word_of kind.Finish = codes "finish"
word_of kind.Precommit = codes "precommit"
word_of kind.Release = codes "release"
word_of kind.Commit = codes "commit"
word_of kind.Fail = codes "fail"
word_of kind.Stamp = codes "stamp"
word_of kind.End = codes "end"
word_of kind.Detect = codes "detect"

-- the kind that a word names
abbrev pub kind_named : List ℕ → Option EventKind
kind_named word =
    if bytes_eq word (codes "begin") then Some kind.Begin
    else if bytes_eq word (codes "read") then Some kind.Read
    else if bytes_eq word (codes "scan") then Some kind.Scan
    else if bytes_eq word (codes "insert") then Some kind.Insert
    else if bytes_eq word (codes "update") then Some kind.Update
    else if bytes_eq word (codes "delete") then Some kind.Delete
    else if bytes_eq word (codes "finish") then Some kind.Finish
    else if bytes_eq word (codes "precommit") then Some kind.Precommit
    else if bytes_eq word (codes "release") then Some kind.Release
    else if bytes_eq word (codes "commit") then Some kind.Commit
    else if bytes_eq word (codes "fail") then Some kind.Fail
    else if bytes_eq word (codes "stamp") then Some kind.Stamp
    else if bytes_eq word (codes "end") then Some kind.End
    else if bytes_eq word (codes "detect") then Some kind.Detect
    else None

abbrev pub opcode_of : EventKind → ℕ
opcode_of kind.Begin = 1
opcode_of kind.Read = 2
opcode_of kind.Scan = 3
opcode_of kind.Insert = 4
opcode_of kind.Update = 5
opcode_of kind.Delete = 6
opcode_of kind.Finish = 7
opcode_of kind.Precommit = 8
opcode_of kind.Release = 9
opcode_of kind.Commit = 10
opcode_of kind.Fail = 11
opcode_of kind.Stamp = 12
opcode_of kind.End = 13
opcode_of kind.Detect = 14

-- the kind that an opcode names
abbrev pub kind_coded : ℕ → Option EventKind
kind_coded opcode =
    if opcode == 1 then Some kind.Begin
    else if opcode == 2 then Some kind.Read
    else if opcode == 3 then Some kind.Scan
    else if opcode == 4 then Some kind.Insert
    else if opcode == 5 then Some kind.Update
    else if opcode == 6 then Some kind.Delete
    else if opcode == 7 then Some kind.Finish
    else if opcode == 8 then Some kind.Precommit
    else if opcode == 9 then Some kind.Release
    else if opcode == 10 then Some kind.Commit
    else if opcode == 11 then Some kind.Fail
    else if opcode == 12 then Some kind.Stamp
    else if opcode == 13 then Some kind.End
    else if opcode == 14 then Some kind.Detect
    else None

abbrev pub operand_count : EventKind → ℕ
operand_count kind.Begin = 0
operand_count kind.Read = 1
operand_count kind.Scan = 1
operand_count kind.Insert = 2
operand_count kind.Update = 2
operand_count kind.Delete = 1
operand_count kind.Finish = 0
operand_count kind.Precommit = 0
operand_count kind.Release = 0
operand_count kind.Commit = 0
operand_count kind.Fail = 0
operand_count kind.Stamp = 0
operand_count kind.End = 0
operand_count kind.Detect = 0

-- `Detect` is the one kind without a transaction, `Scan` the one kind with a bucket as operand
abbrev pub is_detect : EventKind → Bool
is_detect kind.Detect = true
is_detect other = false

abbrev pub is_scan : EventKind → Bool
is_scan kind.Scan = true
is_scan other = false

-- the event of a kind, from a transaction and two operands; a part that the kind lacks is dropped
abbrev pub event_of : EventKind → ℕ → ℕ → ℕ → Event
event_of kind.Begin t a b = event.Begin t
event_of kind.Read t a b = event.Read t a
event_of kind.Scan t a b = event.Scan t a
event_of kind.Insert t a b = event.Insert t a b
event_of kind.Update t a b = event.Update t a b
event_of kind.Delete t a b = event.Delete t a
event_of kind.Finish t a b = event.Finish t
event_of kind.Precommit t a b = event.Precommit t
event_of kind.Release t a b = event.Release t
event_of kind.Commit t a b = event.Commit t
event_of kind.Fail t a b = event.Fail t
event_of kind.Stamp t a b = event.Stamp t
event_of kind.End t a b = event.End t
event_of kind.Detect t a b = event.Detect

abbrev pub kind_of : Event → EventKind
kind_of (event.Begin t) = kind.Begin
kind_of (event.Read t a) = kind.Read
kind_of (event.Scan t a) = kind.Scan
kind_of (event.Insert t a b) = kind.Insert
kind_of (event.Update t a b) = kind.Update
kind_of (event.Delete t a) = kind.Delete
kind_of (event.Finish t) = kind.Finish
kind_of (event.Precommit t) = kind.Precommit
kind_of (event.Release t) = kind.Release
kind_of (event.Commit t) = kind.Commit
kind_of (event.Fail t) = kind.Fail
kind_of (event.Stamp t) = kind.Stamp
kind_of (event.End t) = kind.End
kind_of event.Detect = kind.Detect

-- the transaction of an event, if it has one
abbrev pub txn_of : Event → Option ℕ
txn_of (event.Begin t) = Some t
txn_of (event.Read t a) = Some t
txn_of (event.Scan t a) = Some t
txn_of (event.Insert t a b) = Some t
txn_of (event.Update t a b) = Some t
txn_of (event.Delete t a) = Some t
txn_of (event.Finish t) = Some t
txn_of (event.Precommit t) = Some t
txn_of (event.Release t) = Some t
txn_of (event.Commit t) = Some t
txn_of (event.Fail t) = Some t
txn_of (event.Stamp t) = Some t
txn_of (event.End t) = Some t
txn_of event.Detect = None

-- the operands of an event; 0 is a missing operand
abbrev pub first_of : Event → ℕ
first_of (event.Begin t) = 0
first_of (event.Read t a) = a
first_of (event.Scan t a) = a
first_of (event.Insert t a b) = a
first_of (event.Update t a b) = a
first_of (event.Delete t a) = a
first_of (event.Finish t) = 0
first_of (event.Precommit t) = 0
first_of (event.Release t) = 0
first_of (event.Commit t) = 0
first_of (event.Fail t) = 0
first_of (event.Stamp t) = 0
first_of (event.End t) = 0
first_of event.Detect = 0

abbrev pub second_of : Event → ℕ
second_of (event.Begin t) = 0
second_of (event.Read t a) = 0
second_of (event.Scan t a) = 0
second_of (event.Insert t a b) = b
second_of (event.Update t a b) = b
second_of (event.Delete t a) = 0
second_of (event.Finish t) = 0
second_of (event.Precommit t) = 0
second_of (event.Release t) = 0
second_of (event.Commit t) = 0
second_of (event.Fail t) = 0
second_of (event.Stamp t) = 0
second_of (event.End t) = 0
second_of event.Detect = 0

-- each event is made of its kind, transaction and operands; the word and the opcode of a kind name that kind
pub record IsItsParts : Type 0 where
  pub event : (e : Event) → event_of (kind_of e) (unwrap_or (txn_of e) 0) (first_of e) (second_of e) ≡ e
  pub word : (k : EventKind) → kind_named (word_of k) ≡ Some k
  pub opcode : (k : EventKind) → kind_coded (opcode_of k) ≡ Some k
