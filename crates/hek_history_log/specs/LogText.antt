-- The text of a log: JSON Lines, the opening rows and then the transactions, each by its place from 1.
use Rattle.std.specs.Prelude.{ℕ, suc, List, [], ◌∷◌, ◌++◌, Option, Some, None, map, codes, decimal}
use Rattle.std.specs.List.{concat}
use Rattle.json.specs.Json.{Json, null, boolean, number, string, array, object, Members, no_members, member}
use Rattle.json.specs.Value.{items_of}
use Rattle.json.specs.Print.{print}
use Rattle.json.specs.Tree.{json_tokens}
use Rattle.hek_history.specs.declared.history.History.{History}
use Rattle.hek_history.specs.declared.history.Transaction.{Transaction}
use Rattle.hek_history.specs.declared.history.Operation.{Operation}
use Rattle.hek_history.specs.declared.history.Operation.TheVariants.{Read, Put, Insert, Update, Delete, Scan}
use Rattle.hek_history.specs.declared.history.Scope.TheVariants.{Range, Bucket}
use Rattle.hek_history.specs.declared.history.Level.{Level}
use Rattle.hek_history.specs.declared.history.Level.TheVariants.{Serializable, Snapshot, Repeatable}
use Rattle.hek_history.specs.declared.history.Status.{Status}
use Rattle.hek_history.specs.declared.history.Status.TheVariants.{Committed, Aborted, Unknown}

abbrev pub number_json : ℕ → Json
number_json n = number (decimal n)

abbrev pub number_or_null : Option ℕ → Json
number_or_null None = null
number_or_null (Some n) = number_json n

abbrev pub array_json : List Json → Json
array_json js = array (items_of js)

-- [KEY,VALUE]
abbrev pub pair_json : ℕ × ℕ → Json
pair_json p = array_json (number_json p.0 ∷ number_json p.1 ∷ [])

abbrev pub pairs_json : List (ℕ × ℕ) → Json
pairs_json ps = array_json (map pair_json ps)

-- an operation, part by part
abbrev pub parts_of : Operation → List Json
parts_of (Read key found) = string (codes "read") ∷ number_json key ∷ number_or_null found ∷ []
parts_of (Put key value) = string (codes "write") ∷ number_json key ∷ number_json value ∷ []
parts_of (Insert key value done) = string (codes "insert") ∷ number_json key ∷ number_json value ∷ boolean done ∷ []
parts_of (Update key value done) = string (codes "update") ∷ number_json key ∷ number_json value ∷ boolean done ∷ []
parts_of (Delete key done) = string (codes "delete") ∷ number_json key ∷ boolean done ∷ []
parts_of (Scan (Bucket buckets bucket) pairs) = string (codes "scan") ∷ number_json bucket ∷ pairs_json pairs.items ∷ []
parts_of (Scan (Range low high) pairs) = string (codes "range") ∷ number_json low ∷ number_json high ∷ pairs_json pairs.items ∷ []

abbrev pub operation_json : Operation → Json
operation_json op = array_json (parts_of op)

abbrev pub level_word : Level → List ℕ
level_word Serializable = codes "serializable"
level_word Snapshot = codes "snapshot"
level_word Repeatable = codes "repeatable"

abbrev pub status_word : Status → List ℕ
status_word Committed = codes "committed"
status_word Aborted = codes "aborted"
status_word Unknown = codes "unknown"

-- a time that is given, before other members
abbrev pub time_then : List ℕ → Option ℕ → Members → Members
time_then name None others = others
time_then name (Some n) others = member name (number_json n) others

abbrev pub interval_json : Option ℕ → Option ℕ → Json
interval_json invoked answered = array_json (number_or_null invoked ∷ number_or_null answered ∷ [])

-- the times of a clock outside, if one is given, before other members
abbrev pub interval_then : Option ℕ → Option ℕ → Members → Members
interval_then None None others = others
interval_then None (Some n) others = member (codes "at") (interval_json None (Some n)) others
interval_then (Some n) answered others = member (codes "at") (interval_json (Some n) answered) others

abbrev pub transaction_json : ℕ → Transaction → Json
transaction_json name t =
    object (member (codes "txn") (number_json name) (member (codes "level") (string (level_word t.level)) (member (codes "status") (string (status_word t.status))
    (time_then (codes "begin") t.begin (time_then (codes "end") t.end (interval_then t.invoked t.answered
    (member (codes "ops") (array_json (map operation_json t.operations.items)) no_members)))))))

abbrev pub opening_json : ℕ → List (ℕ × ℕ) → Json
opening_json buckets rows = object (member (codes "buckets") (number_json buckets) (member (codes "rows") (pairs_json rows) no_members))

abbrev pub text_of : Json → List ℕ
text_of j = print (json_tokens j)

-- a value on a line of its own
abbrev pub line_text : Json → List ℕ
line_text j = text_of j ++ 10 ∷ []

-- the lines of transactions, named by their places from `first` on
abbrev pub transaction_lines : ℕ → List Transaction → List (List ℕ)
transaction_lines first [] = []
transaction_lines first (t ∷ ts) = line_text (transaction_json first t) ∷ transaction_lines (suc first) ts

abbrev pub log_lines : ℕ → History → List (List ℕ)
log_lines buckets h = line_text (opening_json buckets h.rows.items) ∷ transaction_lines 1 h.transactions.items

abbrev pub log_text : ℕ → History → List ℕ
log_text buckets h = concat (log_lines buckets h)
