-- What is printed of a log's values is a line of plain text, which is read back as those values.
use Rattle.std.proofs.Common.{◌≡◌, ◌≢◌, ◌<◌, ◌≤◌, ◌^◌, ◌+◌, ◌%◌, ℕ, suc, max, Bool, true, false, cond, ◌&&◌, leb, ltb, List, [], ◌∷◌, ◌++◌, Option, Some, None, All, map, get_or, codes, decimal, IsUtf8, le-leb, lt-ltb, leb-true, ltb-true, refl, arith}
use Rattle.std.specs.Str.{IsAscii}
use Rattle.std.proofs.lemmas.Bool.{and_parts, and_from}
use Rattle.std.proofs.lemmas.Bool.Decides.{nat_tests}
use Rattle.std.proofs.lemmas.Fmt.{decimal_by_steps}
use Rattle.std.proofs.lemmas.List.Elements.{All-nil, All-cons, All-head, All-tail, All-weaker}
use Rattle.std.proofs.lemmas.Str.{IsUtf8-from_ascii}
use Rattle.std.proofs.lemmas.Str.Ascii.{IsAscii-from_all}
use Rattle.json.specs.Token.{Token}
use Rattle.json.specs.Json.{Json, string, boolean, null, object, Members, no_members, member, max_depth, document}
use Rattle.json.specs.Print.{escape_byte, quoted, token_text, begins, ends, separator, print_from, print}
use Rattle.json.specs.Tree.{json_tokens, items_tokens, members_tokens, depth, items_depth, members_depth, HasNumbers, ItemsHaveNumbers, MembersHaveNumbers}
use Rattle.json.specs.Value.{items_of}
use Rattle.json.proofs.Printed.Decimals.{IsNumber-decimal}
use Rattle.json.proofs.Printed.Trees.{document-print}
use Rattle.hek_history.specs.declared.history.Transaction.{Transaction}
use Rattle.hek_history.specs.declared.history.Operation.{Operation}
use Rattle.hek_history.specs.declared.history.Operation.TheVariants.{Read, Put, Insert, Update, Delete, Scan}
use Rattle.hek_history.specs.declared.history.Scope.TheVariants.{Range, Bucket}
use Rattle.hek_history.specs.declared.history.Level.{Level}
use Rattle.hek_history.specs.declared.history.Level.TheVariants.{Serializable, Snapshot, Repeatable}
use Rattle.hek_history.specs.declared.history.Status.{Status}
use Rattle.hek_history.specs.declared.history.Status.TheVariants.{Committed, Aborted, Unknown}
use Rattle.hek_history_log.specs.LogText.{number_json, number_or_null, array_json, pair_json, pairs_json, parts_of, operation_json, level_word, status_word, time_then, interval_json, interval_then, transaction_json, opening_json, text_of}
use Rattle.hek_history_log.specs.Readable.{IsOwnPair, IsOwnFound, ArePairs, IsReadable, IsReadableTransaction, IsTime}

-- ---- plain bytes: no control, and ASCII

abbrev are_plain : List ℕ → Bool
are_plain [] = true
are_plain (x ∷ xs) = (leb 32 x && ltb x 128) && are_plain xs

are_plain-append : (xs ys : List ℕ) → are_plain xs ≡ true → are_plain ys ≡ true → are_plain (xs ++ ys) ≡ true
are_plain-append [] ys h k = k
are_plain-append (x ∷ xs) ys h k = let p = and_parts _ _ h in and_from _ _ p.0 (are_plain-append xs ys p.1 k)

plain_digit : (n : ℕ) → n < 10 → are_plain ((48 + n) ∷ []) ≡ true
plain_digit n small = and_from _ _ (and_from _ _ (le-leb 32 (48 + n) (omega arith)) (lt-ltb (48 + n) 128 (omega arith))) refl

are_plain-decimal : (n : ℕ) → n < 2 ^ 64 → are_plain (decimal n) ≡ true
are_plain-decimal = decimal_by_steps (λ n ds. are_plain ds ≡ true) plain_digit (λ n ds two plain. are_plain-append ds ((48 + n % 10) ∷ []) plain (plain_digit (n % 10) (omega arith)))

abbrev IsPlainByte : ℕ → Type 0
IsPlainByte x = (32 ≤ x) × (x < 128)

plain_byte : (x : ℕ) → (leb 32 x && ltb x 128) ≡ true → IsPlainByte x
plain_byte x h = let p = and_parts _ _ h in (leb-true 32 x p.0, ltb-true x 128 p.1)

all_plain : (xs : List ℕ) → are_plain xs ≡ true → All IsPlainByte xs
all_plain [] h = All-nil IsPlainByte
all_plain (x ∷ xs) h = let p = and_parts _ _ h in All-cons IsPlainByte x xs (plain_byte x p.0) (all_plain xs p.1)

-- ---- tokens of plain text

abbrev ArePlain : List Token → Type 0
ArePlain [] = Unit {0}
ArePlain (t ∷ ts) = (are_plain (token_text t) ≡ true) × ArePlain ts

ArePlain-append : (ts us : List Token) → ArePlain ts → ArePlain us → ArePlain (ts ++ us)
ArePlain-append [] us h k = k
ArePlain-append (t ∷ ts) us h k = (h.0, ArePlain-append ts us h.1 k)

comma_or_none : (b : Bool) → are_plain (cond b (44 ∷ []) []) ≡ true
comma_or_none true = refl
comma_or_none false = refl

plain_print : (after_value : Bool) (ts : List Token) → ArePlain ts → are_plain (print_from after_value ts) ≡ true
unfolding print_from
plain_print after_value [] h = refl
plain_print after_value (t ∷ ts) h =
    are_plain-append (separator after_value t) _ (comma_or_none (after_value && begins t)) (are_plain-append (token_text t) _ h.0 (plain_print (ends t) ts h.1))

-- ---- values that print

-- a value that prints as plain text, with at most so many brackets round its parts
record Prints (d : ℕ) (j : Json) : Type 0 where
  numbers : HasNumbers j
  shallow : depth j ≤ d
  plain : ArePlain (json_tokens j)

number_prints : (d n : ℕ) → n < 2 ^ 64 → Prints d (number_json n)
number_prints d n small = record { numbers = IsNumber-decimal n small; shallow = omega arith; plain = (are_plain-decimal n small, tt) }

null_prints : (d : ℕ) → Prints d null
null_prints d = record { numbers = tt; shallow = omega arith; plain = (refl, tt) }

flag_prints : (d : ℕ) (b : Bool) → Prints d (boolean b)
flag_prints d true = record { numbers = tt; shallow = omega arith; plain = (refl, tt) }
flag_prints d false = record { numbers = tt; shallow = omega arith; plain = (refl, tt) }

word_prints : (d : ℕ) (word : List ℕ) → are_plain (quoted word) ≡ true → Prints d (string word)
word_prints d word plain = record { numbers = tt; shallow = omega arith; plain = (plain, tt) }

abbrev AllPrint : ℕ → List Json → Type 0
AllPrint d [] = Unit {0}
AllPrint d (j ∷ js) = Prints d j × AllPrint d js

items_numbers : (d : ℕ) (js : List Json) → AllPrint d js → ItemsHaveNumbers (items_of js)
items_numbers d [] all = tt
items_numbers d (j ∷ js) all = (all.0.numbers, items_numbers d js all.1)

items_shallow : (d : ℕ) (js : List Json) → AllPrint d js → items_depth (items_of js) ≤ d
items_shallow d [] all = omega arith
items_shallow d (j ∷ js) all =
    let first = all.0.shallow in
    let rest = items_shallow d js all.1 in
    omega arith

items_plain : (d : ℕ) (js : List Json) → AllPrint d js → ArePlain (items_tokens (items_of js))
items_plain d [] all = (refl, tt)
items_plain d (j ∷ js) all = ArePlain-append (json_tokens j) (items_tokens (items_of js)) all.0.plain (items_plain d js all.1)

array_prints : (d : ℕ) (js : List Json) → AllPrint d js → Prints (suc d) (array_json js)
array_prints d js all = record { numbers = items_numbers d js all; shallow = omega (arith, items_shallow d js all); plain = (refl, items_plain d js all) }

record MembersPrint (d : ℕ) (ms : Members) : Type 0 where
  numbers : MembersHaveNumbers ms
  shallow : members_depth ms ≤ d
  plain : ArePlain (members_tokens ms)

none_print : (d : ℕ) → MembersPrint d no_members
none_print d = record { numbers = tt; shallow = omega arith; plain = (refl, tt) }

member_prints : (d : ℕ) (name : List ℕ) (j : Json) (ms : Members) → are_plain (quoted name ++ 58 ∷ []) ≡ true → Prints d j → MembersPrint d ms → MembersPrint d (member name j ms)
member_prints d name j ms plain first rest =
    record { numbers = (first.numbers, rest.numbers); shallow = omega (arith, first.shallow, rest.shallow); plain = (plain, ArePlain-append (json_tokens j) (members_tokens ms) first.plain rest.plain) }

object_prints : (d : ℕ) (ms : Members) → MembersPrint d ms → Prints (suc d) (object ms)
object_prints d ms all = record { numbers = all.numbers; shallow = omega (arith, all.shallow); plain = (refl, all.plain) }

-- ---- the values of a log

pair_prints : (p : ℕ × ℕ) → IsOwnPair p → Prints 1 (pair_json p)
pair_prints p own = array_prints 0 (number_json p.0 ∷ number_json p.1 ∷ []) (number_prints 0 p.0 (omega arith), (number_prints 0 p.1 (omega arith), tt))

each_pair : (ps : List (ℕ × ℕ)) → All IsOwnPair ps → AllPrint 1 (map pair_json ps)
each_pair [] own = tt
each_pair (p ∷ ps) own = (pair_prints p (own 0 p (omega arith)), each_pair ps (λ k d within. own (suc k) d (omega arith)))

pairs_print : (ps : List (ℕ × ℕ)) → ArePairs ps → Prints 2 (pairs_json ps)
pairs_print ps are = array_prints 1 (map pair_json ps) (each_pair ps are.own)

found_prints : (d : ℕ) (found : Option ℕ) → IsOwnFound found → Prints d (number_or_null found)
found_prints d None own = null_prints d
found_prints d (Some value) own = number_prints d value (omega arith)

parts_print : (buckets : ℕ) (op : Operation) → IsReadable buckets op → AllPrint 2 (parts_of op)
unfolding escape_byte
parts_print buckets (Read key found) own = (word_prints 2 (codes "read") refl, (number_prints 2 key (omega arith), (found_prints 2 found own.1, tt)))
parts_print buckets (Put key value) own = (word_prints 2 (codes "write") refl, (number_prints 2 key (omega arith), (number_prints 2 value (omega arith), tt)))
parts_print buckets (Insert key value done) own = (word_prints 2 (codes "insert") refl, (number_prints 2 key (omega arith), (number_prints 2 value (omega arith), (flag_prints 2 done, tt))))
parts_print buckets (Update key value done) own = (word_prints 2 (codes "update") refl, (number_prints 2 key (omega arith), (number_prints 2 value (omega arith), (flag_prints 2 done, tt))))
parts_print buckets (Delete key done) own = (word_prints 2 (codes "delete") refl, (number_prints 2 key (omega arith), (flag_prints 2 done, tt)))
parts_print buckets (Scan (Bucket all bucket) pairs) own = (word_prints 2 (codes "scan") refl, (number_prints 2 bucket (omega arith), (pairs_print pairs.items own.3, tt)))
parts_print buckets (Scan (Range low high) pairs) own =
    (word_prints 2 (codes "range") refl, (number_prints 2 low (omega arith), (number_prints 2 high (omega arith), (pairs_print pairs.items own.2, tt))))

each_operation : (buckets : ℕ) (ops : List Operation) → All (IsReadable buckets) ops → AllPrint 3 (map operation_json ops)
each_operation buckets [] all = tt
each_operation buckets (op ∷ ops) all =
    (array_prints 2 (parts_of op) (parts_print buckets op (All-head (IsReadable buckets) op ops all)), each_operation buckets ops (All-tail (IsReadable buckets) op ops all))

level_prints : (d : ℕ) (level : Level) → Prints d (string (level_word level))
unfolding escape_byte
level_prints d Serializable = word_prints d (codes "serializable") refl
level_prints d Snapshot = word_prints d (codes "snapshot") refl
level_prints d Repeatable = word_prints d (codes "repeatable") refl

status_prints : (d : ℕ) (status : Status) → Prints d (string (status_word status))
unfolding escape_byte
status_prints d Committed = word_prints d (codes "committed") refl
status_prints d Aborted = word_prints d (codes "aborted") refl
status_prints d Unknown = word_prints d (codes "unknown") refl

time_prints : (name : List ℕ) (time : Option ℕ) (others : Members) → are_plain (quoted name ++ 58 ∷ []) ≡ true → IsTime time → MembersPrint 4 others → MembersPrint 4 (time_then name time others)
time_prints name None others plain is rest = rest
time_prints name (Some n) others plain is rest = member_prints 4 name (number_json n) others plain (number_prints 4 n is) rest

moment_prints : (d : ℕ) (time : Option ℕ) → IsTime time → Prints d (number_or_null time)
moment_prints d None is = null_prints d
moment_prints d (Some n) is = number_prints d n is

times_print : (invoked answered : Option ℕ) → IsTime invoked → IsTime answered → Prints 4 (interval_json invoked answered)
times_print invoked answered is_invoked is_answered =
    array_prints 3 (number_or_null invoked ∷ number_or_null answered ∷ []) (moment_prints 3 invoked is_invoked, (moment_prints 3 answered is_answered, tt))

interval_prints : (invoked answered : Option ℕ) (others : Members) → IsTime invoked → IsTime answered → MembersPrint 4 others → MembersPrint 4 (interval_then invoked answered others)
unfolding escape_byte
interval_prints None None others is_invoked is_answered rest = rest
interval_prints None (Some n) others is_invoked is_answered rest = member_prints 4 (codes "at") _ others refl (times_print None (Some n) is_invoked is_answered) rest
interval_prints (Some n) answered others is_invoked is_answered rest = member_prints 4 (codes "at") _ others refl (times_print (Some n) answered is_invoked is_answered) rest

transaction_prints : (buckets name : ℕ) (t : Transaction) → name < 2 ^ 64 → IsReadableTransaction buckets t → Prints 5 (transaction_json name t)
unfolding escape_byte
transaction_prints buckets name t small is =
    let ops = member_prints 4 (codes "ops") (array_json (map operation_json t.operations.items)) no_members refl (array_prints 3 _ (each_operation buckets t.operations.items is.operations)) (none_print 4) in
    let at = interval_prints t.invoked t.answered _ is.invoked is.answered ops in
    let end = time_prints (codes "end") t.end _ refl is.end at in
    let begin = time_prints (codes "begin") t.begin _ refl is.begin end in
    let status = member_prints 4 (codes "status") (string (status_word t.status)) _ refl (status_prints 4 t.status) begin in
    let level = member_prints 4 (codes "level") (string (level_word t.level)) _ refl (level_prints 4 t.level) status in
    object_prints 4 _ (member_prints 4 (codes "txn") (number_json name) _ refl (number_prints 4 name small) level)

opening_prints : (buckets : ℕ) (rows : List (ℕ × ℕ)) → buckets < 2 ^ 64 → ArePairs rows → Prints 3 (opening_json buckets rows)
unfolding escape_byte
opening_prints buckets rows small are =
    object_prints 2 _ (member_prints 2 (codes "buckets") (number_json buckets) _ refl (number_prints 2 buckets small) (member_prints 2 (codes "rows") (pairs_json rows) no_members refl (pairs_print rows are) (none_print 2)))

-- ---- the line of a value

-- a text that is read as this value, is UTF-8, begins with a brace and has no line feed
pub record Spells (text : List ℕ) (j : Json) : Type 0 where
  pub reads : document text ≡ Some j
  pub utf8 : IsUtf8 text
  pub begins : get_or text 0 0 ≡ 123
  pub no_feed : All (λ x. x ≢ 10) text

spells : (d : ℕ) (ms : Members) → d ≤ 128 → Prints d (object ms) → Spells (text_of (object ms)) (object ms)
unfolding print_from
spells d ms most is =
    let text = text_of (object ms) in
    let all = all_plain text (plain_print false (json_tokens (object ms)) is.plain) in
    record {
      reads = document-print (object ms) is.numbers (omega (arith, is.shallow));
      utf8 = IsUtf8-from_ascii text (IsAscii-from_all text (All-weaker IsPlainByte (λ x. x < 128) (λ x plain. plain.1) text all));
      begins = refl;
      no_feed = All-weaker IsPlainByte (λ x. x ≢ 10) (λ x plain is. omega arith) text all;
    }

pub opening_spells : (buckets : ℕ) (rows : List (ℕ × ℕ)) → buckets < 2 ^ 64 → ArePairs rows → Spells (text_of (opening_json buckets rows)) (opening_json buckets rows)
opening_spells buckets rows small are = spells 3 _ (omega arith) (opening_prints buckets rows small are)

pub transaction_spells : (buckets name : ℕ) (t : Transaction) → name < 2 ^ 64 → IsReadableTransaction buckets t → Spells (text_of (transaction_json name t)) (transaction_json name t)
transaction_spells buckets name t small is = spells 5 _ (omega arith) (transaction_prints buckets name t small is)
