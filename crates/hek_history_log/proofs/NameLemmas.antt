-- The names of the members that a printed line has.
use Rattle.std.proofs.Common.{◌≡◌, ◌<◌, ℕ, List, [], ◌∷◌, All, Bool, true, false, not, ◌&&◌, ◌||◌, map, length, Option, Some, None, refl, sym, ap, subst, ◌∙◌, arith}
use Rattle.std.proofs.lemmas.Bool.{true≢false}
use Rattle.std.proofs.lemmas.List.Elements.{All-cons}
use Rattle.std.proofs.lemmas.List.Kept.{AllPairs-cons}
use Rattle.std.specs.Borrow.{Bor}
use Rattle.std.specs.List.{AllPairs, list_any}
use Rattle.std.specs.Str.{bytes_eq}
use Rattle.std.specs.Prelude.{codes}
use Rattle.json.specs.Json.{Json, Members, no_members, member}
use Rattle.hek_history.specs.declared.history.Transaction.{Transaction}
use Rattle.json.specs.Json.{string}
use Rattle.json.specs.Find.{as_object}
use Rattle.hek_history_log.specs.LogText.{number_json, array_json, operation_json, pairs_json, level_word, status_word, time_then, interval_then, transaction_json, opening_json}
use Rattle.hek_history_log.specs.MemberNames.{names_of, IsKnown, AreMembers}

both : (a b : Bool) → (a && b) ≡ true → (a ≡ true) × (b ≡ true)
both true b e = (refl, e)
both false b e = absurd (true≢false (sym e))

neither : (a b : Bool) → (a || b) ≡ false → (a ≡ false) × (b ≡ false)
neither true b e = absurd (true≢false e)
neither false b e = (refl, e)

not_true : (a : Bool) → not a ≡ true → a ≡ false
not_true true e = absurd (true≢false (sym e))
not_true false e = refl

none_equal : (n : List ℕ) (ns : List (List ℕ)) → list_any (bytes_eq n) ns ≡ false → All (λ m. bytes_eq n m ≡ false) ns
none_equal n [] e = λ k d within. absurd (omega arith)
none_equal n (m ∷ ns) e =
    let parts = neither (bytes_eq n m) (list_any (bytes_eq n) ns) e in
    All-cons (λ m. bytes_eq n m ≡ false) m ns parts.0 (none_equal n ns parts.1)

-- whether each name is one of the words, and not among those after it
abbrev are_members : List (List ℕ) → List (List ℕ) → Bool
are_members words [] = true
are_members words (n ∷ ns) = list_any (λ w. bytes_eq w n) words && (not (list_any (bytes_eq n) ns) && are_members words ns)

any_word : (known : List (Bor (List ℕ))) (n : List ℕ) → list_any (λ k. bytes_eq k.now n) known ≡ list_any (λ w. bytes_eq w n) (map (λ k. k.now) known)
any_word [] n = refl
any_word (k ∷ known) n = ap (λ (b : Bool). bytes_eq k.now n || b) (any_word known n)

members_from : (known : List (Bor (List ℕ))) (words ns : List (List ℕ)) → map (λ k. k.now) known ≡ words → are_members words ns ≡ true → AreMembers known ns
members_from known words [] same e = record { each = λ k d within. absurd (omega arith); once = λ i j d before within. absurd (omega arith) }
members_from known words (n ∷ ns) same e =
    let first = both (list_any (λ w. bytes_eq w n) words) (not (list_any (bytes_eq n) ns) && are_members words ns) e in
    let second = both (not (list_any (bytes_eq n) ns)) (are_members words ns) first.1 in
    let rest = members_from known words ns same second.1 in
    record {
      each = All-cons (IsKnown known) n ns (any_word known n ∙ ap (list_any (λ w. bytes_eq w n)) same ∙ first.0) rest.each;
      once = AllPairs-cons (λ a b. bytes_eq a b ≡ false) n ns (none_equal n ns (not_true (list_any (bytes_eq n) ns) second.0)) rest.once;
    }

abbrev pub member_words : List (List ℕ)
member_words = codes "txn" ∷ codes "level" ∷ codes "status" ∷ codes "begin" ∷ codes "end" ∷ codes "at" ∷ codes "session" ∷ codes "ops" ∷ codes "note" ∷ []

abbrev pub opening_words : List (List ℕ)
opening_words = codes "rows" ∷ codes "buckets" ∷ codes "note" ∷ []

-- the members of a transaction, with these values
abbrev with_times : Json → Json → Json → Json → Option ℕ → Option ℕ → Option ℕ → Option ℕ → Members
with_times name level status ops begin end invoked answered =
    member (codes "txn") name (member (codes "level") level (member (codes "status") status
    (time_then (codes "begin") begin (time_then (codes "end") end (interval_then invoked answered
    (member (codes "ops") ops no_members))))))

abbrev are_names : Json → Json → Json → Json → Option ℕ → Option ℕ → Option ℕ → Option ℕ → Bool
are_names name level status ops begin end invoked answered = are_members member_words (names_of (with_times name level status ops begin end invoked answered))

members_known : (name level status ops : Json) (begin end invoked answered : Option ℕ) → are_names name level status ops begin end invoked answered ≡ true
members_known name level status ops None None None None = refl
members_known name level status ops None None None (Some a) = refl
members_known name level status ops None None (Some i) a = refl
members_known name level status ops None (Some e) None None = refl
members_known name level status ops None (Some e) None (Some a) = refl
members_known name level status ops None (Some e) (Some i) a = refl
members_known name level status ops (Some b) None None None = refl
members_known name level status ops (Some b) None None (Some a) = refl
members_known name level status ops (Some b) None (Some i) a = refl
members_known name level status ops (Some b) (Some e) None None = refl
members_known name level status ops (Some b) (Some e) None (Some a) = refl
members_known name level status ops (Some b) (Some e) (Some i) a = refl

-- the names that were found are those of a printed transaction
pub transaction_names : (known : List (Bor (List ℕ))) → map (λ k. k.now) known ≡ member_words → (name : ℕ) (t : Transaction) (j : Json) (ns : List (List ℕ)) → j ≡ transaction_json name t → ((ms : Members) → as_object j ≡ Some ms → ns ≡ names_of ms)
    → AreMembers known ns
transaction_names known words name t j ns is found =
    let level = string (level_word t.level) in
    let status = string (status_word t.status) in
    let ops = array_json (map operation_json t.operations.items) in
    let ms : Members = with_times (number_json name) level status ops t.begin t.end t.invoked t.answered in
    let each = members_from known member_words (names_of ms) words (members_known (number_json name) level status ops t.begin t.end t.invoked t.answered) in
    subst (AreMembers known) (sym (found ms (ap as_object is))) each

-- the names that were found are those of a printed opening line
pub opening_names : (known : List (Bor (List ℕ))) → map (λ k. k.now) known ≡ opening_words → (buckets : ℕ) (rows : List (ℕ × ℕ)) (j : Json) (ns : List (List ℕ)) → j ≡ opening_json buckets rows → ((ms : Members) → as_object j ≡ Some ms → ns ≡ names_of ms)
    → AreMembers known ns
opening_names known words buckets rows j ns is found =
    let ms : Members = member (codes "buckets") (number_json buckets) (member (codes "rows") (pairs_json rows) no_members) in
    subst (AreMembers known) (sym (found ms (ap as_object is))) (members_from known opening_words (names_of ms) words refl)
