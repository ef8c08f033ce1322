-- The fields that a printed transaction has.
use Rattle.std.proofs.Common.{◌≡◌, ℕ, List, Bool, true, false, cond, Option, Some, None, option_map, map, ◌⊎◌, inl, inr, refl, sym, ap, ◌∙◌}
use Rattle.std.specs.Prelude.{codes}
use Rattle.std.specs.Str.{bytes_eq}
use Rattle.json.specs.Json.{Json, string, Members, no_members, member}
use Rattle.json.specs.Find.{get, get_member, later_or}
use Rattle.hek_history.specs.declared.history.Transaction.{Transaction}
use Rattle.hek_history_log.specs.LogText.{number_json, array_json, operation_json, level_word, status_word, interval_json, time_then, interval_then, transaction_json}

none_later : (o : Option Json) → later_or o None ≡ o
none_later None = refl
none_later (Some j) = refl

-- a member of another name is passed over
other : (n k : List ℕ) (j : Json) (ms : Members) → bytes_eq k n ≡ false → get_member n (member k j ms) ≡ get_member n ms
other n k j ms e = ap (λ (b : Bool). later_or (get_member n ms) (cond b (Some j) None)) e ∙ none_later (get_member n ms)

-- one of this name is found if none comes after it
here : (n k : List ℕ) (j : Json) (ms : Members) → bytes_eq k n ≡ true → get_member n ms ≡ None → get_member n (member k j ms) ≡ Some j
here n k j ms e none = ap (λ (b : Bool). later_or (get_member n ms) (cond b (Some j) None)) e ∙ ap (λ (o : Option Json). later_or o (Some j)) none

other_time : (n k : List ℕ) (t : Option ℕ) (ms : Members) → bytes_eq k n ≡ false → get_member n (time_then k t ms) ≡ get_member n ms
other_time n k None ms e = refl
other_time n k (Some t) ms e = other n k (number_json t) ms e

time_here : (n k : List ℕ) (t : Option ℕ) (ms : Members) → bytes_eq k n ≡ true → get_member n ms ≡ None → get_member n (time_then k t ms) ≡ option_map number_json t
time_here n k None ms e none = none
time_here n k (Some t) ms e none = here n k (number_json t) ms e none

other_interval : (n : List ℕ) (i a : Option ℕ) (ms : Members) → bytes_eq (codes "at") n ≡ false → get_member n (interval_then i a ms) ≡ get_member n ms
other_interval n None None ms e = refl
other_interval n None (Some a) ms e = other n (codes "at") (interval_json None (Some a)) ms e
other_interval n (Some i) a ms e = other n (codes "at") (interval_json (Some i) a) ms e

-- the times of a clock outside: none is given, or both are found
pub at_member : (i a : Option ℕ) (ms : Members) → get_member (codes "at") ms ≡ None
    → ((i ≡ None) × (a ≡ None) × (get_member (codes "at") (interval_then i a ms) ≡ None)) ⊎ (get_member (codes "at") (interval_then i a ms) ≡ Some (interval_json i a))
at_member None None ms none = inl (refl, refl, none)
at_member None (Some a) ms none = inr (here (codes "at") (codes "at") (interval_json None (Some a)) ms refl none)
at_member (Some i) a ms none = inr (here (codes "at") (codes "at") (interval_json (Some i) a) ms refl none)

module _ (name : ℕ) (t : Transaction) where
  -- the members from each one on
  abbrev pub from_ops : Members
  from_ops = member (codes "ops") (array_json (map operation_json t.operations.items)) no_members

  abbrev pub from_at : Members
  from_at = interval_then t.invoked t.answered from_ops

  abbrev from_end : Members
  from_end = time_then (codes "end") t.end from_at

  abbrev from_begin : Members
  from_begin = time_then (codes "begin") t.begin from_end

  abbrev from_status : Members
  from_status = member (codes "status") (string (status_word t.status)) from_begin

  abbrev from_level : Members
  from_level = member (codes "level") (string (level_word t.level)) from_status

  pub get-level : get (codes "level") (transaction_json name t) ≡ Some (string (level_word t.level))
  get-level =
      let n = codes "level" in
      other n (codes "txn") (number_json name) from_level refl
      ∙ here n (codes "level") (string (level_word t.level)) from_status refl (other n (codes "status") (string (status_word t.status)) from_begin refl ∙ other_time n (codes "begin") t.begin from_end refl ∙ other_time n (codes "end") t.end from_at refl ∙ other_interval n t.invoked t.answered from_ops refl)

  pub get-status : get (codes "status") (transaction_json name t) ≡ Some (string (status_word t.status))
  get-status =
      let n = codes "status" in
      other n (codes "txn") (number_json name) from_level refl
      ∙ other n (codes "level") (string (level_word t.level)) from_status refl
      ∙ here n (codes "status") (string (status_word t.status)) from_begin refl (other_time n (codes "begin") t.begin from_end refl ∙ other_time n (codes "end") t.end from_at refl ∙ other_interval n t.invoked t.answered from_ops refl)

  pub get-begin : get (codes "begin") (transaction_json name t) ≡ option_map number_json t.begin
  get-begin =
      let n = codes "begin" in
      other n (codes "txn") (number_json name) from_level refl
      ∙ other n (codes "level") (string (level_word t.level)) from_status refl
      ∙ other n (codes "status") (string (status_word t.status)) from_begin refl
      ∙ time_here n (codes "begin") t.begin from_end refl (other_time n (codes "end") t.end from_at refl ∙ other_interval n t.invoked t.answered from_ops refl)

  pub get-end : get (codes "end") (transaction_json name t) ≡ option_map number_json t.end
  get-end =
      let n = codes "end" in
      other n (codes "txn") (number_json name) from_level refl
      ∙ other n (codes "level") (string (level_word t.level)) from_status refl
      ∙ other n (codes "status") (string (status_word t.status)) from_begin refl
      ∙ other_time n (codes "begin") t.begin from_end refl
      ∙ time_here n (codes "end") t.end from_at refl (other_interval n t.invoked t.answered from_ops refl)

  pub get-ops : get (codes "ops") (transaction_json name t) ≡ Some (array_json (map operation_json t.operations.items))
  get-ops =
      let n = codes "ops" in
      other n (codes "txn") (number_json name) from_level refl
      ∙ other n (codes "level") (string (level_word t.level)) from_status refl
      ∙ other n (codes "status") (string (status_word t.status)) from_begin refl
      ∙ other_time n (codes "begin") t.begin from_end refl
      ∙ other_time n (codes "end") t.end from_at refl
      ∙ other_interval n t.invoked t.answered from_ops refl

  pub get-txn : get (codes "txn") (transaction_json name t) ≡ Some (number_json name)
  get-txn =
      let n = codes "txn" in
      here n (codes "txn") (number_json name) from_level refl
      (other n (codes "level") (string (level_word t.level)) from_status refl ∙ other n (codes "status") (string (status_word t.status)) from_begin refl ∙ other_time n (codes "begin") t.begin from_end refl ∙ other_time n (codes "end") t.end from_at refl ∙ other_interval n t.invoked t.answered from_ops refl)

  pub get-session : get (codes "session") (transaction_json name t) ≡ None
  get-session =
      let n = codes "session" in
      other n (codes "txn") (number_json name) from_level refl
      ∙ other n (codes "level") (string (level_word t.level)) from_status refl
      ∙ other n (codes "status") (string (status_word t.status)) from_begin refl
      ∙ other_time n (codes "begin") t.begin from_end refl
      ∙ other_time n (codes "end") t.end from_at refl
      ∙ other_interval n t.invoked t.answered from_ops refl

  -- before the times of a clock outside
  pub get-at : get (codes "at") (transaction_json name t) ≡ get_member (codes "at") from_at
  get-at =
      let n = codes "at" in
      other n (codes "txn") (number_json name) from_level refl
      ∙ other n (codes "level") (string (level_word t.level)) from_status refl
      ∙ other n (codes "status") (string (status_word t.status)) from_begin refl
      ∙ other_time n (codes "begin") t.begin from_end refl
      ∙ other_time n (codes "end") t.end from_at refl
