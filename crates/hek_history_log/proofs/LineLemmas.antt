-- How the lines of a log's text are read, one after another.
use Rattle.std.proofs.Common.{◌≡◌, ◌≢◌, ◌<◌, ◌≤◌, ◌^◌, ◌+◌, ◌⊎◌, ℕ, suc, Bool, true, false, List, [], ◌∷◌, ◌++◌, Option, Some, None, Ok, Err, IfSome, IfErr, MatchResult, All, length, get_or, length-append, inl, inr, refl, sym, ap, subst, ◌∙◌, arith, append_assoc, append-nil}
use Rattle.std.specs.Prelude.{Result}
use Rattle.std.specs.List.{concat}
use Rattle.std.specs.Io.BufRead.{take_through, drop_through, DropsThrough}
use Rattle.std.proofs.BufReadLemmas.{take_through-append, drop_through-append}
use Rattle.std.proofs.lemmas.List.Elements.{All-head, All-tail}
use Rattle.hek_history.specs.declared.history.History.{History}
use Rattle.hek_history.specs.declared.history.Transaction.{Transaction}
use Rattle.hek_history_log.specs.Ends.{IsEnd}
use Rattle.hek_history_log.specs.Gives.{Gives}
use Rattle.hek_history_log.specs.HasRead.{IsFresh, HasRead}
use Rattle.hek_history_log.specs.LogText.{opening_json, transaction_json, text_of, line_text, transaction_lines, log_lines, log_text}
use Rattle.hek_history_log.specs.Readable.{ArePairs, IsReadableTransaction, IsReadableLog}
use Rattle.hek_history_log.specs.declared.fault.LogFault.{LogFault}
use Rattle.hek_history_log.specs.declared.fault.LogFault.TheVariants.{NoMemory}
use Rattle.hek_history_log.specs.declared.reader.Draft.{Draft}
use Rattle.hek_history_log.proofs.DocumentLemmas.{Spells, opening_spells, transaction_spells}
use Rattle.hek_history_log.proofs.KeptLemmas.{gives_map}

-- ---- one line of a text

line_taken : (text rest : List ℕ) → All (λ x. x ≢ 10) text → take_through 10 ((text ++ 10 ∷ []) ++ rest) ≡ text ++ 10 ∷ []
line_taken text rest none = ap (take_through 10) (append_assoc text (10 ∷ []) rest) ∙ take_through-append 10 text (10 ∷ rest) none

line_dropped : (text rest : List ℕ) → All (λ x. x ≢ 10) text → drop_through 10 ((text ++ 10 ∷ []) ++ rest) ≡ rest
line_dropped text rest none = ap (drop_through 10) (append_assoc text (10 ∷ []) rest) ∙ drop_through-append 10 text (10 ∷ rest) none

if_known : (P : List ℕ → Type 0) (known : Option (List ℕ)) (xs : List ℕ) → known ≡ Some xs → IfSome known P → P xs
if_known P known xs is h = subst (λ (o : Option (List ℕ)). IfSome o P) is h

-- ---- where the reader is

-- before the opening line
pub record AtOpening (buckets : ℕ) (h : History) (number : ℕ) (draft : Draft) (known : Option (List ℕ)) : Type 0 where
  pub first : number ≡ 1
  pub fresh : IsFresh draft
  pub ahead : known ≡ Some (log_text buckets h)

-- before the lines of the last transactions
pub record AtTransaction (buckets : ℕ) (h : History) (number : ℕ) (draft : Draft) (known : Option (List ℕ)) : Type 0 where
  pub done : List Transaction
  pub rest : List Transaction
  pub all : h.transactions.items ≡ done ++ rest
  pub place : number ≡ length done + 2
  pub had : HasRead buckets h.rows.items done draft
  pub ahead : known ≡ Some (concat (transaction_lines (suc (length done)) rest))

abbrev pub IsAt : ℕ → History → ℕ → Draft → Option (List ℕ) → Type 0
IsAt buckets h number draft known = AtOpening buckets h number draft known ⊎ AtTransaction buckets h number draft known

-- ---- the transaction that comes next

next_is : (P : Transaction → Type 0) (done rest : List Transaction) (t : Transaction) → All P (done ++ t ∷ rest) → P t
next_is P [] rest t all = All-head P t rest all
next_is P (u ∷ done) rest t all = next_is P done rest t (All-tail P u (done ++ t ∷ rest) all)

next_line : (P : List ℕ → Type 0) (first : ℕ) (done rest : List Transaction) (t : Transaction) → All P (transaction_lines first (done ++ t ∷ rest)) → P (line_text (transaction_json (first + length done) t))
next_line P first [] rest t all =
    let same : first ≡ first + 0 = omega arith in
    subst (λ n. P (line_text (transaction_json n t))) same (All-head P (line_text (transaction_json first t)) (transaction_lines (suc first) rest) all)
next_line P first (u ∷ done) rest t all =
    let same : suc first + length done ≡ first + suc (length done) = omega arith in
    subst (λ n. P (line_text (transaction_json n t))) same
    (next_line P (suc first) done rest t (All-tail P (line_text (transaction_json first u)) (transaction_lines (suc first) (done ++ t ∷ rest)) all))

few_done : (ts done rest : List Transaction) (t : Transaction) → ts ≡ done ++ t ∷ rest → length ts < 2 ^ 63 → suc (length done) < 2 ^ 63
few_done ts done rest t all few = omega (arith, ap length all, length-append done (t ∷ rest))

next_spells : (buckets : ℕ) (h : History) (done rest : List Transaction) (t : Transaction) → IsReadableLog buckets h → h.transactions.items ≡ done ++ t ∷ rest
    → Spells (text_of (transaction_json (suc (length done)) t)) (transaction_json (suc (length done)) t)
next_spells buckets h done rest t log all =
    let few = few_done h.transactions.items done rest t all log.few_transactions in
    transaction_spells buckets (suc (length done)) t (omega arith) (next_is (IsReadableTransaction buckets) done rest t (subst (All (IsReadableTransaction buckets)) all log.transactions))

next_fits : (buckets : ℕ) (h : History) (done rest : List Transaction) (t : Transaction) → IsReadableLog buckets h → h.transactions.items ≡ done ++ t ∷ rest
    → length (line_text (transaction_json (suc (length done)) t)) ≤ 2 ^ 24
next_fits buckets h done rest t log all =
    let P : List ℕ → Type 0 = λ line. length line ≤ 2 ^ 24 in
    let lines = All-tail P (line_text (opening_json buckets h.rows.items)) (transaction_lines 1 h.transactions.items) log.lines in
    let same : 1 + length done ≡ suc (length done) = omega arith in
    subst (λ n. P (line_text (transaction_json n t))) same (next_line P 1 done rest t (subst (λ ts. All P (transaction_lines 1 ts)) all lines))

-- ---- no line is too long

transaction_ends : (buckets : ℕ) (h : History) (fault : LogFault) (known : Option (List ℕ)) (done rest : List Transaction) → IsReadableLog buckets h
    → h.transactions.items ≡ done ++ rest → known ≡ Some (concat (transaction_lines (suc (length done)) rest))
    → IfSome known (λ xs. length (take_through 10 xs) ≤ 2 ^ 24 → IsEnd fault) → IsEnd fault
transaction_ends buckets h fault known done [] log all ahead fails = if_known (λ xs. length (take_through 10 xs) ≤ 2 ^ 24 → IsEnd fault) known [] ahead fails (omega arith)
transaction_ends buckets h fault known done (t ∷ rest) log all ahead fails =
    let s = next_spells buckets h done rest t log all in
    let taken = line_taken (text_of (transaction_json (suc (length done)) t)) (concat (transaction_lines (suc (suc (length done))) rest)) s.no_feed in
    if_known (λ xs. length (take_through 10 xs) ≤ 2 ^ 24 → IsEnd fault) known _ ahead fails (subst (λ line. length line ≤ 2 ^ 24) (sym taken) (next_fits buckets h done rest t log all))

-- a line that was not read ended the reading
pub line_ends : (buckets : ℕ) (h : History) (number : ℕ) (draft : Draft) (fault : LogFault) (known : Option (List ℕ)) → IsReadableLog buckets h → IsAt buckets h number draft known
    → IfSome known (λ xs. length (take_through 10 xs) ≤ 2 ^ 24 → IsEnd fault) → IsEnd fault
line_ends buckets h number draft fault known log (inl at) fails =
    let s = opening_spells buckets h.rows.items log.few_buckets log.rows in
    let taken = line_taken (text_of (opening_json buckets h.rows.items)) (concat (transaction_lines 1 h.transactions.items)) s.no_feed in
    let P : List ℕ → Type 0 = λ line. length line ≤ 2 ^ 24 in
    if_known (λ xs. length (take_through 10 xs) ≤ 2 ^ 24 → IsEnd fault) known (log_text buckets h) at.ahead fails
    (subst P (sym taken) (All-head P (line_text (opening_json buckets h.rows.items)) (transaction_lines 1 h.transactions.items) log.lines))
line_ends buckets h number draft fault known log (inr at) fails = transaction_ends buckets h fault known at.done at.rest log at.all at.ahead fails

-- ---- an empty line is the end

some_bytes : (text bytes : List ℕ) → bytes ≡ text ++ 10 ∷ [] → length bytes ≡ 0 → ⊥
some_bytes text bytes is none = omega (arith, ap length is, length-append text (10 ∷ []))

transaction_last : (buckets : ℕ) (h : History) (draft : Draft) (bytes : List ℕ) (known : Option (List ℕ)) (done rest : List Transaction) → IsReadableLog buckets h
    → h.transactions.items ≡ done ++ rest → HasRead buckets h.rows.items done draft → known ≡ Some (concat (transaction_lines (suc (length done)) rest))
    → IfSome known (λ xs. bytes ≡ take_through 10 xs) → length bytes ≡ 0 → HasRead buckets h.rows.items h.transactions.items draft
transaction_last buckets h draft bytes known done [] log all had ahead taken none = subst (λ ts. HasRead buckets h.rows.items ts draft) (sym (all ∙ append-nil done)) had
transaction_last buckets h draft bytes known done (t ∷ rest) log all had ahead taken none =
    let s = next_spells buckets h done rest t log all in
    let text = text_of (transaction_json (suc (length done)) t) in
    absurd (some_bytes text bytes (if_known (λ xs. bytes ≡ take_through 10 xs) known _ ahead taken ∙ line_taken text (concat (transaction_lines (suc (suc (length done))) rest)) s.no_feed) none)

pub all_read : (buckets : ℕ) (h : History) (number : ℕ) (draft : Draft) (bytes : List ℕ) (known : Option (List ℕ)) → IsReadableLog buckets h → IsAt buckets h number draft known
    → IfSome known (λ xs. bytes ≡ take_through 10 xs) → length bytes ≡ 0 → HasRead buckets h.rows.items h.transactions.items draft
all_read buckets h number draft bytes known log (inl at) taken none =
    let s = opening_spells buckets h.rows.items log.few_buckets log.rows in
    let text = text_of (opening_json buckets h.rows.items) in
    absurd (some_bytes text bytes (if_known (λ xs. bytes ≡ take_through 10 xs) known (log_text buckets h) at.ahead taken ∙ line_taken text (concat (transaction_lines 1 h.transactions.items)) s.no_feed) none)
all_read buckets h number draft bytes known log (inr at) taken none = transaction_last buckets h draft bytes known at.done at.rest log at.all at.had at.ahead taken none

-- ---- no log has as many lines as there are numbers

pub line_below : (buckets : ℕ) (h : History) (number : ℕ) (draft : Draft) (known : Option (List ℕ)) → IsReadableLog buckets h → IsAt buckets h number draft known → number < 2 ^ 63 + 2
line_below buckets h number draft known log (inl at) = omega (arith, at.first)
line_below buckets h number draft known log (inr at) = omega (arith, at.place, ap length at.all, length-append at.done at.rest, log.few_transactions)

-- ---- a line that was read is added

-- what is known of a line that was read from `known`, with `after` behind it, and added
pub record Added {T : Type 0} (number : ℕ) (old new : Draft) (known after : Option (List ℕ)) (bytes line : List ℕ) (r : Result T LogFault) : Type 0 where
  pub taken : IfSome known (λ xs. bytes ≡ take_through 10 xs)
  pub left : DropsThrough known after 10
  pub some : length bytes ≢ 0
  pub line_is : (text : List ℕ) → bytes ≡ text ++ 10 ∷ [] → get_or text 0 0 ≡ 123 → line ≡ text
  pub opening : (buckets : ℕ) (rows : List (ℕ × ℕ)) → 0 < buckets → buckets < 2 ^ 64 → ArePairs rows → IsFresh old → line ≡ text_of (opening_json buckets rows) → number ≢ 0
      → Gives r NoMemory (λ _. HasRead buckets rows [] new)
  pub next : (buckets : ℕ) (rows : List (ℕ × ℕ)) (ts : List Transaction) (t : Transaction) → HasRead buckets rows ts old → IsReadableTransaction buckets t → suc (length ts) < 2 ^ 63
      → line ≡ text_of (transaction_json (suc (length ts)) t) → Gives r NoMemory (λ _. HasRead buckets rows (ts ++ t ∷ []) new)

transaction_moves : {T : Type 0} (buckets : ℕ) (h : History) (number : ℕ) (old new : Draft) (known after : Option (List ℕ)) (bytes line : List ℕ) (r : Result T LogFault)
    (done rest : List Transaction) → IsReadableLog buckets h → Added number old new known after bytes line r
    → h.transactions.items ≡ done ++ rest → number ≡ length done + 2 → HasRead buckets h.rows.items done old → known ≡ Some (concat (transaction_lines (suc (length done)) rest))
    → Gives r NoMemory (λ _. IsAt buckets h (number + 1) new after)
transaction_moves buckets h number old new known after bytes line r done [] log a all place had ahead =
    absurd (a.some (ap length (if_known (λ xs. bytes ≡ take_through 10 xs) known [] ahead a.taken)))
transaction_moves {T} buckets h number old new known after bytes line r done (t ∷ rest) log a all place had ahead =
    let s = next_spells buckets h done rest t log all in
    let text = text_of (transaction_json (suc (length done)) t) in
    let others = concat (transaction_lines (suc (suc (length done))) rest) in
    let bytes_are = if_known (λ xs. bytes ≡ take_through 10 xs) known _ ahead a.taken ∙ line_taken text others s.no_feed in
    let after_is = if_known (λ xs. after ≡ Some (drop_through 10 xs)) known _ ahead a.left ∙ ap Some (line_dropped text others s.no_feed) in
    let few = few_done h.transactions.items done rest t all log.few_transactions in
    let readable = next_is (IsReadableTransaction buckets) done rest t (subst (All (IsReadableTransaction buckets)) all log.transactions) in
    let more : suc (length done) ≡ length (done ++ t ∷ []) = omega (arith, length-append done (t ∷ [])) in
    gives_map r NoMemory _ _ (λ _ has. inr (record {
      done = done ++ t ∷ [];
      rest = rest;
      all = all ∙ sym (append_assoc done (t ∷ []) rest);
      place = omega arith;
      had = has;
      ahead = after_is ∙ ap (λ n. Some (concat (transaction_lines (suc n) rest))) more;
    })) (a.next buckets h.rows.items done t had readable few (a.line_is text bytes_are s.begins))

pub line_moves : {T : Type 0} (buckets : ℕ) (h : History) (number : ℕ) (old new : Draft) (known after : Option (List ℕ)) (bytes line : List ℕ) (r : Result T LogFault)
    → IsReadableLog buckets h → IsAt buckets h number old known → Added number old new known after bytes line r → Gives r NoMemory (λ _. IsAt buckets h (number + 1) new after)
line_moves buckets h number old new known after bytes line r log (inl at) a =
    let s = opening_spells buckets h.rows.items log.few_buckets log.rows in
    let text = text_of (opening_json buckets h.rows.items) in
    let others = concat (transaction_lines 1 h.transactions.items) in
    let bytes_are = if_known (λ xs. bytes ≡ take_through 10 xs) known (log_text buckets h) at.ahead a.taken ∙ line_taken text others s.no_feed in
    let after_is = if_known (λ xs. after ≡ Some (drop_through 10 xs)) known (log_text buckets h) at.ahead a.left ∙ ap Some (line_dropped text others s.no_feed) in
    gives_map r NoMemory _ _ (λ _ has. inr (record { done = []; rest = h.transactions.items; all = refl; place = omega (arith, at.first); had = has; ahead = after_is }))
    (a.opening buckets h.rows.items log.some_bucket log.few_buckets log.rows at.fresh (a.line_is text bytes_are s.begins) (λ zero. omega (arith, at.first)))
line_moves buckets h number old new known after bytes line r log (inr at) a =
    transaction_moves buckets h number old new known after bytes line r at.done at.rest log a at.all at.place at.had at.ahead

-- the reader goes on after a line that was added, and keeps the fault of another
pub after_line : (r : Result (Unit {0}) LogFault) (P : Type 0) (old new : Option LogFault) (b : Bool) → Gives r NoMemory (λ _. P) → old ≡ None
    → (r ≡ Ok tt → (b ≡ true) × (new ≡ old)) → (old ≡ None → IfErr r (λ fault. IsEnd fault → (b ≡ false) × (new ≡ Some fault)))
    → ((b ≡ true) × (new ≡ None) × P) ⊎ ((b ≡ false) × (new ≡ Some NoMemory))
after_line (Ok x) P old new b gives none added ended = let e = added refl in inl (e.0, e.1 ∙ none, gives)
after_line (Err fault) P old new b gives none added ended =
    let e = ended none (subst IsEnd (sym gives) tt) in
    inr (e.0, e.1 ∙ ap Some gives)

pub memory_ends : {T : Type 0} (r : Result T LogFault) (P : T → Type 0) → Gives r NoMemory P → MatchResult r P IsEnd
memory_ends (Ok x) P gives = gives
memory_ends (Err fault) P gives = subst IsEnd (sym gives) tt
