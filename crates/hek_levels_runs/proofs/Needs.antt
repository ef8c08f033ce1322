-- What answers that are right need of keys that their transaction had not changed is met by the rows.
use Rattle.std.proofs.Common.{◌≡◌, ◌==◌, ◌<◌, ℕ, zero, suc, Bool, true, false, cond, List, [], ◌∷◌, Option, Some, None, refl, sym, ap, ◌∙◌, subst, inl, inr, take, arith}
use Rattle.std.proofs.lemmas.Bool.{cases_Bool, eqb-true, eq-eqb}
use Rattle.std.proofs.lemmas.Option.{same_Some}
use Rattle.std.specs.Prelude.{not, is_some, slice_get}
use Rattle.hek_rules.specs.Listing.{value_of}
use Rattle.hek_history.specs.declared.history.Operation.{Operation}
use Rattle.hek_history.specs.declared.history.Operation.TheVariants.{Read, Put, Insert, Update, Delete, Scan}
use Rattle.hek_history.specs.declared.history.Scope.{Scope}
use Rattle.hek_history.specs.Answers.{covers, same_found, last_change, lay_all, tells, IsByKey, AreRight}
use Rattle.hek_history.proofs.Rows.{value_of-lay_all}
use Rattle.hek_levels.specs.declared.log.Need.{Need}
use Rattle.hek_levels.specs.declared.log.Need.TheVariants.{Absent, Present, Value}
use Rattle.hek_levels.specs.Logs.{meets}
use Rattle.hek_history_levels.specs.Changes.{left_by}
use Rattle.hek_history_levels.specs.Reads.{need_of, Says, IsRead}
use Rattle.hek_levels_runs.proofs.Left.{after-none}

-- ---- needs that answers tell

-- what was found, absence, and presence
found_need : (found value : Option ℕ) → same_found found value ≡ true → meets (need_of found) value ≡ true
found_need None None e = refl
found_need None (Some y) e = cc
found_need (Some x) None e = cc
found_need (Some x) (Some y) e = eq-eqb y x (sym (eqb-true x y e))

absent_need : (value : Option ℕ) → not (is_some value) ≡ true → meets Absent value ≡ true
absent_need None e = refl
absent_need (Some x) e = cc

present_need : (value : Option ℕ) → is_some value ≡ true → meets Present value ≡ true
present_need None e = cc
present_need (Some x) e = refl

-- done where it was absent, or not done where it was there
done_absent : (done : Bool) (value : Option ℕ) → cond done (not (is_some value)) (is_some value) ≡ true → meets (cond done Absent Present) value ≡ true
done_absent true value e = absent_need value e
done_absent false value e = present_need value e

-- done where it was there, or not done where it was absent
done_present : (done : Bool) (value : Option ℕ) → cond done (is_some value) (not (is_some value)) ≡ true → meets (cond done Present Absent) value ≡ true
done_present true value e = present_need value e
done_present false value e = absent_need value e

-- what is told of the operation's own key
of_own : (own key : ℕ) (b : Bool) → own ≡ key → cond (own == key) b true ≡ true → b ≡ true
of_own own key b same e = rw (eq-eqb own key same) at e

one_need : (a b : Need) → ◌≡◌ {A = Option Need} (Some a) (Some b) → a ≡ b
one_need a b e = cc

needed : (a b : Need) (value : Option ℕ) → ◌≡◌ {A = Option Need} (Some a) (Some b) → meets a value ≡ true → meets b value ≡ true
needed a b value same met = subst (λ (n : Need). meets n value ≡ true) (one_need a b same) met

-- ---- pairs by key

-- the pairs rise
abbrev AreRising : List (ℕ × ℕ) → Type 0
AreRising pairs = (n : ℕ) (p q : ℕ × ℕ) → slice_get pairs n ≡ Some p → slice_get pairs (suc n) ≡ Some q → p.0 < q.0

rising_rest : (p : ℕ × ℕ) (pairs : List (ℕ × ℕ)) → AreRising (p ∷ pairs) → AreRising pairs
rising_rest p pairs rising n a b there next = rising (suc n) a b there next

-- the first has the least key
least : (p : ℕ × ℕ) (pairs : List (ℕ × ℕ)) → AreRising (p ∷ pairs) → (i : ℕ) (q : ℕ × ℕ) → slice_get pairs i ≡ Some q → p.0 < q.0
least p [] rising i q there = cc
least p (a ∷ pairs) rising zero q there = rising zero p q refl there
least p (a ∷ pairs) rising (suc i) q there =
    let first = rising zero p a refl refl in
    let later = least a pairs (rising_rest p (a ∷ pairs) rising) i q there in
    omega (arith, first, later)

apart : (a b : ℕ) → a < b → (a == b) ≡ true → ⊥
apart a b less same = let e = eqb-true a b same in omega (arith, less, e)

-- so a pair has the value of its key
pair_value : (pairs : List (ℕ × ℕ)) → AreRising pairs → (i key v : ℕ) → slice_get pairs i ≡ Some (key, v) → value_of pairs key ≡ Some v
pair_value [] rising i key v there = cc
pair_value (p ∷ pairs) rising zero key v there =
    let same : p ≡ (key, v) = same_Some p (key, v) there in
    rw (eq-eqb p.0 key (ap (λ (q : ℕ × ℕ). q.0) same)) (ap (λ (q : ℕ × ℕ). Some q.1) same)
pair_value (p ∷ pairs) rising (suc i) key v there =
    elim (cases_Bool (p.0 == key)) [
      | inl same ↦ absurd (apart p.0 key (least p pairs rising i (key, v) there) same)
      | inr other ↦ rw other (pair_value pairs (rising_rest p pairs rising) i key v there)
    ]

-- ---- a scan

-- what is told of a key that has a pair, and of one of its scope that has none
paired_met : (scope : Scope) (pairs : List (ℕ × ℕ)) (key v : ℕ) (value : Option ℕ) → value_of pairs key ≡ Some v →
    cond (covers scope key) (same_found (value_of pairs key) value) (not (is_some (value_of pairs key))) ≡ true → meets (Value v) value ≡ true
paired_met scope pairs key v value is told =
    let at : cond (covers scope key) (same_found (Some v) value) false ≡ true = rw is at told in
    found_need (Some v) value (chosen (covers scope key) (same_found (Some v) value) at)
  where
    chosen : (b c : Bool) → cond b c false ≡ true → c ≡ true
    chosen true c e = e
    chosen false c e = cc

unpaired_met : (scope : Scope) (pairs : List (ℕ × ℕ)) (key : ℕ) (value : Option ℕ) → covers scope key ≡ true → value_of pairs key ≡ None →
    cond (covers scope key) (same_found (value_of pairs key) value) (not (is_some (value_of pairs key))) ≡ true → meets Absent value ≡ true
unpaired_met scope pairs key value covered none told = found_need None value (rw (covered, none) at told)

-- ---- an answer

-- an answer that is right meets what it says
said_met : (op : Operation) (key : ℕ) (need : Need) (value : Option ℕ) → IsByKey op → tells key op value ≡ true → Says op key need → meets need value ≡ true
said_met (Read k found) key need value by_key told says = needed (need_of found) need value says.1 (found_need found value (of_own k key (same_found found value) says.0 told))
said_met (Put k x) key need value by_key told says = absurd (let e : ◌≡◌ {A = Option Need} None (Some need) = says.1 in cc)
said_met (Insert k x done) key need value by_key told says =
    needed (cond done Absent Present) need value says.1 (done_absent done value (of_own k key (cond done (not (is_some value)) (is_some value)) says.0 told))
said_met (Update k x done) key need value by_key told says =
    needed (cond done Present Absent) need value says.1 (done_present done value (of_own k key (cond done (is_some value) (not (is_some value))) says.0 told))
said_met (Delete k done) key need value by_key told says =
    needed (cond done Present Absent) need value says.1 (done_present done value (of_own k key (cond done (is_some value) (not (is_some value))) says.0 told))
said_met (Scan scope pairs) key need value by_key told says =
    elim says [
      | inl paired ↦
          let there : value_of pairs.items key ≡ Some paired.1 = pair_value pairs.items by_key paired.0 key paired.1 paired.2 in
          subst (λ (n : Need). meets n value ≡ true) (sym paired.3) (paired_met scope pairs.items key paired.1 value there told)
      | inr missing ↦ subst (λ (n : Need). meets n value ≡ true) (sym missing.2) (unpaired_met scope pairs.items key value missing.0 missing.1 told)
    ]

-- operations that leave nothing at a key leave its value
kept_value : (before : List Operation) (rows : List (ℕ × ℕ)) (key : ℕ) → left_by before key ≡ None → value_of (lay_all before rows) key ≡ value_of rows key
kept_value before rows key e = value_of-lay_all before rows key ∙ after-none (last_change key before) (value_of rows key) e

-- each read of operations whose answers are right over these rows is met by them
pub is_met : (rows : List (ℕ × ℕ)) (ops : List Operation) → AreRight false ops rows → (n key : ℕ) (need : Need) → IsRead false ops n key need → meets need (value_of rows key) ≡ true
is_met rows ops right n key need r =
    let here = right n r.op r.there in
    said_met r.op key need (value_of rows key) here.by_key
    (subst (λ (v : Option ℕ). tells key r.op v ≡ true) (kept_value (take n ops) rows key r.unchanged) (here.allowed key)) r.says
