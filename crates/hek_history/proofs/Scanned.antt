-- Answers over what a transaction sees.
use Rattle.std.proofs.Common.{◌≡◌, ◌==◌, ◌↔◌, ℕ, zero, suc, ◌+◌, ◌<◌, ◌≤◌, Vec, Global, Bool, true, false, cond, List, [], ◌∷◌, Option, Some, None, refl, sym, ap, ◌∙◌, subst, inl, inr, ◌⊎◌, take, length, get_or, arith}
use Rattle.std.proofs.lemmas.Bool.{cases_Bool, eqb-true}
use Rattle.std.proofs.lemmas.Option.{slice_get_within}
use Rattle.std.proofs.lemmas.Map.Views.{Contains-keys_from_lookup}
use Rattle.std.specs.Prelude.{slice_get, IsSome, IsTrue}
use Rattle.std.specs.List.{list_all}
use Rattle.std.specs.HashMap.{get, keys, HashMap}
use Rattle.hek_rules.specs.Listing.{value_of}
use Rattle.hek_history.specs.declared.history.Operation.{Operation}
use Rattle.hek_history.specs.declared.history.Operation.TheVariants.{Read, Put, Insert, Update, Delete, Scan}
use Rattle.hek_history.specs.declared.history.Scope.{Scope}
use Rattle.hek_history.specs.declared.history.Change.{Change}
use Rattle.hek_history.specs.declared.history.Change.TheVariants.{Keep, Remove, Set}
use Rattle.hek_history.specs.Answers.{key_of, change_of, fits, covers, tells, allows, IsByKey, IsRight, AreRight, after, is_change, followed_by, change_at, last_change}
use Rattle.hek_history.specs.Replays.{seen, kept, allowed_within, IsScan, AreRightOver}
use Rattle.hek_history.proofs.Rows.{value_of-lay_all}
use Rattle.hek_history.proofs.Places.{cases_below}

-- ---- the transaction's own changes

pub noted : (op : Operation) (k : ℕ) (own : Option Change) → is_change (change_of op) ≡ true →
    kept (cond (key_of op == k) (Some (change_of op)) own) ≡ followed_by (kept own) (change_at k op)
noted op k own does =
    elim (cases_Bool (key_of op == k)) [
      | inl here ↦ rw here (sym (replaced (change_of op) (kept own) does))
      | inr there ↦ rw there refl
    ]
  where
    replaced : (c first : Change) → is_change c ≡ true → followed_by first c ≡ c
    replaced Keep first e = cc
    replaced Remove first e = refl
    replaced (Set x) first e = refl

pub not_noted : (op : Operation) (k : ℕ) (own : Option Change) → is_change (change_of op) ≡ false → kept own ≡ followed_by (kept own) (change_at k op)
not_noted op k own none =
    elim (cases_Bool (key_of op == k)) [
      | inl here ↦ rw here (stays (change_of op) (kept own) none)
      | inr there ↦ rw there refl
    ]
  where
    stays : (c first : Change) → is_change c ≡ false → first ≡ followed_by first c
    stays Keep first e = refl
    stays Remove first e = cc
    stays (Set x) first e = cc

followed-Keep : (c : Change) → followed_by Keep c ≡ c
followed-Keep Keep = refl
followed-Keep Remove = refl
followed-Keep (Set x) = refl

followed-assoc : (a b c : Change) → followed_by a (followed_by b c) ≡ followed_by (followed_by a b) c
followed-assoc a b Keep = refl
followed-assoc a b Remove = refl
followed-assoc a b (Set x) = refl

pub last_change-more : (k : ℕ) (ops : List Operation) (n : ℕ) (op : Operation) → slice_get ops n ≡ Some op →
    last_change k (take (suc n) ops) ≡ followed_by (last_change k (take n ops)) (change_at k op)
last_change-more k [] n op e = cc
last_change-more k (o ∷ ops) zero op e =
    let f : Some o ≡ Some op = e in
    let same : o ≡ op = cc in
    ap (change_at k) same ∙ sym (followed-Keep (change_at k op))
last_change-more k (o ∷ ops) (suc n) op e =
    ap (followed_by (change_at k o)) (last_change-more k ops n op e) ∙ followed-assoc (change_at k o) (last_change k (take n ops)) (change_at k op)

-- ---- answers

pub IsRight-same : (lenient : Bool) (op : Operation) (f g : ℕ → Option ℕ) → ((k : ℕ) → f k ≡ g k) → IsRight lenient op f → IsRight lenient op g
IsRight-same lenient op f g same r = record {
  by_key = r.by_key;
  allowed = λ k. subst (λ (v : Option ℕ). allows lenient k op v ≡ true) (same k) (r.allowed k);
}

pub AreRightOver-rows : (lenient : Bool) (ops : List Operation) (f : ℕ → Option ℕ) (rows : List (ℕ × ℕ)) → ((k : ℕ) → f k ≡ value_of rows k) →
    AreRightOver lenient ops f ↔ AreRight lenient ops rows
AreRightOver-rows lenient ops f rows same = (
  λ r n op there. IsRight-same lenient op _ _ (λ k. ap (after (last_change k (take n ops))) (same k) ∙ sym (value_of-lay_all (take n ops) rows k)) (r n op there),
  λ r n op there. IsRight-same lenient op _ _ (λ k. value_of-lay_all (take n ops) rows k ∙ sym (ap (after (last_change k (take n ops))) (same k))) (r n op there),
)

told : (lenient : Bool) (k : ℕ) (op : Operation) (value : Option ℕ) → tells k op value ≡ true → allows lenient k op value ≡ true
told true k op value e =
    elim (cases_Bool (tells k op None)) [
      | inl a ↦ rw a refl
      | inr a ↦ rw (a, e) refl
    ]
told false k op value e = e

elsewhere : (lenient : Bool) (k : ℕ) (op : Operation) (b : Bool) (value : Option ℕ) → (key_of op == k) ≡ false → tells k op value ≡ cond (key_of op == k) b true → allows lenient k op value ≡ true
elsewhere lenient k op b value other is = told lenient k op value (is ∙ rw other refl)

at_own : (lenient : Bool) (op : Operation) (f : ℕ → Option ℕ) → ((k : ℕ) (v : Option ℕ) → tells k op v ≡ cond (key_of op == k) (fits op v) true) → IsByKey op →
    (allows lenient (key_of op) op (f (key_of op)) ≡ true) ↔ IsRight lenient op f
at_own lenient op f only by_key = (
  λ e. record {
    by_key = by_key;
    allowed = (λ k.
        elim (cases_Bool (key_of op == k)) [
          | inl here ↦ subst (λ (n : ℕ). allows lenient n op (f n) ≡ true) (eqb-true (key_of op) k here) e
          | inr other ↦ elsewhere lenient k op (fits op (f k)) (f k) other (only k (f k))
        ]);
  },
  λ r. r.allowed (key_of op),
)

abbrev pub IsNoScan : Operation → Type 0
IsNoScan (Scan scope pairs) = ⊥
IsNoScan op = Unit {0}

pub right_at_own : (lenient : Bool) (op : Operation) (f : ℕ → Option ℕ) → IsNoScan op → (allows lenient (key_of op) op (f (key_of op)) ≡ true) ↔ IsRight lenient op f
right_at_own lenient (Scan scope pairs) f kind = absurd kind
right_at_own lenient (Read k x) f kind = at_own lenient (Read k x) f (λ n v. refl) tt
right_at_own lenient (Put k x) f kind = at_own lenient (Put k x) f (λ n v. refl) tt
right_at_own lenient (Insert k x d) f kind = at_own lenient (Insert k x d) f (λ n v. refl) tt
right_at_own lenient (Update k x d) f kind = at_own lenient (Update k x d) f (λ n v. refl) tt
right_at_own lenient (Delete k d) f kind = at_own lenient (Delete k d) f (λ n v. refl) tt

pub no_scan : (op : Operation) → ((s : Scope) (p : Vec (ℕ × ℕ) Global) → op ≡ Scan s p → ⊥) → IsNoScan op
no_scan (Scan s p) not_scan = not_scan s p refl
no_scan (Read k x) not_scan = tt
no_scan (Put k x) not_scan = tt
no_scan (Insert k x d) not_scan = tt
no_scan (Update k x d) not_scan = tt
no_scan (Delete k d) not_scan = tt

pub empty_get : {X S : Type 0} (m : HashMap ℕ X S) (k : ℕ) → m.entries ≡ [] → get ◌==◌ m k ≡ None
empty_get m k e = rw e refl

-- ---- scans

list_all-at : {X : Type 0} (p : X → Bool) (xs : List X) (k : ℕ) (d : X) → list_all p xs ≡ true → k < length xs → p (get_or xs k d) ≡ true
list_all-at p [] k d e l = absurd (omega arith)
list_all-at p (x ∷ xs) zero d e l = elim (cases_Bool (p x)) [ inl a ↦ a | inr a ↦ absurd (let f : false ≡ true = rw a at e in cc) ]
list_all-at p (x ∷ xs) (suc k) d e l =
    elim (cases_Bool (p x)) [
      | inl a ↦ list_all-at p xs k d (rw a at e) (omega arith)
      | inr a ↦ absurd (let f : false ≡ true = rw a at e in cc)
    ]

pub list_all-from : {X : Type 0} (p : X → Bool) (xs : List X) → ((x : X) → p x ≡ true) → list_all p xs ≡ true
list_all-from p [] all = refl
list_all-from p (x ∷ xs) all = rw (all x) (list_all-from p xs all)

some_is_some : {X : Type 0} (o : Option X) (v : X) → o ≡ Some v → IsSome o
some_is_some {X} o v e = subst (λ (p : Option X). IsSome p) (sym e) refl

at_key : {X S : Type 0} (p : ℕ → Bool) (m : HashMap ℕ X S) (k : ℕ) (v : X) → list_all p (keys m) ≡ true → get ◌==◌ m k ≡ Some v → p k ≡ true
at_key p m k v all e =
    let c = Contains-keys_from_lookup {eq = ◌==◌} eqb-true k m.entries (some_is_some (get ◌==◌ m k) v e) in
    subst (λ (n : ℕ). p n ≡ true) c.2 (list_all-at p (keys m) c.0 k all c.1)

pair_at : (pairs : List (ℕ × ℕ)) (k v : ℕ) → value_of pairs k ≡ Some v → (n : ℕ) × (p : ℕ × ℕ) × (slice_get pairs n ≡ Some p) × (p.0 ≡ k)
pair_at [] k v e = cc
pair_at (q ∷ pairs) k v e =
    elim (cases_Bool (q.0 == k)) [
      | inl here ↦ (0, q, refl, eqb-true q.0 k here)
      | inr there ↦ let r = pair_at pairs k v (rw there at e) in (suc r.0, r.1, r.2, r.3)
    ]

cases_option : {X : Type 0} (o : Option X) → (o ≡ None) ⊎ ((v : X) × (o ≡ Some v))
cases_option None = inl refl
cases_option (Some v) = inr (v, refl)

within : (lenient : Bool) (scope : Scope) (op : Operation) (f : ℕ → Option ℕ) (k : ℕ) → covers scope k ≡ true → allowed_within lenient scope op f k ≡ true → allows lenient k op (f k) ≡ true
within lenient scope op f k covered e = rw covered at e

-- a scan is right where it allows what is found at the keys of its pairs, and at those keys of the rows and of the own changes that it is of
pub scan_right : {S : Type 0} (lenient : Bool) (op : Operation) (scope : Scope) (pairs : List (ℕ × ℕ)) (rows : HashMap ℕ ℕ S) (own : HashMap ℕ Change S) → IsScan op scope pairs → IsByKey op →
    ((n : ℕ) (p : ℕ × ℕ) → slice_get pairs n ≡ Some p → allows lenient p.0 op (seen (get ◌==◌ rows) (get ◌==◌ own) p.0) ≡ true) →
    list_all (allowed_within lenient scope op (seen (get ◌==◌ rows) (get ◌==◌ own))) (keys own) ≡ true →
    list_all (allowed_within lenient scope op (seen (get ◌==◌ rows) (get ◌==◌ own))) (keys rows) ≡ true →
    IsRight lenient op (seen (get ◌==◌ rows) (get ◌==◌ own))
scan_right {S} lenient op scope pairs rows own scan by_key at_pairs at_own at_rows = record {
  by_key = by_key;
  allowed = (λ k.
      elim (cases_option (value_of pairs k)) [
        | inr listed ↦
            let r = pair_at pairs k listed.0 listed.1 in
            subst (λ (n : ℕ). allows lenient n op (f n) ≡ true) r.3 (at_pairs r.0 r.1 r.2)
        | inl unlisted ↦
            elim (cases_Bool (covers scope k)) [
              | inr other ↦ told lenient k op (f k) (outside op scope pairs k (f k) scan other unlisted)
              | inl covered ↦
                  elim (cases_option (get ◌==◌ rows k)) [
                    | inr row ↦ within lenient scope op f k covered (at_key (allowed_within lenient scope op f) rows k row.0 at_rows row.1)
                    | inl no_row ↦
                        elim (cases_option (get ◌==◌ own k)) [
                          | inr change ↦ within lenient scope op f k covered (at_key (allowed_within lenient scope op f) own k change.0 at_own change.1)
                          | inl no_change ↦
                              let none : f k ≡ None = ap (λ c. after (kept c) (get ◌==◌ rows k)) no_change ∙ no_row in
                              told lenient k op (f k) (subst (λ (v : Option ℕ). tells k op v ≡ true) (sym none) (inside op scope pairs k scan covered unlisted))
                        ]
                  ]
            ]
      ]);
}
  where
    f : ℕ → Option ℕ
    f = seen (get ◌==◌ rows) (get ◌==◌ own)

    outside : (op : Operation) (scope : Scope) (pairs : List (ℕ × ℕ)) (k : ℕ) (v : Option ℕ) → IsScan op scope pairs → covers scope k ≡ false → value_of pairs k ≡ None → tells k op v ≡ true
    outside (Scan s found) scope pairs k v scan other none =
        let c : covers s k ≡ false = ap (λ x. covers x k) scan.0 ∙ other in
        let n : value_of found.items k ≡ None = ap (λ x. value_of x k) scan.1 ∙ none in
        rw (c, n) refl
    outside (Read a b) scope pairs k v scan other none = absurd scan
    outside (Put a b) scope pairs k v scan other none = absurd scan
    outside (Insert a b d) scope pairs k v scan other none = absurd scan
    outside (Update a b d) scope pairs k v scan other none = absurd scan
    outside (Delete a d) scope pairs k v scan other none = absurd scan

    inside : (op : Operation) (scope : Scope) (pairs : List (ℕ × ℕ)) (k : ℕ) → IsScan op scope pairs → covers scope k ≡ true → value_of pairs k ≡ None → tells k op None ≡ true
    inside (Scan s found) scope pairs k scan covered none =
        let c : covers s k ≡ true = ap (λ x. covers x k) scan.0 ∙ covered in
        let n : value_of found.items k ≡ None = ap (λ x. value_of x k) scan.1 ∙ none in
        rw (c, n) refl
    inside (Read a b) scope pairs k scan covered none = absurd scan
    inside (Put a b) scope pairs k scan covered none = absurd scan
    inside (Insert a b d) scope pairs k scan covered none = absurd scan
    inside (Update a b d) scope pairs k scan covered none = absurd scan
    inside (Delete a d) scope pairs k scan covered none = absurd scan

-- and where it is right it allows them
pub within-right : (lenient : Bool) (scope : Scope) (op : Operation) (f : ℕ → Option ℕ) (ks : List ℕ) → IsRight lenient op f → list_all (allowed_within lenient scope op f) ks ≡ true
within-right lenient scope op f ks r = list_all-from (allowed_within lenient scope op f) ks each
  where
    each : (k : ℕ) → allowed_within lenient scope op f k ≡ true
    each k = elim (cases_Bool (covers scope k)) [ inl c ↦ rw c (r.allowed k) | inr c ↦ rw c refl ]

pub noted-as : (op : Operation) (k key : ℕ) (c : Change) (own new : Option Change) → key ≡ key_of op → c ≡ change_of op → is_change c ≡ true → new ≡ cond (key == k) (Some c) own →
    kept new ≡ followed_by (kept own) (change_at k op)
noted-as op k key c own new key_is change_is does new_is =
    let f : new ≡ cond (key_of op == k) (Some (change_of op)) own =
    new_is ∙ ap (λ (n : ℕ). cond (n == k) (Some c) own) key_is ∙ ap (λ (d : Change). cond (key_of op == k) (Some d) own) change_is in
    ap kept f ∙ noted op k own (sym (ap is_change change_is) ∙ does)

pub over_rows : (lenient lenient' : Bool) (ops ops' : List Operation) (f : ℕ → Option ℕ) (rows : List (ℕ × ℕ)) (b : Bool) → lenient ≡ lenient' → ops ≡ ops' → ((k : ℕ) → f k ≡ value_of rows k) →
    (IsTrue b ↔ AreRightOver lenient ops f) → (IsTrue b ↔ AreRight lenient' ops' rows)
over_rows lenient lenient' ops ops' f rows b l o same over =
    let e = AreRightOver-rows lenient ops f rows same in
    subst (λ (x : Bool). IsTrue b ↔ AreRight x ops' rows) l (subst (λ (x : List Operation). IsTrue b ↔ AreRight lenient x rows) o (λ y. e.0 (over.0 y), λ r. over.1 (e.1 r)))

-- the answers so far
pub record AreSeen (lenient : Bool) (ops : List Operation) (values : ℕ → Option ℕ) (own : ℕ → Option Change) (n : ℕ) : Type 0 where
  pub own_is : (k : ℕ) → kept (own k) ≡ last_change k (take n ops)
  pub right : (m : ℕ) (op : Operation) → m < n → slice_get ops m ≡ Some op → IsRight lenient op (λ k. after (last_change k (take m ops)) (values k))

pub seen-none : (lenient : Bool) (ops : List Operation) (values : ℕ → Option ℕ) (own : ℕ → Option Change) → ((k : ℕ) → own k ≡ None) → AreSeen lenient ops values own 0
seen-none lenient ops values own none = record {
  own_is = λ k. ap kept (none k);
  right = λ m op l. absurd (omega (arith, l));
}

seen_is : (lenient : Bool) (ops : List Operation) (values : ℕ → Option ℕ) (own : ℕ → Option Change) (n : ℕ) → AreSeen lenient ops values own n →
    (k : ℕ) → seen values own k ≡ after (last_change k (take n ops)) (values k)
seen_is lenient ops values own n s k = ap (λ (c : Change). after c (values k)) (s.own_is k)

pub seen-more : (lenient : Bool) (ops : List Operation) (values : ℕ → Option ℕ) (own new : ℕ → Option Change) (n : ℕ) (op : Operation) → slice_get ops n ≡ Some op → AreSeen lenient ops values own n →
    IsRight lenient op (seen values own) → ((k : ℕ) → kept (new k) ≡ followed_by (kept (own k)) (change_at k op)) → AreSeen lenient ops values new (n + 1)
seen-more lenient ops values own new n op there s right more =
    let next : suc n ≡ n + 1 = omega arith in
    record {
      own_is = (λ k.
          more k ∙ ap (λ (c : Change). followed_by c (change_at k op)) (s.own_is k) ∙ sym (last_change-more k ops n op there) ∙ ap (λ (m : ℕ). last_change k (take m ops)) next);
      right = (λ m o l at.
          elim (cases_below m n l) [
            | inl less ↦ s.right m o less at
            | inr is ↦
                let here : slice_get ops n ≡ Some o = subst (λ (i : ℕ). slice_get ops i ≡ Some o) is at in
                let f : Some op ≡ Some o = sym there ∙ here in
                let one : op ≡ o = cc in
                let r : IsRight lenient op (λ k. after (last_change k (take n ops)) (values k)) = IsRight-same lenient op _ _ (seen_is lenient ops values own n s) right in
                let q : IsRight lenient o (λ k. after (last_change k (take n ops)) (values k)) = subst (λ (x : Operation). IsRight lenient x (λ k. after (last_change k (take n ops)) (values k))) one r in
                subst (λ (i : ℕ). IsRight lenient o (λ k. after (last_change k (take i ops)) (values k))) (sym is) q
          ]);
    }

pub seen-fails : (lenient : Bool) (ops : List Operation) (values : ℕ → Option ℕ) (own : ℕ → Option Change) (n : ℕ) (op : Operation) → slice_get ops n ≡ Some op → AreSeen lenient ops values own n →
    AreRightOver lenient ops values → IsRight lenient op (seen values own)
seen-fails lenient ops values own n op there s all = IsRight-same lenient op _ _ (λ k. sym (seen_is lenient ops values own n s k)) (all n op there)

pub seen-all : (lenient : Bool) (ops : List Operation) (values : ℕ → Option ℕ) (own : ℕ → Option Change) (n : ℕ) → length ops ≤ n → AreSeen lenient ops values own n → AreRightOver lenient ops values
seen-all lenient ops values own n whole s m op there = let lt = slice_get_within ops m op there in s.right m op (omega (arith, lt, whole)) there
