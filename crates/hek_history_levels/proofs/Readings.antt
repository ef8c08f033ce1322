-- Reads, with those of one operation more.
use Rattle.std.proofs.Common.{◌≡◌, ◌==◌, ◌↔◌, ℕ, ◌+◌, ◌<◌, ◌≤◌, Bool, true, false, List, [], ◌∷◌, ◌++◌, Option, Some, None, refl, sym, ap, ◌∙◌, subst, inl, inr, ◌⊎◌, length, get_or, Vec, Global, arith}
use Rattle.std.specs.Prelude.{slice_get, is_some, not, ◌&&◌, ◌||◌}
use Rattle.std.specs.List.{list_any}
use Rattle.std.proofs.lemmas.Bool.{cases_Bool, false≢true}
use Rattle.std.proofs.lemmas.Option.{slice_get-get_or, slice_get_within, get_or_from_slice_get}
use Rattle.hek_rules.specs.Listing.{value_of}
use Rattle.hek_history.specs.declared.history.Operation.{Operation}
use Rattle.hek_history.specs.declared.history.Operation.TheVariants as op
use Rattle.hek_history.specs.declared.history.Scope.{Scope}
use Rattle.hek_history.specs.Answers.{key_of, covers}
use Rattle.hek_levels.specs.declared.log.Need.{Need}
use Rattle.hek_levels.specs.declared.log.Need.TheVariants.{Absent, Value}
use Rattle.hek_levels.specs.declared.log.Read.{Read}
use Rattle.hek_levels.specs.declared.log.Scan.{Scan}
use Rattle.hek_levels.specs.declared.log.Place.{Place}
use Rattle.hek_levels.specs.declared.log.Place.TheVariants as place
use Rattle.hek_levels.specs.Logs.{misses, missing_in}
use Rattle.hek_history_levels.specs.Reads.{need_at, IsPaired, Says, IsJudged, read_of, HasRead}
use Rattle.hek_history_levels.specs.Taking.{IsOfKey, IsReadBy, AreReadsWith, AreExcepted}
use Rattle.hek_history_levels.proofs.Elements.{some-is, last-or-before, stays-there, pushed-there, cases-below}

abbrev the_read : ℕ → ℕ → Need → Read
the_read m k need = record { operation = m; key = k; need = need }

-- ---- one read more

pub read-pushed : (reads : List Read) (x : Read) (scans : List Scan) (m k : ℕ) (need : Need) →
    HasRead (reads ++ x ∷ []) scans m k need ↔ (HasRead reads scans m k need ⊎ ((m ≡ x.operation) × (k ≡ x.key) × (need ≡ x.need)))
read-pushed reads x scans m k need = (λ h. there h.0 h.1, back)
  where
    there : (r : Place) → read_of (reads ++ x ∷ []) scans r ≡ Some (the_read m k need) → HasRead reads scans m k need ⊎ ((m ≡ x.operation) × (k ≡ x.key) × (need ≡ x.need))
    there (place.Listed r) e =
        elim (last-or-before reads x r (the_read m k need) e) [
          | inl old ↦ inl (place.Listed r, old)
          | inr new ↦ inr (ap (λ (y : Read). y.operation) (sym new.1), ap (λ (y : Read). y.key) (sym new.1), ap (λ (y : Read). y.need) (sym new.1))
        ]
    there (place.Missing s key) e = inl (place.Missing s key, e)

    kept : (r : Place) → read_of reads scans r ≡ Some (the_read m k need) → HasRead (reads ++ x ∷ []) scans m k need
    kept (place.Listed r) e = (place.Listed r, stays-there reads (x ∷ []) r (the_read m k need) e)
    kept (place.Missing s key) e = (place.Missing s key, e)

    back : HasRead reads scans m k need ⊎ ((m ≡ x.operation) × (k ≡ x.key) × (need ≡ x.need)) → HasRead (reads ++ x ∷ []) scans m k need
    back h =
        elim h [
          | inl old ↦ kept old.0 old.1
          | inr new ↦
              let same : x ≡ the_read m k need =
              ap (λ (n : ℕ). the_read n x.key x.need) (sym new.0) ∙ ap (λ (n : ℕ). the_read m n x.need) (sym new.1) ∙ ap (the_read m k) (sym new.2) in
              (place.Listed (length reads), pushed-there reads x ∙ ap Some same)
        ]

-- ---- one scan more

missing-is : (scan : Scan) (key m k : ℕ) (need : Need) → missing_in (Some scan) key ≡ Some (the_read m k need) → (misses scan key ≡ true) × (m ≡ scan.operation) × (k ≡ key) × (need ≡ Absent)
missing-is scan key m k need e =
    elim (cases_Bool (misses scan key)) [
      | inr not_so ↦ absurd (let none : ◌≡◌ {A = Option Read} None (Some (the_read m k need)) = rw not_so at e in cc)
      | inl so ↦
          let is : ◌≡◌ {A = Option Read} (Some (the_read scan.operation key Absent)) (Some (the_read m k need)) = rw so at e in
          let same : the_read scan.operation key Absent ≡ the_read m k need = some-is _ _ is in
          (so, ap (λ (y : Read). y.operation) (sym same), ap (λ (y : Read). y.key) (sym same), ap (λ (y : Read). y.need) (sym same))
    ]

is-missing : (scan : Scan) (m k : ℕ) (need : Need) → misses scan k ≡ true → m ≡ scan.operation → need ≡ Absent → missing_in (Some scan) k ≡ Some (the_read m k need)
is-missing scan m k need so at none = rw so (ap Some (let same : the_read scan.operation k Absent ≡ the_read m k need = cc in same))

pub scan-pushed : (reads : List Read) (scans : List Scan) (x : Scan) (m k : ℕ) (need : Need) →
    HasRead reads (scans ++ x ∷ []) m k need ↔ (HasRead reads scans m k need ⊎ ((m ≡ x.operation) × (misses x k ≡ true) × (need ≡ Absent)))
scan-pushed reads scans x m k need = (λ h. there h.0 h.1, back)
  where
    in_scan : (s key : ℕ) (o : Option Scan) → slice_get (scans ++ x ∷ []) s ≡ o → missing_in o key ≡ Some (the_read m k need) → HasRead reads scans m k need ⊎ ((m ≡ x.operation) × (misses x k ≡ true) × (need ≡ Absent))
    in_scan s key None is e = cc
    in_scan s key (Some y) is e =
        elim (last-or-before scans x s y is) [
          | inl old ↦ inl (place.Missing s key, ap (λ (o : Option Scan). missing_in o key) old ∙ e)
          | inr new ↦
              let r = missing-is x key m k need (ap (λ (z : Scan). missing_in (Some z) key) new.1 ∙ e) in
              inr (r.1, subst (λ (n : ℕ). misses x n ≡ true) (sym r.2) r.0, r.3)
        ]

    there : (r : Place) → read_of reads (scans ++ x ∷ []) r ≡ Some (the_read m k need) → HasRead reads scans m k need ⊎ ((m ≡ x.operation) × (misses x k ≡ true) × (need ≡ Absent))
    there (place.Listed r) e = inl (place.Listed r, e)
    there (place.Missing s key) e = in_scan s key (slice_get (scans ++ x ∷ []) s) refl e

    old_scan : (s key : ℕ) (o : Option Scan) → slice_get scans s ≡ o → missing_in o key ≡ Some (the_read m k need) → HasRead reads (scans ++ x ∷ []) m k need
    old_scan s key None is e = cc
    old_scan s key (Some y) is e = (place.Missing s key, ap (λ (o : Option Scan). missing_in o key) (stays-there scans (x ∷ []) s y is) ∙ e)

    kept : (r : Place) → read_of reads scans r ≡ Some (the_read m k need) → HasRead reads (scans ++ x ∷ []) m k need
    kept (place.Listed r) e = (place.Listed r, e)
    kept (place.Missing s key) e = old_scan s key (slice_get scans s) refl e

    back : HasRead reads scans m k need ⊎ ((m ≡ x.operation) × (misses x k ≡ true) × (need ≡ Absent)) → HasRead reads (scans ++ x ∷ []) m k need
    back h =
        elim h [
          | inl old ↦ kept old.0 old.1
          | inr new ↦ (place.Missing (length scans) k, ap (λ (o : Option Scan). missing_in o k) (pushed-there scans x) ∙ is-missing x m k need new.1 new.0 new.2)
        ]

-- ---- what an operation of one key says

pub says-own : (o : Operation) (key : ℕ) (need : Need) → IsOfKey o → Says o key need → (key_of o ≡ key) × (need_at o ≡ Some need)
says-own (op.Read k found) key need i s = s
says-own (op.Put k value) key need i s = s
says-own (op.Insert k value done) key need i s = s
says-own (op.Update k value done) key need i s = s
says-own (op.Delete k done) key need i s = s
says-own (op.Scan scope pairs) key need i s = absurd i

pub own-says : (o : Operation) (key : ℕ) (need : Need) → IsOfKey o → key_of o ≡ key → need_at o ≡ Some need → Says o key need
own-says (op.Read k found) key need i a b = (a, b)
own-says (op.Put k value) key need i a b = (a, b)
own-says (op.Insert k value done) key need i a b = (a, b)
own-says (op.Update k value done) key need i a b = (a, b)
own-says (op.Delete k done) key need i a b = (a, b)
own-says (op.Scan scope pairs) key need i a b = absurd i

-- ---- pairs

-- one of the first i pairs
abbrev pub IsPairedTo : List (ℕ × ℕ) → ℕ → ℕ → Need → Type 0
IsPairedTo pairs i key need = (j : ℕ) × (v : ℕ) × (j < i) × (slice_get pairs j ≡ Some (key, v)) × (need ≡ Value v)

-- ---- a scan

-- a key that a scan misses
pub misses-so : (scan : Scan) (scope : Scope) (pairs : List (ℕ × ℕ)) (own : ℕ → Option (Option ℕ)) (k : ℕ) → scan.scope ≡ scope → AreExcepted scope pairs own scan.except.items →
    misses scan k ≡ true → (covers scope k ≡ true) × (value_of pairs k ≡ None) × (own k ≡ None)
misses-so scan scope pairs own k same except so =
    let parts = both (covers scan.scope k) (not (list_any (λ (n : ℕ). n == k) scan.except.items)) so in
    let cover : covers scope k ≡ true = ap (λ (s : Scope). covers s k) (sym same) ∙ parts.0 in
    let neither = none_of (is_some (value_of pairs k)) (is_some (own k)) (ap not (sym (except k cover)) ∙ parts.1) in
    (cover, not_some (value_of pairs k) neither.0, not_some (own k) neither.1)
  where
    both : (a b : Bool) → (a && b) ≡ true → (a ≡ true) × (b ≡ true)
    both true b e = (refl, e)
    both false b e = cc

    none_of : (a b : Bool) → not (a || b) ≡ true → (a ≡ false) × (b ≡ false)
    none_of true b e = cc
    none_of false true e = cc
    none_of false false e = (refl, refl)

    not_some : {A : Type 0} (o : Option A) → is_some o ≡ false → o ≡ None
    not_some None e = refl
    not_some (Some a) e = cc

pub misses-then : (scan : Scan) (scope : Scope) (pairs : List (ℕ × ℕ)) (own : ℕ → Option (Option ℕ)) (k : ℕ) → scan.scope ≡ scope → AreExcepted scope pairs own scan.except.items →
    covers scope k ≡ true → value_of pairs k ≡ None → own k ≡ None → misses scan k ≡ true
misses-then scan scope pairs own k same except cover value mine =
    let first : covers scan.scope k ≡ true = ap (λ (s : Scope). covers s k) same ∙ cover in
    let none : list_any (λ (n : ℕ). n == k) scan.except.items ≡ false = except k cover ∙ rw value (rw mine refl) in
    rw first (rw none refl)

pub read-by-push : (reads new : List Read) (o k : ℕ) (n : Need) → new ≡ reads ++ the_read o k n ∷ [] → (scans : List Scan) (m key : ℕ) (need : Need) →
    HasRead new scans m key need ↔ (HasRead reads scans m key need ⊎ ((m ≡ o) × (key ≡ k) × (need ≡ n)))
read-by-push reads new o k n is scans m key need =
    subst (λ (rs : List Read). HasRead rs scans m key need ↔ (HasRead reads scans m key need ⊎ ((m ≡ o) × (key ≡ k) × (need ≡ n)))) (sym is) (read-pushed reads (the_read o k n) scans m key need)

pub none_of : (o : Option (Option ℕ)) (b : Bool) → b ≡ is_some o → b ≡ false → o ≡ None
none_of None b is off = refl
none_of (Some v) b is off = let f : true ≡ false = sym is ∙ off in cc

pub none_from : (o : Option (Option ℕ)) (b : Bool) → is_some o ≡ not b → b ≡ true → o ≡ None
none_from None b is on = refl
none_from (Some v) b is on = let f : true ≡ false = is ∙ ap not on in cc

pub some_from : (o : Option (Option ℕ)) (b : Bool) → is_some o ≡ not b → b ≡ false → o ≡ None → ⊥
some_from None b is off none = let f : false ≡ true = is ∙ ap not off in cc
some_from (Some v) b is off none = cc

-- the operation of one key has a read of it
pub own-read : (lenient : Bool) (own : ℕ → Option (Option ℕ)) (n : ℕ) (o : Operation) (k : ℕ) (need : Need) (reads new : List Read) → IsOfKey o → k ≡ key_of o → Some need ≡ need_at o → own k ≡ None → IsJudged lenient need →
    ((scans : List Scan) (m key : ℕ) (x : Need) → HasRead new scans m key x ↔ (HasRead reads scans m key x ⊎ ((m ≡ n) × (key ≡ k) × (x ≡ need)))) → (scans : List Scan) → AreReadsWith lenient own n o reads scans new scans
own-read lenient own n o k need reads new i of says unchanged judged more scans m key x = (so, back)
  where
    is : key ≡ k → x ≡ need → IsReadBy lenient own o key x
    is a b = record {
      says = own-says o key x i (sym of ∙ sym a) (sym says ∙ ap (λ (y : Need). Some y) (sym b));
      unchanged = ap own a ∙ unchanged;
      judged = subst (λ (y : Need). IsJudged lenient y) (sym b) judged;
    }

    so : HasRead new scans m key x → HasRead reads scans m key x ⊎ ((m ≡ n) × IsReadBy lenient own o key x)
    so h = elim ((more scans m key x).0 h) [ inl old ↦ inl old | inr r ↦ inr (r.0, is r.1 r.2) ]

    back : HasRead reads scans m key x ⊎ ((m ≡ n) × IsReadBy lenient own o key x) → HasRead new scans m key x
    back h =
        elim h [
          | inl old ↦ (more scans m key x).1 (inl old)
          | inr r ↦
              let s = says-own o key x i r.1.says in
              (more scans m key x).1 (inr (r.0, sym s.0 ∙ sym of, some-is x need (sym s.1 ∙ sym says)))
        ]

-- ---- pairs, one more

module _ (own : ℕ → Option (Option ℕ)) (n : ℕ) (pairs : List (ℕ × ℕ)) (i m k : ℕ) (x : Need) (A B : Type 0) (l : i < length pairs)
    (old : B ↔ (A ⊎ ((m ≡ n) × IsPairedTo pairs i k x × (own k ≡ None)))) where
  further : IsPairedTo pairs i k x → IsPairedTo pairs (i + 1) k x
  further p = let less = p.2 in (p.0, p.1, omega (arith, less), p.3, p.4)

  -- the next is of this key
  next-is : (v : ℕ) → slice_get pairs i ≡ Some (k, v) → get_or pairs i (0, 0) ≡ (k, v)
  next-is v there = get_or_from_slice_get pairs i (k, v) (0, 0) there

  so-far : B → A ⊎ ((m ≡ n) × IsPairedTo pairs (i + 1) k x × (own k ≡ None))
  so-far b = elim (old.0 b) [ inl a ↦ inl a | inr r ↦ inr (r.0, further r.1, r.2) ]

  pub pair-taken : (C : Type 0) → own (get_or pairs i (0, 0)).0 ≡ None → (C ↔ (B ⊎ ((m ≡ n) × (k ≡ (get_or pairs i (0, 0)).0) × (x ≡ Value (get_or pairs i (0, 0)).1)))) →
      C ↔ (A ⊎ ((m ≡ n) × IsPairedTo pairs (i + 1) k x × (own k ≡ None)))
  pair-taken C none next = (so, back)
    where
      here : k ≡ (get_or pairs i (0, 0)).0 → slice_get pairs i ≡ Some (k, (get_or pairs i (0, 0)).1)
      here same = slice_get-get_or pairs i (0, 0) l ∙ ap (λ (a : ℕ). Some (a, (get_or pairs i (0, 0)).1)) (sym same)

      so : C → A ⊎ ((m ≡ n) × IsPairedTo pairs (i + 1) k x × (own k ≡ None))
      so c =
          elim (next.0 c) [
            | inl b ↦ so-far b
            | inr r ↦ inr (r.0, (i, (get_or pairs i (0, 0)).1, omega arith, here r.1, r.2), ap own r.1 ∙ none)
          ]

      back : A ⊎ ((m ≡ n) × IsPairedTo pairs (i + 1) k x × (own k ≡ None)) → C
      back h =
          elim h [
            | inl a ↦ next.1 (inl (old.1 (inl a)))
            | inr r ↦
                elim (cases-below r.1.0 i r.1.2) [
                  | inl less ↦ next.1 (inl (old.1 (inr (r.0, (r.1.0, r.1.1, less, r.1.3, r.1.4), r.2))))
                  | inr same ↦
                      let is = next-is r.1.1 (subst (λ (j : ℕ). slice_get pairs j ≡ Some (k, r.1.1)) same r.1.3) in
                      next.1 (inr (r.0, sym (ap (λ (p : ℕ × ℕ). p.0) is), r.1.4 ∙ ap (λ (p : ℕ × ℕ). Value p.1) (sym is)))
                ]
          ]

  pub pair-left : (own (get_or pairs i (0, 0)).0 ≡ None → ⊥) → B ↔ (A ⊎ ((m ≡ n) × IsPairedTo pairs (i + 1) k x × (own k ≡ None)))
  pair-left some = (so-far, back)
    where
      back : A ⊎ ((m ≡ n) × IsPairedTo pairs (i + 1) k x × (own k ≡ None)) → B
      back h =
          elim h [
            | inl a ↦ old.1 (inl a)
            | inr r ↦
                elim (cases-below r.1.0 i r.1.2) [
                  | inl less ↦ old.1 (inr (r.0, (r.1.0, r.1.1, less, r.1.3, r.1.4), r.2))
                  | inr same ↦
                      let is = next-is r.1.1 (subst (λ (j : ℕ). slice_get pairs j ≡ Some (k, r.1.1)) same r.1.3) in
                      absurd (some (ap (λ (p : ℕ × ℕ). own p.0) is ∙ r.2))
                ]
          ]

-- all pairs
pub pairs-all : (pairs : List (ℕ × ℕ)) (i k : ℕ) (x : Need) (A B P Q : Type 0) → length pairs ≤ i → (B ↔ (A ⊎ (P × IsPairedTo pairs i k x × Q))) → B ↔ (A ⊎ (P × IsPaired pairs k x × Q))
pairs-all pairs i k x A B P Q end is = (so, back)
  where
    so : B → A ⊎ (P × IsPaired pairs k x × Q)
    so b = elim (is.0 b) [ inl a ↦ inl a | inr r ↦ inr (r.0, (r.1.0, r.1.1, r.1.3, r.1.4), r.2) ]

    back : A ⊎ (P × IsPaired pairs k x × Q) → B
    back h =
        elim h [
          | inl a ↦ is.1 (inl a)
          | inr r ↦
              let within = slice_get_within pairs r.1.0 (k, r.1.1) r.1.2 in
              is.1 (inr (r.0, (r.1.0, r.1.1, omega (arith, within, end), r.1.2, r.1.3), r.2))
        ]

-- ---- the reads of a scan

value-absent : (x : Need) (v : ℕ) → x ≡ Value v → x ≡ Absent → ⊥
value-absent x v a b = let f : Value v ≡ Absent = sym a ∙ b in cc

module _ (own : ℕ → Option (Option ℕ)) (n : ℕ) (scope : Scope) (pairs : Vec (ℕ × ℕ) Global) (reads new : List Read)
    (paired : (scans : List Scan) (m k : ℕ) (x : Need) → HasRead new scans m k x ↔ (HasRead reads scans m k x ⊎ ((m ≡ n) × IsPaired pairs.items k x × (own k ≡ None)))) where
  -- a lenient one reads no absence
  pub lenient-read : (scans : List Scan) → AreReadsWith true own n (op.Scan scope pairs) reads scans new scans
  lenient-read scans m k x = (so, back)
    where
      so : HasRead new scans m k x → HasRead reads scans m k x ⊎ ((m ≡ n) × IsReadBy true own (op.Scan scope pairs) k x)
      so h =
          elim ((paired scans m k x).0 h) [
            | inl old ↦ inl old
            | inr r ↦ inr (r.0, record { says = inl r.1; unchanged = r.2; judged = λ on none. value-absent x r.1.1 r.1.3 none })
          ]

      back : HasRead reads scans m k x ⊎ ((m ≡ n) × IsReadBy true own (op.Scan scope pairs) k x) → HasRead new scans m k x
      back h =
          elim h [
            | inl old ↦ (paired scans m k x).1 (inl old)
            | inr r ↦
                elim r.1.says [
                  | inl p ↦ (paired scans m k x).1 (inr (r.0, p, r.1.unchanged))
                  | inr missing ↦ absurd (r.1.judged refl missing.2)
                ]
          ]

  -- another reads the absence of the other keys of its scope
  pub scan-read : (scans more : List Scan) (scan : Scan) → scan.operation ≡ n → scan.scope ≡ scope → AreExcepted scope pairs.items own scan.except.items → more ≡ scans ++ scan ∷ [] →
      AreReadsWith false own n (op.Scan scope pairs) reads scans new more
  scan-read scans more scan at same except is m k x = (so, back)
    where
      absent : (m ≡ scan.operation) → misses scan k ≡ true → x ≡ Absent → (m ≡ n) × IsReadBy false own (op.Scan scope pairs) k x
      absent of missed none =
          let r = misses-so scan scope pairs.items own k same except missed in
          (of ∙ at, record { says = inr (r.0, r.1, none); unchanged = r.2; judged = λ on. absurd (false≢true on) })

      by_pairs : HasRead new scans m k x → HasRead reads scans m k x ⊎ ((m ≡ n) × IsReadBy false own (op.Scan scope pairs) k x)
      by_pairs h =
          elim ((paired scans m k x).0 h) [
            | inl old ↦ inl old
            | inr r ↦ inr (r.0, record { says = inl r.1; unchanged = r.2; judged = λ on. absurd (false≢true on) })
          ]

      so : HasRead new more m k x → HasRead reads scans m k x ⊎ ((m ≡ n) × IsReadBy false own (op.Scan scope pairs) k x)
      so h =
          elim ((scan-pushed new scans scan m k x).0 (subst (λ (ss : List Scan). HasRead new ss m k x) is h)) [
            | inl old ↦ by_pairs old
            | inr r ↦ inr (absent r.0 r.1 r.2)
          ]

      pushed : HasRead new scans m k x ⊎ ((m ≡ scan.operation) × (misses scan k ≡ true) × (x ≡ Absent)) → HasRead new more m k x
      pushed h = subst (λ (ss : List Scan). HasRead new ss m k x) (sym is) ((scan-pushed new scans scan m k x).1 h)

      back : HasRead reads scans m k x ⊎ ((m ≡ n) × IsReadBy false own (op.Scan scope pairs) k x) → HasRead new more m k x
      back h =
          elim h [
            | inl old ↦ pushed (inl ((paired scans m k x).1 (inl old)))
            | inr r ↦
                elim r.1.says [
                  | inl p ↦ pushed (inl ((paired scans m k x).1 (inr (r.0, p, r.1.unchanged))))
                  | inr missing ↦ pushed (inr (r.0 ∙ sym at, misses-then scan scope pairs.items own k same except missing.0 missing.1 r.1.unchanged, missing.2))
                ]
          ]
