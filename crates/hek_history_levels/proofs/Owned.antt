-- The changes of a transaction, with one more.
use Rattle.std.proofs.Common.{◌≡◌, ◌==◌, ℕ, zero, suc, ◌<◌, Bool, true, false, cond, List, [], ◌∷◌, ◌++◌, Option, Some, None, refl, sym, ap, ◌∙◌, subst, inl, inr, ◌⊎◌, length, take, get_or, ◌+◌, arith}
use Rattle.std.specs.Prelude.{slice_get, is_some, ◌||◌}
use Rattle.std.specs.List.{list_any}
use Rattle.hek_history.specs.declared.history.Scope.{Scope}
use Rattle.hek_history.specs.Answers.{covers}
use Rattle.std.proofs.lemmas.Option.{slice_get-get_or}
use Rattle.std.proofs.lemmas.Bool.{cases_Bool, eqb-true, eq-eqb}
use Rattle.hek_levels.specs.declared.log.Change.{Change}
use Rattle.hek_levels.specs.Logs.{left_in}
use Rattle.hek_history_levels.specs.Taking.{value_in, value_at, ArePlaced, undone}
use Rattle.hek_history_levels.proofs.Elements.{some-is, last-or-before, stays-there, pushed-there, any-pushed}

none-some : (p : ℕ) → ◌≡◌ {A = Option ℕ} None (Some p) → ⊥
none-some p e = cc

module _ (f g : ℕ → Option ℕ) (changes : List Change) (a : ArePlaced f changes) (c : Change) where
  module _ (absent : f c.key ≡ None) (more : (k : ℕ) → g k ≡ cond (c.key == k) (Some (length changes)) (f k)) where
    here-entry : (k : ℕ) → c.key ≡ k → g k ≡ Some (length changes)
    here-entry k same = more k ∙ rw (eq-eqb c.key k same) refl

    other-entry : (k : ℕ) → (c.key == k) ≡ false → g k ≡ f k
    other-entry k other = more k ∙ rw other refl

    pub added-placed : ArePlaced g (changes ++ c ∷ [])
    added-placed = record {
      found = (λ key p e.
          elim (cases_Bool (c.key == key)) [
            | inl same ↦
                let is : length changes ≡ p = some-is (length changes) p (sym (here-entry key (eqb-true c.key key same)) ∙ e) in
                (c, subst (λ (n : ℕ). slice_get (changes ++ c ∷ []) n ≡ Some c) is (pushed-there changes c), eqb-true c.key key same)
            | inr other ↦
                let r = a.found key p (sym (other-entry key other) ∙ e) in
                (r.0, stays-there changes (c ∷ []) p r.0 r.1, r.2)
          ]);
      all = (λ p d e.
          elim (last-or-before changes c p d e) [
            | inl old ↦
                let had = a.all p d old in
                elim (cases_Bool (c.key == d.key)) [
                  | inl same ↦ absurd (none-some p (sym absent ∙ subst (λ (k : ℕ). f k ≡ Some p) (sym (eqb-true c.key d.key same)) had))
                  | inr other ↦ other-entry d.key other ∙ had
                ]
            | inr new ↦ here-entry d.key (ap (λ (x : Change). x.key) new.1) ∙ ap Some (sym new.0)
          ]);
    }

    value-kept : (k : ℕ) (o : Option ℕ) → f k ≡ o → value_at (changes ++ c ∷ []) o ≡ value_at changes o
    value-kept k None e = refl
    value-kept k (Some p) e = let r = a.found k p e in ap value_in (stays-there changes (c ∷ []) p r.0 r.1 ∙ sym r.1)

    pub added-left : (k : ℕ) → value_at (changes ++ c ∷ []) (g k) ≡ cond (c.key == k) (Some c.value) (value_at changes (f k))
    added-left k =
        elim (cases_Bool (c.key == k)) [
          | inl same ↦ ap (value_at (changes ++ c ∷ [])) (here-entry k (eqb-true c.key k same)) ∙ ap value_in (pushed-there changes c) ∙ rw same refl
          | inr other ↦ ap (value_at (changes ++ c ∷ [])) (other-entry k other) ∙ value-kept k (f k) refl ∙ rw other refl
        ]

  module _ (new : List Change) (place : ℕ) (there : f c.key ≡ Some place) (here : slice_get new place ≡ Some c) (others : (p : ℕ) → (p ≡ place → ⊥) → slice_get new p ≡ slice_get changes p) where
    cases-place : (p : ℕ) → (p ≡ place) ⊎ (p ≡ place → ⊥)
    cases-place p = elim (cases_Bool (p == place)) [ inl same ↦ inl (eqb-true p place same) | inr other ↦ inr (λ same. let so = eq-eqb p place same in let no_one : false ≡ true = sym other ∙ so in cc) ]

    -- who has another place has another key
    pub replaced-placed : ArePlaced f new
    replaced-placed = record {
      found = (λ key p e.
          elim (cases-place p) [
            | inl same ↦
                let r = a.found key p e in
                let old = a.found c.key place there in
                let one : r.0 ≡ old.0 = some-is r.0 old.0 (sym r.1 ∙ subst (λ (n : ℕ). slice_get changes n ≡ Some old.0) (sym same) old.1) in
                (c, subst (λ (n : ℕ). slice_get new n ≡ Some c) (sym same) here, sym old.2 ∙ ap (λ (x : Change). x.key) (sym one) ∙ r.2)
            | inr other ↦ let r = a.found key p e in (r.0, others p other ∙ r.1, r.2)
          ]);
      all = (λ p d e.
          elim (cases-place p) [
            | inl same ↦
                let is : c ≡ d = some-is c d (sym here ∙ subst (λ (n : ℕ). slice_get new n ≡ Some d) same e) in
                ap (λ (x : Change). f x.key) (sym is) ∙ there ∙ ap Some (sym same)
            | inr other ↦ a.all p d (sym (others p other) ∙ e)
          ]);
    }

    other-value : (k : ℕ) (o : Option ℕ) → f k ≡ o → (c.key == k) ≡ false → value_at new o ≡ value_at changes o
    other-value k None e other = refl
    other-value k (Some p) e other =
        ap value_in
        (others p
        (λ same.
        let r = a.found k p e in
        let old = a.found c.key place there in
        let one : r.0 ≡ old.0 = some-is r.0 old.0 (sym r.1 ∙ subst (λ (n : ℕ). slice_get changes n ≡ Some old.0) (sym same) old.1) in
        let key : c.key ≡ k = sym old.2 ∙ ap (λ (x : Change). x.key) (sym one) ∙ r.2 in
        let so = eq-eqb c.key k key in
        let no_one : false ≡ true = sym other ∙ so in
        cc))

    pub replaced-left : (k : ℕ) → value_at new (f k) ≡ cond (c.key == k) (Some c.value) (value_at changes (f k))
    replaced-left k =
        elim (cases_Bool (c.key == k)) [
          | inl same ↦ ap (λ (n : ℕ). value_at new (f n)) (sym (eqb-true c.key k same)) ∙ ap (value_at new) there ∙ ap value_in here ∙ rw same refl
          | inr other ↦ other-value k (f k) refl other ∙ rw other refl
        ]

    -- what was there is undone
    pub replaced-undone : (before : Change) → slice_get changes place ≡ Some before → before ∷ [] ≡ undone c.key (value_at changes (f c.key))
    replaced-undone before is =
        let old = a.found c.key place there in
        let same : before ≡ old.0 = some-is before old.0 (sym is ∙ old.1) in
        let key : before.key ≡ c.key = ap (λ (x : Change). x.key) same ∙ old.2 in
        let value : value_at changes (f c.key) ≡ Some before.value = ap (value_at changes) there ∙ ap value_in is in
        sym (ap (undone c.key) value ∙ ap (λ (n : ℕ). (record { key = n; value = before.value } ∷ [])) (sym key))

-- ---- what changes leave, by the place of each key

first-left : (k : ℕ) (cs : List Change) (v : Option ℕ) → left_in cs k ≡ Some v → (p : ℕ) × (c : Change) × (slice_get cs p ≡ Some c) × (c.key ≡ k) × (c.value ≡ v)
first-left k [] v e = cc
first-left k (d ∷ cs) v e =
    elim (cases_Bool (d.key == k)) [
      | inl same ↦ let is : Some d.value ≡ Some v = rw same at e in (zero, d, refl, eqb-true d.key k same, some-is d.value v is)
      | inr other ↦ let r = first-left k cs v (rw other at e) in (suc r.0, r.1, r.2, r.3, r.4)
    ]

left-here : (k : ℕ) (d : Change) (cs : List Change) → (d.key == k) ≡ true → left_in (d ∷ cs) k ≡ None → ⊥
left-here k d cs so e = let is : ◌≡◌ {A = Option (Option ℕ)} (Some d.value) None = rw so at e in cc

none-left : (k : ℕ) (cs : List Change) (p : ℕ) (c : Change) → left_in cs k ≡ None → slice_get cs p ≡ Some c → (c.key == k) ≡ false
none-left k [] p c e there = cc
none-left k (d ∷ cs) zero c e there =
    elim (cases_Bool (d.key == k)) [
      | inl so ↦ absurd (left-here k d cs so e)
      | inr other ↦ subst (λ (x : Change). (x.key == k) ≡ false) (some-is d c there) other
    ]
none-left k (d ∷ cs) (suc p) c e there =
    elim (cases_Bool (d.key == k)) [
      | inl so ↦ absurd (left-here k d cs so e)
      | inr other ↦ none-left k cs p c (rw other at e) there
    ]

pub left-placed : (f : ℕ → Option ℕ) (changes : List Change) → ArePlaced f changes → (k : ℕ) → left_in changes k ≡ value_at changes (f k)
left-placed f changes a k = go (left_in changes k) refl
  where
    absent : left_in changes k ≡ None → (o : Option ℕ) → f k ≡ o → None ≡ value_at changes o
    absent e None is = refl
    absent e (Some p) is =
        let r = a.found k p is in
        absurd (let so = eq-eqb r.0.key k r.2 in let f' : true ≡ false = sym so ∙ none-left k changes p r.0 e r.1 in cc)

    go : (o : Option (Option ℕ)) → left_in changes k ≡ o → o ≡ value_at changes (f k)
    go (Some v) e =
        let r = first-left k changes v e in
        let is : f k ≡ Some r.0 = ap f (sym r.3) ∙ a.all r.0 r.1 r.2 in
        sym (ap (value_at changes) is ∙ ap value_in r.2 ∙ ap Some r.4)
    go None e = absent e (f k) refl

-- a key at which something is left has a change
pub own-entry : (f : ℕ → Option ℕ) (changes : List Change) → ArePlaced f changes → (key : ℕ) (v : Option ℕ) → value_at changes (f key) ≡ Some v →
    (p : ℕ) × (c : Change) × (slice_get changes p ≡ Some c) × (c.key ≡ key)
own-entry f changes a key v is = go (f key) refl is
  where
    go : (o : Option ℕ) → f key ≡ o → value_at changes o ≡ Some v → (p : ℕ) × (c : Change) × (slice_get changes p ≡ Some c) × (c.key ≡ key)
    go None e none = cc
    go (Some p) e some = let r = a.found key p e in (p, r.0, r.1, r.2)

-- ---- the keys of the first changes, one more

or_both : (a b c : Bool) → ((a || b) || c) ≡ (a || (b || c))
or_both true b c = refl
or_both false b c = refl

or_false : (b : Bool) → (b || false) ≡ b
or_false true = refl
or_false false = refl

left-one : (d : Change) (k : ℕ) → is_some (left_in (d ∷ []) k) ≡ (false || (d.key == k))
left-one d k = elim (cases_Bool (d.key == k)) [ inl same ↦ rw same refl | inr other ↦ rw other refl ]

left-take : (cs : List Change) (i k : ℕ) (c : Change) → slice_get cs i ≡ Some c → is_some (left_in (take (suc i) cs) k) ≡ (is_some (left_in (take i cs) k) || (c.key == k))
left-take [] i k c there = cc
left-take (d ∷ cs) zero k c there = subst (λ (x : Change). is_some (left_in (d ∷ []) k) ≡ (false || (x.key == k))) (some-is d c there) (left-one d k)
left-take (d ∷ cs) (suc i) k c there = elim (cases_Bool (d.key == k)) [ inl same ↦ rw same refl | inr other ↦ rw other (left-take cs i k c there) ]

module _ (cs : List Change) (i k : ℕ) (d : Change) (keys new first : List ℕ) (l : i < length cs)
    (before : list_any (λ (n : ℕ). n == k) keys ≡ (list_any (λ (n : ℕ). n == k) first || is_some (left_in (take i cs) k))) where
  one-more : is_some (left_in (take (i + 1) cs) k) ≡ (is_some (left_in (take i cs) k) || ((get_or cs i d).key == k))
  one-more =
      let one : i + 1 ≡ suc i = omega arith in
      ap (λ (j : ℕ). is_some (left_in (take j cs) k)) one ∙ left-take cs i k (get_or cs i d) (slice_get-get_or cs i d l)

  -- its key is noted
  pub key-noted : new ≡ keys ++ (get_or cs i d).key ∷ [] → list_any (λ (n : ℕ). n == k) new ≡ (list_any (λ (n : ℕ). n == k) first || is_some (left_in (take (i + 1) cs) k))
  key-noted is =
      ap (list_any (λ (n : ℕ). n == k)) is ∙ any-pushed (λ (n : ℕ). n == k) keys (get_or cs i d).key ∙ ap (λ (b : Bool). b || ((get_or cs i d).key == k)) before
      ∙ or_both (list_any (λ (n : ℕ). n == k) first) (is_some (left_in (take i cs) k)) ((get_or cs i d).key == k)
      ∙ ap (λ (b : Bool). list_any (λ (n : ℕ). n == k) first || b) (sym one-more)

  -- it is of another scope
  pub key-left : (scope : Scope) → covers scope k ≡ true → covers scope (get_or cs i d).key ≡ false → new ≡ keys →
      list_any (λ (n : ℕ). n == k) new ≡ (list_any (λ (n : ℕ). n == k) first || is_some (left_in (take (i + 1) cs) k))
  key-left scope cover out is =
      ap (list_any (λ (n : ℕ). n == k)) is ∙ before
      ∙ ap (λ (b : Bool). list_any (λ (n : ℕ). n == k) first || b) (sym (one-more ∙ ap (λ (b : Bool). is_some (left_in (take i cs) k) || b) other ∙ or_false (is_some (left_in (take i cs) k))))
    where
      in_both : (get_or cs i d).key ≡ k → ⊥
      in_both same = let f : false ≡ true = sym out ∙ ap (covers scope) same ∙ cover in cc

      other : ((get_or cs i d).key == k) ≡ false
      other = elim (cases_Bool ((get_or cs i d).key == k)) [ inl same ↦ absurd (in_both (eqb-true (get_or cs i d).key k same)) | inr differ ↦ differ ]
