-- The changes in which two worlds of a run differ lead from the first to the second.
use Rattle.std.proofs.Common.{◌≡◌, ℕ, zero, suc, ◌+◌, ◌<◌, ◌≤◌, ◌⊎◌, Bool, true, false, eqb, List, [], ◌∷◌, ◌++◌, refl, ◌∙◌, ap, sym, subst, inl, inr, arith, ⊎_elim, length}
use Rattle.std.proofs.lemmas.Bool.{cases_Bool, cases_eq, cond-true, cond-false}
use Rattle.hek_why.specs.declared.change.Change.{Change}
use Rattle.hek_why.specs.Changes.{unless, field, each_below}
use Rattle.hek_why.specs.Leads.{after}

-- ---- what lists of changes make of something

module _ {X : Type 0} (by : Change → X → X) where
  pub after_append : (cs ds : List Change) (x : X) → after by (cs ++ ds) x ≡ after by ds (after by cs x)
  after_append [] ds x = refl
  after_append (c ∷ cs) ds x = after_append cs ds (by c x)

  -- first some changes, then others
  pub after_both : (cs ds : List Change) (x y z : X) → after by cs x ≡ y → after by ds y ≡ z → after by (cs ++ ds) x ≡ z
  after_both cs ds x y z p q = after_append cs ds x ∙ ap (after by ds) p ∙ q

  -- the changes leave each value as it is
  pub record Leaves (cs : List Change) : Type 0 where
    pub all : (x : X) → after by cs x ≡ x

  pub leaves_none : Leaves []
  leaves_none = record { all = λ x. refl }

  pub leaves_both : (cs ds : List Change) → Leaves cs → Leaves ds → Leaves (cs ++ ds)
  leaves_both cs ds p q = record { all = λ x. after_both cs ds x x x (p.all x) (q.all x) }

  pub leaves_unless : (same : Bool) (c : Change) → ((x : X) → by c x ≡ x) → Leaves (unless same c)
  leaves_unless true c h = leaves_none
  leaves_unless false c h = record { all = h }

  pub leaves_each : (f : ℕ → List Change) → ((i : ℕ) → Leaves (f i)) → (n : ℕ) → Leaves (each_below f n)
  leaves_each f h zero = leaves_none
  leaves_each f h (suc n) = leaves_both (each_below f n) (f n) (leaves_each f h n) (h n)

  pub leaves_past : (f : ℕ → List Change) (k : ℕ) → ((i : ℕ) → (i ≡ k → ⊥) → Leaves (f i)) → (n : ℕ) → n ≤ k → Leaves (each_below f n)
  leaves_past f k h zero le = leaves_none
  leaves_past f k h (suc n) le = leaves_both (each_below f n) (f n) (leaves_past f k h n (omega (arith, le))) (h n (λ e. omega (arith, le, e)))

  -- of the changes of all numbers, those of one number count
  pub after_each : (f : ℕ → List Change) (k : ℕ) → ((i : ℕ) → (i ≡ k → ⊥) → Leaves (f i)) → (n : ℕ) → k < n → (x : X) → after by (each_below f n) x ≡ after by (f k) x
  after_each f k h zero lt x = absurd (omega (arith, lt))
  after_each f k h (suc n) lt x = ⊎_elim
      (λ at. after_both (each_below f n) (f n) x x _ ((leaves_past f k h n (omega (arith, at))).all x) (ap (λ i. after by (f i) x) (sym at)))
      (λ under. after_both (each_below f n) (f n) x (after by (f k) x) _ (after_each f k h n under x) ((h n (λ e. omega (arith, e, under))).all _))
      (⊎_elim (λ at. inl at) (λ other. inr (omega (arith, lt, other))) (cases_eq k n))

  -- a field that is the same needs no change
  pub after_field : {V : Type 0} (same : V → V → Bool) (change : V → V → Change) (a b : V) (x : X) → (same a b ≡ true → by (change a b) x ≡ x) → after by (field same change a b) x ≡ by (change a b) x
  after_field same change a b x h = ⊎_elim
      (λ y. ap (λ cs. after by cs x) (cond-true (same a b) [] (change a b ∷ []) y) ∙ sym (h y))
      (λ n. ap (λ cs. after by cs x) (cond-false (same a b) [] (change a b ∷ []) n))
      (cases_Bool (same a b))
