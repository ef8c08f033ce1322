-- What operations leave, with one more.
use Rattle.std.proofs.Common.{◌≡◌, ◌==◌, ℕ, suc, ◌+◌, true, cond, List, Option, Some, None, take, refl, sym, ap, ◌∙◌, subst, inl, inr, ◌⊎◌, arith}
use Rattle.std.specs.Prelude.{slice_get, is_some}
use Rattle.std.proofs.lemmas.Bool.{cases_Bool}
use Rattle.hek_history.specs.declared.history.Operation.{Operation}
use Rattle.hek_history.specs.declared.history.Change.{Change}
use Rattle.hek_history.specs.declared.history.Change.TheVariants.{Keep, Remove, Set}
use Rattle.hek_history.specs.Answers.{key_of, change_of, followed_by, change_at, last_change}
use Rattle.hek_history.proofs.Scanned.{last_change-more}
use Rattle.hek_levels.specs.declared.log.Change.{Change as TheChange}
use Rattle.hek_history_levels.specs.Changes.{left_of, left_by, IsPassing}
use Rattle.hek_history_levels.proofs.Elements.{some-is, cases-below}

-- a later change counts
pub left_else : Option (Option ℕ) → Option (Option ℕ) → Option (Option ℕ)
left_else None before = before
left_else (Some v) before = Some v

pub left_followed : (first later : Change) → left_of (followed_by first later) ≡ left_else (left_of later) (left_of first)
unfolding left_else
left_followed first Keep = refl
left_followed first Remove = refl
left_followed first (Set x) = refl

-- what an operation leaves at a key
pub left_at : Operation → ℕ → Option (Option ℕ)
left_at op key = cond (key_of op == key) (left_of (change_of op)) None

left-at : (key : ℕ) (op : Operation) → left_of (change_at key op) ≡ left_at op key
unfolding left_at
left-at key op = elim (cases_Bool (key_of op == key)) [ inl same ↦ rw same refl | inr other ↦ rw other refl ]

pub left-more : (ops : List Operation) (n : ℕ) (op : Operation) (key : ℕ) → slice_get ops n ≡ Some op → left_by (take (n + 1) ops) key ≡ left_else (left_at op key) (left_by (take n ops) key)
left-more ops n op key there =
    let one : n + 1 ≡ suc n = omega arith in
    ap (λ (m : ℕ). left_of (last_change key (take m ops))) one ∙ ap left_of (last_change-more key ops n op there) ∙ left_followed (last_change key (take n ops)) (change_at key op)
    ∙ ap (λ (o : Option (Option ℕ)). left_else o (left_by (take n ops) key)) (left-at key op)

-- an operation that changes nothing
pub left-kept : (ops : List Operation) (n : ℕ) (op : Operation) (key : ℕ) → slice_get ops n ≡ Some op → left_of (change_of op) ≡ None → left_by (take (n + 1) ops) key ≡ left_by (take n ops) key
unfolding left_at left_else
left-kept ops n op key there none =
    left-more ops n op key there ∙ elim (cases_Bool (key_of op == key)) [ inl same ↦ rw same (rw none refl) | inr other ↦ rw other refl ]

-- one that changes its key
pub left-changed : (ops : List Operation) (n : ℕ) (op : Operation) (v : Option ℕ) (key : ℕ) → slice_get ops n ≡ Some op → left_of (change_of op) ≡ Some v →
    left_by (take (n + 1) ops) key ≡ cond (key_of op == key) (Some v) (left_by (take n ops) key)
unfolding left_at left_else
left-changed ops n op v key there is =
    left-more ops n op key there ∙ elim (cases_Bool (key_of op == key)) [ inl same ↦ rw same (rw is refl) | inr other ↦ rw other refl ]

-- what passes with one operation more
pub passing-old : (ops : List Operation) (n : ℕ) (c : TheChange) → IsPassing ops n c → IsPassing ops (n + 1) c
passing-old ops n c p = let l = p.less in record { m = p.m; op = p.op; less = omega arith; there = p.there; of = p.of; changes = p.changes; before = p.before }

pub passing-new : (ops : List Operation) (n : ℕ) (op : Operation) (c : TheChange) → slice_get ops n ≡ Some op → key_of op ≡ c.key → is_some (left_of (change_of op)) ≡ true → left_by (take n ops) c.key ≡ Some c.value →
    IsPassing ops (n + 1) c
passing-new ops n op c there of changes before = record { m = n; op = op; less = omega arith; there = there; of = of; changes = changes; before = before }

pub passing-cases : (ops : List Operation) (n : ℕ) (op : Operation) (c : TheChange) → slice_get ops n ≡ Some op → IsPassing ops (n + 1) c →
    IsPassing ops n c ⊎ ((key_of op ≡ c.key) × (is_some (left_of (change_of op)) ≡ true) × (left_by (take n ops) c.key ≡ Some c.value))
passing-cases ops n op c there p =
    elim (cases-below p.m n p.less) [
      | inl less ↦ inl (record { m = p.m; op = p.op; less = less; there = p.there; of = p.of; changes = p.changes; before = p.before })
      | inr same ↦
          let here : slice_get ops n ≡ Some p.op = subst (λ (k : ℕ). slice_get ops k ≡ Some p.op) same p.there in
          let is : p.op ≡ op = some-is p.op op (sym here ∙ there) in
          inr (
            subst (λ (o : Operation). key_of o ≡ c.key) is p.of,
            subst (λ (o : Operation). is_some (left_of (change_of o)) ≡ true) is p.changes,
            subst (λ (k : ℕ). left_by (take k ops) c.key ≡ Some c.value) same p.before,
          )
    ]
