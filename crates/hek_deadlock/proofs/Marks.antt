-- One more member of a row is marked.
use Rattle.std.proofs.Common.{ℕ, zero, suc, ◌≡◌, ◌+◌, ◌<◌, Bool, true, false, ◌&&◌, ◌||◌, not, is_some, eqb, List, [], ◌∷◌, ◌++◌, length, get_or, set, take, slice_get, Vec, Global, Option, Some, None, refl, sym, ap, ◌∙◌, subst, inl, inr, get_or-set_other, get_or-set_same}
use Rattle.std.proofs.lemmas.Bool.{cases_eq, ne_eqb, eq-eqb}
use Rattle.std.proofs.lemmas.List.Folds.{list_any_more, list_any-append}
use Rattle.hek_rules.specs.Listing.{is_among}
use Rattle.hek_deadlock.specs.Rows.{row_in, waits_by_rows, reaches, level_at, marked, is_unmarked}

marked_hit : (b : Bool) (level : ℕ) (o : Option ℕ) → marked b level o ≡ None → marked (b || true) level o ≡ Some level
marked_hit b level (Some m) e = cc
marked_hit true level None e = cc
marked_hit false level None e = refl

marked_again : (b : Bool) (level m : ℕ) (o : Option ℕ) → marked b level o ≡ Some m → marked (b || true) level o ≡ Some m
marked_again b level m (Some k) e = e
marked_again true level m None e = e
marked_again false level m None e = cc

pub or_false : (b : Bool) → (b || false) ≡ b
or_false true = refl
or_false false = refl

pub among_more : (row : List ℕ) (i y x : ℕ) → i < length row → y ≡ get_or row i 0 → is_among (take (i + 1) row) x ≡ (is_among (take i row) x || eqb y x)
among_more row i y x lt e = list_any_more (λ (y : ℕ). eqb y x) row i 0 lt ∙ ap (λ (v : ℕ). is_among (take i row) x || eqb v x) (sym e)

-- the levels after a member y that had none
pub levels_unmarked : (row : List ℕ) (old cur : List (Option ℕ)) (i y x level : ℕ) → i < length row → y ≡ get_or row i 0 → y < length cur → level_at cur y ≡ None → level_at cur x ≡ marked (is_among (take i row) x) level (level_at old x) → level_at (set cur y (Some level)) x ≡ marked (is_among (take (i + 1) row) x) level (level_at old x)
levels_unmarked row old cur i y x level lt e within none inv =
    elim (cases_eq y x) [
      | inl same ↦
          let hit : marked (is_among (take i row) x) level (level_at old x) ≡ None = subst (λ (v : ℕ). marked (is_among (take i row) v) level (level_at old v) ≡ None) same (sym (subst (λ (v : ℕ). level_at cur v ≡ marked (is_among (take i row) v) level (level_at old v)) (sym same) inv) ∙ none) in
          rw (among_more row i y x lt e, eq-eqb y x same, marked_hit (is_among (take i row) x) level (level_at old x) hit)
          (subst (λ (v : ℕ). get_or (set cur y (Some level)) v None ≡ Some level) same (get_or-set_same cur y (Some level) None within))
      | inr ne ↦
          let ne' : x ≡ y → ⊥ = λ s. ne (sym s) in
          rw (among_more row i y x lt e, ne_eqb y x ne, or_false (is_among (take i row) x))
          (get_or-set_other cur y x (Some level) None ne' ∙ inv)
    ]

-- the levels after a member y that had one
pub levels_marked : (row : List ℕ) (old cur : List (Option ℕ)) (i y x m level : ℕ) → i < length row → y ≡ get_or row i 0 → level_at cur y ≡ Some m → level_at cur x ≡ marked (is_among (take i row) x) level (level_at old x) → level_at cur x ≡ marked (is_among (take (i + 1) row) x) level (level_at old x)
levels_marked row old cur i y x m level lt e some inv =
    elim (cases_eq y x) [
      | inl same ↦
          let some' : level_at cur x ≡ Some m = subst (λ (v : ℕ). level_at cur v ≡ Some m) same some in
          rw (among_more row i y x lt e, eq-eqb y x same, marked_again (is_among (take i row) x) level m (level_at old x) (sym inv ∙ some')) some'
      | inr ne ↦ rw (among_more row i y x lt e, ne_eqb y x ne, or_false (is_among (take i row) x)) inv
    ]

pub or_true : (b : Bool) → (b || true) ≡ true
or_true true = refl
or_true false = refl

unmarked_before : (b : Bool) (level : ℕ) (o : Option ℕ) → marked b level o ≡ None → is_unmarked o ≡ true
unmarked_before b level (Some m) e = cc
unmarked_before b level None e = refl

both_hit : (q b u : Bool) → u ≡ true → (q || ((b || true) && u)) ≡ true
both_hit q b true e = rw (or_true b) (or_true q)
both_hit q b false e = cc

again : (q b : Bool) (level m : ℕ) (o : Option ℕ) → marked b level o ≡ Some m → (q || (b && is_unmarked o)) ≡ (q || ((b || true) && is_unmarked o))
again q true level m o e = refl
again q false level m (Some k) e = refl
again q false level m None e = cc

pub among_push : (xs : List ℕ) (y x : ℕ) → is_among (xs ++ y ∷ []) x ≡ (is_among xs x || eqb y x)
among_push xs y x = list_any-append (λ (v : ℕ). eqb v x) xs (y ∷ []) ∙ ap (λ (b : Bool). is_among xs x || b) (or_false (eqb y x))

-- the members added after a member y that had no level
pub next_unmarked : (row next0 next : List ℕ) (old cur : List (Option ℕ)) (i y x level : ℕ) → i < length row → y ≡ get_or row i 0 → level_at cur y ≡ None → level_at cur y ≡ marked (is_among (take i row) y) level (level_at old y) → is_among next x ≡ (is_among next0 x || (is_among (take i row) x && is_unmarked (level_at old x))) → is_among (next ++ y ∷ []) x ≡ (is_among next0 x || (is_among (take (i + 1) row) x && is_unmarked (level_at old x)))
next_unmarked row next0 next old cur i y x level lt e none levels inv =
    elim (cases_eq y x) [
      | inl same ↦
          let u : is_unmarked (level_at old x) ≡ true = subst (λ (v : ℕ). is_unmarked (level_at old v) ≡ true) same (unmarked_before (is_among (take i row) y) level (level_at old y) (sym levels ∙ none)) in
          rw (among_push next y x, among_more row i y x lt e, eq-eqb y x same, or_true (is_among next x))
          (sym (both_hit (is_among next0 x) (is_among (take i row) x) (is_unmarked (level_at old x)) u))
      | inr ne ↦
          rw (among_push next y x, among_more row i y x lt e, ne_eqb y x ne, or_false (is_among next x), or_false (is_among (take i row) x)) inv
    ]

-- the members added after a member y that had a level
pub next_marked : (row next0 next : List ℕ) (old cur : List (Option ℕ)) (i y x m level : ℕ) → i < length row → y ≡ get_or row i 0 → level_at cur y ≡ Some m → level_at cur y ≡ marked (is_among (take i row) y) level (level_at old y) → is_among next x ≡ (is_among next0 x || (is_among (take i row) x && is_unmarked (level_at old x))) → is_among next x ≡ (is_among next0 x || (is_among (take (i + 1) row) x && is_unmarked (level_at old x)))
next_marked row next0 next old cur i y x m level lt e some levels inv =
    elim (cases_eq y x) [
      | inl same ↦
          let k : marked (is_among (take i row) x) level (level_at old x) ≡ Some m = subst (λ (v : ℕ). marked (is_among (take i row) v) level (level_at old v) ≡ Some m) same (sym levels ∙ some) in
          rw (among_more row i y x lt e, eq-eqb y x same) (inv ∙ again (is_among next0 x) (is_among (take i row) x) level m (level_at old x) k)
      | inr ne ↦ rw (among_more row i y x lt e, ne_eqb y x ne, or_false (is_among (take i row) x)) inv
    ]

pub none_from : (o : Option ℕ) (b : Bool) → is_some o ≡ not b → b ≡ true → o ≡ None
none_from (Some x) b e h = cc
none_from None b e h = refl

pub some_from : (o : Option ℕ) (b : Bool) → is_some o ≡ not b → b ≡ false → (m : ℕ) × (o ≡ Some m)
some_from (Some x) b e h = (x, refl)
some_from None b e h = cc

marked_twice : (b c : Bool) (level : ℕ) (o : Option ℕ) → marked c level (marked b level o) ≡ marked (b || c) level o
marked_twice b c level (Some m) = refl
marked_twice true c level None = refl
marked_twice false c level None = refl

unmarked_twice : (b c : Bool) (level : ℕ) (o : Option ℕ) → ((b && is_unmarked o) || (c && is_unmarked (marked b level o))) ≡ ((b || c) && is_unmarked o)
unmarked_twice true c level (Some m) = or_false_and c
  where
    or_false_and : (c : Bool) → (false || (c && false)) ≡ false
    or_false_and true = refl
    or_false_and false = refl
unmarked_twice false c level (Some m) = refl
unmarked_twice true true level None = refl
unmarked_twice true false level None = refl
unmarked_twice false true level None = refl
unmarked_twice false false level None = refl

reaches-more : (rows : List (Vec ℕ Global)) (ys : List ℕ) (i x : ℕ) → i < length ys → reaches rows (take (i + 1) ys) x ≡ (reaches rows (take i ys) x || waits_by_rows rows x (get_or ys i 0))
unfolding reaches
reaches-more rows ys i x lt = list_any_more (λ (y : ℕ). waits_by_rows rows x y) ys i 0 lt

pub waits-row : (rows : List (Vec ℕ Global)) (y x : ℕ) (row : Vec ℕ Global) → slice_get rows y ≡ Some row → waits_by_rows rows x y ≡ is_among row.items x
unfolding waits_by_rows
waits-row rows y x row e = ap (λ (o : Option (Vec ℕ Global)). is_among (row_in o) x) e

-- the levels after one more number of the frontier
pub levels_reached : (rows : List (Vec ℕ Global)) (row : Vec ℕ Global) (ys : List ℕ) (old cur new : Option ℕ) (i x level : ℕ) → i < length ys → slice_get rows (get_or ys i 0) ≡ Some row → cur ≡ marked (reaches rows (take i ys) x) level old → new ≡ marked (is_among row.items x) level cur → new ≡ marked (reaches rows (take (i + 1) ys) x) level old
levels_reached rows row ys old cur new i x level lt e inv step =
    step
    ∙ ap (λ (o : Option ℕ). marked (is_among row.items x) level o) inv
    ∙ marked_twice (reaches rows (take i ys) x) (is_among row.items x) level old
    ∙ ap (λ (b : Bool). marked (reaches rows (take i ys) x || b) level old) (sym (waits-row rows (get_or ys i 0) x row e))
    ∙ ap (λ (b : Bool). marked b level old) (sym (reaches-more rows ys i x lt))

pub next_reached : (rows : List (Vec ℕ Global)) (row : Vec ℕ Global) (ys : List ℕ) (old cur : Option ℕ) (before after : Bool) (i x level : ℕ) → i < length ys → slice_get rows (get_or ys i 0) ≡ Some row → cur ≡ marked (reaches rows (take i ys) x) level old → before ≡ (reaches rows (take i ys) x && is_unmarked old) → after ≡ (before || (is_among row.items x && is_unmarked cur)) → after ≡ (reaches rows (take (i + 1) ys) x && is_unmarked old)
next_reached rows row ys old cur before after i x level lt e levels inv step =
    step
    ∙ ap (λ (b : Bool). b || (is_among row.items x && is_unmarked cur)) inv
    ∙ ap (λ (o : Option ℕ). (reaches rows (take i ys) x && is_unmarked old) || (is_among row.items x && is_unmarked o)) levels
    ∙ unmarked_twice (reaches rows (take i ys) x) (is_among row.items x) level old
    ∙ ap (λ (b : Bool). (reaches rows (take i ys) x || b) && is_unmarked old) (sym (waits-row rows (get_or ys i 0) x row e))
    ∙ ap (λ (b : Bool). b && is_unmarked old) (sym (reaches-more rows ys i x lt))

pub marked_by_none : (rows : List (Vec ℕ Global)) (x level : ℕ) (o : Option ℕ) → o ≡ marked (reaches rows [] x) level o
unfolding reaches
marked_by_none rows x level (Some m) = refl
marked_by_none rows x level None = refl

pub none_reached : (rows : List (Vec ℕ Global)) (xs : List ℕ) (x : ℕ) (o : Option ℕ) → xs ≡ [] → is_among xs x ≡ (reaches rows [] x && is_unmarked o)
unfolding reaches
none_reached rows xs x o e = ap (λ (ys : List ℕ). is_among ys x) e

pub none_pushed : (xs : List (Option ℕ)) → ((x : ℕ) → level_at xs x ≡ None) → (x : ℕ) → level_at (xs ++ None ∷ []) x ≡ None
none_pushed [] h zero = refl
none_pushed [] h (suc x) = refl
none_pushed (a ∷ xs) h zero = h zero
none_pushed (a ∷ xs) h (suc x) = none_pushed xs (λ x. h (suc x)) x
