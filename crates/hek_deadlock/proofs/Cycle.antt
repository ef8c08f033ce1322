-- The next member of the cycle, by the levels.
use Rattle.std.proofs.Common.{ℕ, zero, suc, ◌≡◌, ◌<◌, Bool, true, false, ◌&&◌, List, [], ◌∷◌, ◌++◌, length, get_or, Vec, Global, Option, Some, None, refl, sym, ap, ◌∙◌, inl, inr, arith, append_assoc}
use Rattle.std.proofs.lemmas.Bool.{cases_Bool, both_ways, and_parts, and_left, eqb-true, eq-eqb}
use Rattle.std.proofs.lemmas.Option.{slice_get_read, get_or_from_slice_get}
use Rattle.hek_rules.specs.Victim.{least, leads, fewest, between, victim_of, victim_below}
use Rattle.hek_rules.proofs.VictimLaw.{answer_at, victim_below-suc}
use Rattle.hek_rules.specs.Listing.{is_among}
use Rattle.hek_deadlock.specs.Rows.{row_in, waiters_of, waits_by_rows, level_at, is_level, AreLevels}
use Rattle.hek_rules.proofs.Least.{IsLeast, IsLeast-least, least_agree, least_from}
use Rattle.hek_rules.proofs.Leads.{Next, leads_from, leads_next, leads-zero}

same_bool : (a b : Bool) → (a ≡ true → b ≡ true) → (b ≡ true → a ≡ true) → a ≡ b
same_bool true b f g = sym (f refl)
same_bool false true f g = g refl
same_bool false false f g = refl

pub is_level_from : (o : Option ℕ) (k : ℕ) → is_level o k ≡ true → o ≡ Some k
is_level_from (Some m) k e = ap (λ (v : ℕ). some v) (eqb-true m k e)
  where
    some : ℕ → Option ℕ
    some v = Some v
is_level_from None k e = cc

pub is_level_of : (o : Option ℕ) (k : ℕ) → o ≡ Some k → is_level o k ≡ true
is_level_of o k e = ap (λ (v : Option ℕ). is_level v k) e ∙ eq-eqb k k refl

-- on a shortest walk from x, a next member is of the lower level exactly if a walk of that length leads from it
level_leads : (edge : ℕ → ℕ → Bool) (n t k x y : ℕ) → fewest edge n t n x ≡ Some (suc k) → y < n → edge x y ≡ true → is_level (fewest edge n t n y) k ≡ leads edge n k y t
unfolding fewest
level_leads edge n t k x y e lt joined =
    let here : IsLeast (λ m. leads edge n m x t) n (suc k) = IsLeast-least (λ m. leads edge n m x t) n (suc k) e in
    same_bool (is_level (least (λ m. leads edge n m y t) n) k) (leads edge n k y t)
    (λ h. (IsLeast-least (λ m. leads edge n m y t) n k (is_level_from (least (λ m. leads edge n m y t) n) k h)).passes)
    (λ h.
    is_level_of (least (λ m. leads edge n m y t) n) k
    (least_from (λ m. leads edge n m y t) n k
    (record {
      below = (let b : suc k < n = here.below in omega arith);
      passes = h;
      earlier = (λ m less. false_from (leads edge n m y t) (λ on. both_ways _ (here.earlier (suc m) (omega arith)) (leads_from edge n m x t y lt joined on)));
    })))
  where
    false_from : (b : Bool) → (b ≡ true → ⊥) → b ≡ false
    false_from true f = absurd (f refl)
    false_from false f = refl

tests_agree : (edge : ℕ → ℕ → Bool) (n t k x y : ℕ) (o : Option ℕ) → fewest edge n t n x ≡ Some (suc k) → y < n → o ≡ fewest edge n t n y → (edge x y && is_level o k) ≡ (edge x y && leads edge n k y t)
tests_agree edge n t k x y o e lt is =
    elim (cases_Bool (edge x y)) [
      | inl joined ↦ ap (λ (b : Bool). edge x y && b) (ap (λ (v : Option ℕ). is_level v k) is ∙ level_leads edge n t k x y e lt joined)
      | inr apart ↦ and_left (edge x y) (is_level o k) apart ∙ sym (and_left (edge x y) (leads edge n k y t) apart)
    ]

-- the least next member of the lower level is that of the cycle
pub next_is : (rows : List (Vec ℕ Global)) (t : ℕ) (levels : List (Option ℕ)) → AreLevels rows t levels → (k x : ℕ) → x < length rows → level_at levels x ≡ Some (suc k) → least (λ (y : ℕ). waits_by_rows rows x y && is_level (level_at levels y) k) (length rows) ≡ least (λ y. waits_by_rows rows x y && leads (waits_by_rows rows) (length rows) k y t) (length rows)
next_is rows t levels are k x lt e =
    least_agree (λ (y : ℕ). waits_by_rows rows x y && is_level (level_at levels y) k) (λ y. waits_by_rows rows x y && leads (waits_by_rows rows) (length rows) k y t) (length rows)
    (λ y below. tests_agree (waits_by_rows rows) (length rows) t k x y (level_at levels y) (sym (are.least x lt) ∙ e) below (are.least y below))

pub between-some : (rows : List (Vec ℕ Global)) (t : ℕ) (levels : List (Option ℕ)) → AreLevels rows t levels → (k x y : ℕ) → x < length rows → level_at levels x ≡ Some (suc k) → Some y ≡ least (λ (y : ℕ). waits_by_rows rows x y && is_level (level_at levels y) k) (length rows) → between (waits_by_rows rows) (length rows) (suc k) x t ≡ y ∷ between (waits_by_rows rows) (length rows) k y t
unfolding between
between-some rows t levels are k x y lt e found =
    let is : least (λ y. waits_by_rows rows x y && leads (waits_by_rows rows) (length rows) k y t) (length rows) ≡ Some y = sym (next_is rows t levels are k x lt e) ∙ sym found in
    rw (between, is) refl

pub between-none : (rows : List (Vec ℕ Global)) (t : ℕ) (levels : List (Option ℕ)) → AreLevels rows t levels → (k x : ℕ) → x < length rows → level_at levels x ≡ Some (suc k) → None ≡ least (λ (y : ℕ). waits_by_rows rows x y && is_level (level_at levels y) k) (length rows) → between (waits_by_rows rows) (length rows) (suc k) x t ≡ []
unfolding between
between-none rows t levels are k x lt e found =
    let is : least (λ y. waits_by_rows rows x y && leads (waits_by_rows rows) (length rows) k y t) (length rows) ≡ None = sym (next_is rows t levels are k x lt e) ∙ sym found in
    rw (between, is) refl

pub record IsOn (rows : List (Vec ℕ Global)) (levels : List (Option ℕ)) (k y : ℕ) : Type 0 where
  pub within : y < length rows
  pub level : level_at levels y ≡ Some k

pub next_on : (rows : List (Vec ℕ Global)) (levels : List (Option ℕ)) (k x y : ℕ) → Some y ≡ least (λ (y : ℕ). waits_by_rows rows x y && is_level (level_at levels y) k) (length rows) → IsOn rows levels k y
next_on rows levels k x y found =
    let l : IsLeast (λ (y : ℕ). waits_by_rows rows x y && is_level (level_at levels y) k) (length rows) y = IsLeast-least (λ (y : ℕ). waits_by_rows rows x y && is_level (level_at levels y) k) (length rows) y (sym found) in
    let parts : (waits_by_rows rows x y ≡ true) × (is_level (level_at levels y) k ≡ true) = and_parts _ _ l.passes in
    record { within = l.below; level = is_level_from (level_at levels y) k parts.1 }

nil_end : (xs : List ℕ) → xs ++ [] ≡ xs
nil_end [] = refl
nil_end (x ∷ xs) = ap (λ (ys : List ℕ). x ∷ ys) (nil_end xs)

pub walk_more : (members items rest longer whole : List ℕ) (y : ℕ) → items ≡ members ++ y ∷ [] → longer ≡ y ∷ rest → members ++ longer ≡ whole → items ++ rest ≡ whole
walk_more members items rest longer whole y pushed is e =
    ap (λ (xs : List ℕ). xs ++ rest) pushed
    ∙ append_assoc members (y ∷ []) rest
    ∙ ap (λ (xs : List ℕ). members ++ xs) (sym is)
    ∙ e

pub walk_end : (members rest whole : List ℕ) → rest ≡ [] → members ++ rest ≡ whole → members ≡ whole
walk_end members rest whole is e = sym (nil_end members) ∙ ap (λ (xs : List ℕ). members ++ xs) (sym is) ∙ e

pub between-zero : (edge : ℕ → ℕ → Bool) (n k x t : ℕ) → k ≡ 0 → between edge n k x t ≡ []
unfolding between
between-zero edge n k x t e = ap (λ (i : ℕ). between edge n i x t) e

pub between-at : (edge : ℕ → ℕ → Bool) (n k left x t : ℕ) (ys : List ℕ) → left ≡ suc k → between edge n (suc k) x t ≡ ys → between edge n left x t ≡ ys
between-at edge n k left x t ys e is = ap (λ (i : ℕ). between edge n i x t) e ∙ is

-- an element read from the levels is the level at its place
pub level_read : (levels : List (Option ℕ)) (k : ℕ) (o : Option ℕ) → k < length levels → o ≡ get_or levels k o → level_at levels k ≡ o
level_read levels k o lt is = get_or_from_slice_get levels k o None (slice_get_read levels (length levels) k o refl lt is)

pub same_answer : (candidate k n : ℕ) (edge : ℕ → ℕ → Bool) (o : Option ℕ) → candidate ≡ suc k → victim_of edge n ≡ victim_below edge n candidate → fewest edge n k n k ≡ o → victim_of edge n ≡ answer_at edge n k o
same_answer candidate k n edge o e same is =
    same ∙ ap (λ (i : ℕ). victim_below edge n i) e ∙ victim_below-suc edge n k o is

abbrev pub pair_of : ℕ → List ℕ → Option (ℕ × List ℕ)
pair_of k members = Some (k, members)

pub answer_with : (k n m : ℕ) (edge : ℕ → ℕ → Bool) (members : List ℕ) → members ≡ k ∷ between edge n m k k → victim_of edge n ≡ answer_at edge n k (Some m) → pair_of k members ≡ victim_of edge n
answer_with k n m edge members is e = ap (λ (xs : List ℕ). pair_of k xs) is ∙ sym e

pub no_answer : (edge : ℕ → ℕ → Bool) (n candidate : ℕ) → candidate ≡ 0 → victim_of edge n ≡ victim_below edge n candidate → victim_below edge n 0 ≡ victim_of edge n
no_answer edge n candidate e same = ap (λ (i : ℕ). victim_below edge n i) (sym e) ∙ sym same

pub victim_below-zero : (edge : ℕ → ℕ → Bool) (n : ℕ) → victim_below edge n 0 ≡ None
unfolding victim_below
victim_below-zero edge n = refl

-- no walk leads to t if nobody waits for t
unled : (rows : List (Vec ℕ Global)) (n t : ℕ) → waiters_of rows t ≡ [] → (m x : ℕ) → leads (waits_by_rows rows) n m x t ≡ true → ⊥
unfolding waits_by_rows
unled rows n t none zero x e =
    both_ways (waits_by_rows rows x t) (ap (λ (xs : List ℕ). is_among xs x) none) (sym (leads-zero (waits_by_rows rows) n x t) ∙ e)
unled rows n t none (suc m) x e =
    let s : (y : ℕ) × Next (waits_by_rows rows) n m x t y = leads_next (waits_by_rows rows) n m x t e in
    unled rows n t none m s.0 s.1.on

pub fewest-unwaited : (rows : List (Vec ℕ Global)) (n t k x : ℕ) → waiters_of rows t ≡ [] → fewest (waits_by_rows rows) n t k x ≡ None
unfolding fewest
fewest-unwaited rows n t k x none = at (least (λ m. leads (waits_by_rows rows) n m x t) k) refl
  where
    at : (o : Option ℕ) → least (λ m. leads (waits_by_rows rows) n m x t) k ≡ o → least (λ m. leads (waits_by_rows rows) n m x t) k ≡ None
    at None e = e
    at (Some m) e = absurd (unled rows n t none m x (IsLeast-least (λ m. leads (waits_by_rows rows) n m x t) k m e).passes)

nil_of : (xs : List ℕ) → length xs ≡ 0 → xs ≡ []
nil_of [] e = refl
nil_of (x ∷ xs) e = absurd (omega arith)

-- nobody waits for t if the row of t is empty
pub unwaited : (rows : List (Vec ℕ Global)) (t : ℕ) (row : Vec ℕ Global) → t < length rows → row ≡ get_or rows t row → length row.items ≡ 0 → waiters_of rows t ≡ []
unwaited rows t row lt is empty =
    ap (λ (o : Option (Vec ℕ Global)). row_in o) (slice_get_read rows (length rows) t row refl lt is) ∙ nil_of row.items empty
