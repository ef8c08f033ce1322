-- Turns: who is before whom, and what a map of the latest turns knows.
use Rattle.std.proofs.Common.{◌≡◌, ◌==◌, ℕ, zero, suc, ◌+◌, ◌<◌, ◌≤◌, Bool, true, false, cond, ltb, List, [], ◌∷◌, Option, Some, refl, sym, ap, ◌∙◌, subst, inl, inr, length, arith}
use Rattle.std.specs.Prelude.{slice_get, ◌&&◌}
use Rattle.std.specs.List.{list_any}
use Rattle.std.proofs.lemmas.Bool.{cases_Bool, eqb-true, eq-eqb}
use Rattle.std.proofs.lemmas.Bool.Decides.{nat_tests}
use Rattle.std.proofs.lemmas.Option.{slice_get_within}
use Rattle.hek_levels.specs.declared.log.Log.{Log}
use Rattle.hek_levels.specs.declared.log.Turn.{Turn}
use Rattle.hek_levels.specs.declared.log.Scan.{Scan}
use Rattle.hek_history.specs.Answers.{covers}
use Rattle.hek_levels.specs.Logs.{misses, turns_of, is_before_turn, is_seen_turn, is_kept, is_earlier}
use Rattle.hek_levels.specs.Seen.{At}
use Rattle.hek_levels.specs.Places.{AreInTurn, AreLatest}
use Rattle.hek_levels.specs.Sweeps.{IsFrom, AreRaised, AreLaned, IsBeforeAny}
use Rattle.hek_levels.proofs.Orders.{same_at, cases_below}

-- one that passes a test
pub any-at : {X : Type 0} (f : X → Bool) (xs : List X) → list_any f xs ≡ true → (i : ℕ) × (x : X) × (slice_get xs i ≡ Some x) × (f x ≡ true)
any-at f [] e = cc
any-at f (x ∷ xs) e =
    elim (cases_Bool (f x)) [
      | inl so ↦ (zero, x, refl, so)
      | inr no_one ↦ let r = any-at f xs (rw no_one at e) in (suc r.0, r.1, r.2, r.3)
    ]

pub one-same : {X : Type 0} (x y : X) → ◌≡◌ {A = Option X} (Some x) (Some y) → x ≡ y
one-same x y e = cc

pub at-any : {X : Type 0} (f : X → Bool) (xs : List X) (i : ℕ) (x : X) → slice_get xs i ≡ Some x → f x ≡ true → list_any f xs ≡ true
at-any f [] i x there holds = cc
at-any f (y ∷ xs) zero x there holds = let here : f y ≡ true = ap f (one-same y x there) ∙ holds in rw here refl
at-any f (y ∷ xs) (suc i) x there holds =
    let later = at-any f xs i x there holds in
    elim (cases_Bool (f y)) [ inl a ↦ rw a refl | inr a ↦ rw a later ]

pub any-none : {X : Type 0} (f : X → Bool) (xs : List X) → ((i : ℕ) (x : X) → slice_get xs i ≡ Some x → f x ≡ false) → list_any f xs ≡ false
any-none f [] all = refl
any-none f (x ∷ xs) all = let here : f x ≡ false = all zero x refl in rw here (any-none f xs (λ i y there. all (suc i) y there))

pub element-at : {X : Type 0} (xs : List X) (n : ℕ) → n < length xs → (x : X) × (slice_get xs n ≡ Some x)
element-at [] n l = absurd (omega (arith, l))
element-at (x ∷ xs) zero l = (x, refl)
element-at (x ∷ xs) (suc n) l = element-at xs n (omega (arith, l))

-- what holds of each element so far, and of the next
pub element-more : {X : Type 0} (P : X → Type 0) (xs : List X) (n : ℕ) → ((k : ℕ) (x : X) → k < n → slice_get xs k ≡ Some x → P x) → ((x : X) → slice_get xs n ≡ Some x → P x) →
    (k : ℕ) (x : X) → k < n + 1 → slice_get xs k ≡ Some x → P x
element-more P xs n before here k x l there =
    elim (cases_below k n l) [
      | inl less ↦ before k x less there
      | inr same ↦ here x (subst (λ (m : ℕ). slice_get xs m ≡ Some x) same there)
    ]

pub element-all : {X : Type 0} (P : X → Type 0) (xs ys : List X) (n : ℕ) → xs ≡ ys → length xs ≤ n → ((k : ℕ) (x : X) → k < n → slice_get xs k ≡ Some x → P x) → (k : ℕ) (x : X) → slice_get ys k ≡ Some x → P x
element-all P xs ys n same end before k x there =
    let here : slice_get xs k ≡ Some x = rw same there in
    let within = slice_get_within xs k x here in
    before k x (omega (arith, within, end)) here

pub each-more : {X : Type 0} (P : ℕ → X → Type 0) (xs : List X) (n : ℕ) → ((k : ℕ) (x : X) → k < n → slice_get xs k ≡ Some x → P k x) → ((x : X) → slice_get xs n ≡ Some x → P n x) →
    (k : ℕ) (x : X) → k < n + 1 → slice_get xs k ≡ Some x → P k x
each-more P xs n before here k x l there =
    elim (cases_below k n l) [
      | inl less ↦ before k x less there
      | inr same ↦ subst (λ (m : ℕ). P m x) (sym same) (here x (subst (λ (m : ℕ). slice_get xs m ≡ Some x) same there))
    ]

pub each-all : {X : Type 0} (P : ℕ → X → Type 0) (xs : List X) (n : ℕ) → length xs ≤ n → ((k : ℕ) (x : X) → k < n → slice_get xs k ≡ Some x → P k x) → (k : ℕ) (x : X) → slice_get xs k ≡ Some x → P k x
each-all P xs n end before k x there = let within = slice_get_within xs k x there in before k x (omega (arith, within, end)) there

pub both-true : (a b : Bool) → (a && b) ≡ true → (a ≡ true) × (b ≡ true)
both-true true b e = (refl, e)
both-true false b e = cc

-- two turns, the first before the second
pub record IsPair (xs ys : List Turn) : Type 0 where
  pub i : ℕ
  pub k : ℕ
  pub a : Turn
  pub b : Turn
  pub there : slice_get xs i ≡ Some a
  pub other : slice_get ys k ≡ Some b
  pub lane : a.lane ≡ b.lane
  pub less : a.last < b.first

less-true : (m n : ℕ) → ltb m n ≡ true → m < n
less-true m n e = grind (arith, nat_tests, e)

turn-before : (a b : Turn) → is_before_turn a b ≡ true → (a.lane ≡ b.lane) × (a.last < b.first)
turn-before a b e = let s = both-true (a.lane == b.lane) (ltb a.last b.first) e in (eqb-true a.lane b.lane s.0, less-true a.last b.first s.1)

pub kept-pair : (log : Log) (x t : ℕ) → is_kept log x t ≡ true → IsPair (turns_of log x) (turns_of log t)
kept-pair log x t e =
    let f = any-at (λ (a : Turn). list_any (λ (b : Turn). is_before_turn a b) (turns_of log t)) (turns_of log x) e in
    let g = any-at (λ (b : Turn). is_before_turn f.1 b) (turns_of log t) f.3 in
    let s = turn-before f.1 g.1 g.3 in
    record { i = f.0; k = g.0; a = f.1; b = g.1; there = f.2; other = g.2; lane = s.0; less = s.1 }

pub earlier-pair : (log : Log) (x t : ℕ) → is_earlier log x t ≡ true → (p : IsPair (turns_of log x) (turns_of log t)) × (p.b.seen ≡ true)
earlier-pair log x t e =
    let f = any-at (λ (a : Turn). list_any (λ (b : Turn). is_seen_turn a b) (turns_of log t)) (turns_of log x) e in
    let g = any-at (λ (b : Turn). is_seen_turn f.1 b) (turns_of log t) f.3 in
    let both = both-true g.1.seen (is_before_turn f.1 g.1) g.3 in
    let s = turn-before f.1 g.1 both.1 in
    (record { i = f.0; k = g.0; a = f.1; b = g.1; there = f.2; other = g.2; lane = s.0; less = s.1 }, both.0)

-- ---- the latest of each lane

pub raised-refl : (f : ℕ → Option ℕ) → AreRaised f f
raised-refl f lane first m = m

pub raised-trans : (f g h : ℕ → Option ℕ) → AreRaised f g → AreRaised g h → AreRaised f h
raised-trans f g h a b lane first m = b lane first (a lane first m)

-- one lane is raised
pub raised-mark : (f g : ℕ → Option ℕ) (l v : ℕ) → ((n : ℕ) → f l ≡ Some n → n ≤ v) → ((k : ℕ) → g k ≡ cond (l == k) (Some v) (f k)) → AreRaised f g
raised-mark f g l v low more k first m =
    elim (cases_Bool (l == k)) [
      | inl same ↦
          let is : l ≡ k = eqb-true l k same in
          let le = low m.0 (subst (λ (n : ℕ). f n ≡ Some m.0) (sym is) m.1) in
          let more' = m.2 in
          (v, more k ∙ rw same refl, omega arith)
      | inr other ↦ (m.0, more k ∙ rw other m.1, m.2)
    ]

pub marked-from : (f g : ℕ → Option ℕ) (l v first : ℕ) → first ≤ v → ((k : ℕ) → g k ≡ cond (l == k) (Some v) (f k)) → IsFrom g l first
marked-from f g l v first le more = (v, more l ∙ rw (eq-eqb l l refl) refl, le)

-- one transaction more
pub latest_more : (log : Log) (order : List ℕ) (i t : ℕ) (f g : ℕ → Option ℕ) → AreLatest log order i f → At order i t → AreRaised f g →
    ((n : ℕ) (turn : Turn) → slice_get (turns_of log t) n ≡ Some turn → IsFrom g turn.lane turn.first) → AreLatest log order (i + 1) g
latest_more log order i t f g known a raised there j x k turn l b is =
    elim (cases_below j i l) [
      | inl less ↦ raised turn.lane turn.first (known j x k turn less b is)
      | inr same ↦
          let y : t ≡ x = same_at order i t x a (subst (λ (n : ℕ). At order n x) same b) in
          there k turn (subst (λ (n : ℕ). slice_get (turns_of log n) k ≡ Some turn) (sym y) is)
    ]

-- whose turns have come
pub not_kept : (log : Log) (order : List ℕ) (i t : ℕ) (g : ℕ → Option ℕ) → AreLatest log order (i + 1) g → At order i t →
    ((n m : ℕ) (turn : Turn) → slice_get (turns_of log t) n ≡ Some turn → g turn.lane ≡ Some m → m ≤ turn.last) →
    (j x : ℕ) → j ≤ i → At order j x → is_kept log t x ≡ false
not_kept log order i t g known a come j x l b =
    elim (cases_Bool (is_kept log t x)) [
      | inr not_so ↦ not_so
      | inl kept ↦
          let p = kept-pair log t x kept in
          let m = known j x p.k p.b (omega (arith, l)) b p.other in
          let le = come p.i m.0 p.a p.there (subst (λ (n : ℕ). g n ≡ Some m.0) (sym p.lane) m.1) in
          let more = m.2 in
          let less = p.less in
          absurd (omega arith)
    ]

pub turns_more : (log : Log) (order : List ℕ) (i t : ℕ) → AreInTurn log order i → At order i t →
    ((j x : ℕ) → j ≤ i → At order j x → is_kept log t x ≡ false) → AreInTurn log order (i + 1)
turns_more log order i t before a here n j y x l le b d =
    elim (cases_below n i l) [
      | inl less ↦ before n j y x less le b d
      | inr same ↦
          let is : t ≡ y = same_at order i t y a (subst (λ (m : ℕ). At order m y) same b) in
          let less : j ≤ i = omega arith in
          subst (λ (m : ℕ). is_kept log m x ≡ false) is (here j x less d)
    ]

-- a turn of x is before one of y whose turns are known
pub before_any : (log : Log) (lanes : ℕ → Option ℕ) (x y : ℕ) → is_earlier log x y ≡ true → AreLaned log lanes y → IsBeforeAny log lanes x
before_any log lanes x y e known =
    let s = earlier-pair log x y e in
    let p = s.0 in
    let m = known p.k p.b p.other s.1 in
    let more = m.2 in
    let less = p.less in
    (p.i, p.a, m.0, p.there, subst (λ (n : ℕ). lanes n ≡ Some m.0) (sym p.lane) m.1, omega arith)

-- nobody whose turns have come is before one whose turns are known
pub not_earlier : (log : Log) (lanes : ℕ → Option ℕ) (x t : ℕ) → AreLaned log lanes t →
    ((n m : ℕ) (turn : Turn) → slice_get (turns_of log x) n ≡ Some turn → lanes turn.lane ≡ Some m → m ≤ turn.last) → is_earlier log x t ≡ false
not_earlier log lanes x t known come =
    elim (cases_Bool (is_earlier log x t)) [
      | inr not_so ↦ not_so
      | inl earlier ↦
          let f = before_any log lanes x t earlier known in
          let le = come f.0 f.2 f.1 f.3 f.4 in
          let less = f.5 in
          absurd (omega arith)
    ]

-- a key that a scan excepts is not missed
pub excepted : (scan : Scan) (n key : ℕ) → slice_get scan.except.items n ≡ Some key → misses scan key ≡ false
excepted scan n key there =
    let found = at-any (λ (k : ℕ). k == key) scan.except.items n key there (eq-eqb key key refl) in
    elim (cases_Bool (covers scan.scope key)) [ inl a ↦ rw a (rw found refl) | inr a ↦ rw a refl ]
