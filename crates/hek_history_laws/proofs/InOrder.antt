-- The serial order of a transcript without a fault: its times rise.
use Rattle.std.proofs.Common.{◌≡◌, ℕ, zero, suc, ◌<◌, ◌≤◌, true, List, [], ◌∷◌, Option, Some, None, refl, sym, ap, ◌∙◌, inl, inr, ⊎_elim, take, subst, arith}
use Rattle.std.proofs.lemmas.Bool.{cases_order, cond-true, cond-false, cond_both, eq-eqb, ltb-true, ltb-false, lt-ltb, le-ltb, or_left, or_right, false≢true}
use Rattle.std.specs.Prelude.{◌==◌, nat_lt, filter, slice_get}
use Rattle.hek_rules.specs.declared.event.Event.{Event}
use Rattle.hek_rules.specs.declared.reply.Reply.{Reply}
use Rattle.hek_rules.specs.Listing.{is_among}
use Rattle.hek_rules.specs.Serial.{end_of, committed_in, place_in, is_listed, with_end, ordered, serial_order}
use Rattle.hek_laws.specs.Rows.{AreAbove, AreRising}
use Rattle.hek_serial.proofs.Orders.{In, in-place, IsEnder, AreEnders}
use Rattle.hek_history_laws.proofs.EndTimes.{AreApart}

-- ---- one more entry

above-less : (k n : ℕ) (xs : List (ℕ × ℕ)) → n < k → AreAbove k xs → AreAbove n xs
above-less k n [] l a = tt
above-less k n (x ∷ xs) l a = (omega (arith, l, a.0), above-less k n xs l a.1)

above-place : (k : ℕ) (x : ℕ × ℕ) (ys : List (ℕ × ℕ)) → k < x.0 → AreAbove k ys → AreAbove k (place_in x ys)
above-place k x [] l a = (l, tt)
above-place k x (y ∷ ys) l a = cond_both (nat_lt x.0 y.0) (x ∷ y ∷ ys) (y ∷ place_in x ys) (AreAbove k) (λ _. (l, a)) (λ _. (a.0, above-place k x ys l a.1))

less_from : (m n : ℕ) → m ≤ n → (m ≡ n → ⊥) → m < n
less_from m n l ne = omega (arith, l, ne)

rising-place : (x : ℕ × ℕ) (ys : List (ℕ × ℕ)) → AreRising ys → ((y : ℕ × ℕ) → In y ys → y.0 ≡ x.0 → ⊥) → AreRising (place_in x ys)
rising-place x [] r none = (tt, tt)
rising-place x (y ∷ ys) r none =
    cond_both (nat_lt x.0 y.0) (x ∷ y ∷ ys) (y ∷ place_in x ys) AreRising
    (λ l. let less = ltb-true _ _ l in ((less, above-less y.0 x.0 ys less r.0), r))
    (λ g. let more = less_from y.0 x.0 (ltb-false _ _ g) (none y (inl refl)) in
    (above-place y.0 x ys more r.0, rising-place x ys r.1 (λ z i. none z (inr i))))

listed-in : (x : ℕ × ℕ) (ys : List (ℕ × ℕ)) → In x ys → is_listed x.1 ys ≡ true
listed-in x [] i = absurd i
listed-in x (y ∷ ys) i =
    cond_both (y.1 == x.1) true (is_listed x.1 ys) (λ b. b ≡ true) (λ _. refl)
    (λ n. ⊎_elim (λ same. absurd (false≢true (sym n ∙ eq-eqb y.1 x.1 (ap (λ (p : ℕ × ℕ). p.1) (sym same))))) (λ rest. listed-in x ys rest) i)

-- ---- the order

record IsOrder (h : List (Event × Reply)) (order : List (ℕ × ℕ)) : Type 0 where
  rising : AreRising order
  enders : AreEnders h order

order-with_end : (h : List (Event × Reply)) (t : ℕ) (o : Option ℕ) (order : List (ℕ × ℕ)) → AreApart h → is_among (committed_in h) t ≡ true → end_of t h ≡ o → IsOrder h order → IsOrder h (with_end t o order)
order-with_end h t None order a c e k = k
order-with_end h t (Some time) order a c e k =
    cond_both (is_listed t order) order (place_in (time, t) order) (IsOrder h) (λ _. k)
    (λ n. record {
      rising = rising-place (time, t) order k.rising (λ y i same.
          (let ender = k.enders y i in
          let one : y.1 ≡ t = a.apart y.1 t time ender.committed c (ender.end ∙ ap Some same) e in
          false≢true (sym n ∙ subst (λ m. is_listed m order ≡ true) one (listed-in y order i))));
      enders = λ x i. ⊎_elim (λ same. subst (IsEnder h) (sym same) (record { committed = c; end = e })) (k.enders x) (in-place x (time, t) order i);
    })

order-ordered : (h : List (Event × Reply)) (ts : List ℕ) (order : List (ℕ × ℕ)) → AreApart h → ((t : ℕ) → is_among ts t ≡ true → is_among (committed_in h) t ≡ true) → IsOrder h order → IsOrder h (ordered h ts order)
order-ordered h [] order a c k = k
order-ordered h (t ∷ ts) order a c k =
    order-ordered h ts (with_end t (end_of t h) order) a (λ u i. c u (or_right (t == u) (is_among ts u) i))
    (order-with_end h t (end_of t h) order a (c t (or_left (t == t) (is_among ts t) (eq-eqb t t refl))) refl k)

pub times_rise : (h : List (Event × Reply)) → AreApart h → AreRising (serial_order h)
times_rise h a = let k = order-ordered h (committed_in h) [] a (λ t i. i) (record { rising = tt; enders = λ x i. absurd i }) in k.rising

-- ---- its places

pub in-from : (xs : List (ℕ × ℕ)) (n : ℕ) (x : ℕ × ℕ) → slice_get xs n ≡ Some x → In x xs
in-from [] n x e = cc
in-from (y ∷ ys) zero x e = let same : y ≡ x = cc in inl (sym same)
in-from (y ∷ ys) (suc n) x e = inr (in-from ys n x e)

pub place-from : (x : ℕ × ℕ) (xs : List (ℕ × ℕ)) → In x xs → (n : ℕ) × (slice_get xs n ≡ Some x)
place-from x [] i = absurd i
place-from x (y ∷ ys) i = ⊎_elim (λ same. (zero, ap Some (sym same))) (λ rest. let r = place-from x ys rest in (suc r.0, r.1)) i

above-at : (k : ℕ) (xs : List (ℕ × ℕ)) (n : ℕ) (x : ℕ × ℕ) → AreAbove k xs → slice_get xs n ≡ Some x → k < x.0
above-at k [] n x a e = cc
above-at k (y ∷ ys) zero x a e = let same : y ≡ x = cc in subst (λ (z : ℕ × ℕ). k < z.0) same a.0
above-at k (y ∷ ys) (suc n) x a e = above-at k ys n x a.1 e

pub rises : (xs : List (ℕ × ℕ)) (m n : ℕ) (x y : ℕ × ℕ) → AreRising xs → m < n → slice_get xs m ≡ Some x → slice_get xs n ≡ Some y → x.0 < y.0
rises [] m n x y r l a b = cc
rises (z ∷ zs) m zero x y r l a b = absurd (omega (arith, l))
rises (z ∷ zs) zero (suc n) x y r l a b = let same : z ≡ x = cc in subst (λ (w : ℕ × ℕ). w.0 < y.0) same (above-at z.0 zs n y r.0 b)
rises (z ∷ zs) (suc m) (suc n) x y r l a b = rises zs m n x y r.1 (omega (arith, l)) a b

-- the place of a time
pub one_place : (xs : List (ℕ × ℕ)) (m n : ℕ) (x y : ℕ × ℕ) → AreRising xs → slice_get xs m ≡ Some x → slice_get xs n ≡ Some y → x.0 ≡ y.0 → m ≡ n
one_place xs m n x y r a b same =
    ⊎_elim (λ e. e)
    (λ o. ⊎_elim (λ l. let less = rises xs m n x y r l a b in absurd (omega (arith, less, same))) (λ g. let less = rises xs n m y x r g b a in absurd (omega (arith, less, same))) o)
    (cases_order m n)

pub earlier_place : (xs : List (ℕ × ℕ)) (m n : ℕ) (x y : ℕ × ℕ) → AreRising xs → slice_get xs m ≡ Some x → slice_get xs n ≡ Some y → x.0 < y.0 → m < n
earlier_place xs m n x y r a b less =
    ⊎_elim
    (λ e.
    let both : Some x ≡ Some y = sym a ∙ ap (slice_get xs) e ∙ b in
    let same : x ≡ y = cc in
    let times : x.0 ≡ y.0 = ap (λ (z : ℕ × ℕ). z.0) same in
    absurd (omega (arith, less, times)))
    (λ o. ⊎_elim (λ l. l) (λ g. let more = rises xs n m y x r g b a in absurd (omega (arith, less, more))) o)
    (cases_order m n)

filter-none : (k time : ℕ) (xs : List (ℕ × ℕ)) → AreAbove k xs → time ≤ k → filter (λ (y : ℕ × ℕ). nat_lt y.0 time) xs ≡ []
filter-none k time [] a l = refl
filter-none k time (x ∷ xs) a l =
    cond-false (nat_lt x.0 time) (x ∷ filter (λ (y : ℕ × ℕ). nat_lt y.0 time) xs) (filter (λ (y : ℕ × ℕ). nat_lt y.0 time) xs) (le-ltb x.0 time (let more = a.0 in omega (arith, l, more)))
    ∙ filter-none k time xs a.1 l

-- the entries before a time are those before its place
pub filter-before : (xs : List (ℕ × ℕ)) (n : ℕ) (x : ℕ × ℕ) → AreRising xs → slice_get xs n ≡ Some x → filter (λ (y : ℕ × ℕ). nat_lt y.0 x.0) xs ≡ take n xs
filter-before [] n x r e = cc
filter-before (z ∷ zs) zero x r e =
    let same : z ≡ x = cc in
    let time : x.0 ≤ z.0 = (let t : z.0 ≡ x.0 = ap (λ (w : ℕ × ℕ). w.0) same in omega (arith, t)) in
    cond-false (nat_lt z.0 x.0) (z ∷ filter (λ (y : ℕ × ℕ). nat_lt y.0 x.0) zs) (filter (λ (y : ℕ × ℕ). nat_lt y.0 x.0) zs) (le-ltb z.0 x.0 time)
    ∙ filter-none z.0 x.0 zs r.0 time
filter-before (z ∷ zs) (suc n) x r e =
    cond-true (nat_lt z.0 x.0) (z ∷ filter (λ (y : ℕ × ℕ). nat_lt y.0 x.0) zs) (filter (λ (y : ℕ × ℕ). nat_lt y.0 x.0) zs) (lt-ltb z.0 x.0 (above-at z.0 zs n x r.0 e))
    ∙ ap (λ ys. z ∷ ys) (filter-before zs n x r.1 e)
