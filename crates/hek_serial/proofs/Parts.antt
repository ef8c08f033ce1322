-- Rows bucket by bucket are the rows by key.
use Rattle.std.proofs.Common.{◌≡◌, ℕ, zero, suc, ◌<◌, ◌≤◌, ◌%◌, Bool, true, false, List, [], ◌∷◌, length, refl, ◌∙◌, ap, sym, subst, arith, Some, None, Option, ⊎_elim, get_or, set, replicate}
use Rattle.std.proofs.Math.Nat.{mod-lt}
use Rattle.std.proofs.lemmas.List.{length-set, get_or-set_same, get_or-set_other}
use Rattle.std.proofs.lemmas.Bool.{cases_Bool, cases_eq, cond-true, cond-false, eqb-true, eqb-false, eq-eqb, ne_eqb}
use Rattle.std.specs.Prelude.{◌==◌, if◌then◌else◌}
use Rattle.std.specs.Option.{option_or}
use Rattle.hek_rules.specs.declared.serial.Write.{Write}
use Rattle.hek_rules.specs.Listing.{value_of}
use Rattle.hek_rules.specs.Serial.{lay, rows_of}
use Rattle.hek_laws.proofs.Lists.Overlay.{left_by, value_of-put, value_of-lay}
use Rattle.hek_laws.proofs.Lists.Rising.{same_rows, rising-put, rising-filter, rising-lay_all, value_of-filter}
use Rattle.hek_laws.specs.Rows.{AreRising, key_of}
use Rattle.hek_laws.proofs.Worlds.Histories.{option_or-none}
use Rattle.hek_serial.specs.BucketRows.{joined_rows, gathered, part_at, AreParts}

or_if : (b : Bool) (x : ℕ) (a o : Option ℕ) → (if b then Some x else option_or a o) ≡ option_or (if b then Some x else a) o
or_if true x a o = refl
or_if false x a o = refl

value_of-joined : (xs others : List (ℕ × ℕ)) (q : ℕ) → value_of (joined_rows xs others) q ≡ option_or (value_of xs q) (value_of others q)
value_of-joined [] others q = refl
value_of-joined (p ∷ ps) others q =
    value_of-put (joined_rows ps others) p.0 p.1 q ∙ ap (λ o. if p.0 == q then Some p.1 else o) (value_of-joined ps others q)
    ∙ or_if (p.0 == q) p.1 (value_of ps q) (value_of others q)

rising-joined : (xs others : List (ℕ × ℕ)) → AreRising others → AreRising (joined_rows xs others)
rising-joined [] others r = r
rising-joined (p ∷ ps) others r = rising-put (joined_rows ps others) p.0 p.1 (rising-joined ps others r)

pub rising-gathered : (parts : List (List (ℕ × ℕ))) → AreRising (gathered parts)
rising-gathered [] = tt
rising-gathered (p ∷ ps) = rising-joined p (gathered ps) (rising-gathered ps)

gathered-none : (parts : List (List (ℕ × ℕ))) (q : ℕ) → ((i : ℕ) → value_of (part_at parts i) q ≡ None) → value_of (gathered parts) q ≡ None
gathered-none [] q h = refl
gathered-none (p ∷ ps) q h =
    value_of-joined p (gathered ps) q ∙ ap (λ o. option_or o (value_of (gathered ps) q)) (h 0) ∙ gathered-none ps q (λ i. h (suc i))

-- a value that only one part can have for a key is that of all parts together
gathered-one : (parts : List (List (ℕ × ℕ))) (m q : ℕ) → ((i : ℕ) → (m ≡ i → ⊥) → value_of (part_at parts i) q ≡ None) → value_of (gathered parts) q ≡ value_of (part_at parts m) q
gathered-one [] m q h = refl
gathered-one (p ∷ ps) zero q h =
    value_of-joined p (gathered ps) q
    ∙ ap (option_or (value_of p q)) (gathered-none ps q (λ i. h (suc i) (λ e. absurd (omega (arith, e))))) ∙ option_or-none (value_of p q)
gathered-one (p ∷ ps) (suc m) q h =
    value_of-joined p (gathered ps) q ∙ ap (λ o. option_or o (value_of (gathered ps) q)) (h 0 (λ e. absurd (omega (arith, e))))
    ∙ gathered-one ps m q (λ i n. h (suc i) (λ e. n (omega (arith, e))))

pub value_of-gathered : (parts : List (List (ℕ × ℕ))) (q : ℕ) → AreParts parts → value_of (gathered parts) q ≡ value_of (part_at parts (q % length parts)) q
value_of-gathered parts q a = gathered-one parts (q % length parts) q (λ i n. a.apart i q n)

-- the value of a key in a part after a change in the part of its bucket
part-changed : (parts : List (List (ℕ × ℕ))) (w : Write) (i q : ℕ) → key_of w % length parts < length parts →
    value_of (part_at (set parts (key_of w % length parts) (lay w (part_at parts (key_of w % length parts)))) i) q
    ≡ (if key_of w % length parts == i then (if key_of w == q then left_by w else value_of (part_at parts i) q) else value_of (part_at parts i) q)
part-changed parts w i q l =
    let b = key_of w % length parts in
    let new = lay w (part_at parts b) in
    ⊎_elim
    (λ e.
    ap (λ j. value_of (part_at (set parts b new) j) q) (sym e) ∙ ap (λ p. value_of p q) (get_or-set_same parts b new [] l) ∙ value_of-lay w (part_at parts b) q
    ∙ ap (λ j. if key_of w == q then left_by w else value_of (part_at parts j) q) e
    ∙ sym (cond-true (b == i) (if key_of w == q then left_by w else value_of (part_at parts i) q) (value_of (part_at parts i) q) (eq-eqb b i e)))
    (λ n.
    ap (λ p. value_of p q) (get_or-set_other parts b i new [] (λ e. n (sym e)))
    ∙ sym (cond-false (b == i) (if key_of w == q then left_by w else value_of (part_at parts i) q) (value_of (part_at parts i) q) (ne_eqb b i n)))
    (cases_eq b i)

pub parts-lay : (parts : List (List (ℕ × ℕ))) (w : Write) → key_of w % length parts < length parts → AreParts parts →
    AreParts (set parts (key_of w % length parts) (lay w (part_at parts (key_of w % length parts))))
parts-lay parts w l a =
    let b = key_of w % length parts in
    let new = lay w (part_at parts b) in
    let long : length (set parts b new) ≡ length parts = length-set parts b new in
    record {
      some = let s = a.some in omega (arith, long, s);
      rising = λ i.
          ⊎_elim
          (λ e. subst (λ j. AreRising (part_at (set parts b new) j)) e (subst AreRising (sym (get_or-set_same parts b new [] l)) (rising-lay_all (w ∷ []) (part_at parts b) (a.rising b))))
          (λ n. subst AreRising (sym (get_or-set_other parts b i new [] (λ e. n (sym e)))) (a.rising i)) (cases_eq b i);
      apart = λ i q n.
          let off : q % length parts ≡ i → ⊥ = λ e. n (ap (λ m. q % m) long ∙ e) in
          part-changed parts w i q l
          ∙ ⊎_elim
          (λ y. cond-true (b == i) (if key_of w == q then left_by w else value_of (part_at parts i) q) (value_of (part_at parts i) q) y
          ∙ cond-false (key_of w == q) (left_by w) (value_of (part_at parts i) q) (ne_eqb (key_of w) q (λ e. off (ap (λ k. k % length parts) (sym e) ∙ eqb-true b i y))))
          (λ f. cond-false (b == i) (if key_of w == q then left_by w else value_of (part_at parts i) q) (value_of (part_at parts i) q) f)
          (cases_Bool (b == i))
          ∙ a.apart i q off;
    }

-- a change in the part of its bucket is a change of the rows
pub gathered-lay : (parts : List (List (ℕ × ℕ))) (w : Write) → key_of w % length parts < length parts → AreParts parts →
    gathered (set parts (key_of w % length parts) (lay w (part_at parts (key_of w % length parts)))) ≡ lay w (gathered parts)
gathered-lay parts w l a =
    let b = key_of w % length parts in
    let new = lay w (part_at parts b) in
    let after = parts-lay parts w l a in
    let long : length (set parts b new) ≡ length parts = length-set parts b new in
    same_rows _ _ (rising-gathered (set parts b new)) (rising-lay_all (w ∷ []) (gathered parts) (rising-gathered parts))
    (λ q.
    let m = q % length parts in
    value_of-gathered (set parts b new) q after ∙ ap (λ n. value_of (part_at (set parts b new) (q % n)) q) long ∙ part-changed parts w m q l
    ∙ ⊎_elim
    (λ y. cond-true (b == m) (if key_of w == q then left_by w else value_of (part_at parts m) q) (value_of (part_at parts m) q) y)
    (λ f. cond-false (b == m) (if key_of w == q then left_by w else value_of (part_at parts m) q) (value_of (part_at parts m) q) f
    ∙ sym (cond-false (key_of w == q) (left_by w) (value_of (part_at parts m) q) (ne_eqb (key_of w) q (λ e. absurd (eqb-false b m f (ap (λ k. k % length parts) e))))))
    (cases_Bool (b == m))
    ∙ ap (λ o. if key_of w == q then left_by w else o) (sym (value_of-gathered parts q a)) ∙ sym (value_of-lay w (gathered parts) q))

-- the rows of a bucket are its part
pub rows_of-gathered : (parts : List (List (ℕ × ℕ))) (b : ℕ) → AreParts parts → rows_of (length parts) b (gathered parts) ≡ part_at parts b
rows_of-gathered parts b a =
    let test : ℕ → Bool = λ q. q % length parts == b in
    same_rows _ _ (rising-filter (λ (p : ℕ × ℕ). test p.0) (gathered parts) (rising-gathered parts)) (a.rising b)
    (λ q. value_of-filter test (gathered parts) q
    ∙ ⊎_elim
    (λ y. cond-true (test q) (value_of (gathered parts) q) None y ∙ value_of-gathered parts q a ∙ ap (λ i. value_of (part_at parts i) q) (eqb-true _ _ y))
    (λ f. cond-false (test q) (value_of (gathered parts) q) None f ∙ sym (a.apart b q (λ e. eqb-false (q % length parts) b f e)))
    (cases_Bool (test q)))

pub gathered-empty : (n : ℕ) → gathered (replicate n []) ≡ []
gathered-empty zero = refl
gathered-empty (suc n) = gathered-empty n

part-empty : (n i : ℕ) → part_at (replicate n []) i ≡ []
part-empty zero i = refl
part-empty (suc n) zero = refl
part-empty (suc n) (suc i) = part-empty n i

pub length-empty : (n : ℕ) → length (replicate {A = List (ℕ × ℕ)} n []) ≡ n
length-empty zero = refl
length-empty (suc n) = ap suc (length-empty n)

pub parts-empty : (n : ℕ) → 0 < n → AreParts (replicate n [])
parts-empty n l =
    record {
      some = let long = length-empty n in omega (arith, long, l);
      rising = λ i. subst AreRising (sym (part-empty n i)) tt;
      apart = λ i q e. ap (λ p. value_of p q) (part-empty n i);
    }

-- a part, as it is read
pub part-read : (parts : List (List (ℕ × ℕ))) (i : ℕ) (p : List (ℕ × ℕ)) → i < length parts → p ≡ get_or parts i p → p ≡ part_at parts i
part-read [] i p l is = absurd (omega (arith, l))
part-read (x ∷ xs) zero p l is = is
part-read (x ∷ xs) (suc i) p l is = part-read xs i p (omega (arith, l)) is

pub part-of : (parts : List (List (ℕ × ℕ))) (key n : ℕ) (p : List (ℕ × ℕ)) → AreParts parts → n ≡ length parts → p ≡ get_or parts (key % n) p → p ≡ part_at parts (key % length parts)
part-of parts key n p a e is = part-read parts (key % length parts) p (mod-lt key a.some) (is ∙ ap (λ m. get_or parts (key % m) p) e)

pub part-past : (parts : List (List (ℕ × ℕ))) (i : ℕ) → length parts ≤ i → part_at parts i ≡ []
part-past [] i l = refl
part-past (x ∷ xs) zero l = absurd (omega (arith, l))
part-past (x ∷ xs) (suc i) l = part-past xs i (omega (arith, l))

pub no_pairs : (ps : List (ℕ × ℕ)) → length ps ≡ 0 → ps ≡ []
no_pairs [] e = refl
no_pairs (p ∷ ps) e = absurd (omega (arith, e))

-- the part of a change's bucket, changed
pub part-laid : (parts : List (List (ℕ × ℕ))) (w : Write) (key n : ℕ) (p new : List (ℕ × ℕ)) → AreParts parts → key ≡ key_of w → n ≡ length parts → p ≡ get_or parts (key % n) p → new ≡ lay w p →
    set parts (key % n) new ≡ set parts (key_of w % length parts) (lay w (part_at parts (key_of w % length parts)))
part-laid parts w key n p new a k e is laid =
    let at : p ≡ part_at parts (key_of w % length parts) = part-of parts key n p a e is ∙ ap (λ j. part_at parts (j % length parts)) k in
    ap (λ x. set parts (key % n) x) (laid ∙ ap (lay w) at) ∙ ap (λ j. set parts (j % n) (lay w (part_at parts (key_of w % length parts)))) k
    ∙ ap (λ m. set parts (key_of w % m) (lay w (part_at parts (key_of w % length parts)))) e
