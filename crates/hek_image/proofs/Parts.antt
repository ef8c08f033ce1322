-- Texts that are written in parts, and one more item of several.
use Rattle.std.proofs.Common.{◌≡◌, ℕ, zero, suc, ◌+◌, ◌<◌, List, [], ◌∷◌, ◌++◌, length, map, drop, get_or, Some, refl, sym, ap, ◌∙◌, append_assoc, arith, slice_get, add-one, drop-cons}
use Rattle.std.specs.List.{flat_map}
use Rattle.std.specs.Map.{keys_of}
use Rattle.std.proofs.lemmas.List.{append-nil}
use Rattle.std.proofs.lemmas.Option.{slice_get_within}

pub two_parts : (a b c v w : List ℕ) → b ≡ a ++ v → c ≡ b ++ w → c ≡ a ++ (v ++ w)
two_parts a b c v w p q = q ∙ ap (λ (l : List ℕ). l ++ w) p ∙ append_assoc a v w

pub three_parts : (a b c d v w x : List ℕ) → b ≡ a ++ v → c ≡ b ++ w → d ≡ c ++ x → d ≡ a ++ (v ++ (w ++ x))
three_parts a b c d v w x p q r = two_parts a b d v (w ++ x) p (two_parts b c d w x q r)

pub four_parts : (a b c d e v w x y : List ℕ) → b ≡ a ++ v → c ≡ b ++ w → d ≡ c ++ x → e ≡ d ++ y → e ≡ a ++ (v ++ (w ++ (x ++ y)))
four_parts a b c d e v w x y p q r s = two_parts a b e v (w ++ (x ++ y)) p (three_parts b c d e w x y q r s)

-- an image whose parts went out through a block, which was empty at first and goes out last
pub all_gathered : (old block front counts rows txns steps header b c d e left new : List ℕ) → block ≡ [] → b ≡ (old ++ block) ++ header → header ≡ front ++ counts → c ≡ b ++ rows → d ≡ c ++ txns →
    e ++ left ≡ d ++ steps → (out : List ℕ) → out ≡ left → new ≡ e ++ out → new ≡ old ++ (front ++ (counts ++ (rows ++ (txns ++ steps))))
all_gathered old block front counts rows txns steps header b c d e left new empty p h q r s out last t =
    let start : old ++ block ≡ old = ap (λ (l : List ℕ). old ++ l) empty ∙ append-nil old in
    let first : b ≡ old ++ (front ++ counts) = p ∙ ap (λ (l : List ℕ). l ++ header) start ∙ ap (λ (l : List ℕ). old ++ l) h in
    t
    ∙ ap (λ (l : List ℕ). e ++ l) last
    ∙ four_parts old b c d (e ++ left) (front ++ counts) rows txns steps first q r s
    ∙ ap (λ (l : List ℕ). old ++ l) (append_assoc front counts (rows ++ (txns ++ steps)))

-- the element at a place, and those after it
pub at_place : {X : Type 0} (xs : List X) (i : ℕ) (x : X) → slice_get xs i ≡ Some x → drop i xs ≡ x ∷ drop (i + 1) xs
at_place [] i x h = absurd (omega (arith, slice_get_within [] i x h))
at_place (y ∷ ys) zero x h = cc
at_place (y ∷ ys) (suc i) x h = let e : suc i + 1 ≡ suc (i + 1) = omega arith in rw e (at_place ys i x h)

pub at_index : {X : Type 0} (xs : List X) (i : ℕ) (x : X) → i < length xs → x ≡ get_or xs i x → drop i xs ≡ x ∷ drop (i + 1) xs
at_index {X = X} xs i x lt e =
    let here : drop i xs ≡ get_or xs i x ∷ drop (i + 1) xs = rw (add-one, drop-cons xs i x) refl in
    here ∙ ap (λ (y : X). y ∷ drop (i + 1) xs) (sym e)

pub one_more : {X : Type 0} (bytes : X → List ℕ) (xs : List X) (i : ℕ) (x : X) (old new whole : List ℕ) → drop i xs ≡ x ∷ drop (i + 1) xs → new ≡ old ++ bytes x →
    old ++ flat_map bytes (drop i xs) ≡ whole → new ++ flat_map bytes (drop (i + 1) xs) ≡ whole
one_more {X = X} bytes xs i x old new whole here added so_far =
    let rest = flat_map bytes (drop (i + 1) xs) in
    ap (λ (bs : List ℕ). bs ++ rest) added
    ∙ append_assoc old (bytes x) rest
    ∙ ap (λ (ys : List X). old ++ flat_map bytes ys) (sym here)
    ∙ so_far

-- a pair, by its parts
pub pair_at : {X Y : Type 0} (ps : List (X × Y)) (i : ℕ) (x : X) (y : Y) → slice_get (keys_of ps) i ≡ Some x → slice_get (map (λ (p : X × Y). p.1) ps) i ≡ Some y → slice_get ps i ≡ Some (x, y)
pair_at [] i x y h k = absurd (omega (arith, slice_get_within [] i x h))
pair_at {X = X} {Y = Y} (p ∷ ps) zero x y h k =
    let first : p.0 ≡ x = cc in
    let second : p.1 ≡ y = cc in
    ap (λ (a : X). Some (a, p.1)) first ∙ ap (λ (b : Y). Some (x, b)) second
pair_at (p ∷ ps) (suc i) x y h k = pair_at ps i x y h k
