-- A name is ASCII, and a word that is not a name is not declared.
use Rattle.std.proofs.Common.{◌≡◌, ℕ, zero, suc, ◌+◌, ◌<◌, true, false, ◌&&◌, ◌||◌, not, List, [], ◌∷◌, length, None, refl, sym, ap, subst, arith, IsTrue, inl, inr}
use Rattle.std.specs.Prelude.{position, nat_le, ◌==◌}
use Rattle.std.specs.List.{list_all, AllByRecursion, position_or_len}
use Rattle.std.specs.Option.{option_map}
use Rattle.std.specs.Str.{IsAscii, bytes_eq}
use Rattle.std.proofs.lemmas.Bool.{and_parts, or_cases, leb-true, eqb-true, cases_Bool, both_ways, le-ltb}
use Rattle.std.proofs.lemmas.Slice.Eq.{bytes_eq-Decides}
use Rattle.hek_rules.specs.Name.{is_name, is_name_byte, is_letter, begins_with_letter, is_reserved}
use Rattle.hek_rules.specs.Plan.{Plan, IsPlan, id_of, names_of}

low : (b : ℕ) → is_name_byte b ≡ true → b < 128
low b h = elim (or_cases (is_letter b || (nat_le 48 b && nat_le b 57)) (b == 95) h) [
  | inl g ↦ elim (or_cases (is_letter b) (nat_le 48 b && nat_le b 57) g) [
    | inl k ↦ omega (arith, leb-true b 122 (and_parts (nat_le 97 b) (nat_le b 122) k).1)
    | inr k ↦ omega (arith, leb-true b 57 (and_parts (nat_le 48 b) (nat_le b 57) k).1)
  ]
  | inr g ↦ omega (arith, eqb-true b 95 g)
]

all_low : (w : List ℕ) → list_all is_name_byte w ≡ true → IsAscii w
all_low [] h i = omega arith
all_low (b ∷ bs) h zero = low b (and_parts (is_name_byte b) (list_all is_name_byte bs) h).0
all_low (b ∷ bs) h (suc i) = all_low bs (and_parts (is_name_byte b) (list_all is_name_byte bs) h).1 i

pub name_ascii : (w : List ℕ) → is_name w ≡ true → IsAscii w
name_ascii w h =
    let front = and_parts ((begins_with_letter w && nat_le (length w) 32) && list_all is_name_byte w) (not (is_reserved w)) h in
    all_low w (and_parts (begins_with_letter w && nat_le (length w) 32) (list_all is_name_byte w) front.0).1

-- a word that is not a name is in no list of names
absent_from : (w : List ℕ) (ns : List (List ℕ)) → is_name w ≡ false → AllByRecursion (λ n. IsTrue (is_name n)) ns → position_or_len (bytes_eq w) ns ≡ length ns
absent_from w [] e h = refl
absent_from w (n ∷ ns) e h = elim (cases_Bool (bytes_eq w n)) [
  | inl g ↦ absurd (both_ways (is_name w) e (subst (λ (x : List ℕ). is_name x ≡ true) (sym ((bytes_eq-Decides w n).0 g)) h.0))
  | inr g ↦ let rest = absent_from w ns e h.1 in let f : 1 + position_or_len (bytes_eq w) ns ≡ suc (length ns) = omega arith in rw g f
]

pub unnamed : (p : Plan) (w : List ℕ) → IsPlan p → is_name w ≡ false → id_of p w ≡ None
unnamed p w is e =
    let gone = absent_from w (names_of p) e is.forms in
    let past = le-ltb (position_or_len (bytes_eq w) (names_of p)) (length (names_of p)) (omega arith) in
    let none : position (bytes_eq w) (names_of p) ≡ None = rw past refl in
    ap (option_map (λ (i : ℕ). i + 1)) none
