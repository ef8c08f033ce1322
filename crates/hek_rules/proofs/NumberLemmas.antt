-- Reading a number from its digits.
use Rattle.std.proofs.Common.{◌≡◌, ℕ, ◌+◌, ◌-◌, ◌*◌, ◌^◌, ◌<◌, ◌≤◌, true, ◌&&◌, ltb, leb, List, length, take, get_or, Option, Some, None, Result, Ok, Err, refl, sym, ap, subst, ◌∙◌, inl, inr, arith}
use Rattle.std.specs.Int.{IsInRange}
use Rattle.std.specs.Option.{SomeIff}
use Rattle.std.specs.Result.{OkIff, result_ok}
use Rattle.std.specs.Str.{all_ascii_digits}
use Rattle.std.specs.Str.Parse.{digits_value, AllDigits, IsNumeral}
use Rattle.std.proofs.Math.Nat.{pow-le-pow_right}
use Rattle.std.proofs.lemmas.Bool.{cases_Bool, and_from, and_parts, lt-ltb, le-leb, ltb-true, leb-true}
use Rattle.std.proofs.lemmas.List.{length-take-le, take_all}
use Rattle.std.proofs.lemmas.Str.{digit_value_digit}
use Rattle.std.proofs.lemmas.Str.Parse.{numerals_by_value, tells_all_ascii_digits}
use Rattle.std.proofs.lemmas.Int.Digits.{digits_value-lt, digits_more, digits_value_more}
use Rattle.hek_rules.specs.Text.{is_number, number_of}

-- the digits before the last of 20 write a number below 10 ^ 19
pub small : (text : List ℕ) (i : ℕ) → AllDigits 10 (take i text) → i < length text → length text ≤ 20 → digits_value 10 (take i text) < 10 ^ 19
small text i digits below short =
    let size : length (take i text) ≡ i = length-take-le i text (omega arith) in
    let bound : digits_value 10 (take i text) < 10 ^ length (take i text) = digits_value-lt 10 (take i text) digits in
    let few : length (take i text) ≤ 19 = omega arith in
    let most : 10 ^ length (take i text) ≤ 10 ^ 19 = pow-le-pow_right (omega arith) few in
    omega arith

-- the first digits of a word with one more digit are digits
pub more_digits : (text : List ℕ) (i : ℕ) → AllDigits 10 (take i text) → i < length text → IsInRange 48 57 (get_or text i 0) → AllDigits 10 (take (i + 1) text)
more_digits text i digits below is_digit =
    digits_more 10 text i below digits (omega (arith, digit_value_digit (get_or text i 0) is_digit))

pub more_value : (text : List ℕ) (i : ℕ) → i < length text → IsInRange 48 57 (get_or text i 0) → digits_value 10 (take (i + 1) text) ≡ digits_value 10 (take i text) * 10 + (get_or text i 0 - 48)
more_value text i below is_digit =
    omega (arith, digits_value_more 10 text i below, digit_value_digit (get_or text i 0) is_digit)

-- the conditions of a number
pub record IsNumber (word : List ℕ) : Type 0 where
  pub numeral : IsNumeral 10 word
  pub short : length word ≤ 20
  pub fits : digits_value 10 word < 2 ^ 64

is_number_from : (word : List ℕ) → IsNumber word → is_number word ≡ true
is_number_from word is =
    let sized = and_from (ltb 0 (length word)) (leb (length word) 20) (lt-ltb 0 (length word) is.numeral.0) (le-leb (length word) 20 is.short) in
    let digits = and_from (ltb 0 (length word) && leb (length word) 20) (all_ascii_digits word) sized ((numerals_by_value (λ ds. all_ascii_digits ds ≡ true) tells_all_ascii_digits).from word is.numeral.1) in
    and_from ((ltb 0 (length word) && leb (length word) 20) && all_ascii_digits word) (ltb (digits_value 10 word) (2 ^ 64)) digits (lt-ltb (digits_value 10 word) (2 ^ 64) is.fits)

from_is_number : (word : List ℕ) → is_number word ≡ true → IsNumber word
from_is_number word e =
    let all = and_parts ((ltb 0 (length word) && leb (length word) 20) && all_ascii_digits word) (ltb (digits_value 10 word) (2 ^ 64)) e in
    let digits = and_parts (ltb 0 (length word) && leb (length word) 20) (all_ascii_digits word) all.0 in
    let sized = and_parts (ltb 0 (length word)) (leb (length word) 20) digits.0 in
    record {
      numeral = (ltb-true 0 (length word) sized.0, (numerals_by_value (λ ds. all_ascii_digits ds ≡ true) tells_all_ascii_digits).to word digits.1);
      short = leb-true (length word) 20 sized.1;
      fits = ltb-true (digits_value 10 word) (2 ^ 64) all.1;
    }

-- the result of the reader is the number that the word writes
pub number_read : (word : List ℕ) (r : Option ℕ) → SomeIff r (IsNumber word) (digits_value 10 word) → r ≡ number_of word
number_read word None h = elim (cases_Bool (is_number word)) [
  | inl e ↦ absurd (h (from_is_number word e))
  | inr e ↦ rw e refl
]
number_read word (Some n) h = rw (is_number_from word h.0) (ap (λ (m : ℕ). Some m) h.1)

-- the value of all digits, if it is below 2 ^ 64
pub value_read : {E : Type 0} (word : List ℕ) (i value : ℕ) (r : Result ℕ E) → 0 < length word → length word ≤ 20 → length word ≤ i → AllDigits 10 (take i word) → value ≡ digits_value 10 (take i word) → OkIff r (value < 2 ^ 64) value → result_ok r ≡ number_of word
value_read {E = E} word i value r some short past digits so_far read =
    let whole : take i word ≡ word = take_all i word past in
    let all : AllDigits 10 word = subst (AllDigits 10) whole digits in
    let is : value ≡ digits_value 10 word = so_far ∙ ap (digits_value 10) whole in
    number_read word (result_ok r) (fits r read all is)
  where
    fits : (r : Result ℕ E) → OkIff r (value < 2 ^ 64) value → AllDigits 10 word → value ≡ digits_value 10 word → SomeIff (result_ok r) (IsNumber word) (digits_value 10 word)
    fits (Ok n) h all is = (record { numeral = (some, all); short = short; fits = subst (λ (m : ℕ). m < 2 ^ 64) is h.0 }, h.1 ∙ is)
    fits (Err e) h all is = λ number. h (subst (λ (m : ℕ). m < 2 ^ 64) (sym is) number.fits)
