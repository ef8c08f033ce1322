use Rattle.std.proofs.Common.{◌≡◌, ℕ, suc, zero, ◌^◌, ◌<◌, ◌≤◌, List, [], ◌∷◌, length, take, get_or, arith}
use Rattle.std.specs.Char.{digit_value}
use Rattle.std.specs.Str.Parse.{digits_value, AllDigits}
use Rattle.std.proofs.Math.Nat.{pow-le-pow_right}
use Rattle.std.proofs.lemmas.List.{length-take-le}
use Rattle.std.proofs.lemmas.Int.Digits.{digits_value-lt}

-- each byte of digits is a digit
pub digit_below : (radix : ℕ) (text : List ℕ) (i : ℕ) → AllDigits radix text → i < length text → digit_value (get_or text i 0) < radix
digit_below radix [] i digits below = absurd (omega arith)
digit_below radix (c ∷ cs) zero digits below = digits.0
digit_below radix (c ∷ cs) (suc i) digits below = digit_below radix cs i digits.1 (omega arith)

-- the number that the digits before the last of 16 write is below 16 ^ 15
pub small : (text : List ℕ) (i : ℕ) → AllDigits 16 (take i text) → i < length text → length text ≡ 16 → digits_value 16 (take i text) < 16 ^ 15
small text i digits below long =
    let size : length (take i text) ≡ i = length-take-le i text (omega arith) in
    let bound : digits_value 16 (take i text) < 16 ^ length (take i text) = digits_value-lt 16 (take i text) digits in
    let few : length (take i text) ≤ 15 = omega arith in
    let most : 16 ^ length (take i text) ≤ 16 ^ 15 = pow-le-pow_right (omega arith) few in
    omega arith
