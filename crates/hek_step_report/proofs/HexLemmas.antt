-- Numbers in hexadecimal, digit by digit.
use Rattle.std.proofs.Common.{◌≡◌, ℕ, zero, suc, ◌-◌, ◌/◌, ◌%◌, ◌<◌, [], ◌∷◌, ◌++◌, refl, ap, arith}
use Rattle.hek_step_report.specs.StateText.{hex_digit, hex_text, word_text}

pub hex_more : (k n : ℕ) → 0 < k → hex_text k n ≡ hex_text (k - 1) (n / 16) ++ hex_digit (n % 16) ∷ []
hex_more zero n above = absurd (omega arith)
hex_more (suc k) n above = let less : k ≡ suc k - 1 = omega arith in ap (λ (j : ℕ). hex_text j (n / 16) ++ hex_digit (n % 16) ∷ []) less

pub word_digits : (n : ℕ) → hex_text 16 n ≡ word_text n
unfolding word_text
word_digits n = refl
