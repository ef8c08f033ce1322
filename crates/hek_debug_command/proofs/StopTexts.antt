-- Words in hexadecimal, digit by digit.
use Rattle.std.proofs.Common.{◌≡◌, ℕ, zero, suc, ◌-◌, ◌/◌, ◌%◌, ◌<◌, [], ◌∷◌, ◌++◌, Some, None, codes, refl, ap, arith}
use Rattle.hek_debug_command.specs.Debugged.{hex_digit, hex_text, seen_text}

pub hex_more : (k n : ℕ) → 0 < k → hex_text k n ≡ hex_text (k - 1) (n / 16) ++ hex_digit (n % 16) ∷ []
hex_more zero n above = absurd (omega arith)
hex_more (suc k) n above = let less : k ≡ suc k - 1 = omega arith in ap (λ (j : ℕ). hex_text j (n / 16) ++ hex_digit (n % 16) ∷ []) less

pub seen_some : (n : ℕ) → hex_text 16 n ≡ seen_text (Some n)
unfolding seen_text
seen_some n = refl

pub seen_none : codes "none" ≡ seen_text None
unfolding seen_text
seen_none = refl
