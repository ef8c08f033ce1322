-- The remainder by a power of two is the number's last binary digits.
use Rattle.std.proofs.Common.{◌≡◌, ℕ, zero, suc, ◌+◌, ◌-◌, ◌*◌, ◌/◌, ◌%◌, ◌^◌, ◌<◌, refl, sym, ap, ◌∙◌, subst, arith, ⊎_elim, ◌⊎◌, inl, inr}
use Rattle.std.proofs.lemmas.Nat.{and_block, and_mask}
use Rattle.std.proofs.Math.Nat.{div-add-mod, mul-add-mod_self_left, mod-eq_of_lt}
use Rattle.std.specs.Int.Bits.{bit_and, and_self}

-- the remainder by an even number, from the remainder of the half
even_mod : (n c : ℕ) → 0 < c → n % (c * 2) ≡ (n / 2 % c) * 2 + n % 2
even_mod n c some =
    let q = n / 2 in
    let whole : (c * 2) * (q / c) + ((q % c) * 2 + n % 2) ≡ n = grind (arith, div-add-mod n 2, div-add-mod q c) in
    let small : (q % c) * 2 + n % 2 < c * 2 = omega arith in
    ap (λ x. x % (c * 2)) (sym whole) ∙ mul-add-mod_self_left (c * 2) (q / c) ((q % c) * 2 + n % 2) ∙ mod-eq_of_lt small

-- a number is twice its half, or that and one
parity : (b : ℕ) → (b ≡ b / 2 * 2 ^ 1 + 0) ⊎ (b ≡ b / 2 * 2 ^ 1 + 1)
parity b = digit (b % 2) refl
  where
    digit : (r : ℕ) → r ≡ b % 2 → (b ≡ b / 2 * 2 ^ 1 + 0) ⊎ (b ≡ b / 2 * 2 ^ 1 + 1)
    digit zero e = inl (omega arith)
    digit (suc zero) e = inr (omega arith)
    digit (suc (suc r)) e = absurd (omega arith)

-- the digits that an odd number shares with the number below it
odd_digits : (c : ℕ) → bit_and (c * 2 ^ 1 + 1) (c * 2 ^ 1 + 0) ≡ c * 2
odd_digits c = and_block 1 c c 1 0 (omega arith) (omega arith) ∙ ap (λ x. x * 2 ^ 1 + 0) (and_self c) ∙ omega arith

-- the digits that an even number shares with the number below it
even_digits : (c : ℕ) → bit_and (suc c * 2 ^ 1 + 0) (c * 2 ^ 1 + 1) ≡ bit_and (suc c) c * 2
even_digits c = and_block 1 (suc c) c 0 1 (omega arith) (omega arith) ∙ omega arith

odd_masked : (n c : ℕ) → bit_and (c * 2 ^ 1 + 1) (c * 2 ^ 1 + 0) ≡ 0 → bit_and n (c * 2 ^ 1 + 0) ≡ n % (c * 2 ^ 1 + 1)
odd_masked n c apart =
    let none : 0 ≡ c = omega (arith, odd_digits c, apart) in
    subst (λ x. bit_and n (x * 2 ^ 1 + 0) ≡ n % (x * 2 ^ 1 + 1)) none (and_mask n 0)

even_masked : (n c : ℕ) → bit_and (n / 2) c ≡ n / 2 % suc c → bit_and n (c * 2 ^ 1 + 1) ≡ n % (suc c * 2 ^ 1 + 0)
even_masked n c half =
    let split : n ≡ n / 2 * 2 ^ 1 + n % 2 = omega arith in
    let same : suc c * 2 ^ 1 + 0 ≡ suc c * 2 = omega arith in
    let whole : n % (suc c * 2 ^ 1 + 0) ≡ n / 2 % suc c * 2 + n % 2 = ap (λ x. n % x) same ∙ even_mod n (suc c) (omega arith) in
    ap (λ x. bit_and x (c * 2 ^ 1 + 1)) split
    ∙ and_block 1 (n / 2) c (n % 2) 1 (omega arith) (omega arith)
    ∙ ap (λ x. x * 2 ^ 1 + bit_and (n % 2) 1) half
    ∙ ap (λ x. n / 2 % suc c * 2 ^ 1 + x) (and_mask (n % 2) 1)
    ∙ omega (arith, whole)

-- if m + 1 and m share no digit, the digits that n shares with m are n's remainder by m + 1
masked_by : (fuel n m : ℕ) → m < fuel → bit_and (suc m) m ≡ 0 → bit_and n m ≡ n % suc m
masked_by zero n m within apart = absurd (omega arith)
masked_by (suc fuel) n m within apart = ⊎_elim (even (masked_by fuel (n / 2) (suc m / 2 - 1))) odd (parity (suc m))
  where
    odd : suc m ≡ suc m / 2 * 2 ^ 1 + 1 → bit_and n m ≡ n % suc m
    odd e =
        let c = suc m / 2 in
        let below : m ≡ c * 2 ^ 1 + 0 = omega arith in
        ap (bit_and n) below
        ∙ odd_masked n c (sym (ap (λ x. bit_and x m) e ∙ ap (bit_and (c * 2 ^ 1 + 1)) below) ∙ apart)
        ∙ ap (λ x. n % x) (sym e)

    even : (suc m / 2 - 1 < fuel → bit_and (suc (suc m / 2 - 1)) (suc m / 2 - 1) ≡ 0 → bit_and (n / 2) (suc m / 2 - 1) ≡ n / 2 % suc (suc m / 2 - 1)) → suc m ≡ suc m / 2 * 2 ^ 1 + 0 → bit_and n m ≡ n % suc m
    even below_half e =
        let c = suc m / 2 - 1 in
        let is : suc m ≡ suc c * 2 ^ 1 + 0 = omega arith in
        let below : m ≡ c * 2 ^ 1 + 1 = omega arith in
        let shared : bit_and (suc c * 2 ^ 1 + 0) (c * 2 ^ 1 + 1) ≡ 0 = sym (ap (λ x. bit_and x m) is ∙ ap (bit_and (suc c * 2 ^ 1 + 0)) below) ∙ apart in
        let halves : bit_and (suc c) c ≡ 0 = omega (arith, even_digits c, shared) in
        ap (bit_and n) below
        ∙ even_masked n c (below_half (omega arith) halves)
        ∙ ap (λ x. n % x) (sym is)

pub masked : (n b : ℕ) → 0 < b → bit_and b (b - 1) ≡ 0 → bit_and n (b - 1) ≡ n % b
masked n b some apart =
    let is : suc (b - 1) ≡ b = omega arith in
    masked_by b n (b - 1) (omega arith) (ap (λ x. bit_and x (b - 1)) is ∙ apart) ∙ ap (λ x. n % x) is
