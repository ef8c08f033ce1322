-- Terms of numbers, keys and names, and what they come to. A program computes from left to right in whole numbers below
-- a limit: what comes to the limit is no number.
use Rattle.std.specs.Prelude.{ℕ, ◌+◌, ◌-◌, ◌*◌, ◌^◌, Bool, ◌&&◌, nat_le, nat_lt, if◌then◌else◌, List, [], ◌∷◌, Option, Some, None, option_and_then, option_map}
use Rattle.hek_program.specs.declared.term.Factor.{Factor}

-- a product of factors, which is added, or taken away
pub record Product : Type 0 where
  pub minus : Bool
  pub factors : List Factor

-- what is added in all, and what is taken away
pub record Sum : Type 0 where
  pub gains : ℕ
  pub losses : ℕ

abbrev pub limit : ℕ
limit = 2 ^ 127

-- a number below the limit
abbrev pub below_limit : ℕ → Option ℕ
below_limit n = if nat_lt n limit then Some n else None

-- a number times these factors; none if a factor has no value
abbrev pub times_all : (Factor → Option ℕ) → ℕ → List Factor → Option ℕ
times_all v n [] = Some n
times_all v n (f ∷ fs) = option_and_then (λ m. option_and_then (λ q. times_all v q fs) (below_limit (n * m))) (v f)

-- what a product comes to
abbrev pub product_of : (Factor → Option ℕ) → Product → Option ℕ
product_of v p = times_all v 1 p.factors

-- a sum, to which a number is added, or from which it is taken away
abbrev pub with_number : Bool → ℕ → Sum → Option Sum
with_number minus n s =
    if minus then option_map (λ m. record { gains = s.gains; losses = m }) (below_limit (s.losses + n))
    else option_map (λ m. record { gains = m; losses = s.losses }) (below_limit (s.gains + n))

-- a sum with these products too
abbrev pub plus_all : (Factor → Option ℕ) → Sum → List Product → Option Sum
plus_all v s [] = Some s
plus_all v s (p ∷ ps) = option_and_then (λ n. option_and_then (λ q. plus_all v q ps) (with_number p.minus n s)) (product_of v p)

abbrev pub zero_sum : Sum
zero_sum = record { gains = 0; losses = 0 }

-- what a term comes to: the sum of what is added, and of what is taken away
abbrev pub sum_of : (Factor → Option ℕ) → List Product → Option Sum
sum_of v ps = plus_all v zero_sum ps

-- the value of a row that a sum is, if it is one: it is not below zero, and fits 64 bits
abbrev pub value_in : Sum → Option ℕ
value_in s = if nat_le s.losses s.gains && nat_lt (s.gains - s.losses) (2 ^ 64) then Some (s.gains - s.losses) else None

-- the value of a row that a term is
abbrev pub value_of : (Factor → Option ℕ) → List Product → Option ℕ
value_of v ps = option_and_then value_in (sum_of v ps)
