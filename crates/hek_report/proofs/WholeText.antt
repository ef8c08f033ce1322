-- A reader that gave less than its limit gave all that it had.
use Rattle.std.proofs.Common.{◌≡◌, ℕ, ◌<◌, ◌≤◌, List, [], ◌++◌, length, take, min, Option, Some, None, IfSome, ◌∙◌, subst, ap, arith}
use Rattle.std.specs.Option.{option_map}
use Rattle.std.specs.Io.Take.{take_limit, take_inner, take_remaining}
use Rattle.std.specs.declared.io.traits.Take.{Take}
use Rattle.std.proofs.lemmas.List.{take_all, length-take}

short : (bytes text : List ℕ) (most : ℕ) → text ≡ take most bytes → length text < most → length bytes ≤ most
short bytes text most e h =
    let len : length text ≡ min most (length bytes) = ap length e ∙ length-take most bytes in
    grind (arith, len, h)

known : (left : Option (List ℕ)) (text : List ℕ) (most : ℕ) → IfSome (option_map (take most) left) (λ bytes. text ≡ bytes) → length text < most → IfSome left (λ bytes. text ≡ bytes)
known None text most h k = tt
known (Some bytes) text most h k = h ∙ take_all most bytes (short bytes text most h k)

pub whole : {R : Type 0} (left : R → Option (List ℕ)) (reader : R) (t : Take R) (old text : List ℕ) (most : ℕ) → take_limit t ≡ most → take_inner t ≡ reader → old ≡ [] →
    IfSome (take_remaining left t) (λ bytes. text ≡ old ++ bytes) → length text < most → IfSome (left reader) (λ bytes. text ≡ bytes)
whole left reader t old text most limit inner empty h k =
    let at_limit = subst (λ (n : ℕ). IfSome (option_map (take n) (left (take_inner t))) (λ bytes. text ≡ old ++ bytes)) limit h in
    let at_reader = subst (λ r. IfSome (option_map (take most) (left r)) (λ bytes. text ≡ old ++ bytes)) inner at_limit in
    let at_start = subst (λ (xs : List ℕ). IfSome (option_map (take most) (left reader)) (λ bytes. text ≡ xs ++ bytes)) empty at_reader in
    known (left reader) text most at_start k
