-- Conditions: comparisons of two terms, each of which holds.
use Rattle.std.specs.Prelude.{ℕ, ◌+◌, Bool, true, false, not, ◌==◌, ◌&&◌, nat_le, nat_lt, List, [], ◌∷◌, Option, Some, None}
use Rattle.hek_program.specs.declared.term.Factor.{Factor}
use Rattle.hek_program.specs.declared.condition.Relation.{Relation}
use Rattle.hek_program.specs.declared.condition.Relation.TheVariants.{Equal, Unequal, Below, AtMost, Above, AtLeast}
use Rattle.hek_program.specs.declared.condition.Comparison.{Comparison}
use Rattle.hek_program.specs.Terms.{Sum, sum_of}

-- whether two numbers are so related
abbrev pub relates : Relation → ℕ → ℕ → Bool
relates Equal a b = a == b
relates Unequal a b = not (a == b)
relates Below a b = nat_lt a b
relates AtMost a b = nat_le a b
relates Above a b = nat_lt b a
relates AtLeast a b = nat_le b a

-- whether two sums are so related: what the one takes away is added to the other
abbrev pub relates_sums : Relation → Sum → Sum → Bool
relates_sums r a b = relates r (a.gains + b.losses) (b.gains + a.losses)

-- the same, if both are numbers
abbrev pub relates_both : Relation → Option Sum → Option Sum → Bool
relates_both r (Some a) (Some b) = relates_sums r a b
relates_both r a b = false

-- whether a comparison holds; one with a term that is no number does not
abbrev pub compares : (Factor → Option ℕ) → Comparison → Bool
compares v c = relates_both c.relation (sum_of v c.left) (sum_of v c.right)

-- whether each of these comparisons holds
abbrev pub all_hold : (Factor → Option ℕ) → List Comparison → Bool
all_hold v [] = true
all_hold v (c ∷ cs) = compares v c && all_hold v cs
