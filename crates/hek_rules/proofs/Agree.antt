-- Edge tests that agree everywhere have the same victim.
use Rattle.std.proofs.Common.{ℕ, ◌≡◌, Bool, ap}
use Rattle.hek_rules.specs.Victim.{victim_of}

same_edges : (f g : ℕ → ℕ → Bool) → ((u t : ℕ) → f u t ≡ g u t) → f ≡ g
same_edges f g h = λ i. λ u t. h u t i

pub victim_of-agree : (f g : ℕ → ℕ → Bool) (n : ℕ) → ((u t : ℕ) → f u t ≡ g u t) → victim_of f n ≡ victim_of g n
victim_of-agree f g n h = ap (λ (edge : ℕ → ℕ → Bool). victim_of edge n) (same_edges f g h)
