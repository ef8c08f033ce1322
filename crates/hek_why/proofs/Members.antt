-- The members of a transaction's list are those of the world's pairs.
use Rattle.std.proofs.Common.{◌≡◌, ℕ, List}
use Rattle.hek_rules.specs.Listing.{has, seconds_of, is_among}
use Rattle.hek_refinement.proofs.Pairs.{among-seconds}

pub among_pairs : (ps : List (ℕ × ℕ)) (a b : ℕ) → is_among (seconds_of ps a) b ≡ has ps a b
among_pairs ps a b = among-seconds ps a b
