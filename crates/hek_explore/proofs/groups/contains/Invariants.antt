use Rattle.std.proofs.Common.{◌≡◌, length}
use Rattle.hek_rules.specs.Listing.{is_among}
use Rattle.hek_explore.proofs.groups.contains.Given as goal

abbrev pub invariant-loop-number : goal.invariant-loop-number
invariant-loop-number l = is_among l.numbers l.wanted ≡ is_among l.rest l.wanted

abbrev pub decreases-loop-number : goal.decreases-loop-number
decreases-loop-number l = length l.rest
