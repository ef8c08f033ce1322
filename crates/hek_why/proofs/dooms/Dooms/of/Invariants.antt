use Rattle.std.proofs.Common.{◌≡◌, ◌++◌, drop}
use Rattle.hek_rules.specs.Listing.{firsts_of}
use Rattle.hek_why.proofs.dooms.Dooms.of.Given as goal

abbrev pub invariant-loop-doom : goal.invariant-loop-doom
invariant-loop-doom l = l.txns.items ++ firsts_of (drop l.doom-index l.self) l.t ≡ firsts_of l.self l.t
