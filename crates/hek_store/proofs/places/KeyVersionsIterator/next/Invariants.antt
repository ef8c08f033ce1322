use Rattle.std.proofs.Common.{◌≡◌, length}
use Rattle.hek_store.specs.Chained.{chain}
use Rattle.hek_store.specs.Places.{key_versions_left}
use Rattle.hek_store.proofs.places.KeyVersionsIterator.next.Given as goal

abbrev pub decreases-loop-self : goal.decreases-loop-self
decreases-loop-self l = length (chain 0 l.self.links.now l.self.link)

abbrev pub invariant-loop-self : goal.invariant-loop-self
invariant-loop-self l = key_versions_left l.self ≡ key_versions_left l.fn.self
