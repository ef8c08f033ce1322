use Rattle.std.proofs.Common.{◌≡◌, ℕ, ◌%◌, ◌≤◌, length}
use Rattle.hek_store.specs.Chained.{chain, keys_of, next_links}
use Rattle.hek_store.specs.Living.{IsStart, is_gone}
use Rattle.hek_store.proofs.living.next_left.Given as goal

abbrev pub invariant-loop-link : goal.invariant-loop-link
invariant-loop-link l = record {
  within : l.link ≤ length l.links;
  starts : (slots slot : ℕ) → l.links ≡ next_links (λ k. k % slots) 0 (keys_of l.versions) → IsStart slots slot (is_gone l.reader l.time) l.versions l.start → IsStart slots slot (is_gone l.reader l.time) l.versions l.link;
}

abbrev pub decreases-loop-link : goal.decreases-loop-link
decreases-loop-link l = length (chain 0 l.links l.link)
