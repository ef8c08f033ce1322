use Rattle.std.proofs.Common.{◌≡◌, map, take}
use Rattle.hek_asm.specs.Likely.{pair_of}
use Rattle.hek_asm.proofs.likely.pairs.Given as goal

abbrev pub invariant-loop-word : goal.invariant-loop-word
invariant-loop-word l = l.pairs.items ≡ map pair_of (map (λ w. w.now) (take l.word-index l.words))
