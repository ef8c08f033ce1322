use Rattle.std.proofs.Common.{◌≡◌, map, take}
use Rattle.hek_asm.specs.Likely.{number_else_zero}
use Rattle.hek_asm.proofs.likely.members.Given as goal

abbrev pub invariant-loop-word : goal.invariant-loop-word
invariant-loop-word l = l.members.items ≡ map number_else_zero (map (λ w. w.now) (take l.word-index l.words))
