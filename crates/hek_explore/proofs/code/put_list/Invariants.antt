use Rattle.std.proofs.Common.{◌≡◌, ◌++◌, length, take}
use Rattle.std.specs.List.{flat_map}
use Rattle.hek_explore.specs.Codes.{number}
use Rattle.hek_explore.proofs.code.put_list.Given as goal

abbrev pub invariant-loop-item : goal.invariant-loop-item
invariant-loop-item g l = l.code.items ≡ (l.fn.code.items ++ number (length l.items)) ++ flat_map g.T.Coded.bytes (take l.item-index l.items)
