use Rattle.std.proofs.Common.{◌≡◌, map, take}
use Rattle.hek_deadlock.specs.Places.{id_at}
use Rattle.hek_deadlock.proofs.nodes.members_at.Given as goal

abbrev pub invariant-loop-place : goal.invariant-loop-place
invariant-loop-place l = l.members.items ≡ map (id_at l.ids) (take l.place-index l.places)
