use Rattle.hek_serial.proofs.LinkSteps.{AreFrom}
use Rattle.hek_serial.proofs.links.Links.new.Given as goal

abbrev pub invariant-loop-place : goal.invariant-loop-place
invariant-loop-place l = AreFrom l.events l.place l.near.items l.far l.next.items
