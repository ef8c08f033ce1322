use Rattle.std.proofs.Common.{◌≡◌, reverse, take}
use Rattle.hek_permute.specs.Plays.{Plays}
use Rattle.hek_explore.proofs.grow.play_from.Given as goal

abbrev pub invariant-loop-mover : goal.invariant-loop-mover
invariant-loop-mover l = record {
  plan : l.book.plan ≡ l.schedule;
  come : Plays l.form l.moves (reverse (take l.mover-index l.order)) l.places.items l.book.history;
}
