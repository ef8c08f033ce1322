use Rattle.std.proofs.Common.{◌≡◌, true}
use Rattle.hek_live.specs.Ends.{table_id_of, seat_table, view_of}
use Rattle.hek_test_threads.proofs.live.crowd.workers.Given as goal

abbrev pub invariant-loop-id : goal.invariant-loop-id
invariant-loop-id l = (seat_table l.maker ≡ table_id_of l.words) × ((view_of l.maker).makes ≡ true)
