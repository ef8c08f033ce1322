use Rattle.std.proofs.Common.{◌≡◌}
use Rattle.hek_live.specs.Ends.{table_id_of, seat_table}
use Rattle.hek_test_threads.proofs.live.crowd.assert_counted.Given as goal

abbrev pub invariant-loop-word : goal.invariant-loop-word
invariant-loop-word g l = seat_table l.seat ≡ table_id_of l.words
