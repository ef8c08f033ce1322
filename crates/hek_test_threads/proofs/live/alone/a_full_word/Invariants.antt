use Rattle.std.proofs.Common.{◌≡◌, true}
use Rattle.hek_live.specs.Ends.{table_id_of, seat_table, view_of}
use Rattle.hek_test_threads.proofs.live.alone.a_full_word.Given as goal

abbrev pub invariant-loop-k : goal.invariant-loop-k
invariant-loop-k g l = (seat_table l.first ≡ table_id_of l.words) × ((view_of l.first).makes ≡ true)
