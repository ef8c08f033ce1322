use Rattle.std.proofs.Common.{◌≡◌, ◌≤◌, take, vec_capacity, vec_len, length}
use Rattle.hek_worker.proofs.room.ReplyRoom.fill_pairs.Given as goal

abbrev pub invariant-loop-pair : goal.invariant-loop-pair
invariant-loop-pair l = record {
  room : length l.pair-items ≤ vec_capacity l.pairs;
  so_far : l.pairs.items ≡ take l.pair-index l.pair-items;
  index : vec_len l.pairs ≡ l.pair-index;
}
