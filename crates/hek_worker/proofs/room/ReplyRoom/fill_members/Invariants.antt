use Rattle.std.proofs.Common.{◌≡◌, ◌≤◌, take, vec_capacity, vec_len, length}
use Rattle.hek_worker.proofs.room.ReplyRoom.fill_members.Given as goal

abbrev pub invariant-loop-member : goal.invariant-loop-member
invariant-loop-member l = record {
  room : length l.member-items ≤ vec_capacity l.members.value;
  so_far : l.members.value.items ≡ take l.member-index l.member-items;
  index : vec_len l.members.value ≡ l.member-index;
}
