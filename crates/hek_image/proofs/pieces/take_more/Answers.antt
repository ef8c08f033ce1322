use Rattle.std.proofs.Common.{arith, ap, take, ◌∙◌}
use Rattle.hek_image.proofs.Takings.{gave_more}
use Rattle.hek_image.proofs.pieces.take_more.Goals as goal

pub returns-in-Some-clause-gives : goal.returns-in-Some-clause-gives
returns-in-Some-clause-gives g c told =
    let size = c.split_at_mut-room.ensures in
    let held = c.split_at_mut-room-2.ensures in
    gave_more c.args.held c.args.size c.in-Some.count c.args.buffer.now c.split_at_mut-room-2.result.0.now c.take.new.buffer c.split_at_mut-room.result.1.now _ _
    (omega arith) (held.front ∙ ap (take c.args.held) size.front) held.front_len c.in-Some.ensures.within (c.in-Some.ensures.bytes told)
