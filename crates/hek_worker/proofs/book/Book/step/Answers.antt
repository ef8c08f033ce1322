use Rattle.std.proofs.Common.{rules, ◌≡◌, ◌∷◌, [], ◌++◌, sym, subst}
use Rattle.hek_worker.specs.Kept.{Kept}
use Rattle.hek_worker.specs.History.{MayStep, world_of}
use Rattle.hek_worker.specs.Room.{Spare, Fits, room_for}
use Rattle.hek_worker.proofs.Replies.{fits_room}
use Rattle.hek_worker.proofs.Runs.{Replays-push, placed_in}
use Rattle.hek_worker.proofs.book.Book.step.Goals as goal

pub step-requires : goal.step-requires
step-requires c =
    let b = c.self.inside in
    let P : Kept → Type 0 = λ k. MayStep k.plan c.args.worker c.args.event in
    placed_in b.schedule.now b.machine b.history.items c.args.worker c.args.event c.self.invariant (subst P (sym c.self.view_is) c.requires)

pub invariant_of-self-2 : goal.invariant_of-self-2
invariant_of-self-2 c =
    let b = c.self.inside in
    let P : Kept → Type 0 = λ k. MayStep k.plan c.args.worker c.args.event in
    let grown : c.push_reserved.new.self.items ≡ b.history.items ++ record { worker = c.args.worker; event = c.args.event; reply = c.in_ok-reply.reply } ∷ [] = search rules in
    Replays-push b.schedule.now b.machine c.step.new.self b.history.items c.push_reserved.new.self.items c.args.worker c.args.event c.in_ok-reply.reply
    c.self.invariant (subst P (sym c.self.view_is) c.requires) c.in_ok-reply.ensures.step grown

pub copy_into-kept-requires : goal.copy_into-kept-requires
copy_into-kept-requires c =
    let b = c.self.inside in
    let P : Kept → Type 0 = λ k. c.in_ok-room.room ≡ room_for (world_of k) c.args.event in
    let room : c.in_ok-room.room ≡ room_for (world_of (record { plan = b.schedule.now; history = b.history.items })) c.args.event = subst P (sym c.self.view_is) c.in_ok-room.ensures in
    subst (λ (s : Spare). Fits s c.in_ok-reply.reply) (sym room)
    (fits_room b.schedule.now b.machine c.step.new.self b.history.items c.args.event c.in_ok-reply.reply c.self.invariant c.in_ok-reply.ensures.step c.in_ok-reply.ensures.small)
