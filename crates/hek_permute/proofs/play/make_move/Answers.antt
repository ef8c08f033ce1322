use Rattle.std.proofs.Common.{rules, refl, subst, sym, ◌∙◌, ◌≡◌, length, List, Some, None, take}
use Rattle.hek_rules.specs.declared.reply.Reply.{Reply}
use Rattle.hek_worker.specs.declared.entry.Entry.{Entry}
use Rattle.hek_permute.specs.Plays.{Scene, after_by, next_by}
use Rattle.hek_permute.proofs.Plays.{under_way-more}
use Rattle.hek_permute.proofs.play.make_move.Goals as goal

pub returns-in-None-clause-moved : goal.returns-in-None-clause-moved
returns-in-None-clause-moved c =
    let u = c.loop.invariant.way in
    let none : next_by c.args.form c.args.moves.now c.args.mover c.loop.book.history c.loop.places c.loop.turn ≡ None = search rules in
    record {
      more = u.more;
      set_off = (
        u.first,
        record { places = c.loop.places; turn = c.loop.turn },
        u.sent,
        u.way,
        subst (λ (l : List Entry). next_by c.args.form c.args.moves.now c.args.mover l c.loop.places c.loop.turn ≡ None) u.grown none,
        refl,
      );
      grown = u.grown;
    }

pub loop-preserved : goal.loop-preserved
loop-preserved c = record {
  plan = c.in_ok-reply-in-Some.ensures.plan ∙ c.loop.invariant.plan;
  way =
      let reply : Reply = c.in_ok-reply-in-Some.reply in
      let later : Scene = record { places = c.take_reply.new.places; turn = c.in_ok-turn-in-Some.turn } in
      let new : List Entry = c.attempt.new.self.history in
      let some : next_by c.args.form c.args.moves.now c.args.mover c.loop.book.history c.loop.places c.loop.turn ≡ Some (c.in-Some.worker-1-own.given.0.0.0, c.in-Some.worker-1-own.given.0.0.1) = search rules in
      let led : after_by c.args.form c.args.moves.now (take (length c.loop.book.history) new) new c.loop.places c.loop.turn reply ≡ Some later =
      subst (λ (l : List Entry). after_by c.args.form c.args.moves.now (take (length l) new) new c.loop.places c.loop.turn reply ≡ Some later) c.history-before.ensures
      (subst (λ (l : List Entry). after_by c.args.form c.args.moves.now (take (length c.history-before.result.now) l) l c.loop.places c.loop.turn reply ≡ Some later)
      c.history-in-Some.ensures c.in_ok-turn-in-Some.ensures) in
      under_way-more c.args.form c.args.moves.now c.args.mover c.args.places.now c.loop.places c.take_reply.new.places c.loop.turn c.in_ok-turn-in-Some.turn c.args.book.now.history
      c.loop.book.history new (record { worker = c.in-Some.worker-1-own.given.0.0.0; event = c.in-Some.worker-1-own.given.0.0.1; reply = reply }) c.loop.invariant.way
      some led c.in_ok-reply-in-Some.ensures.entry;
}
