use Rattle.std.proofs.Common.{◌≡◌, ℕ, ◌+◌, List, [], ◌∷◌, ◌++◌, Option, MatchOption, length, sym, ap, subst, ◌∙◌, arith, Bor}
use Rattle.hek_rules.specs.declared.event.Event.{Event}
use Rattle.hek_rules.specs.declared.reply.Reply.{Reply}
use Rattle.hek_rules.specs.Recorded.{Recorded}
use Rattle.hek_asm.specs.Reading.{AreEntries, history_trace, HasNoLine, IsFront}
use Rattle.hek_asm.proofs.TraceSteps.{grown, over_schedule}
use Rattle.hek_asm.proofs.reading.read_trace.Goals as goal

pub loop-rest-preserved : goal.loop-rest-preserved
loop-rest-preserved c =
    let p = c.args.schedule.now in
    let inv = c.loop-rest.invariant in
    let rest = c.loop-rest.rest.now in
    let after = c.in-Some.after.now in
    let old = c.loop-rest.transcript in
    let x : Event × Reply = (c.in-Some.event, c.in-Some.reply) in
    let front : IsFront p (c.loop-rest.number + 1) x rest after =
    subst (λ (o : Option (Event × Reply × Bor (List ℕ))). MatchOption o (HasNoLine p (c.loop-rest.number + 1) rest) (λ y. IsFront p (c.loop-rest.number + 1) (y.0, y.1) rest y.2.now)) c.in-Some.is c.in_ok-event.ensures in
    let g = grown p c.loop-rest.number old.history x c.args.text.now rest after inv.count inv.entries inv.trace front in
    let history : old.history ++ x ∷ [] ≡ c.push.new.self.history = sym (ap (λ (t : Recorded). t.history) c.in_ok-push.ensures.ok) in
    record {
      schedule = over_schedule p old c.push.new.self (old.history ++ x ∷ []) c.in_ok-push.ensures.ok inv.schedule;
      entries = subst (AreEntries p) history g.entries;
      trace = g.trace ∙ ap (λ (h : List (Event × Reply)). history_trace p h ++ after) history;
      count = ap (λ (n : ℕ). n + 1) inv.count ∙ sym g.count ∙ ap length history;
      short = omega (arith, g.shorter, inv.short);
    }
