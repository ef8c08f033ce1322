use Rattle.std.proofs.Common.{◌≡◌, ◌∙◌, sym, arith, subst, length, Option, Some, None, IfSome}
use Rattle.hek_rules.specs.declared.event.Event.{Event}
use Rattle.hek_rules.specs.declared.reply.Reply.{Reply}
use Rattle.hek_asm.specs.Trace.{NamesDeclared, trace_line}
use Rattle.hek_rules.specs.Text.{lines_of, words_of}
use Rattle.hek_asm.specs.Likely.{likely_entry}
use Rattle.hek_asm.proofs.EntryAgain.{no_lines, none_likely, other_line}
use Rattle.hek_asm.proofs.Fronts.{Behind}
use Rattle.hek_asm.proofs.SmallEntry.{likely_small}
use Rattle.hek_asm.proofs.reading.entry_by_words.Goals as goal

pub returns-in_default : goal.returns-in_default
returns-in_default c = no_lines c.args.schedule.now c.args.number c.args.text.now c.buckets-buckets.ensures.plan (omega (arith, c.ranges.number.fits)) c.in_default.ensures.line

pub returns-in_default-2 : goal.returns-in_default-2
returns-in_default-2 c =
    let none : likely_entry c.args.schedule.now (words_of c.in-Some.line.now) ≡ None = sym c.in_ok-event.ensures.value ∙ c.in_default-2.is in
    none_likely c.args.schedule.now c.args.number c.args.text.now c.in-Some.line.now (lines_of c.in-Some.field-0-1.now) c.buckets-buckets.ensures.plan (omega (arith, c.ranges.number.fits)) c.in-Some.ensures.line none

pub returns-in-None : goal.returns-in-None
returns-in-None c =
    let entry : Event × Reply = (c.in-Some-2.event, c.in-Some-2.reply) in
    let likely : likely_entry c.args.schedule.now (words_of c.in-Some.line.now) ≡ Some entry = sym c.in_ok-event.ensures.value ∙ c.in-Some-2.is in
    other_line c.args.schedule.now c.args.number entry c.args.text.now c.in-Some.line.now (lines_of c.in-Some.field-0-1.now) c.buckets-buckets.ensures.plan (omega (arith, c.ranges.number.fits)) c.in-Some.ensures.line likely
    (subst (Behind c.args.text.now (trace_line c.args.schedule.now c.args.number entry.0 entry.1)) c.in-None.is c.in_ok-behind_line.ensures)

pub returns : goal.returns
returns c =
    let likely : likely_entry c.args.schedule.now (words_of c.in-Some.line.now) ≡ Some (c.in-Some-2.event, c.in-Some-2.reply) = sym c.in_ok-event.ensures.value ∙ c.in-Some-2.is in
    let small = likely_small c.args.schedule.now (words_of c.in-Some.line.now) (c.in-Some-2.event, c.in-Some-2.reply) likely in
    record {
      entry = record { declared = subst (λ (o : Option (Event × Reply)). IfSome o (λ x. NamesDeclared (length c.args.schedule.now.txns) x.0)) c.in-Some-2.is c.in_ok-event.ensures.declared; first = small.0.0; second = small.0.1; reply = small.1 };
      is = subst (Behind c.args.text.now (trace_line c.args.schedule.now c.args.number c.in-Some-2.event c.in-Some-2.reply)) c.in-Some-3.is c.in_ok-behind_line.ensures;
    }
