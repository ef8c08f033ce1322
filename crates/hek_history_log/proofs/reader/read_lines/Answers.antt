use Rattle.std.proofs.Common.{◌≡◌, ◌≢◌, ◌+◌, ℕ, Option, None, MatchResult, unwrap_or, length, eq-eqb, eqb-true, inl, inr, sym, ap, subst, ◌∙◌, arith}
use Rattle.std.proofs.lemmas.Bool.{false≢true}
use Rattle.hek_history_log.specs.Ends.{IsEnd}
use Rattle.hek_history_log.specs.HasRead.{HasRead}
use Rattle.hek_history_log.specs.declared.fault.LogFault.{LogFault}
use Rattle.hek_history_log.specs.declared.fault.LogFault.TheVariants.{NoMemory}
use Rattle.hek_history_log.proofs.LineLemmas.{IsAt, Added, line_ends, all_read, line_moves, after_line}
use Rattle.hek_history_log.proofs.reader.read_lines.Goals as goal

pub returns-in-Err : goal.returns-in-Err
returns-in-Err g c buckets h log is fresh =
    let at = c.loop-number.invariant buckets h log is fresh in
    let answer : c.unwrap_or.result ≡ c.in-Err.fault = c.unwrap_or.ensures ∙ ap (λ (o : Option LogFault). unwrap_or o c.in-Err.fault) at.0 in
    subst IsEnd (sym answer) (line_ends buckets h c.loop-number.number c.loop-number.draft c.in-Err.fault _ log at.1 c.in-Err.ensures.fails)

pub returns-then-is_empty : goal.returns-then-is_empty
returns-then-is_empty g c buckets h log is fresh =
    let at = c.loop-number.invariant buckets h log is fresh in
    let empty : length c.read_line.new.bytes.items ≡ 0 = omega (arith, eqb-true _ _ (sym c.is_empty.ensures ∙ c.if-is_empty.true)) in
    let all = all_read buckets h c.loop-number.number c.loop-number.draft c.read_line.new.bytes.items _ log at.1 c.in_default.ensures.bytes empty in
    rw (c.answer_of.ensures.none at.0) all

pub returns-then-not-goes_on : goal.returns-then-not-goes_on
returns-then-not-goes_on g c buckets h log is fresh =
    let at = c.loop-number.invariant buckets h log is fresh in
    let line = c.new-line.result in
    let added : Added c.loop-number.number c.loop-number.draft c.add_line-added.new.draft (g.B.Read.remaining c.loop-number.input) (g.B.Read.remaining c.read_line.new.input) c.read_line.new.bytes.items line.bytes.now c.add_line-added.result =
    record {
      taken = c.in_default.ensures.bytes;
      left = c.in_default.ensures.rest;
      some = λ none. false≢true (sym c.if-is_empty.false ∙ c.is_empty.ensures ∙ eq-eqb _ _ (omega arith));
      line_is = λ text bytes_are begins. c.new-line.ensures.bytes text (c.as_slice.ensures.value ∙ bytes_are) begins;
      opening = λ b rows some few pairs fresh' text numbered. c.add_line-added.ensures.opening b rows some few pairs fresh' text (λ zero. numbered (sym c.new-line.ensures.number ∙ zero));
      next = c.add_line-added.ensures.next;
    } in
    let moved = line_moves buckets h _ _ _ _ _ _ _ c.add_line-added.result log at.1 added in
    elim (after_line c.add_line-added.result _ c.loop-number.first c.goes_on.new.first c.goes_on.result moved at.0 c.goes_on.ensures.added c.goes_on.ensures.ended) [
      | inl k ↦ absurd (false≢true (sym c.if-not-goes_on.true ∙ k.0))
      | inr k ↦ rw (c.answer_of-then-not-goes_on.ensures.some NoMemory k.1) tt
    ]

pub loop-number-preserved : goal.loop-number-preserved
loop-number-preserved g c buckets h log is fresh =
    let at = c.loop-number.invariant buckets h log is fresh in
    let line = c.new-line.result in
    let added : Added c.loop-number.number c.loop-number.draft c.add_line-added.new.draft (g.B.Read.remaining c.loop-number.input) (g.B.Read.remaining c.read_line.new.input) c.read_line.new.bytes.items line.bytes.now c.add_line-added.result =
    record {
      taken = c.in_default.ensures.bytes;
      left = c.in_default.ensures.rest;
      some = λ none. false≢true (sym c.if-is_empty.false ∙ c.is_empty.ensures ∙ eq-eqb _ _ (omega arith));
      line_is = λ text bytes_are begins. c.new-line.ensures.bytes text (c.as_slice.ensures.value ∙ bytes_are) begins;
      opening = λ b rows some few pairs fresh' text numbered. c.add_line-added.ensures.opening b rows some few pairs fresh' text (λ zero. numbered (sym c.new-line.ensures.number ∙ zero));
      next = c.add_line-added.ensures.next;
    } in
    let moved = line_moves buckets h _ _ _ _ _ _ _ c.add_line-added.result log at.1 added in
    elim (after_line c.add_line-added.result _ c.loop-number.first c.goes_on.new.first c.goes_on.result moved at.0 c.goes_on.ensures.added c.goes_on.ensures.ended) [
      | inl k ↦ (k.1, k.2)
      | inr k ↦ absurd (false≢true (sym k.0 ∙ c.if-not-goes_on.false))
    ]
