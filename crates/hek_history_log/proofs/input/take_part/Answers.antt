use Rattle.std.proofs.Common.{◌≡◌, ◌≢◌, ◌≤◌, ◌<◌, ◌-◌, ◌++◌, ℕ, List, [], All, Bool, Ok, Err, Option, MatchResult, true, false, take, sym, ap, subst, ◌∙◌, rules, arith, eq-eqb, eqb-true, get_or, get_or-take, length, length-take, length-take-le, take-take, append-nil, min}
use Rattle.std.specs.Prelude.{Result}
use Rattle.std.proofs.lemmas.List.Elements.{All-more, All-nil}
use Rattle.std.proofs.lemmas.Bool.{false≢true}
use Rattle.std.specs.Io.{StopsAt, IsEmptyOrEndsWith}
use Rattle.std.specs.Io.KnownBytes.{Keeps, Consumes}
use Rattle.std.specs.Io.BufRead.{FillKeeps, DropsConsumable}
use Rattle.std.proofs.KnownBytes.{Consumes-nil, Consumes-kept}
use Rattle.std.proofs.BufReadLemmas.{Consumes_shown}
use Rattle.std.proofs.Transfers.{StopsAt-take}
use Rattle.hek_history_log.specs.declared.fault.LogFault.{LogFault}
use Rattle.hek_history_log.specs.Ends.{IsEnd}
use Rattle.hek_history_log.specs.Parts.{TakesPart}
use Rattle.hek_history_log.proofs.input.take_part.Goals.{then-end-eq0, else-end-eq0}
use Rattle.hek_history_log.proofs.input.take_part.Goals as goal

-- a read that was interrupted took nothing
took_nothing : (before after : Option (List ℕ)) (bytes : List ℕ) (r : Result Bool LogFault) → Keeps before after → MatchResult r (λ is_whole. is_whole ≡ false) IsEnd
    → MatchResult r (TakesPart before after bytes bytes) IsEnd
took_nothing before after bytes (Ok is_whole) kept is =
    record { part = []; appended = sym (append-nil bytes); taken = Consumes-kept _ _ _ [] (Consumes-nil before) kept; stops = All-nil (λ x. x ≢ 10); goes_on = λ e. All-nil (λ x. x ≢ 10); ends = λ e. cc; nothing_left = λ e none. absurd (cc) }
took_nothing before after bytes (Err fault) kept is = is

-- where no byte was taken, none was ready
none_ready : (ready : List ℕ) (room most end : ℕ) → 0 < room → most ≡ min (length ready) room → (0 < length (take most ready) → 0 < end) → end ≤ length ready
    → length (take end ready) ≡ 0 → length ready ≡ 0
none_ready ready room most end has_room is some within none = grind (arith, length-take most ready, length-take end ready)

pub returns-in-Err : goal.returns-in-Err
returns-in-Err g c = took_nothing _ _ c.args.bytes.now.items c.unless_interrupted.result c.fill_buf.follows.holds-at-none.0 c.unless_interrupted.ensures

pub returns : goal.returns
returns g c =
    let ready = c.in-Ok.ready.now in
    let end = c.len_through_line-end in
    let most = c.min-most.result in
    let within : end.result ≤ length ready = omega (arith, length-take most ready) in
    let some = none_ready ready _ most end.result (omega arith) c.min-most.ensures end.ensures.some within in
    let rested = c.fill_buf.follows.lender-at-none in
    let filled = subst (FillKeeps _ (g.B.Read.remaining rested) (g.B.BufRead.consumable_len rested)) c.in-Ok.is c.fill_buf.follows.holds-at-none in
    let same : c.if-end-eq0.input ≡ rested = search rules in
    let drops = subst (λ r. DropsConsumable (g.B.Read.remaining r) (g.B.Read.remaining c.consume.new.self) (g.B.BufRead.consumable_len r) end.result) same c.consume.ensures.bytes in
    let moved = Consumes_shown _ _ _ _ ready end.result within c.in-Ok.ensures.front c.in-Ok.ensures.end filled.0 filled.1 drops in
    let before : All (λ x. x ≢ 10) (take (end.result - 1) ready) = subst (All (λ x. x ≢ 10)) (take-take (end.result - 1) most ready (omega (arith, length-take most ready))) end.ensures.before in
    record {
      part = take end.result ready;
      appended = c.in_ok-extend_from_slice.ensures.items;
      taken = moved.0;
      stops = StopsAt-take ready 10 end.result within before;
      goes_on = λ more. elim c.if-end-eq0.branch [
        | then-end-eq0 w ↦ absurd (false≢true (sym more ∙ w.is_whole-is ∙ eq-eqb _ _ w.if-end-eq0.true))
        | else-end-eq0 w ↦ subst (λ k. All (λ x. x ≢ 10) (take k ready)) (omega (arith, w.if-end-eq0.false))
            (All-more (λ x. x ≢ 10) ready (end.result - 1) 0 (omega (arith, w.if-end-eq0.false)) before (λ e. false≢true (sym more ∙ w.is_whole-is ∙ eq-eqb _ _ e)))
      ];
      ends = λ whole some.
          let long = length-take-le end.result ready within in
          elim c.if-end-eq0.branch [
            | then-end-eq0 w ↦ absurd (omega (arith, w.if-end-eq0.true))
            | else-end-eq0 w ↦ ap (λ n. get_or (take end.result ready) (n - 1) 0) long
                ∙ get_or-take end.result ready (end.result - 1) 0 (omega arith) ∙ eqb-true _ _ (sym w.is_whole-is ∙ whole)
          ];
      nothing_left = λ whole none. moved.1 (some none);
    }
