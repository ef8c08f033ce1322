use Rattle.std.proofs.Common.{[], ◌∷◌, ◌++◌, ◌≡◌, ◌∙◌, ◌+◌, ◌<◌, ℕ, ap, sym, subst, take, arith, ⊎_elim, false, true}
use Rattle.std.proofs.lemmas.Bool.{cases_eq}
use Rattle.std.specs.Prelude.{is_some}
use Rattle.std.specs.List.{zip}
use Rattle.hek_rules.specs.Listing.{value_of}
use Rattle.hek_rules.proofs.Zips.{zip-length}
use Rattle.hek_rules.specs.Serial.{committed_in, committed_by}
use Rattle.hek_laws.proofs.Worlds.Histories.{committed_in-append, append-nil}
use Rattle.hek_serial.proofs.Undo.{take_one_more}
use Rattle.hek_serial.proofs.EndSteps.{ends_more, taken_longer}
use Rattle.hek_serial.specs.Replay.{IsPlain, IsPlainEntry}
use Rattle.hek_serial.specs.Ends.{AreTaken}
use Rattle.hek_serial.proofs.Judged.{entry_at, true_false}
use Rattle.hek_serial.proofs.faults.first_fault.Goals as goal

below_last : (j i : ℕ) → j < i + 1 → (j ≡ i → ⊥) → j < i
below_last j i l n = omega (arith, l, n)

pub loop-i-init : goal.loop-i-init
loop-i-init c =
    record {
      plain = λ j l. absurd (omega (arith, l));
      ends = λ t. ap (λ es. value_of es t) c.new-ends.ensures;
      taken = record { times = []; drawn = tt; are = λ n. ap (λ es. is_some (value_of es n)) (sym c.new-taken.ensures) };
    }

pub returns-then-not-plain : goal.returns-then-not-plain
returns-then-not-plain c =
    let es = c.args.events.now in
    let rs = c.args.replies.now in
    let h = zip es rs in
    let i = c.loop-i.i in
    let at = entry_at es rs i c.index-events-i.result c.index-replies-i.result c.requires c.loop-i-test.true c.index-events-i.is c.index-replies-i.is in
    let long = zip-length es rs c.requires in
    let no : c.in_ok-plain.plain ≡ false = cc in
    record {
      within = omega (arith, long, c.loop-i-test.true);
      right = c.loop-i.invariant.plain;
      wrong = λ _ plain.
          true_false c.in_ok-plain.plain
          ((c.in_ok-plain.ensures.plain (take i h) c.loop-i.invariant.ends c.loop-i.invariant.taken).1 (subst (IsPlainEntry c.args.levels.now (take i h)) at plain)) no;
    }

pub loop-i-preserved : goal.loop-i-preserved
loop-i-preserved c =
    let es = c.args.events.now in
    let rs = c.args.replies.now in
    let h = zip es rs in
    let i = c.loop-i.i in
    let e = c.index-events-i.result in
    let r = c.index-replies-i.result in
    let at = entry_at es rs i e r c.requires c.loop-i-test.true c.index-events-i.is c.index-replies-i.is in
    let yes : c.in_ok-plain.plain ≡ true = cc in
    let here : IsPlain c.args.levels.now h i =
    subst (IsPlainEntry c.args.levels.now (take i h)) (sym at) ((c.in_ok-plain.ensures.plain (take i h) c.loop-i.invariant.ends c.loop-i.invariant.taken).0 yes) in
    let taken = c.in_ok-plain.ensures.taken yes (take i h) c.loop-i.invariant.ends c.loop-i.invariant.taken in
    let more : take (i + 1) h ≡ take i h ++ (e, r) ∷ [] = take_one_more h i (e, r) at in
    let all : committed_in (take i h ++ (e, r) ∷ []) ≡ committed_in (take i h) ++ committed_by e r =
    committed_in-append (take i h) ((e, r) ∷ []) ∙ ap (λ ts. committed_in (take i h) ++ ts) (append-nil (committed_by e r)) in
    record {
      plain = λ j l. ⊎_elim (λ same. subst (IsPlain c.args.levels.now h) (sym same) here) (λ other. c.loop-i.invariant.plain j (below_last j i l other)) (cases_eq j i);
      ends = ends_more h i e r c.loop-i.ends c.note_end.new.ends at c.loop-i.invariant.ends c.in_ok-note_end.ensures;
      taken = subst (λ b. AreTaken b (committed_in b) c.is_plain.new.taken) (sym more)
          (subst (λ ts. AreTaken (take i h ++ (e, r) ∷ []) ts c.is_plain.new.taken) (sym all) (taken_longer (take i h) ((e, r) ∷ []) _ c.is_plain.new.taken taken));
    }

pub returns : goal.returns
returns c =
    let long = zip-length c.args.events.now c.args.replies.now c.requires in
    record {
      within = omega (arith, long);
      right = λ j l. c.loop-i.invariant.plain j (omega (arith, l));
      wrong = λ l. absurd (omega (arith, l, long));
    }
