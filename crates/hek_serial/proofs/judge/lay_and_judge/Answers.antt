use Rattle.std.proofs.Common.{◌≡◌, ◌∙◌, ◌+◌, ◌<◌, ◌≤◌, ℕ, ap, sym, subst, arith}
use Rattle.std.specs.List.{zip}
use Rattle.hek_rules.specs.Serial.{write_of, writes_of, lay_all, IsRightAt}
use Rattle.hek_rules.proofs.Zips.{zip-length}
use Rattle.hek_serial.specs.BucketRows.{BucketRows}
use Rattle.hek_serial.specs.Links.{IsNextOf}
use Rattle.hek_serial.proofs.EndSteps.{all_taken}
use Rattle.hek_serial.proofs.Judged.{entry_at, right_from, right_to, true_false}
use Rattle.hek_serial.proofs.LinkSteps.{first_is}
use Rattle.hek_serial.proofs.Skips.{IsWrongBefore, wrong-none, wrong-here, wrong-on, writes-between}
use Rattle.hek_serial.proofs.Undo.{lay_one_more}
use Rattle.hek_serial.proofs.judge.lay_and_judge.Goals as goal
use Rattle.hek_serial.proofs.judge.lay_and_judge.Goals.{then-wrong-events+then-not-is_right_to, else-wrong-events, else-wrong-events-via-then-wrong-events+else-not-is_right_to, else-wrong-events-via-else-wrong-events}

pub loop-at-init : goal.loop-at-init
loop-at-init c =
    let es = c.args.events.now in
    let rs = c.args.replies.now in
    let t = c.args.t in
    let rows = c.args.rows.now in
    let is = first_is es c.args.links.now.near.items c.args.links.now.far c.args.links.now.next.items t c.first-at.result c.requires.links c.first-at.ensures in
    record {
      within = is.within;
      here = is.there;
      rows = ap (λ ws. record { buckets = rows.buckets; rows = lay_all ws rows.rows }) (sym (writes-between t es rs 0 c.first-at.result is.on is.between));
      first = subst (IsWrongBefore c.args.level rows.buckets t rows.rows (zip es rs) c.first-at.result) (zip-length es rs c.requires.same)
          (wrong-none c.args.level rows.buckets t rows.rows es rs c.first-at.result is.between);
    }

pub loop-at-smaller : goal.loop-at-smaller
loop-at-smaller c =
    let is = c.requires.links.follows c.args.t c.loop-at.at (c.loop-at.invariant.here c.loop-at-test.true) in
    let on = is.on in
    let within = is.within in
    omega (arith, on, within, c.next-next.ensures, c.loop-at-test.true)

pub loop-at-preserved : goal.loop-at-preserved
loop-at-preserved c =
    let es = c.args.events.now in
    let rs = c.args.replies.now in
    let h = zip es rs in
    let t = c.args.t in
    let i = c.loop-at.at in
    let n = c.next-next.result in
    let e = c.index-events-at-in-loop-at.result in
    let r = c.index-replies-at-in-loop-at.result in
    let rows = c.args.rows.now in
    let at = entry_at es rs i e r c.requires.same c.loop-at-test.true c.index-events-at-in-loop-at.is c.index-replies-at-in-loop-at.is in
    let is = subst (IsNextOf t es (i + 1)) (sym c.next-next.ensures) (c.requires.links.follows t i (c.loop-at.invariant.here c.loop-at-test.true)) in
    let long = zip-length es rs c.requires.same in
    let buckets = ap (λ (s : BucketRows). s.buckets) c.loop-at.invariant.rows in
    let found = ap (λ (s : BucketRows). s.rows) c.loop-at.invariant.rows in
    let level = c.args.level in
    let first = c.loop-at.invariant.first in
    let on = is.on in
    record {
      within = is.within;
      here = is.there;
      rows = c.in_ok-lay_at.ensures ∙ ap (λ (s : BucketRows). record { buckets = s.buckets; rows = lay_all (write_of t e r) s.rows }) c.loop-at.invariant.rows
          ∙ ap (λ xs. record { buckets = rows.buckets; rows = xs })
          (sym (lay_one_more t h i e r rows.rows at) ∙ ap (λ ws. lay_all ws rows.rows) (sym (writes-between t es rs (i + 1) n is.on is.between)));
      first = elim c.if-wrong-events.branch as (λ _. IsWrongBefore level rows.buckets t rows.rows h n c.if-wrong-events.wrong) [
        | then-wrong-events+then-not-is_right_to w ↦
            let x = w.index-events-at.result in
            let y = w.index-replies-at.result in
            let there = entry_at es rs i x y c.requires.same c.loop-at-test.true w.index-events-at.is w.index-replies-at.is in
            subst (IsWrongBefore level rows.buckets t rows.rows h n) (sym w.wrong-is)
            (wrong-here level rows.buckets t rows.rows h i n c.loop-at.wrong first (w.if-wrong-events.true ∙ sym long) (omega (arith, long, c.loop-at-test.true)) (omega (arith, on))
            (λ right.
            true_false w.is_right_to.result
            (w.is_right_to.ensures.1 (λ mine. subst (λ b. IsRightAt level b c.loop-at.rows.rows x y) (sym buckets) (right_to level rows.buckets t rows.rows c.loop-at.rows.rows h i x y there found right mine)))
            w.if-not-is_right_to.true))
        | else-wrong-events w ↦
            subst (IsWrongBefore level rows.buckets t rows.rows h n) (sym w.wrong-is)
            (elim w.else-wrong-events.branch as (λ _. IsWrongBefore level rows.buckets t rows.rows h n c.loop-at.wrong) [
              | else-wrong-events-via-then-wrong-events+else-not-is_right_to v ↦
                  let x = v.index-events-at.result in
                  let y = v.index-replies-at.result in
                  let there = entry_at es rs i x y c.requires.same c.loop-at-test.true v.index-events-at.is v.index-replies-at.is in
                  wrong-on level rows.buckets t rows.rows es rs i n c.loop-at.wrong first (omega (arith, on))
                  (λ _. right_from level rows.buckets t rows.rows c.loop-at.rows.rows h i x y there found
                  (λ mine. subst (λ b. IsRightAt level b c.loop-at.rows.rows x y) buckets (v.is_right_to.ensures.0 v.if-not-is_right_to.false mine))) is.between
              | else-wrong-events-via-else-wrong-events v ↦
                  wrong-on level rows.buckets t rows.rows es rs i n c.loop-at.wrong first (omega (arith, on))
                  (λ l. absurd (past first.within first.early (λ e. v.if-wrong-events.false (e ∙ long)) l)) is.between
            ])
      ];
    }
  where
    past : {w i m : ℕ} → w ≤ m → (w < m → w < i) → (w ≡ m → ⊥) → i < w → ⊥
    past within early other l = omega (arith, within, early, other, l)

pub next-next-requires : goal.next-next-requires
next-next-requires c = let long = c.requires.links.long in omega (arith, long, c.loop-at-test.true)

pub returns-clause-first : goal.returns-clause-first
returns-clause-first c =
    let long = zip-length c.args.events.now c.args.replies.now c.requires.same in
    let first = c.loop-at.invariant.first in
    let within = first.within in
    record {
      within = within;
      right = λ j l. first.right j l (omega (arith, l, within, long, c.loop-at-test.false));
      wrong = first.wrong;
    }

pub returns-clause-laid : goal.returns-clause-laid
returns-clause-laid c =
    let h = zip c.args.events.now c.args.replies.now in
    let rows = c.args.rows.now in
    let long = zip-length c.args.events.now c.args.replies.now c.requires.same in
    c.loop-at.invariant.rows ∙ ap (λ g. record { buckets = rows.buckets; rows = lay_all (writes_of c.args.t g) rows.rows }) (all_taken h c.loop-at.at (omega (arith, long, c.loop-at-test.false)))
