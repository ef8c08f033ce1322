-- A history that records a serial transcript has the order of end times as an explanation.
use Rattle.std.proofs.Common.{◌≡◌, ℕ, zero, suc, ◌<◌, ◌≤◌, Bool, true, false, List, [], ◌∷◌, Option, Some, refl, sym, ap, ◌∙◌, subst, take, arith}
use Rattle.std.proofs.lemmas.Bool.{cond-true, ltb-true}
use Rattle.std.specs.Prelude.{nat_lt, slice_get, filter}
use Rattle.hek_rules.specs.declared.event.Level.TheVariants.{Serializable}
use Rattle.hek_rules.specs.declared.event.Event.{Event}
use Rattle.hek_rules.specs.declared.reply.Reply.{Reply}
use Rattle.hek_rules.specs.declared.serial.Verdict.TheVariants.{Serial}
use Rattle.hek_rules.specs.Recorded.{Recorded}
use Rattle.hek_rules.specs.Listing.{value_of}
use Rattle.hek_rules.specs.Serial.{lay_all as laid, writes_of, end_of as drawn_end, serial_order, serial_rows, laid_over as laid_in}
use Rattle.hek_rules.specs.Faults.{put_all, IsVerdict}
use Rattle.hek_laws.specs.Rows.{AreRising}
use Rattle.hek_laws.proofs.Lists.Rising.{rising-lay_all}
use Rattle.hek_laws.proofs.Runs.Opening.{base-rising}
use Rattle.hek_serial.specs.Leveled.{at_level}
use Rattle.hek_serial.proofs.Orders.{in_order-ender}
use Rattle.hek_history.specs.declared.history.History.{History}
use Rattle.hek_history.specs.declared.history.Operation.{Operation}
use Rattle.hek_history.specs.declared.history.Point.{Point}
use Rattle.hek_history.specs.declared.history.Point.TheVariants.{Begin, Commit}
use Rattle.hek_history.specs.declared.history.Order.TheVariants.{Versions, Times}
use Rattle.hek_history.specs.Answers.{lay_all, AreRight}
use Rattle.hek_history.specs.Histories.{operations_in, operations_of, serializable_at, serializable_in, is_serializable, lenient_at, lenient_in, is_lenient, possible_by, possible_in, is_possible, end_in, end_of, begin_of, laid_over, rows_after}
use Rattle.hek_history.specs.Orders.{earlier, time_of}
use Rattle.hek_history.specs.Explanation.{At, IsBegin, IsCommit, IsExplanation, AreInOrder}
use Rattle.hek_history.proofs.Fronts.{front_at}
use Rattle.hek_history_laws.specs.Recording.{HasCommitted, IsRecordedAt, Records}
use Rattle.hek_history_laws.specs.Laws.{points_of, SerialRunsHaveExplanations}
use Rattle.hek_history_laws.proofs.NoFault.{ends_are_apart, order_rises, ender_of, right_in_turn}
use Rattle.hek_history_laws.proofs.InOrder.{place-from, one_place, earlier_place, filter-before}
use Rattle.hek_history_laws.proofs.Points.{twice, twice-is, turn_begun, turn_committed, begins_at, commits_at, points_before}
use Rattle.hek_history_laws.proofs.Answered.{writes_answered, right_answered, same_values, right_over}

rising-laid_in : (h : List (Event × Reply)) (order rows : List (ℕ × ℕ)) → AreRising rows → AreRising (laid_in h order rows)
rising-laid_in h [] rows r = r
rising-laid_in h (x ∷ xs) rows r = rising-laid_in h xs (laid (writes_of x.1 h) rows) (rising-lay_all (writes_of x.1 h) rows r)

module _ (s : Recorded) (h : History) (place : ℕ → ℕ) (some : 0 < s.buckets) (serial : IsVerdict (at_level Serializable s) Serial) (rec : Records h place s) where
  abbrev order : List (ℕ × ℕ)
  order = serial_order s.history

  abbrev points : List Point
  points = points_of place order

  -- ---- what is recorded

  found : (t : ℕ) → HasCommitted s t → IsRecordedAt s h (place t) t
  found t c = rec.committed t c

  possible : (t : ℕ) → HasCommitted s t → is_possible h (place t) ≡ true
  possible t c = let f = found t c in ap possible_in f.at ∙ ap possible_by f.run.status

  serializable : (t : ℕ) → HasCommitted s t → is_serializable h (place t) ≡ true
  serializable t c = let f = found t c in ap serializable_in f.at ∙ ap serializable_at f.run.level

  strict : (t : ℕ) → HasCommitted s t → is_lenient h (place t) ≡ false
  strict t c = let f = found t c in ap lenient_in f.at ∙ ap lenient_at f.run.level

  ends : (t : ℕ) → HasCommitted s t → end_of h (place t) ≡ drawn_end t s.history
  ends t c = let f = found t c in ap end_in f.at ∙ f.run.end

  -- the writes of a transaction, over rows with the same values
  writes_agree : (t : ℕ) → HasCommitted s t → (rows others : List (ℕ × ℕ)) → ((k : ℕ) → value_of rows k ≡ value_of others k) → (k : ℕ) →
      value_of (lay_all (operations_of h (place t)) rows) k ≡ value_of (laid (writes_of t s.history) others) k
  writes_agree t c rows others same k =
      let f = found t c in
      let ops = f.found.operations.items in
      ap (λ (o : List Operation). value_of (lay_all o rows) k) (ap operations_in f.at)
      ∙ same_values ops rows others same k
      ∙ ap (λ rs. value_of rs k) (sym (writes_answered s.buckets t s.history ops others f.run.operations))

  rows_agree : (xs : List (ℕ × ℕ)) → ((n : ℕ) (x : ℕ × ℕ) → slice_get xs n ≡ Some x → HasCommitted s x.1) → (rows others : List (ℕ × ℕ)) → ((k : ℕ) → value_of rows k ≡ value_of others k) → (k : ℕ) →
      value_of (laid_over h (points_of place xs) rows) k ≡ value_of (laid_in s.history xs others) k
  rows_agree [] c rows others same k = same k
  rows_agree (x ∷ xs) c rows others same k =
      rows_agree xs (λ n y there. c (suc n) y there) (lay_all (operations_of h (place x.1)) rows) (laid (writes_of x.1 s.history) others) (writes_agree x.1 (c zero x refl) rows others same) k

  -- the rows at a turn
  rows_at : (n : ℕ) (x : ℕ × ℕ) → slice_get order n ≡ Some x → (k : ℕ) → value_of (serial_rows s.history (put_all s.rows []) x.0) k ≡ value_of (rows_after h (take (twice n) points)) k
  rows_at n x there k =
      ap (λ xs. value_of (laid_in s.history xs (put_all s.rows [])) k) (filter-before order n x (order_rises s serial) there)
      ∙ sym (rows_agree (take n order) (λ m y at. (ender_of s m y ((front_at order n m y at).1)).committed) h.rows.items (put_all s.rows []) rec.rows k)
      ∙ ap (λ ps. value_of (laid_over h ps h.rows.items) k) (sym (points_before place order n))

  answers : (n : ℕ) (x : ℕ × ℕ) → slice_get order n ≡ Some x → AreRight (is_lenient h (place x.1)) (operations_of h (place x.1)) (rows_after h (take (twice n) points))
  answers n x there =
      let end = ender_of s n x there in
      let f = found x.1 end.committed in
      let ops = f.found.operations.items in
      let rows = serial_rows s.history (put_all s.rows []) x.0 in
      let risen : AreRising rows = rising-laid_in s.history (filter (λ (y : ℕ × ℕ). nat_lt y.0 x.0) order) (put_all s.rows []) (base-rising s.rows) in
      let right : AreRight false ops rows = right_answered s.buckets x.1 s.history ops rows some risen f.run.operations (right_in_turn s serial x end) in
      let here : AreRight false ops (rows_after h (take (twice n) points)) = right_over ops rows (rows_after h (take (twice n) points)) (rows_at n x there) right in
      let of : AreRight false (operations_of h (place x.1)) (rows_after h (take (twice n) points)) =
      subst (λ (o : List Operation). AreRight false o (rows_after h (take (twice n) points))) (sym (ap operations_in f.at)) here in
      subst (λ (b : Bool). AreRight b (operations_of h (place x.1)) (rows_after h (take (twice n) points))) (sym (strict x.1 end.committed)) of

  -- ---- turns

  same_end : (m n : ℕ) → ◌≡◌ {A = Option ℕ} (Some m) (Some n) → m ≡ n
  same_end m n e = cc

  same_turn : (m n : ℕ) (x y : ℕ × ℕ) → slice_get order m ≡ Some x → slice_get order n ≡ Some y → place x.1 ≡ place y.1 → m ≡ n
  same_turn m n x y a b same =
      let c = ender_of s m x a in
      let d = ender_of s n y b in
      let one : x.1 ≡ y.1 = rec.apart x.1 y.1 c.committed d.committed same in
      let time : x.0 ≡ y.0 = same_end x.0 y.0 (sym c.end ∙ ap (λ t. drawn_end t s.history) one ∙ d.end) in
      one_place order m n x y (order_rises s serial) a b time

  begins_once : (n : ℕ) (x : ℕ × ℕ) → slice_get order n ≡ Some x → (j : ℕ) → At points j (Begin (place x.1)) → j ≡ twice n
  begins_once n x there j a =
      let r = turn_begun place order j (place x.1) a in
      let t = r.2 in
      r.1 ∙ ap twice (same_turn r.0 n t.entry x t.there there t.named)

  commits_once : (n : ℕ) (x : ℕ × ℕ) → slice_get order n ≡ Some x → (j : ℕ) → At points j (Commit (place x.1)) → j ≡ suc (twice n)
  commits_once n x there j a =
      let r = turn_committed place order j (place x.1) a in
      let t = r.2 in
      r.1 ∙ ap (λ m. suc (twice m)) (same_turn r.0 n t.entry x t.there there t.named)

  begin_is : (n : ℕ) (x : ℕ × ℕ) → slice_get order n ≡ Some x → IsBegin h points (twice n) (place x.1)
  begin_is n x there =
      let end = ender_of s n x there in
      record {
        possible = possible x.1 end.committed;
        once = begins_once n x there;
        ends = (suc (twice n), omega arith, commits_at place order n x there);
        beside = λ _. commits_at place order n x there;
        answers = answers n x there;
      }

  none_between : (a m n : ℕ) → m ≡ a → m < n → n < suc a → ⊥
  none_between a m n e l g = omega (arith, e, l, g)

  commit_is : (n : ℕ) (x : ℕ × ℕ) → slice_get order n ≡ Some x → IsCommit h points (suc (twice n)) (place x.1)
  commit_is n x there = record {
    once = commits_once n x there;
    begun = (twice n, omega arith, begins_at place order n x there);
    first = λ j m y key a b less more v w. none_between (twice n) j m (begins_once n x there j a) less more;
  }

  explanation : IsExplanation h points
  explanation = record {
    begins = λ i p a.
        (let r = turn_begun place order i p a in
        let t = r.2 in
        subst (λ (q : ℕ). IsBegin h points i q) t.named (subst (λ (j : ℕ). IsBegin h points j (place t.entry.1)) (sym r.1) (begin_is r.0 t.entry t.there)));
    commits = λ i p a.
        (let r = turn_committed place order i p a in
        let t = r.2 in
        subst (λ (q : ℕ). IsCommit h points i q) t.named (subst (λ (j : ℕ). IsCommit h points j (place t.entry.1)) (sym r.1) (commit_is r.0 t.entry t.there)));
    committed = λ p c.
        (let o = rec.others p c in
        let end = (ends_are_apart s serial).drawn o.0 o.1 in
        let at = place-from (end.0, o.0) order (in_order-ender s.history o.0 end.0 o.1 end.1) in
        (suc (twice at.0), subst (λ (q : ℕ). At points (suc (twice at.0)) (Commit q)) o.2 (commits_at place order at.0 (end.0, o.0) at.1)));
  }

  -- ---- the orders that are asked for

  -- a point is in a turn, and its time is the end time of that turn
  record IsInTurn (p : Point) (i : ℕ) : Type 0 where
    turn : ℕ
    entry : ℕ × ℕ
    there : slice_get order turn ≡ Some entry
    from : twice turn ≤ i
    upto : i ≤ suc (twice turn)
    time : time_of h p ≡ Some entry.0

  in_turn : (p : Point) (i : ℕ) → At points i p → IsInTurn p i
  in_turn (Begin p) i a =
      let r = turn_begun place order i p a in
      let t = r.2 in
      let end = ender_of s r.0 t.entry t.there in
      let at : i ≡ twice r.0 = r.1 in
      record {
        turn = r.0;
        entry = t.entry;
        there = t.there;
        from = omega (arith, at);
        upto = omega (arith, at);
        time = (subst (λ (q : ℕ). time_of h (Begin q) ≡ Some t.entry.0) t.named
            (cond-true (is_serializable h (place t.entry.1)) (end_of h (place t.entry.1)) (begin_of h (place t.entry.1)) (serializable t.entry.1 end.committed)
            ∙ ends t.entry.1 end.committed ∙ end.end));
      }
  in_turn (Commit p) i a =
      let r = turn_committed place order i p a in
      let t = r.2 in
      let end = ender_of s r.0 t.entry t.there in
      let at : i ≡ suc (twice r.0) = r.1 in
      record {
        turn = r.0;
        entry = t.entry;
        there = t.there;
        from = omega (arith, at);
        upto = omega (arith, at);
        time = subst (λ (q : ℕ). time_of h (Commit q) ≡ Some t.entry.0) t.named (ends t.entry.1 end.committed ∙ end.end);
      }

  times_in_order : AreInOrder h Times points
  times_in_order p q asked i j a b =
      let x = in_turn p i a in
      let y = in_turn q j b in
      let less : nat_lt x.entry.0 y.entry.0 ≡ true = sym (ap (λ o. earlier o (time_of h q)) x.time ∙ ap (earlier (Some x.entry.0)) y.time) ∙ asked in
      let before : x.turn < y.turn = earlier_place order x.turn y.turn x.entry y.entry (order_rises s serial) x.there y.there (ltb-true _ _ less) in
      let m = twice-is x.turn in
      let n = twice-is y.turn in
      let u = x.upto in
      let v = y.from in
      omega (arith, before, m, n, u, v)

  versions_in_order : AreInOrder h Versions points
  versions_in_order (Begin p) (Begin q) asked i j a b = absurd asked
  versions_in_order (Begin p) (Commit q) asked i j a b = absurd asked
  versions_in_order (Commit p) (Begin q) asked i j a b = absurd asked
  versions_in_order (Commit p) (Commit q) asked i j a b = times_in_order (Commit p) (Commit q) asked.3 i j a b

pub serial_runs_have_explanations : SerialRunsHaveExplanations
serial_runs_have_explanations s h place some serial rec =
    let e = explanation s h place some serial rec in
    ((e, λ p q asked i j a b. absurd asked), (e, versions_in_order s h place some serial rec), (e, times_in_order s h place some serial rec))
