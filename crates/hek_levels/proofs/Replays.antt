-- One point more.
use Rattle.std.proofs.Common.{◌≡◌, ◌==◌, ℕ, suc, ◌+◌, ◌<◌, ◌≤◌, true, false, cond, List, Option, Some, None, refl, sym, ap, ◌∙◌, subst, inl, inr, arith}
use Rattle.std.specs.Prelude.{slice_get, is_some}
use Rattle.std.proofs.lemmas.Bool.{cases_Bool, eqb-true}
use Rattle.hek_rules.specs.Listing.{value_of}
use Rattle.hek_levels.specs.declared.log.Log.{Log}
use Rattle.hek_levels.specs.declared.log.Read.{Read}
use Rattle.hek_levels.specs.declared.log.Turn.{Turn}
use Rattle.hek_levels.specs.declared.log.Place.{Place}
use Rattle.hek_levels.specs.declared.rules.Asked.{Asked}
use Rattle.hek_levels.specs.Levels.{asked_of}
use Rattle.hek_levels.specs.Logs.{meets, meets_in, read_at, does_write, writes_of, turns_of, left_in, left_by, is_earlier}
use Rattle.hek_levels.specs.Seen.{At}
use Rattle.hek_levels.specs.Rows.{left_over}
use Rattle.hek_levels.specs.Points.{writer_with, last_writer, ReadsAt, sees_turns, IsClosed, IsReplay}
use Rattle.hek_levels.specs.Sweeps.{AreLast, AreLaned, AreRaised}
use Rattle.hek_levels.proofs.Orders.{some_is, same_at, cases_below}
use Rattle.hek_levels.proofs.Marks.{at_entry, at_others}
use Rattle.hek_levels.proofs.Turned.{not_earlier}
use Rattle.hek_levels.proofs.Lasts.{last_more}

none-some : (n : ℕ) → ◌≡◌ {A = Option ℕ} None (Some n) → ⊥
none-some n e = cc

pub replay_start : (asked : Asked) (log : Log) (order : List ℕ) (rows begun last looking : ℕ → Option ℕ) → ((k : ℕ) → rows k ≡ value_of log.rows.items k) → ((k : ℕ) → begun k ≡ None) → ((k : ℕ) → last k ≡ None) →
    IsReplay asked log order 0 rows begun last looking
replay_start asked log order rows begun last looking same none none' = record {
  left = (λ key. ap Some (sym (same key)));
  lasts = record { all = (λ i x key l a w. absurd (omega (arith, l))) };
  reads = (λ t n is. absurd (none-some n (sym (none t) ∙ is)));
  looks = (λ t n is on. absurd (none-some n (sym (none t) ∙ is)));
  apart = (λ t n j x is on le l a. absurd (omega (arith, l)));
  committed = (λ j t l a. absurd (omega (arith, l)));
}

module _ (asked : Asked) (log : Log) (order : List ℕ) (i : ℕ) (rows begun last looking : ℕ → Option ℕ) (r : IsReplay asked log order i rows begun last looking) where
  -- who reads what the rows have reads what the first i left
  reads-rows : (t : ℕ) → ((p : Place) (read : Read) → read_at log t p ≡ Some read → meets read.need (rows read.key) ≡ true) → ReadsAt log order i t
  reads-rows t met p read there = ap (λ (o : Option (Option ℕ)). meets_in read.need o) (r.left read.key) ∙ met p read there

  pub replay_begin : (t : ℕ) (begun' looking' : ℕ → Option ℕ) → begun t ≡ None → ((p : Place) (read : Read) → read_at log t p ≡ Some read → meets read.need (rows read.key) ≡ true) →
      ((k : ℕ) → begun' k ≡ cond (t == k) (Some i) (begun k)) → AreRaised looking looking' → (sees_turns (asked_of asked t) ≡ true → AreLaned log looking' t) → IsReplay asked log order i rows begun' last looking'
  replay_begin t begun' looking' none met more raised known = record {
    left = r.left;
    lasts = r.lasts;
    reads = (λ x n is.
        elim (cases_Bool (t == x)) [
          | inl same ↦
              let y : t ≡ x = eqb-true t x same in
              let m : i ≡ n = some_is i n (sym (at_entry begun begun' t i more x y) ∙ is) in
              (omega (arith, m), subst (λ (k : ℕ). ReadsAt log order k x) m (subst (λ (z : ℕ). ReadsAt log order i z) y (reads-rows t met)))
          | inr other ↦ r.reads x n (sym (at_others begun begun' t i more x other) ∙ is)
        ]);
    looks = (λ x n is on.
        elim (cases_Bool (t == x)) [
          | inl same ↦
              let y : t ≡ x = eqb-true t x same in
              subst (λ (z : ℕ). AreLaned log looking' z) y (known (subst (λ (z : ℕ). sees_turns (asked_of asked z) ≡ true) (sym y) on))
          | inr other ↦
              let old = r.looks x n (sym (at_others begun begun' t i more x other) ∙ is) on in
              λ k turn there seen. raised turn.lane turn.first (old k turn there seen)
        ]);
    apart = (λ x n j y is on le l a.
        elim (cases_Bool (t == x)) [
          | inl same ↦
              let m : i ≡ n = some_is i n (sym (at_entry begun begun' t i more x (eqb-true t x same)) ∙ is) in
              absurd (omega (arith, m, le, l))
          | inr other ↦ r.apart x n j y (sym (at_others begun begun' t i more x other) ∙ is) on le l a
        ]);
    committed = (λ j x l a.
        let old = r.committed j x l a in
        elim (cases_Bool (t == x)) [
          | inl same ↦ absurd (none-some old.0 (sym none ∙ subst (λ (z : ℕ). begun z ≡ Some old.0) (sym (eqb-true t x same)) old.1))
          | inr other ↦ (old.0, at_others begun begun' t i more x other ∙ old.1, old.2)
        ]);
  }

  -- what one more left
  left-with : (t key : ℕ) → At order i t → left_by log key (last_writer log order key (suc i)) ≡ Some (left_over (left_in (writes_of log t) key) (rows key))
  left-with t key a = ap (λ (o : Option ℕ). left_by log key (writer_with log key o (last_writer log order key i))) a ∙ go (left_in (writes_of log t) key) refl
    where
      go : (o : Option (Option ℕ)) → left_in (writes_of log t) key ≡ o → left_by log key (writer_with log key (Some t) (last_writer log order key i)) ≡ Some (left_over (left_in (writes_of log t) key) (rows key))
      go None is =
          let not_so : does_write log t key ≡ false = ap is_some is in
          rw not_so (r.left key ∙ rw is refl)
      go (Some v) is =
          let does : does_write log t key ≡ true = ap is_some is in
          rw does (is ∙ rw is refl)

  pub replay_commit : (t low : ℕ) (rows' last' : ℕ → Option ℕ) → At order i t → begun t ≡ Some low → IsClosed (asked_of asked t) log order low i t →
      ((n m : ℕ) (turn : Turn) → slice_get (turns_of log t) n ≡ Some turn → looking turn.lane ≡ Some m → m ≤ turn.last) →
      ((k : ℕ) → rows' k ≡ left_over (left_in (writes_of log t) k) (rows k)) → ((k : ℕ) → last' k ≡ cond (is_some (left_in (writes_of log t) k)) (Some i) (last k)) →
      IsReplay asked log order (i + 1) rows' begun last' looking
  replay_commit t low rows' last' a is closed come changed more = record {
    left = (λ key.
        let one : i + 1 ≡ suc i = omega arith in
        ap (λ (n : ℕ). left_by log key (last_writer log order key n)) one ∙ left-with t key a ∙ ap Some (sym (changed key)));
    lasts = last_more log order i t last last' r.lasts a more;
    reads = (λ x n b. let old = r.reads x n b in let le = old.0 in (omega (arith, le), old.1));
    looks = r.looks;
    apart = (λ x n j y b on le l c.
        elim (cases_below j i l) [
          | inl less ↦ r.apart x n j y b on le less c
          | inr same ↦
              let z : t ≡ y = same_at order i t y a (subst (λ (k : ℕ). At order k y) same c) in
              subst (λ (k : ℕ). is_earlier log k x ≡ false) z (not_earlier log looking t x (r.looks x n b on) come)
        ]);
    committed = (λ j x l b.
        elim (cases_below j i l) [
          | inl less ↦ r.committed j x less b
          | inr same ↦
              let z : t ≡ x = same_at order i t x a (subst (λ (k : ℕ). At order k x) same b) in
              let back : i ≡ j = sym same in
              (low, subst (λ (k : ℕ). begun k ≡ Some low) z is, subst (λ (n : ℕ). IsClosed (asked_of asked x) log order low n x) back (subst (λ (k : ℕ). IsClosed (asked_of asked k) log order low i k) z closed))
        ]);
  }

-- nobody has written a key of t since
pub closed_writers : (log : Log) (order : List ℕ) (low i t : ℕ) (last : ℕ → Option ℕ) → AreLast log order i last → ((key m : ℕ) → does_write log t key ≡ true → last key ≡ Some m → m < low) →
    (k x key : ℕ) → low ≤ k → k < i → At order k x → does_write log x key ≡ true → does_write log t key ≡ false
closed_writers log order low i t last known since k x key ge l a w =
    elim (cases_Bool (does_write log t key)) [
      | inr not_so ↦ not_so
      | inl does ↦
          let f = known.all k x key l a w in
          let less = since key f.0 does f.1 in
          let more = f.2 in
          absurd (omega arith)
    ]
