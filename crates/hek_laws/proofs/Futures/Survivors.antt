-- The futures of a world; each future of the next world is one of this world.
use Rattle.std.proofs.Common.{◌≡◌, ℕ, Bool, true, false, List, ◌∙◌, sym, ⊎_elim}
use Rattle.std.proofs.lemmas.Bool.{cases_Bool, false≢true, and_parts, and_from, or_cases, or_left, or_right}
use Rattle.std.specs.Prelude.{◌&&◌, ◌||◌, ◌⊎◌}
use Rattle.hek_rules.specs.declared.event.State.{State}
use Rattle.hek_rules.specs.declared.event.State.TheVariants.{NotBegun, Active, Preparing, Committed, Aborted, Terminated}
use Rattle.hek_rules.specs.declared.event.Event.{Event}
use Rattle.hek_rules.specs.declared.reply.Reply.{Reply}
use Rattle.hek_rules.specs.Listing.{has, is_among}
use Rattle.hek_rules.specs.World.{World, txn_in, declared, is_preparing}
use Rattle.hek_rules.specs.Serial.{committed_in}

abbrev pub History : Type 0
History = List (Event × Reply)

-- t has committed in the history
abbrev pub has_committed : History → ℕ → Bool
has_committed h t = is_among (committed_in h) t

-- t has drawn its end time and can still commit, or has committed
abbrev pub is_drawn : World → History → ℕ → Bool
is_drawn w h t = is_preparing (txn_in w.txns t).state || has_committed h t

-- a set of transactions, of those that have drawn an end time, that may be exactly the committed ones in the end
pub record Future (w : World) (h : History) (A : ℕ → Bool) : Type 0 where
  pub drawn : (u : ℕ) → A u ≡ true → is_drawn w h u ≡ true
  pub committed : (u : ℕ) → has_committed h u ≡ true → A u ≡ true
  pub hopeful : (u : ℕ) → A u ≡ true → is_preparing (txn_in w.txns u).state ≡ true → (txn_in w.txns u).abort_now ≡ false
  pub closed : (u t : ℕ) → has w.dependents u t ≡ true → A t ≡ true → A u ≡ true

-- t may still commit in this future
pub record Viable (w : World) (A : ℕ → Bool) (t : ℕ) : Type 0 where
  pub active : (txn_in w.txns t).state ≡ Active
  pub hopeful : (txn_in w.txns t).abort_now ≡ false
  pub depends : (u : ℕ) → has w.dependents u t ≡ true → A u ≡ true

-- a transaction that others depend on is Preparing, and a committed one depends on nobody
pub record Dependences (w : World) (h : History) : Type 0 where
  pub first : (u t : ℕ) → has w.dependents u t ≡ true → is_preparing (txn_in w.txns u).state ≡ true
  pub second : (u t : ℕ) → has w.dependents u t ≡ true → has_committed h t ≡ false
  pub known : (u t : ℕ) → has w.dependents u t ≡ true → declared w.txns t ≡ true

-- what one event may change of commits, dooms and dependencies
pub record Goes (w : World) (h : History) (new : World) (later : History) : Type 0 where
  pub committed : (u : ℕ) → has_committed h u ≡ true → has_committed later u ≡ true
  pub abort_now : (u : ℕ) → is_preparing (txn_in w.txns u).state ≡ true → (txn_in w.txns u).abort_now ≡ true → is_drawn new later u ≡ true → is_preparing (txn_in new.txns u).state ≡ true
  pub stays : (u : ℕ) → (txn_in w.txns u).abort_now ≡ true → (txn_in new.txns u).abort_now ≡ true
  -- a dependency ends when the transaction depended on commits, or aborts and dooms the other
  pub dependence : (u t : ℕ) → has w.dependents u t ≡ true → (has new.dependents u t ≡ true) ⊎ ((has_committed later u ≡ true) ⊎ ((txn_in new.txns t).abort_now ≡ true) × (has_committed later t ≡ false))

-- the future as it was before the event
abbrev pub before : World → History → (ℕ → Bool) → ℕ → Bool
before w h A u = A u && is_drawn w h u

pub Future-before : (w : World) (h : History) (new : World) (later : History) (A : ℕ → Bool) → Goes w h new later → Dependences w h → Future new later A → Future w h (before w h A)
Future-before w h new later A g d f = record {
  drawn = λ u k. (and_parts (A u) (is_drawn w h u) k).1;
  committed = λ u k. and_from (A u) (is_drawn w h u) (f.committed u (g.committed u k)) (or_right _ _ k);
  hopeful = λ u k p. ⊎_elim
      (λ bad.
      let a = (and_parts (A u) (is_drawn w h u) k).0 in
      let still = g.abort_now u p bad (f.drawn u a) in
      absurd (false≢true (sym (f.hopeful u a still) ∙ g.stays u bad)))
      (λ good. good) (cases_Bool (txn_in w.txns u).abort_now);
  closed = λ u t c k.
      let a = (and_parts (A t) (is_drawn w h t) k).0 in
      and_from (A u) (is_drawn w h u)
      (⊎_elim (λ still. f.closed u t still a)
      (λ ended. ⊎_elim (λ done. f.committed u done)
      (λ p.
      let draws = f.drawn t a in
      let prep = ⊎_elim (λ x. x) (λ x. absurd (false≢true (sym p.1 ∙ x))) (or_cases _ _ draws) in
      absurd (false≢true (sym (f.hopeful t a prep) ∙ p.0))) ended)
      (g.dependence u t c))
      (or_left _ _ (d.first u t c));
}

-- a state after the commit: Committed, or Terminated
abbrev pub is_settled : State → Bool
is_settled Committed = true
is_settled Terminated = true
is_settled NotBegun = false
is_settled Active = false
is_settled Preparing = false
is_settled (Aborted cause) = false

pub record Settled (w : World) (h : History) : Type 0 where
  pub settled : (u : ℕ) → has_committed h u ≡ true → is_settled (txn_in w.txns u).state ≡ true

pub live-uncommitted : (w : World) (h : History) (u : ℕ) → Settled w h → is_settled (txn_in w.txns u).state ≡ false → has_committed h u ≡ false
live-uncommitted w h u s l = ⊎_elim (λ yes. absurd (false≢true (sym l ∙ s.settled u yes))) (λ no. no) (cases_Bool (has_committed h u))
