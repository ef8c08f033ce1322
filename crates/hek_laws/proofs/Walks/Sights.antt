-- The transaction that a sight names, and a version that is seen is held.
use Rattle.std.proofs.Common.{◌≡◌, ℕ, ◌<◌, true, false, List, Some, None, refl, ◌∙◌, ap, sym, arith}
use Rattle.std.proofs.lemmas.Bool.{cond_both, cond-false, false≢true, le-ltb}
use Rattle.std.specs.Prelude.{◌==◌, nat_lt}
use Rattle.hek_rules.specs.declared.event.State.{State}
use Rattle.hek_rules.specs.declared.event.State.TheVariants as state
use Rattle.hek_rules.specs.declared.event.Sight.{Sight}
use Rattle.hek_rules.specs.declared.event.Sight.TheVariants.{Seen, SeenIf, Hidden, HiddenIf, HiddenActive}
use Rattle.hek_rules.specs.declared.word.BeginRecord.{BeginRecord}
use Rattle.hek_rules.specs.declared.word.BeginRecord.TheVariants.{At, By}
use Rattle.hek_rules.specs.World.{World, Txn, Ender, EndedAt, Held, txn_in, is_active, is_preparing}
use Rattle.hek_rules.specs.Visibility.{sight_by, end_sight, own_sight, under_writer, from_creator, promised, is_seen}
use Rattle.hek_laws.specs.Sound.{IsSoundEnder, is_held}

-- the transaction that a sight names is Preparing, or is Active and not the reader t
abbrev pub Counts : List Txn → ℕ → Sight → Type 0
Counts ts t Seen = Unit {0}
Counts ts t (SeenIf u) = is_preparing (txn_in ts u).state ≡ true
Counts ts t Hidden = Unit {0}
Counts ts t (HiddenIf u) = is_preparing (txn_in ts u).state ≡ true
Counts ts t (HiddenActive u) = (is_active (txn_in ts u).state ≡ true) × ((u == t) ≡ false)

module _ (ts : List Txn) (t : ℕ) where
  counts-under : (rt u e : ℕ) (s : State) → (txn_in ts u).state ≡ s → Counts ts t (under_writer rt u e s)
  counts-under rt u e state.Active h = tt
  counts-under rt u e state.Preparing h = cond_both (nat_lt rt e) Seen (HiddenIf u) (Counts ts t) (λ _. tt) (λ _. ap is_preparing h)
  counts-under rt u e state.Committed h = cond_both (nat_lt rt e) Seen Hidden (Counts ts t) (λ _. tt) (λ _. tt)
  counts-under rt u e (state.Aborted c) h = tt
  counts-under rt u e state.NotBegun h = tt
  counts-under rt u e state.Terminated h = tt

  counts-end : (rt : ℕ) (e : Ender) → Counts ts t (end_sight ts t rt e)
  counts-end rt (EndedAt time) = cond_both (nat_lt rt time) Seen Hidden (Counts ts t) (λ _. tt) (λ _. tt)
  counts-end rt (Held None b) = tt
  counts-end rt (Held (Some u) b) = cond_both (u == t) Hidden (under_writer rt u (txn_in ts u).end (txn_in ts u).state) (Counts ts t) (λ _. tt) (λ _. counts-under rt u _ _ refl)

  counts-promised : (u : ℕ) (s : Sight) → is_preparing (txn_in ts u).state ≡ true → Counts ts t s → Counts ts t (promised u s)
  counts-promised u Seen p c = p
  counts-promised u (SeenIf x) p c = c
  counts-promised u Hidden p c = tt
  counts-promised u (HiddenIf x) p c = c
  counts-promised u (HiddenActive x) p c = c

  counts-from : (rt u e : ℕ) (s : State) (x : Sight) → (u == t) ≡ false → (txn_in ts u).state ≡ s → Counts ts t x → Counts ts t (from_creator rt u e s x)
  counts-from rt u e state.Active x n h c = (ap is_active h, n)
  counts-from rt u e state.Preparing x n h c = cond_both (nat_lt rt e) Hidden (promised u x) (Counts ts t) (λ _. tt) (λ _. counts-promised u x (ap is_preparing h) c)
  counts-from rt u e state.Committed x n h c = cond_both (nat_lt rt e) Hidden x (Counts ts t) (λ _. tt) (λ _. c)
  counts-from rt u e (state.Aborted q) x n h c = tt
  counts-from rt u e state.NotBegun x n h c = tt
  counts-from rt u e state.Terminated x n h c = tt

  counts-own : (e : Ender) → Counts ts t (own_sight e)
  counts-own (EndedAt time) = tt
  counts-own (Held None b) = tt
  counts-own (Held (Some u) b) = tt

  pub counts-sight : (rt : ℕ) (c : BeginRecord) (e : Ender) → Counts ts t (sight_by ts t rt c e)
  counts-sight rt (At time) e = cond_both (nat_lt rt time) Hidden (end_sight ts t rt e) (Counts ts t) (λ _. tt) (λ _. counts-end rt e)
  counts-sight rt (By u) e = cond_both (u == t) (own_sight e) (from_creator rt u (txn_in ts u).end (txn_in ts u).state (end_sight ts t rt e)) (Counts ts t) (λ _. counts-own e) (λ n. counts-from rt u _ _ _ n refl (counts-end rt e))

-- ---- a version that has ended is hidden
ended-from : (rt u end : ℕ) (s : State) → is_seen (from_creator rt u end s Hidden) ≡ false
ended-from rt u end state.Active = refl
ended-from rt u end state.Preparing = cond_both (nat_lt rt end) Hidden Hidden (λ x. is_seen x ≡ false) (λ _. refl) (λ _. refl)
ended-from rt u end state.Committed = cond_both (nat_lt rt end) Hidden Hidden (λ x. is_seen x ≡ false) (λ _. refl) (λ _. refl)
ended-from rt u end (state.Aborted cause) = refl
ended-from rt u end state.NotBegun = refl
ended-from rt u end state.Terminated = refl

ended-hidden : (ts : List Txn) (t now time : ℕ) (c : BeginRecord) → time < now → is_seen (sight_by ts t now c (EndedAt time)) ≡ false
ended-hidden ts t now time c past = by c
  where
    hidden : end_sight ts t now (EndedAt time) ≡ Hidden
    hidden = cond-false (nat_lt now time) Seen Hidden (le-ltb now time (omega (arith, past)))

    by : (c : BeginRecord) → is_seen (sight_by ts t now c (EndedAt time)) ≡ false
    by (At n) = cond_both (nat_lt now n) Hidden (end_sight ts t now (EndedAt time)) (λ x. is_seen x ≡ false) (λ _. refl) (λ _. ap is_seen hidden)
    by (By u) =
        cond_both (u == t) Hidden (from_creator now u (txn_in ts u).end (txn_in ts u).state (end_sight ts t now (EndedAt time))) (λ x. is_seen x ≡ false) (λ _. refl)
        (λ _. ap (λ x. is_seen (from_creator now u (txn_in ts u).end (txn_in ts u).state x)) hidden ∙ ended-from now u (txn_in ts u).end (txn_in ts u).state)

pub seen-held : (w : World) (t : ℕ) (c : BeginRecord) (e : Ender) → IsSoundEnder w e → is_seen (sight_by w.txns t w.clock c e) ≡ true → is_held e ≡ true
seen-held w t c (EndedAt time) past y = absurd (false≢true (sym (ended-hidden w.txns t w.clock time c past) ∙ y))
seen-held w t c (Held writer b) past y = refl
