-- One event: the answer of each check is the table's, and what holds of an event that has passed the checks.
use Rattle.std.proofs.Common.{◌≡◌, ℕ, zero, suc, List, [], ◌∷◌, ◌<◌, ◌^◌, ◌-◌, Bool, true, false, not, if◌then◌else◌, refl, ◌∙◌, ap, sym, arith, Option, Some, None, Result, IfOk, length}
use Rattle.std.specs.Prelude.{◌&&◌, ◌==◌, ◌↔◌, IsTrue, is_some, slice_get}
use Rattle.std.proofs.lemmas.Bool.{false≢true}
use Rattle.hek_rules.specs.declared.event.State.{State}
use Rattle.hek_rules.specs.declared.event.State.TheVariants as state
use Rattle.hek_rules.specs.declared.event.Event.{Event}
use Rattle.hek_rules.specs.declared.reply.Reply.{Reply}
use Rattle.hek_rules.specs.declared.reply.Reply.TheVariants as reply
use Rattle.hek_rules.specs.declared.reply.Refusal.{Refusal}
use Rattle.hek_rules.specs.declared.reply.Refusal.TheVariants as refusal
use Rattle.hek_rules.specs.World.{World, Txn, txn_in, declared}
use Rattle.hek_rules.specs.Table.{unchanged, refused, checked, rule, answered}
use Rattle.hek_rules.specs.Checks.{repeats_cause, clock_end, draws, missed, check_phase, check_of}
use Rattle.hek_laws.proofs.Runs.Reachable.{reachable-sound}
use Rattle.hek_txn.specs.TxnTable.{Declared}
use Rattle.hek_machine.specs.declared.engine.Engine.{Engine}
use Rattle.hek_rules.specs.declared.check.Check.{Check}
use Rattle.hek_rules.specs.declared.check.Check.TheVariants.{Refused, Doomed, StillAborted, Passed}
use Rattle.hek_machine.specs.Checks.{is_idle}
use Rattle.hek_machine.specs.Stands.{Shows, StandsForSome, IsRule}
use Rattle.hek_machine.proofs.CheckRules.{checks-agree}
use Rattle.hek_machine.proofs.KeyRules.{rule_same, rule_of_last}

-- ---- what holds of an event that has passed the checks

skip : (b : Bool) (x y : Check) → (x ≡ Passed → ⊥) → (if b then x else y) ≡ Passed → y ≡ Passed
skip true x y n h = absurd (n h)
skip false x y n h = h

not-passed : (b : Bool) (x y : Check) → (x ≡ Passed → ⊥) → (if b then x else y) ≡ Passed → b ≡ false
not-passed true x y n h = absurd (n h)
not-passed false x y n h = refl

refusal-fails : (why : Refusal) → Refused why ≡ Passed → ⊥
refusal-fails why h = cc

missed-fails : (s : State) (e : Event) → missed s e ≡ Passed → ⊥
missed-fails state.NotBegun e h = cc
missed-fails state.Active e h = cc
missed-fails state.Preparing e h = cc
missed-fails state.Committed e h = cc
missed-fails (state.Aborted cause) e h = by (repeats_cause e) h
  where
    by : (b : Bool) → (if b then StillAborted cause else Refused refusal.WrongPhase) ≡ Passed → ⊥
    by true k = cc
    by false k = cc
missed-fails state.Terminated e h = cc

phase-passed : (x : Txn) (idle : Bool) (clock : ℕ) (e : Event) → check_of x idle clock e ≡ Passed → check_phase x idle clock e ≡ Passed
phase-passed x idle clock e h =
    skip _ (Refused refusal.Ended) _ (refusal-fails refusal.Ended) (skip _ (Refused refusal.NotBegun) _ (refusal-fails refusal.NotBegun) (skip _ (Refused refusal.BegunTwice) _ (refusal-fails refusal.BegunTwice) h))

undoomed : Doomed ≡ Passed → ⊥
undoomed h = cc

clock-passed : (x : Txn) (idle : Bool) (clock : ℕ) (e : Event) → check_of x idle clock e ≡ Passed → (draws e && clock == clock_end) ≡ false
clock-passed x idle clock e h =
    not-passed _ (Refused refusal.ClockFull) Passed (refusal-fails refusal.ClockFull)
    (skip _ (missed x.state e) _ (missed-fails x.state e) (skip _ Doomed _ undoomed (phase-passed x idle clock e h)))

-- the clock is below its end for an event that draws a time
pub early : (m : Engine) (t : ℕ) (e : Event) → StandsForSome m → check_of (txn_in m.txns.cores t) (is_idle m.txns t) m.clock e ≡ Passed → draws e ≡ true → m.clock < 2 ^ 63 - 2
early m t e o h d = by (m.clock == clock_end) refl (sym (ap (λ b. b && m.clock == clock_end) d) ∙ clock-passed (txn_in m.txns.cores t) (is_idle m.txns t) m.clock e h)
  where
    by : (b : Bool) → (m.clock == clock_end) ≡ b → b ≡ false → m.clock < 2 ^ 63 - 2
    by true k none = cc
    by false k none =
        let other = apart m.clock k in
        let same = o.stands.shows.clock in let bound = (reachable-sound o.world o.stands.reachable).bounded in omega (arith, other, same, bound)
      where
        apart : (n : ℕ) → (n == clock_end) ≡ false → n ≡ clock_end → ⊥
        apart n z same = false≢true (sym z ∙ ap (λ i. i == clock_end) same)

-- ---- the answer of a check

pub answered_rule : (m n : Engine) (t : ℕ) (e : Event) (c : Check) (r : Reply) → Declared m.txns t → check_of (txn_in m.txns.cores t) (is_idle m.txns t) m.clock e ≡ c →
    IsRule (λ w. answered w t e c) m n r → IsRule (λ w. checked w t e) m n r
answered_rule m n t e c r known is i =
    rule_same m n (λ w. checked w t e) (λ w. answered w t e c) r (λ w s. checks-agree m w t e known s.shows ∙ ap (answered w t e) is) i

pub unchanged_rule : (m : Engine) (r : Reply) → IsRule (λ w. unchanged w r) m m r
unchanged_rule m r = record { reply = λ w s. refl; shows = λ w s. s.shows }

pub passed_rule : {E : Type 0} (m n : Engine) (t : ℕ) (e : Event) (r : Result Reply E) → Declared m.txns t → check_of (txn_in m.txns.cores t) (is_idle m.txns t) m.clock e ≡ Passed →
    IfOk r (IsRule (λ w. rule w t e) m n) → IfOk r (IsRule (λ w. checked w t e) m n)
passed_rule m n t e r known is i =
    rule_of_last m n (λ w. checked w t e) (λ w. rule w t e) r (λ w s. checks-agree m w t e known s.shows ∙ ap (answered w t e) is) i

-- ---- an ID that is not declared

present-below : (xs : List Txn) (n : ℕ) (x : Txn) → slice_get xs n ≡ Some x → n < length xs
present-below [] n x e = cc
present-below (y ∷ ys) zero x e = omega arith
present-below (y ∷ ys) (suc n) x e = let l = present-below ys n x e in omega (arith, l)

undeclared : (m : Engine) (w : World) (t : ℕ) → Shows m w → (Declared m.txns t → ⊥) → declared w.txns t ≡ false
undeclared m w zero s none = refl
undeclared m w (suc i) s none = by (slice_get w.txns i) refl
  where
    by : (o : Option Txn) → slice_get w.txns i ≡ o → is_some o ≡ false
    by None e = refl
    by (Some x) e = absurd (none (record { named = omega arith; within = let l = present-below w.txns i x e in let c = ap length s.txns.cores in omega (arith, l, c) }))

pub unknown_rule : (m : Engine) (t : ℕ) (e : Event) (b : Bool) → (IsTrue b ↔ Declared m.txns t) → b ≡ false → IsRule (λ w. checked w t e) m m (reply.Refused refusal.UnknownTxn)
unknown_rule m t e b is none =
    rule_same m m (λ w. checked w t e) (λ w. unchanged w (reply.Refused refusal.UnknownTxn)) (reply.Refused refusal.UnknownTxn)
    (λ w s. refusing w (ap not (undeclared m w t s.shows (λ d. false≢true (sym none ∙ (is.1 d)))))) (unchanged_rule m (reply.Refused refusal.UnknownTxn))
  where
    refusing : (w : World) → not (declared w.txns t) ≡ true → checked w t e ≡ refused w refusal.UnknownTxn
    refusing w h = rw h refl
