-- Values that the tests of `Same` call the same are equal.
use Rattle.std.proofs.Common.{◌≡◌, ℕ, Bool, true, false, eqb, List, [], ◌∷◌, refl, ap, ap₂}
use Rattle.std.proofs.lemmas.Bool.{eqb-true, and_parts}
use Rattle.hek_rules.specs.declared.event.Cause.{Cause}
use Rattle.hek_rules.specs.declared.event.Cause.TheVariants.{Cascade, Conflict, NoMoreReads, ReadersFull, NoMoreWaits, Deadlock, Asked}
use Rattle.hek_rules.specs.declared.event.State.{State}
use Rattle.hek_rules.specs.declared.event.State.TheVariants.{NotBegun, Active, Preparing, Committed, Aborted, Terminated}
use Rattle.hek_rules.specs.declared.event.WriteEntry.{WriteEntry}
use Rattle.hek_rules.specs.declared.event.WriteEntry.TheVariants.{BeginOf, EndOf}
use Rattle.hek_why.specs.Same.{same_flag, same_cause, same_state, same_entry, same_list, same_numbers, same_entries}

pub flag_exact : (a b : Bool) → same_flag a b ≡ true → a ≡ b
flag_exact true true h = refl
flag_exact false false h = refl
flag_exact true false h = cc
flag_exact false true h = cc

cause_exact : (a b : Cause) → same_cause a b ≡ true → a ≡ b
cause_exact Cascade Cascade h = refl
cause_exact Conflict Conflict h = refl
cause_exact NoMoreReads NoMoreReads h = refl
cause_exact ReadersFull ReadersFull h = refl
cause_exact NoMoreWaits NoMoreWaits h = refl
cause_exact Deadlock Deadlock h = refl
cause_exact Asked Asked h = refl
cause_exact _ _ h = cc

pub state_exact : (a b : State) → same_state a b ≡ true → a ≡ b
state_exact NotBegun NotBegun h = refl
state_exact Active Active h = refl
state_exact Preparing Preparing h = refl
state_exact Committed Committed h = refl
state_exact (Aborted a) (Aborted b) h = ap Aborted (cause_exact a b h)
state_exact Terminated Terminated h = refl
state_exact _ _ h = cc

entry_exact : (a b : WriteEntry) → same_entry a b ≡ true → a ≡ b
entry_exact (BeginOf v) (BeginOf u) h = ap BeginOf (eqb-true v u h)
entry_exact (EndOf v) (EndOf u) h = ap EndOf (eqb-true v u h)
entry_exact _ _ h = cc

list_exact : {X : Type 0} (same : X → X → Bool) → ((a b : X) → same a b ≡ true → a ≡ b) → (xs ys : List X) → same_list same xs ys ≡ true → xs ≡ ys
list_exact same exact [] [] h = refl
list_exact same exact [] (y ∷ ys) h = cc
list_exact same exact (x ∷ xs) [] h = cc
list_exact same exact (x ∷ xs) (y ∷ ys) h = let parts = and_parts (same x y) (same_list same xs ys) h in ap₂ (λ z zs. z ∷ zs) (exact x y parts.0) (list_exact same exact xs ys parts.1)

pub numbers_exact : (xs ys : List ℕ) → same_numbers xs ys ≡ true → xs ≡ ys
numbers_exact xs ys h = list_exact _ eqb-true xs ys h

pub entries_exact : (xs ys : List WriteEntry) → same_entries xs ys ≡ true → xs ≡ ys
entries_exact xs ys h = list_exact same_entry entry_exact xs ys h
