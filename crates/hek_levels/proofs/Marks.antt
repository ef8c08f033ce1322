-- What is marked stays marked; small steps of loops.
use Rattle.std.proofs.Common.{◌≡◌, ◌==◌, ℕ, zero, suc, ◌<◌, true, false, cond, List, [], ◌∷◌, Option, Some, None, refl, ◌∙◌, inl, inr, length}
use Rattle.std.proofs.lemmas.Bool.{cases_Bool, eqb-true, eq-eqb}
use Rattle.std.proofs.lemmas.Option.{slice_get_within}
use Rattle.std.specs.Prelude.{slice_get, is_some}
use Rattle.hek_levels.specs.declared.log.Log.{Log}
use Rattle.hek_levels.specs.declared.log.Read.{Read}
use Rattle.hek_levels.specs.declared.log.Change.{Change}
use Rattle.hek_levels.specs.declared.log.Transaction.{Transaction}
use Rattle.hek_levels.specs.declared.log.Place.TheVariants.{Listed}
use Rattle.hek_levels.specs.Logs.{is_committed, committed_in, left_in, read_at, reads_of}
use Rattle.hek_levels.specs.Sweeps.{IsMarked, AreKept}

pub kept-refl : (f : ℕ → Option ℕ) → AreKept f f
kept-refl f x m = m

pub kept-trans : (f g h : ℕ → Option ℕ) → AreKept f g → AreKept g h → AreKept f h
kept-trans f g h a b x m = b x (a x m)

-- a map with one entry more
pub at_entry : (f g : ℕ → Option ℕ) (t i : ℕ) → ((k : ℕ) → g k ≡ cond (t == k) (Some i) (f k)) → (k : ℕ) → t ≡ k → g k ≡ Some i
at_entry f g t i more k same = more k ∙ rw (eq-eqb t k same) refl

pub at_others : (f g : ℕ → Option ℕ) (t i : ℕ) → ((k : ℕ) → g k ≡ cond (t == k) (Some i) (f k)) → (k : ℕ) → (t == k) ≡ false → g k ≡ f k
at_others f g t i more k other = more k ∙ rw other refl

-- who committed is in the log
committed_in-some : (log : Log) (t : ℕ) → is_committed log t ≡ true → (y : Transaction) × (slice_get log.transactions.items t ≡ Some y)
committed_in-some log t e = go (slice_get log.transactions.items t) refl e
  where
    go : (o : Option Transaction) → slice_get log.transactions.items t ≡ o → committed_in o ≡ true → (y : Transaction) × (slice_get log.transactions.items t ≡ Some y)
    go None is e = cc
    go (Some y) is e = (y, is)

pub committed_within : (log : Log) (t : ℕ) → is_committed log t ≡ true → t < length log.transactions.items
committed_within log t e = let s = committed_in-some log t e in slice_get_within log.transactions.items t s.0 s.1

pub read_within : (log : Log) (t r : ℕ) (read : Read) → read_at log t (Listed r) ≡ Some read → r < length (reads_of log t)
read_within log t r read e = slice_get_within (reads_of log t) r read e

-- who writes a key has a change of it
pub changed_by : (changes : List Change) (key : ℕ) → is_some (left_in changes key) ≡ true → (n : ℕ) × (c : Change) × (slice_get changes n ≡ Some c) × (c.key ≡ key)
changed_by [] key e = cc
changed_by (c ∷ changes) key e =
    elim (cases_Bool (c.key == key)) [
      | inl same ↦ (zero, c, refl, eqb-true c.key key same)
      | inr other ↦ let r = changed_by changes key (rw other at e) in (suc r.0, r.1, r.2, r.3)
    ]

-- a map with one entry more keeps what was marked
pub kept_entry : (f g : ℕ → Option ℕ) (t i : ℕ) → ((k : ℕ) → g k ≡ cond (t == k) (Some i) (f k)) → AreKept f g
kept_entry f g t i more x m =
    elim (cases_Bool (t == x)) [
      | inl same ↦ (i, more x ∙ rw same refl)
      | inr other ↦ (m.0, more x ∙ rw other m.1)
    ]

pub marked_entry : (f g : ℕ → Option ℕ) (t i : ℕ) → ((k : ℕ) → g k ≡ cond (t == k) (Some i) (f k)) → IsMarked g t
marked_entry f g t i more = (i, more t ∙ rw (eq-eqb t t refl) refl)
