-- What the log of a history has of a transaction is what the history has of it.
use Rattle.std.proofs.Common.{◌≡◌, ℕ, true, false, List, [], Option, Some, None, refl, sym, ap, ◌∙◌, subst, inl, inr, ◌⊎◌, length, arith}
use Rattle.std.proofs.lemmas.Bool.{cond-false}
use Rattle.std.proofs.lemmas.Option.{slice_get_cases}
use Rattle.std.specs.Prelude.{is_some}
use Rattle.std.specs.Global.{Vec}
use Rattle.hek_rules.specs.Listing.{value_of}
use Rattle.hek_history.specs.declared.history.History.{History}
use Rattle.hek_history.specs.declared.history.Transaction.{Transaction}
use Rattle.hek_history.specs.declared.history.Status.{Status}
use Rattle.hek_history.specs.declared.history.Status.TheVariants as status
use Rattle.hek_history.specs.Answers.{after, last_change}
use Rattle.hek_history.specs.Histories.{transaction, operations_in, operations_of, lenient_at, lenient_in, is_lenient, possible_by, possible_in, is_possible, committed_by, committed_in, is_committed, writes}
use Rattle.hek_history.specs.declared.history.Level.{Level}
use Rattle.hek_history.specs.declared.history.Level.TheVariants.{Serializable, Snapshot, Repeatable}
use Rattle.hek_levels.specs.declared.log.Log.{Log}
use Rattle.hek_levels.specs.declared.log.Turn.{Turn}
use Rattle.hek_levels.specs.declared.log.Read.{Read}
use Rattle.hek_levels.specs.declared.log.Scan.{Scan}
use Rattle.hek_levels.specs.declared.log.Place.{Place}
use Rattle.hek_levels.specs.declared.log.Place.TheVariants as place
use Rattle.hek_levels.specs.declared.log.Transaction.{Transaction as TheTransaction}
use Rattle.hek_levels.specs.declared.certificate.Writer.TheVariants as writer
use Rattle.hek_levels.specs.Logs as log
use Rattle.hek_history_levels.specs.Changes.{left_by}
use Rattle.hek_history_levels.specs.Reads.{IsRead, read_of}
use Rattle.hek_history_levels.specs.Fits.{AreFitting}
use Rattle.hek_history_levels.specs.Steps as steps
use Rattle.hek_history_levels.specs.Steps.{turns_at, IsSeen, IsLogOf}
use Rattle.hek_levels_runs.proofs.Left.{is_some-left_of, left_of-change}

-- t is a transaction of both, or of neither
record AreBoth (turns : List Turn) (a : Option Transaction) (b : Option TheTransaction) : Type 0 where
  here : Transaction
  there : TheTransaction
  is : a ≡ Some here
  same : b ≡ Some there
  seen : IsSeen turns here there

abbrev IsEither : List Turn → Option Transaction → Option TheTransaction → Type 0
IsEither turns a b = AreBoth turns a b ⊎ ((a ≡ None) × (b ≡ None))

-- who may have committed did not abort
not_aborted : (s : Status) → possible_by s ≡ true → log.aborted_by s ≡ false
not_aborted status.Committed e = refl
not_aborted status.Aborted e = cc
not_aborted status.Unknown e = refl

-- whether no answer of absence is judged
same_lenient : (level : Level) → steps.is_lenient level ≡ lenient_at level
same_lenient Serializable = refl
same_lenient Snapshot = refl
same_lenient Repeatable = refl

-- a number that names no transaction names none that may have committed, and none that did
none_possible : (o : Option Transaction) → o ≡ None → possible_in o ≡ true → ⊥
none_possible None is e = cc
none_possible (Some x) is e = cc

none_committed : (o : Option TheTransaction) → o ≡ None → log.committed_in o ≡ true → ⊥
none_committed None is e = cc
none_committed (Some x) is e = cc

-- who did not abort may take place if it fits
possible_so : (y : TheTransaction) → log.aborted_by y.status ≡ false → y.fits ≡ true → log.possible_in (Some y) ≡ true
possible_so y off fits = cond-false (log.aborted_by y.status) false y.fits off ∙ fits

-- nothing is read at a place of no transaction
no_read : (reads : List Read) (scans : List Scan) (r : Place) (read : Read) → reads ≡ [] → scans ≡ [] → read_of reads scans r ≡ Some read → ⊥
no_read reads scans (place.Listed r) read a b e = let f : read_of [] [] (place.Listed r) ≡ Some read = rw a at e in cc
no_read reads scans (place.Missing s key) read a b e = let f : read_of [] [] (place.Missing s key) ≡ Some read = rw b at e in cc

-- a read of t is one of its reads and scans
read_at-of : (the_log : Log) (t : ℕ) (r : Place) → log.read_at the_log t r ≡ read_of (log.reads_of the_log t) (log.scans_of the_log t) r
read_at-of the_log t (place.Listed r) = refl
read_at-of the_log t (place.Missing s key) = refl

module _ (h : History) (turns : List (Vec Turn)) (the_log : Log) (l : IsLogOf h turns the_log) where
  -- each number names a transaction of both, or of neither
  either : (t : ℕ) → IsEither (turns_at turns t) (transaction h t) (log.transaction the_log t)
  either t =
      let count : length the_log.transactions.items ≡ length h.transactions.items = l.count in
      elim ((slice_get_cases h.transactions.items t).1) [
        | inl a ↦
            elim ((slice_get_cases the_log.transactions.items t).1) [
              | inl b ↦ inl (record { here = a.0; there = b.0; is = a.2; same = b.2; seen = l.seen.each t a.0 b.0 a.2 b.2 })
              | inr b ↦ absurd (let x = a.1 in let y = b.0 in omega (arith, count, x, y))
            ]
        | inr a ↦
            elim ((slice_get_cases the_log.transactions.items t).1) [
              | inl b ↦ absurd (let x = a.0 in let y = b.1 in omega (arith, count, x, y))
              | inr b ↦ inr (a.1, b.1)
            ]
      ]

  -- each of its reads is one of its operations, if its answers of absence are judged
  pub is_read : (t : ℕ) (r : Place) (read : Read) → is_lenient h t ≡ false → log.read_at the_log t r ≡ Some read → IsRead false (operations_of h t) read.operation read.key read.need
  is_read t r read strict there =
      let found : read_of (log.reads_of the_log t) (log.scans_of the_log t) r ≡ Some read = sym (read_at-of the_log t r) ∙ there in
      elim (either t) [
        | inl b ↦
            let here : read_of b.there.reads.items b.there.scans.items r ≡ Some read = subst (λ (o : Option TheTransaction). read_of (log.reads_in o) (log.scans_in o) r ≡ Some read) b.same found in
            let so : IsRead (steps.is_lenient b.here.level) b.here.operations.items read.operation read.key read.need = (b.seen.reads read.operation read.key read.need).0 (r, here) in
            let lenient : steps.is_lenient b.here.level ≡ false = same_lenient b.here.level ∙ sym (ap lenient_in b.is) ∙ strict in
            subst (λ (o : Option Transaction). IsRead false (operations_in o) read.operation read.key read.need) (sym b.is)
            (subst (λ x. IsRead x b.here.operations.items read.operation read.key read.need) lenient so)
        | inr n ↦ absurd (no_read (log.reads_of the_log t) (log.scans_of the_log t) r read (ap log.reads_in n.1) (ap log.scans_in n.1) found)
      ]

  -- its writes leave at a key what its operations do
  pub left_in_log : (t key : ℕ) → log.left_in (log.writes_of the_log t) key ≡ left_by (operations_of h t) key
  left_in_log t key =
      elim (either t) [
        | inl b ↦
            ap (λ (o : Option TheTransaction). log.left_in (log.writes_in o) key) b.same ∙ b.seen.writes key ∙ ap (λ (o : Option Transaction). left_by (operations_in o) key) (sym b.is)
        | inr n ↦ ap (λ (o : Option TheTransaction). log.left_in (log.writes_in o) key) n.1 ∙ ap (λ (o : Option Transaction). left_by (operations_in o) key) (sym n.0)
      ]

  -- it writes a key there just if it does so in the history
  pub does_write_is : (t key : ℕ) → log.does_write the_log t key ≡ writes h t key
  does_write_is t key = ap is_some (left_in_log t key) ∙ is_some-left_of (last_change key (operations_of h t))

  pub so_writes : (t key : ℕ) → log.does_write the_log t key ≡ true → writes h t key ≡ true
  so_writes t key does = sym (does_write_is t key) ∙ does

  -- and then leaves there the value after its last change of the key
  pub left_is : (t key : ℕ) → writes h t key ≡ true → log.left_by the_log key (writer.Transaction t) ≡ Some (after (last_change key (operations_of h t)) None)
  left_is t key does = left_in_log t key ∙ left_of-change (last_change key (operations_of h t)) does

  -- the opening leaves there the value of the opening rows
  pub opening_is : (key : ℕ) → log.left_by the_log key writer.Opening ≡ Some (value_of h.rows.items key)
  opening_is key = ap (λ (rows : List (ℕ × ℕ)). Some (value_of rows key)) l.rows

  -- who did not abort, and whose answers fit, may take place
  pub possible_is : (t : ℕ) → is_possible h t ≡ true → is_lenient h t ≡ false → AreFitting false (operations_of h t) → log.is_possible the_log t ≡ true
  possible_is t possible strict fitting =
      elim (either t) [
        | inl b ↦
            let by : possible_by b.here.status ≡ true = sym (ap possible_in b.is) ∙ possible in
            let lenient : false ≡ steps.is_lenient b.here.level = sym (same_lenient b.here.level ∙ sym (ap lenient_in b.is) ∙ strict) in
            let fits : AreFitting false b.here.operations.items = subst (λ (o : Option Transaction). AreFitting false (operations_in o)) b.is fitting in
            ap log.possible_in b.same
            ∙ possible_so b.there (ap log.aborted_by b.seen.status ∙ not_aborted b.here.status by) (b.seen.fits.1 (subst (λ x. AreFitting x b.here.operations.items) lenient fits))
        | inr n ↦ absurd (none_possible (transaction h t) n.0 possible)
      ]

  -- who committed there did so in the history
  pub committed_is : (t : ℕ) → log.is_committed the_log t ≡ true → is_committed h t ≡ true
  committed_is t committed =
      elim (either t) [
        | inl b ↦
            let by : committed_by b.there.status ≡ true = sym (ap log.committed_in b.same) ∙ committed in
            ap committed_in b.is ∙ sym (ap committed_by b.seen.status) ∙ by
        | inr n ↦ absurd (none_committed (log.transaction the_log t) n.1 committed)
      ]
