-- How read locks and words follow the changes of a lock.
use Rattle.std.proofs.Common.{◌≡◌, refl, ap, ℕ, ◌-◌, ◌≤◌, Bool, true, false, cond, List, [], ◌∷◌, length, get_or, arith, Option, Some, None}
use Rattle.std.specs.Prelude.{◌==◌, count_by, position}
use Rattle.std.specs.List.{swap_remove, position_or_len}
use Rattle.std.specs.Option.{option_map_or}
use Rattle.std.proofs.lemmas.Grind.{common_steps}
use Rattle.std.proofs.lemmas.List.Quantifiers.{position-Some}
use Rattle.std.proofs.lemmas.List.Sums.{sum_by-swap_remove}
use Rattle.std.proofs.lemmas.Bool.Decides.{nat_tests}
use Rattle.hek_rules.specs.declared.word.EndRecord.{EndRecord}
use Rattle.hek_rules.specs.declared.word.EndRecord.TheVariants.{Until, Lock}
use Rattle.hek_rules.specs.declared.word.LockChange.{LockChange}
use Rattle.hek_rules.specs.declared.word.LockChange.TheVariants.{AddReader, DropReader, TakeWriter, ClearWriter}
use Rattle.hek_rules.specs.Words.{readers_of, writer_of}
use Rattle.hek_rules.specs.Holders.{reads_after, reads_after_all, writer_after_all}
use Rattle.hek_changes.specs.declared.change.EndChange.{EndChange}
use Rattle.hek_changes.specs.declared.change.EndChange.TheVariants as on_end
use Rattle.hek_changes.specs.Changes.{EndLeads}
use Rattle.hek_changes.specs.Holders.{changes_of, reads_of, readers_after}

-- ---- the fields of a word

pub counted : (t : ℕ) (c : EndChange) (e f : EndRecord) → EndLeads t c e f → readers_of f ≡ reads_after_all (changes_of t c) (readers_of e)
counted t on_end.ReaderCame (Until time) f h = grind (arith, nat_tests)
counted t on_end.ReaderCame (Lock readers None no_more) f h = grind (arith, nat_tests)
counted t on_end.ReaderCame (Lock readers (Some u) no_more) f h = grind (arith, nat_tests)
counted t on_end.ReaderWent (Until time) f h = grind (arith, nat_tests)
counted t on_end.ReaderWent (Lock readers None no_more) f h = grind (arith, nat_tests)
counted t on_end.ReaderWent (Lock readers (Some u) no_more) f h = grind (arith, nat_tests)
counted t on_end.WriterCame (Until time) f h = grind (arith, nat_tests)
counted t on_end.WriterCame (Lock readers None no_more) f h = grind (arith, nat_tests)
counted t on_end.WriterCame (Lock readers (Some u) no_more) f h = grind (arith, nat_tests)
counted t on_end.WriterWent (Until time) f h = grind (arith, nat_tests)
counted t on_end.WriterWent (Lock readers None no_more) f h = grind (arith, nat_tests)
counted t on_end.WriterWent (Lock readers (Some u) no_more) f h = grind (arith, nat_tests)
counted t on_end.Cleared (Until time) f h = grind (arith, nat_tests)
counted t on_end.Cleared (Lock readers None no_more) f h = grind (arith, nat_tests)
counted t on_end.Cleared (Lock readers (Some u) no_more) f h = grind (arith, nat_tests)
counted t on_end.ClearedThenRead (Until time) f h = grind (arith, nat_tests)
counted t on_end.ClearedThenRead (Lock readers None no_more) f h = grind (arith, nat_tests)
counted t on_end.ClearedThenRead (Lock readers (Some u) no_more) f h = grind (arith, nat_tests)
counted t on_end.ClearedThenWritten (Until time) f h = grind (arith, nat_tests)
counted t on_end.ClearedThenWritten (Lock readers None no_more) f h = grind (arith, nat_tests)
counted t on_end.ClearedThenWritten (Lock readers (Some u) no_more) f h = grind (arith, nat_tests)
counted t on_end.ReaderBecameWriter (Until time) f h = grind (arith, nat_tests)
counted t on_end.ReaderBecameWriter (Lock readers None no_more) f h = grind (arith, nat_tests)
counted t on_end.ReaderBecameWriter (Lock readers (Some u) no_more) f h = grind (arith, nat_tests)
counted t on_end.ClearedThenReaderBecameWriter (Until time) f h = grind (arith, nat_tests)
counted t on_end.ClearedThenReaderBecameWriter (Lock readers None no_more) f h = grind (arith, nat_tests)
counted t on_end.ClearedThenReaderBecameWriter (Lock readers (Some u) no_more) f h = grind (arith, nat_tests)
counted t on_end.Stamped (Until time) (Until end) h = grind (arith, nat_tests)
counted t on_end.Stamped (Until time) (Lock left writer more) h = absurd h
counted t on_end.Stamped (Lock readers None no_more) (Until end) h = grind (arith, nat_tests)
counted t on_end.Stamped (Lock readers None no_more) (Lock left writer more) h = absurd h
counted t on_end.Stamped (Lock readers (Some u) no_more) (Until end) h = grind (arith, nat_tests)
counted t on_end.Stamped (Lock readers (Some u) no_more) (Lock left writer more) h = absurd h

pub named : (t : ℕ) (c : EndChange) (e f : EndRecord) → EndLeads t c e f → writer_of f ≡ writer_after_all (changes_of t c) (writer_of e)
named t on_end.ReaderCame (Until time) f h = grind (arith, nat_tests)
named t on_end.ReaderCame (Lock readers None no_more) f h = grind (arith, nat_tests)
named t on_end.ReaderCame (Lock readers (Some u) no_more) f h = grind (arith, nat_tests)
named t on_end.ReaderWent (Until time) f h = grind (arith, nat_tests)
named t on_end.ReaderWent (Lock readers None no_more) f h = grind (arith, nat_tests)
named t on_end.ReaderWent (Lock readers (Some u) no_more) f h = grind (arith, nat_tests)
named t on_end.WriterCame (Until time) f h = grind (arith, nat_tests)
named t on_end.WriterCame (Lock readers None no_more) f h = grind (arith, nat_tests)
named t on_end.WriterCame (Lock readers (Some u) no_more) f h = grind (arith, nat_tests)
named t on_end.WriterWent (Until time) f h = grind (arith, nat_tests)
named t on_end.WriterWent (Lock readers None no_more) f h = grind (arith, nat_tests)
named t on_end.WriterWent (Lock readers (Some u) no_more) f h = grind (arith, nat_tests)
named t on_end.Cleared (Until time) f h = grind (arith, nat_tests)
named t on_end.Cleared (Lock readers None no_more) f h = grind (arith, nat_tests)
named t on_end.Cleared (Lock readers (Some u) no_more) f h = grind (arith, nat_tests)
named t on_end.ClearedThenRead (Until time) f h = grind (arith, nat_tests)
named t on_end.ClearedThenRead (Lock readers None no_more) f h = grind (arith, nat_tests)
named t on_end.ClearedThenRead (Lock readers (Some u) no_more) f h = grind (arith, nat_tests)
named t on_end.ClearedThenWritten (Until time) f h = grind (arith, nat_tests)
named t on_end.ClearedThenWritten (Lock readers None no_more) f h = grind (arith, nat_tests)
named t on_end.ClearedThenWritten (Lock readers (Some u) no_more) f h = grind (arith, nat_tests)
named t on_end.ReaderBecameWriter (Until time) f h = grind (arith, nat_tests)
named t on_end.ReaderBecameWriter (Lock readers None no_more) f h = grind (arith, nat_tests)
named t on_end.ReaderBecameWriter (Lock readers (Some u) no_more) f h = grind (arith, nat_tests)
named t on_end.ClearedThenReaderBecameWriter (Until time) f h = grind (arith, nat_tests)
named t on_end.ClearedThenReaderBecameWriter (Lock readers None no_more) f h = grind (arith, nat_tests)
named t on_end.ClearedThenReaderBecameWriter (Lock readers (Some u) no_more) f h = grind (arith, nat_tests)
named t on_end.Stamped (Until time) (Until end) h = grind (arith, nat_tests)
named t on_end.Stamped (Until time) (Lock left writer more) h = absurd h
named t on_end.Stamped (Lock readers None no_more) (Until end) h = grind (arith, nat_tests)
named t on_end.Stamped (Lock readers None no_more) (Lock left writer more) h = absurd h
named t on_end.Stamped (Lock readers (Some u) no_more) (Until end) h = grind (arith, nat_tests)
named t on_end.Stamped (Lock readers (Some u) no_more) (Lock left writer more) h = absurd h

-- ---- read locks

first_fails : (p : ℕ → Bool) (x : ℕ) (xs : List ℕ) (b : Bool) → p x ≡ b → (length xs ≤ position_or_len p xs → count_by p xs ≡ 0) → length (x ∷ xs) ≤ position_or_len p (x ∷ xs) → count_by p (x ∷ xs) ≡ 0
first_fails p x xs true e more h = absurd (grind (arith, e))
first_fails p x xs false e more h = grind (arith, e)

-- a list in which none is found has none
none_passes : (p : ℕ → Bool) (xs : List ℕ) → length xs ≤ position_or_len p xs → count_by p xs ≡ 0
none_passes p [] h = refl
none_passes p (x ∷ xs) h = first_fails p x xs (p x) refl (none_passes p xs) h

none_found : (p : ℕ → Bool) (xs : List ℕ) → position p xs ≡ None → length xs ≤ position_or_len p xs
none_found p xs e = grind (arith, nat_tests)

fewer : (t : ℕ) (readers : List ℕ) (o : Option ℕ) → position (λ reader. reader == t) readers ≡ o → reads_of t (option_map_or (λ i. swap_remove readers i 0) o readers) ≡ reads_of t readers - 1
fewer t readers None e = let none = none_passes (λ reader. reader == t) readers (none_found (λ reader. reader == t) readers e) in omega (arith, none)
fewer t readers (Some i) e =
    let found = position-Some (λ reader. reader == t) readers i 0 e in
    let one : cond {A = ℕ} (get_or readers i 0 == t) 1 0 ≡ 1 = ap (λ (b : Bool). cond {A = ℕ} b 1 0) found.1 in
    omega (arith, one, sum_by-swap_remove (λ reader. cond {A = ℕ} (reader == t) 1 0) readers i 0 found.0)

as_many : (t u : ℕ) (readers : List ℕ) → (u == t) ≡ false → (o : Option ℕ) → position (λ reader. reader == t) readers ≡ o → reads_of u (option_map_or (λ i. swap_remove readers i 0) o readers) ≡ reads_of u readers
as_many t u readers other None e = refl
as_many t u readers other (Some i) e =
    let found = position-Some (λ reader. reader == t) readers i 0 e in
    let here : get_or readers i 0 ≡ t = grind (arith, nat_tests, found.1) in
    let none : cond {A = ℕ} (get_or readers i 0 == u) 1 0 ≡ 0 = grind (arith, nat_tests, here, other) in
    omega (arith, none, sum_by-swap_remove (λ reader. cond {A = ℕ} (reader == u) 1 0) readers i 0 found.0)

pub own_read : (t : ℕ) (c : LockChange) (readers : List ℕ) → reads_of t (readers_after t c readers) ≡ reads_after c (reads_of t readers)
own_read t AddReader readers = grind (arith, nat_tests, common_steps)
own_read t DropReader readers = fewer t readers (position (λ reader. reader == t) readers) refl
own_read t (TakeWriter u) readers = refl
own_read t ClearWriter readers = refl

pub others_read : (t u : ℕ) (c : LockChange) (readers : List ℕ) → (u == t) ≡ false → reads_of u (readers_after t c readers) ≡ reads_of u readers
others_read t u AddReader readers other = grind (arith, nat_tests, common_steps)
others_read t u DropReader readers other = as_many t u readers other (position (λ reader. reader == t) readers) refl
others_read t u (TakeWriter v) readers other = refl
others_read t u ClearWriter readers other = refl
