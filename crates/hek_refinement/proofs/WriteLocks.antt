-- A write lock is taken.
use Rattle.std.proofs.Common.{◌≡◌, ℕ, zero, suc, ◌+◌, ◌-◌, ◌<◌, ◌^◌, Bool, true, false, List, [], ◌∷◌, ◌++◌, refl, ◌∙◌, ap, sym, arith, Some, None, inl, inr, ⊎_elim, length, nat_eq}
use Rattle.std.proofs.lemmas.Bool.{cond-true, cond-false, cases_Bool, false≢true, eqb-true}
use Rattle.std.proofs.lemmas.Bool.Decides.{nat_tests}
use Rattle.std.specs.Prelude.{◌==◌, ◌&&◌, ◌||◌, nat_lt, if◌then◌else◌}
use Rattle.std.specs.List.{list_any}
use Rattle.std.specs.Set.{remove_key}
use Rattle.hek_rules.specs.declared.event.WriteEntry.{WriteEntry}
use Rattle.hek_rules.specs.declared.event.WriteEntry.TheVariants.{BeginOf, EndOf}
use Rattle.hek_rules.specs.declared.word.EndRecord.TheVariants.{Until, Lock}
use Rattle.hek_rules.specs.Words.{CanTakeWriter, with_writer, without_reader, readers_of, infinity}
use Rattle.hek_rules.specs.Listing.{has, leave, is_among}
use Rattle.hek_rules.specs.World.{World, Version, Txn, Ender, EndedAt, Held, version_in, txn_in, is_held_by, is_aborted}
use Rattle.hek_rules.specs.Waits.{readers, waits, is_waited_for}
use Rattle.hek_rules.specs.Locks.{cleared, set_ender, write_refusal, add_write}
use Rattle.hek_rules.specs.Table.{entries_of}
use Rattle.hek_rules.specs.Shown.{end_word_by, readers_alone}
use Rattle.hek_store.specs.Stored.{Stored, version_at}
use Rattle.hek_txn.specs.Entries.{Entries, joined, same_entry}
use Rattle.hek_txn.specs.TxnTable.{TxnTable, Declared, entry_at, set_at, waits_of, read_set_of, with_read_set, write_set_of, with_write_set}
use Rattle.hek_txn.specs.TxnLemmas.{length_set_at}
use Rattle.hek_locks.specs.Locked.{cleared_word, cleared_waits, more_waits, given_up, to_write, write_locked, write_lock_waits}
use Rattle.hek_laws.specs.Lists.{In}
use Rattle.hek_laws.specs.Sound.{Sound, IsSoundFlag}
use Rattle.hek_refinement.specs.MayLock.{MayWrite}
use Rattle.hek_refinement.specs.Shows.{ShowsStore, ShowsTxns}
use Rattle.hek_refinement.proofs.Pairs.{bit, among-seconds, firsts-leave_count, firsts-leave_other, seconds-leave_same, seconds-leave_other, leave-none, entries-add_same, entries-add_other}
use Rattle.hek_refinement.proofs.Raised.{entry-raised}
use Rattle.hek_refinement.proofs.Counts.{SameBut, waits-at}
use Rattle.hek_refinement.proofs.Stores.{shows-end, same-set, set_ender-same}
use Rattle.hek_refinement.proofs.Rooms.{place-in}
use Rattle.hek_refinement.proofs.Changes.{shows-reads, shows-writes}
use Rattle.hek_refinement.proofs.Frees.{is_waiting, waits-some}
use Rattle.hek_refinement.proofs.Clears.{ender_stale, clear-shown, stale_waits, stale-long, stale-entry, waits-cleared}

-- ---- a version that may be write-locked

-- a version that may be write-locked has no writer after Clear
free_ender : (e : Ender) (n : ℕ) → IsSoundFlag n e → write_refusal e ≡ None → e ≡ Held None false
free_ender (EndedAt time) n f h = cc
free_ender (Held None no_more) n f h = ap (Held None) f
free_ender (Held (Some u) no_more) n f h = cc

pub cleared-flag : (ts : List Txn) (n : ℕ) (e : Ender) → IsSoundFlag n e → IsSoundFlag n (cleared ts e)
cleared-flag ts n (EndedAt time) f = tt
cleared-flag ts n (Held None no_more) f = f
cleared-flag ts n (Held (Some u) no_more) f = either (is_aborted (txn_in ts u).state)
  where
    either : (b : Bool) → IsSoundFlag n (if b then Held None false else Held (Some u) no_more)
    either true = refl
    either false = f

pub is-free : (w : World) (t v : ℕ) → Sound w → MayWrite w t v → cleared w.txns (version_in w.versions v).ender ≡ Held None false
is-free w t v o m =
    free_ender (cleared w.txns (version_in w.versions v).ender) (readers w.read_locks v)
    (cleared-flag w.txns (readers w.read_locks v) (version_in w.versions v).ender (o.flags v)) m.allowed

-- the writer of a version that may be write-locked has aborted
stale-held : (ts : List Txn) (e : Ender) (u : ℕ) → cleared ts e ≡ Held None false → is_held_by u e ≡ true → (ender_stale ts e ≡ true) × (is_aborted (txn_in ts u).state ≡ true)
stale-held ts (EndedAt time) u h k = cc
stale-held ts (Held None no_more) u h k = cc
stale-held ts (Held (Some x) no_more) u h k =
    ⊎_elim
    (λ gone. (gone, ap (λ n. is_aborted (txn_in ts n).state) (sym (eqb-true x u k)) ∙ gone))
    (λ stays. let z : Held (Some x) no_more ≡ Held None false = sym (cond-false (is_aborted (txn_in ts x).state) (Held None false) (Held (Some x) no_more) stays) ∙ h in cc)
    (cases_Bool (is_aborted (txn_in ts x).state))

-- ---- the word

left : World → ℕ → ℕ → ℕ
left w t v = readers (leave w.read_locks t v) v

without-alone : (n : ℕ) → without_reader (readers_alone (suc n)) ≡ readers_alone n
without-alone zero = refl
without-alone (suc n) = cond-false (suc (suc n) == 1) (Until infinity) (Lock (suc (suc n) - 1) None false) (grind (arith, nat_tests)) ∙ ap (λ k. Lock k None false) (omega arith)

-- the word that t write-locks, without t's read lock
own-gone : (w : World) (t v : ℕ) (b : Bool) → Sound w → has w.read_locks t v ≡ b →
    (if b then without_reader (readers_alone (readers w.read_locks v)) else readers_alone (readers w.read_locks v)) ≡ readers_alone (readers (leave w.read_locks t v) v)
own-gone w t v true o h =
    let all = firsts-leave_count w.read_locks t v o.reads_once in let one = ap bit h in
    let more : readers w.read_locks v ≡ suc (readers (leave w.read_locks t v) v) = omega (arith, all, one) in
    ap (λ n. without_reader (readers_alone n)) more ∙ without-alone (readers (leave w.read_locks t v) v)
own-gone w t v false o h = ap (λ ps. readers_alone (readers ps v)) (sym (leave-none w.read_locks t v h))

to_write-shown : (s : Stored) (x : TxnTable) (w : World) (t v : ℕ) → Sound w → MayWrite w t v → ShowsStore s w.buckets w.versions w.read_locks → ShowsTxns x w →
    to_write s x t v ≡ readers_alone (readers (leave w.read_locks t v) v)
to_write-shown s x w t v o m h q =
    let same : is_among (read_set_of x t).items v ≡ has w.read_locks t v = ap (λ xs. is_among xs v) (q.read_sets t) ∙ among-seconds w.read_locks t v in
    ap (given_up x t v) (clear-shown s x w v h q ∙ ap (end_word_by (readers w.read_locks v)) (is-free w t v o m))
    ∙ ap (λ b. if b then without_reader (readers_alone (readers w.read_locks v)) else readers_alone (readers w.read_locks v)) same
    ∙ own-gone w t v (has w.read_locks t v) o refl

with-alone : (n t : ℕ) → with_writer (readers_alone n) t ≡ Lock n (Some t) false
with-alone zero t = refl
with-alone (suc n) t = refl

readers-alone : (n : ℕ) → readers_of (readers_alone n) ≡ n
readers-alone zero = refl
readers-alone (suc n) = refl

same_but : (w : World) (t v : ℕ) → v < length w.versions → SameBut w.read_locks (leave w.read_locks t v) w.versions (set_ender w.versions v (Held (Some t) false)) v
same_but w t v l =
    let same = same-set w.read_locks w.versions v _ l in
    record { there = same.there; long = same.long; versions = same.versions; counts = λ j ne. ap length (firsts-leave_other w.read_locks t v j ne) }

pub shows-write_store : (s : Stored) (x : TxnTable) (w : World) (t v : ℕ) → Sound w → MayWrite w t v → ShowsStore s w.buckets w.versions w.read_locks → ShowsTxns x w →
    ShowsStore (write_locked s x t v) w.buckets (add_write w t v).versions (add_write w t v).read_locks
shows-write_store s x w t v o m h q =
    shows-end s w.buckets w.versions (set_ender w.versions v (Held (Some t) false)) w.read_locks (leave w.read_locks t v) v (with_writer (to_write s x t v) t) (Held (Some t) false)
    (same_but w t v m.made) (set_ender-same w.versions v (Held (Some t) false) m.made)
    (ap (λ e. with_writer e t) (to_write-shown s x w t v o m h q) ∙ with-alone (readers (leave w.read_locks t v) v) t) h

-- ---- counters

-- the counters after t takes the write lock: t waits for the readers that are left
abbrev more_list : List ℕ → ℕ → ℕ → List ℕ
more_list ws t count = if nat_lt 0 count then set_at ws t (entry_at 0 ws t + 1) else ws

more-is : (y : TxnTable) (t : ℕ) (b : Bool) → (if b then more_waits y t else y) ≡ record y { waits = if b then set_at y.waits t (entry_at 0 y.waits t + 1) else y.waits }
more-is y t true = refl
more-is y t false = refl

more-long : (ws : List ℕ) (t : ℕ) (b : Bool) → length (if b then set_at ws t (entry_at 0 ws t + 1) else ws) ≡ length ws
more-long ws t true = length_set_at ws t _
more-long ws t false = refl

-- the count of u's waits for the version: an aborted writer no longer waits, and t waits if a reader is left
write_bits : (ts : List Txn) (count now t u : ℕ) (e : Ender) → cleared ts e ≡ Held None false →
    bit (ender_stale ts e && is_waiting u count e) ≡ bit (is_waiting u count e)
write_bits ts count now t u e h =
    ⊎_elim
    (λ held. let stale = (stale-held ts e u h held).0 in ap (λ b. bit (b && is_waiting u count e)) stale)
    (λ free. let none : is_waiting u count e ≡ false = ap (λ b. b && nat_lt 0 count) free in
    let a = ap (λ b. bit (ender_stale ts e && b)) none in let b = ap bit none in let c = no_part (ender_stale ts e) in omega (arith, a, b, c))
    (cases_Bool (is_held_by u e))
  where
    no_part : (b : Bool) → bit (b && false) ≡ 0
    no_part true = refl
    no_part false = refl

unwritten : (w : World) (t v : ℕ) → Sound w → MayWrite w t v → In (t, EndOf v) w.writes → ⊥
unwritten w t v o m i =
    ⊎_elim
    (λ held. let gone = (stale-held w.txns (version_in w.versions v).ender t (is-free w t v o m) held).1 in absurd (false≢true (sym m.walker ∙ gone)))
    (λ gone. absurd (false≢true (sym m.walker ∙ gone)))
    (o.ended_by t v i)

same-entry : (a b : WriteEntry) → same_entry a b ≡ true → a ≡ b
same-entry (BeginOf a) (BeginOf b) h = ap BeginOf (eqb-true a b h)
same-entry (BeginOf a) (EndOf b) h = cc
same-entry (EndOf a) (BeginOf b) h = cc
same-entry (EndOf a) (EndOf b) h = ap EndOf (eqb-true a b h)

-- an entry that is in no pair is not in the write set
pub not-listed : (ps : List (ℕ × WriteEntry)) (t : ℕ) (e : WriteEntry) → (In (t, e) ps → ⊥) → list_any (same_entry e) (entries_of ps t) ≡ false
not-listed [] t e h = refl
not-listed (p ∷ ps) t e h =
    let rest : list_any (same_entry e) (entries_of ps t) ≡ false = not-listed ps t e (λ i. h (inr i)) in
    ⊎_elim
    (λ mine. ap (list_any (same_entry e)) (cond-true (p.0 == t) (p.1 ∷ entries_of ps t) (entries_of ps t) mine)
    ∙ ⊎_elim
    (λ yes. let a = eqb-true p.0 t mine in let b = same-entry e p.1 yes in absurd (h (inl (λ i. (sym a i, b i)))))
    (λ no. ap (λ c. c || list_any (same_entry e) (entries_of ps t)) no ∙ rest)
    (cases_Bool (same_entry e p.1)))
    (λ other. ap (list_any (same_entry e)) (cond-false (p.0 == t) (p.1 ∷ entries_of ps t) (entries_of ps t) other) ∙ rest)
    (cases_Bool (p.0 == t))

pub new-entry : (ps : List (ℕ × WriteEntry)) (xs : List WriteEntry) (t : ℕ) (e : WriteEntry) → xs ≡ entries_of ps t → (In (t, e) ps → ⊥) →
    joined same_entry xs e ≡ entries_of (ps ++ (t, e) ∷ []) t
new-entry ps xs t e same h =
    ap (λ ys. joined same_entry ys e) same
    ∙ cond-false (list_any (same_entry e) (entries_of ps t)) (entries_of ps t) (entries_of ps t ++ e ∷ []) (not-listed ps t e h)
    ∙ sym (entries-add_same ps t e)

pub shows-write_txns : (s : Stored) (x : TxnTable) (w : World) (t v : ℕ) (reads : Entries ℕ) (writes : Entries WriteEntry) → Declared x t → Sound w → MayWrite w t v →
    reads.items ≡ remove_key (nat_eq v) (read_set_of x t).items → writes.items ≡ joined same_entry (write_set_of x t).items (EndOf v) →
    ShowsStore s w.buckets w.versions w.read_locks → ShowsTxns x w →
    ShowsTxns (with_write_set (with_read_set (write_lock_waits s x t v) t reads) t writes) (add_write w t v)
shows-write_txns s x w t v reads writes d o m taken joins h q =
    rw table
    (shows-writes (with_read_set (record x { waits = more_list fresh t count }) t reads) (record w { versions = ys; read_locks = S }) (w.writes ++ (t, EndOf v) ∷ []) t writes
    (record { named = d.named; within = d.within })
    (λ u ne. entries-add_other w.writes t u (EndOf v) ne)
    (joins ∙ new-entry w.writes (write_set_of x t).items t (EndOf v) (q.write_sets t) (unwritten w t v o m))
    (shows-reads x w ys S (more_list fresh t count) t reads d (more-long fresh t (nat_lt 0 count) ∙ stale-long (ender_stale w.txns old) x.waits (readers w.read_locks v) old) counted
    (λ u ne. seconds-leave_other w.read_locks t v u ne)
    (taken ∙ ap (remove_key (nat_eq v)) (q.read_sets t) ∙ sym (seconds-leave_same w.read_locks t v o.reads_once)) q))
  where
    S : List (ℕ × ℕ)
    S = leave w.read_locks t v

    count : ℕ
    count = readers (leave w.read_locks t v) v

    old : Ender
    old = (version_in w.versions v).ender

    ys : List Version
    ys = set_ender w.versions v (Held (Some t) false)

    fresh : List ℕ
    fresh = stale_waits (ender_stale w.txns old) x.waits (readers w.read_locks v) old

    table : write_lock_waits s x t v ≡ record x { waits = more_list fresh t count }
    table =
        ap (λ y. if nat_lt 0 (readers_of (to_write s x t v)) then more_waits y t else y) (waits-cleared s x w v h q)
        ∙ ap (λ n. if nat_lt 0 n then more_waits (record x { waits = fresh }) t else (record x { waits = fresh })) (ap readers_of (to_write-shown s x w t v o m h q) ∙ readers-alone count)
        ∙ more-is (record x { waits = fresh }) t (nat_lt 0 count)

    more-entry : (b : Bool) (u : ℕ) → entry_at 0 (if b then set_at fresh t (entry_at 0 fresh t + 1) else fresh) u ≡ entry_at 0 fresh u + bit ((t == u) && b)
    more-entry true u =
        let more = entry-raised fresh t u (place-in fresh x t (stale-long (ender_stale w.txns old) x.waits (readers w.read_locks v) old ∙ q.even.waits) d) in
        let k = whole (t == u) in omega (arith, more, k)
      where
        whole : (b : Bool) → bit (b && true) ≡ bit b
        whole true = refl
        whole false = refl
    more-entry false u = let k = none (t == u) in omega (arith, k)
      where
        none : (b : Bool) → bit (b && false) ≡ 0
        none true = refl
        none false = refl

    counted : (u : ℕ) → entry_at 0 (more_list fresh t count) u ≡ waits (record w { versions = ys; read_locks = S }) u
    counted u =
        let more = more-entry (nat_lt 0 count) u in
        let less = stale-entry (ender_stale w.txns old) x.waits (readers w.read_locks v) old u in
        let was = q.waits u in
        let some = waits-some w.read_locks w.versions v u m.made in
        let at = waits-at w.read_locks S w.versions ys v u (same_but w t v m.made) in
        let here : is_waited_for S u v (version_in ys v) ≡ ((t == u) && nat_lt 0 count) =
        ap (λ (z : Version). is_held_by u z.ender && nat_lt 0 (readers S v)) (set_ender-same w.versions v (Held (Some t) false) m.made) in
        let b = ap bit here in
        let stale = write_bits w.txns (readers w.read_locks v) count t u old (is-free w t v o m) in
        omega (arith, more, less, was, some, at, b, stale)

-- ---- what the call requires

can_take : (n : ℕ) → CanTakeWriter (readers_alone n)
can_take zero = refl
can_take (suc n) = refl

pub may-take : (s : Stored) (x : TxnTable) (w : World) (t v : ℕ) → Sound w → MayWrite w t v → ShowsStore s w.buckets w.versions w.read_locks → ShowsTxns x w →
    CanTakeWriter (to_write s x t v)
may-take s x w t v o m h q = rw (to_write-shown s x w t v o m h q) (can_take (readers (leave w.read_locks t v) v))

pub has-own : (s : Stored) (x : TxnTable) (w : World) (t v : ℕ) → Sound w → MayWrite w t v → ShowsStore s w.buckets w.versions w.read_locks → ShowsTxns x w →
    is_among (read_set_of x t).items v ≡ true → 0 < readers_of (cleared_word x.cores (version_at s v).end)
has-own s x w t v o m h q own =
    let reading : has w.read_locks t v ≡ true = sym (ap (λ xs. is_among xs v) (q.read_sets t) ∙ among-seconds w.read_locks t v) ∙ own in
    let all = firsts-leave_count w.read_locks t v o.reads_once in let one = ap bit reading in
    let word = ap readers_of (clear-shown s x w v h q ∙ ap (end_word_by (readers w.read_locks v)) (is-free w t v o m)) ∙ readers-alone (readers w.read_locks v) in
    omega (arith, all, one, word)

pub may-wait : (s : Stored) (x : TxnTable) (w : World) (t v : ℕ) → Sound w → length w.versions + length w.txns + 1 < 2 ^ 64 →
    ShowsStore s w.buckets w.versions w.read_locks → ShowsTxns x w → waits_of (cleared_waits x (version_at s v).end) t + 1 < 2 ^ 64
may-wait s x w t v o few h q =
    let e : Ender = (version_in w.versions v).ender in
    let table = ap (λ y. waits_of y t) (waits-cleared s x w v h q) in
    let less = stale-entry (ender_stale w.txns e) x.waits (readers w.read_locks v) e t in
    let was = q.waits t in let bound = o.waits_bound t in omega (arith, table, less, was, bound, few)
