-- A read lock is taken.
use Rattle.std.proofs.Common.{◌≡◌, ℕ, zero, suc, ◌+◌, ◌<◌, ◌≤◌, ◌^◌, Bool, true, false, List, refl, ◌∙◌, ap, sym, subst, arith, Some, None, ⊎_elim, length, nat_eq}
use Rattle.std.proofs.lemmas.Bool.{cond-true, cond-false, cond_both, cases_Bool, false≢true, or_parts}
use Rattle.std.proofs.lemmas.Bool.Decides.{nat_tests}
use Rattle.std.specs.Prelude.{◌==◌, ◌&&◌, ◌||◌, not, nat_lt, if◌then◌else◌}
use Rattle.hek_rules.specs.declared.word.EndRecord.TheVariants.{Lock}
use Rattle.hek_rules.specs.Words.{CanAdd, with_reader}
use Rattle.hek_rules.specs.Listing.{has, join, is_among}
use Rattle.hek_rules.specs.World.{World, Version, Txn, Ender, EndedAt, Held, version_in, txn_in, is_made_by, is_held_by, is_aborted}
use Rattle.hek_rules.specs.Waits.{readers, waits, is_waited_for}
use Rattle.hek_rules.specs.Locks.{cleared, set_ender, reads_freely, read_refusal, add_read}
use Rattle.hek_rules.specs.Shown.{end_word_by, readers_alone}
use Rattle.hek_store.specs.Stored.{Stored, version_at, with_end_word}
use Rattle.hek_txn.specs.Entries.{Entries, joined}
use Rattle.hek_txn.specs.TxnTable.{TxnTable, Declared, entry_at, set_at, waits_of, read_set_of, with_read_set}
use Rattle.hek_txn.specs.TxnLemmas.{length_set_at}
use Rattle.hek_locks.specs.Locked.{CanWait, writer_waits, cleared_word, cleared_waits, reads_freely as freely, read_locked, read_lock_waits, read_lock_reads}
use Rattle.hek_laws.specs.Sound.{Sound, is_held, IsSoundEnder}
use Rattle.hek_laws.proofs.Sound.Flags.{Open, allowed-open, held-cleared}
use Rattle.hek_refinement.specs.MayLock.{MayRead}
use Rattle.hek_refinement.specs.Shows.{ShowsStore, ShowsTxns}
use Rattle.hek_refinement.proofs.Pairs.{bit, among-seconds}
use Rattle.hek_refinement.proofs.Entries.{HasPlace}
use Rattle.hek_refinement.proofs.Raised.{entry-raised}
use Rattle.hek_refinement.proofs.Counts.{SameBut, waits-at}
use Rattle.hek_refinement.proofs.Stores.{begin-shown, shows-end, same-set, set_ender-same}
use Rattle.hek_refinement.proofs.Rooms.{place-in, room-read_set}
use Rattle.hek_refinement.proofs.Changes.{shows-reads}
use Rattle.hek_refinement.proofs.Known.{present-known}
use Rattle.hek_refinement.proofs.Frees.{is_waiting, waits-some}
use Rattle.hek_refinement.proofs.Clears.{ender_stale, clear-shown, stale_waits, stale-long, stale-entry, waits-cleared}
use Rattle.hek_refinement.proofs.Joins.{firsts-join_other, firsts-join_count, seconds-join_same, seconds-join_other}

-- ---- transactions that need no lock

pub free-same : (s : Stored) (x : TxnTable) (w : World) (t v : ℕ) → ShowsStore s w.buckets w.versions w.read_locks → ShowsTxns x w → freely s x t v ≡ reads_freely w t v
free-same s x w t v h q =
    ap (λ b. is_made_by t b || is_among (read_set_of x t).items v) (begin-shown s w.buckets w.versions w.read_locks v h)
    ∙ ap (λ c. is_made_by t (version_in w.versions v).creator || c) (ap (λ xs. is_among xs v) (q.read_sets t) ∙ among-seconds w.read_locks t v)

-- ---- the word

word-more : (count : ℕ) (e : Ender) → is_held e ≡ true → with_reader (end_word_by count e) ≡ end_word_by (suc count) e
word-more count (EndedAt time) h = cc
word-more zero (Held None no_more) h = refl
word-more (suc n) (Held None no_more) h = ap (λ k. Lock k None false) (omega arith)
word-more count (Held (Some u) no_more) h = ap (λ k. Lock k (Some u) no_more) (omega arith)

may_add : (ts : List Txn) (count : ℕ) (e : Ender) → is_held e ≡ true → Open ts count e → read_refusal ts count e ≡ None → CanAdd (end_word_by count e)
may_add ts count (EndedAt time) h o n = cc
may_add ts count (Held None true) h o n = cc
may_add ts zero (Held None false) h o n = refl
may_add ts (suc k) (Held None false) h o n = (o.room, refl)
may_add ts count (Held (Some u) true) h o n = cc
may_add ts count (Held (Some u) false) h o n = (o.room, refl)

-- ---- counters

-- the counters after a reader comes: the writer waits for its first reader
abbrev pub first_waits : List ℕ → ℕ → Ender → List ℕ
first_waits ws count (EndedAt time) = ws
first_waits ws count (Held None no_more) = ws
first_waits ws count (Held (Some u) no_more) = if count == 0 then set_at ws u (entry_at 0 ws u + 1) else ws

first-long : (ws : List ℕ) (count : ℕ) (e : Ender) → length (first_waits ws count e) ≡ length ws
first-long ws count (EndedAt time) = refl
first-long ws count (Held None no_more) = refl
first-long ws count (Held (Some u) no_more) = cond_both (count == 0) (set_at ws u (entry_at 0 ws u + 1)) ws (λ ys. length ys ≡ length ws) (λ _. length_set_at ws u _) (λ _. refl)

first_if : (ws : List ℕ) (x u : ℕ) (b : Bool) → HasPlace ws x → entry_at 0 (if b then set_at ws x (entry_at 0 ws x + 1) else ws) u ≡ entry_at 0 ws u + bit ((x == u) && b)
first_if ws x u true p = let more = entry-raised ws x u p in let k = whole (x == u) in omega (arith, more, k)
  where
    whole : (b : Bool) → bit (b && true) ≡ bit b
    whole true = refl
    whole false = refl
first_if ws x u false p = let k = none (x == u) in omega (arith, k)
  where
    none : (b : Bool) → bit (b && false) ≡ 0
    none true = refl
    none false = refl

first-entry : (ws : List ℕ) (count : ℕ) (e : Ender) (u : ℕ) → ((y : ℕ) → is_held_by y e ≡ true → HasPlace ws y) →
    entry_at 0 (first_waits ws count e) u ≡ entry_at 0 ws u + bit (is_held_by u e && (count == 0))
first-entry ws count (EndedAt time) u p = omega arith
first-entry ws count (Held None no_more) u p = omega arith
first-entry ws count (Held (Some x) no_more) u p = first_if ws x u (count == 0) (p x (grind (arith, nat_tests)))

first_table : (b : Bool) (y : TxnTable) (u : ℕ) →
    (if b then record y { waits = set_at y.waits u (entry_at 0 y.waits u + 1) } else y) ≡ record y { waits = if b then set_at y.waits u (entry_at 0 y.waits u + 1) else y.waits }
first_table true y u = refl
first_table false y u = refl

first-is : (y : TxnTable) (count : ℕ) (e : Ender) → writer_waits y (end_word_by count e) ≡ record y { waits = first_waits y.waits count e }
first-is y count (EndedAt time) = refl
first-is y zero (Held None no_more) = refl
first-is y (suc n) (Held None no_more) = refl
first-is y count (Held (Some u) no_more) = first_table (count == 0) y u

-- ---- the call and the rule

-- a version that t needs a read lock for, and may have one
record NewReader (w : World) (t v : ℕ) : Type 0 where
  made : v < length w.versions
  free : Open w.txns (readers w.read_locks v) (cleared w.txns (version_in w.versions v).ender)
  held : is_held (cleared w.txns (version_in w.versions v).ender) ≡ true
  allowed : read_refusal w.txns (readers w.read_locks v) (cleared w.txns (version_in w.versions v).ender) ≡ None
  more : readers (join w.read_locks t v) v ≡ suc (readers w.read_locks v)

new-reader : (w : World) (t v : ℕ) → MayRead w t v → reads_freely w t v ≡ false → NewReader w t v
new-reader w t v m bound =
    let none : read_refusal w.txns (readers w.read_locks v) (cleared w.txns (version_in w.versions v).ender) ≡ None =
    sym (cond-false (reads_freely w t v) None (read_refusal w.txns (readers w.read_locks v) (cleared w.txns (version_in w.versions v).ender)) bound) ∙ m.allowed in
    let held = held-cleared w.txns (version_in w.versions v).ender m.held in
    let new : has w.read_locks t v ≡ false = (or_parts _ _ bound).1 in
    let count = firsts-join_count w.read_locks t v v in
    let one : (not (has w.read_locks t v) && (v == v)) ≡ true = grind (arith, nat_tests, new) in
    let k = ap bit one in
    record {
      made = m.made;
      free = allowed-open w.txns (readers w.read_locks v) (cleared w.txns (version_in w.versions v).ender) held none;
      held = held;
      allowed = none;
      more = omega (arith, count, k);
    }

abbrev joined_world : World → ℕ → ℕ → World
joined_world w t v = record w {
  versions = set_ender w.versions v (cleared w.txns (version_in w.versions v).ender);
  read_locks = join w.read_locks t v;
}

same_but : (w : World) (t v : ℕ) → v < length w.versions → SameBut w.read_locks (join w.read_locks t v) w.versions (set_ender w.versions v (cleared w.txns (version_in w.versions v).ender)) v
same_but w t v l =
    let same = same-set w.read_locks w.versions v _ l in
    record { there = same.there; long = same.long; versions = same.versions; counts = λ j ne. ap length (firsts-join_other w.read_locks t v j ne) }

joined_store : (s : Stored) (x : TxnTable) (w : World) (t v : ℕ) → NewReader w t v → ShowsStore s w.buckets w.versions w.read_locks → ShowsTxns x w →
    ShowsStore (with_end_word s v (with_reader (cleared_word x.cores (version_at s v).end))) w.buckets (set_ender w.versions v (cleared w.txns (version_in w.versions v).ender)) (join w.read_locks t v)
joined_store s x w t v r h q =
    let e : Ender = cleared w.txns (version_in w.versions v).ender in
    shows-end s w.buckets w.versions (set_ender w.versions v (cleared w.txns (version_in w.versions v).ender)) w.read_locks (join w.read_locks t v) v
    (with_reader (cleared_word x.cores (version_at s v).end)) (cleared w.txns (version_in w.versions v).ender)
    (same_but w t v r.made) (set_ender-same w.versions v e r.made)
    (ap with_reader (clear-shown s x w v h q) ∙ word-more (readers w.read_locks v) e r.held ∙ ap (λ n. end_word_by n e) (sym r.more)) h

-- the count of u's waits for the version, before and after a reader comes
read_bits : (ts : List Txn) (count : ℕ) (e : Ender) (u : ℕ) →
    bit (is_held_by u (cleared ts e) && (count == 0)) + bit (is_waiting u count e)
    ≡ bit (ender_stale ts e && is_waiting u count e) + bit (is_held_by u (cleared ts e) && nat_lt 0 (suc count))
read_bits ts count (EndedAt time) u = refl
read_bits ts count (Held None no_more) u = refl
read_bits ts count (Held (Some y) no_more) u = either (is_aborted (txn_in ts y).state)
  where
    either : (b : Bool) →
        bit (is_held_by u (if b then Held None false else Held (Some y) no_more) && (count == 0)) + bit ((y == u) && nat_lt 0 count)
        ≡ bit (b && ((y == u) && nat_lt 0 count)) + bit (is_held_by u (if b then Held None false else Held (Some y) no_more) && nat_lt 0 (suc count))
    either true = omega arith
    either false = mine (y == u) count
      where
        mine : (c : Bool) (n : ℕ) → bit (c && (n == 0)) + bit (c && nat_lt 0 n) ≡ 0 + bit (c && nat_lt 0 (suc n))
        mine c n = grind (arith, nat_tests)

stale_bits : (b c : Bool) → bit (b && c) ≤ bit c
stale_bits true c = omega arith
stale_bits false c = omega arith

writer-placed : (x : TxnTable) (w : World) (e : Ender) (ws : List ℕ) → length ws ≡ length x.waits → ShowsTxns x w → IsSoundEnder w e → (y : ℕ) → is_held_by y (cleared w.txns e) ≡ true → HasPlace ws y
writer-placed x w (EndedAt time) ws long q k y h = cc
writer-placed x w (Held None no_more) ws long q k y h = cc
writer-placed x w (Held (Some u) no_more) ws long q k y h =
    ⊎_elim (λ gone. let z : false ≡ true = sym (ap (is_held_by y) (cond-true (is_aborted (txn_in w.txns u).state) (Held None false) (Held (Some u) no_more) gone)) ∙ h in absurd (false≢true z))
    (λ stays. let z : (u == y) ≡ true = sym (ap (is_held_by y) (cond-false (is_aborted (txn_in w.txns u).state) (Held None false) (Held (Some u) no_more) stays)) ∙ h in
    let e : u ≡ y = grind (arith, nat_tests, z) in
    let d = present-known x w u q k in
    subst (HasPlace ws) e (place-in ws x u (long ∙ q.even.waits) d)) (cases_Bool (is_aborted (txn_in w.txns u).state))

joined_txns : (s : Stored) (x : TxnTable) (w : World) (t v : ℕ) (e : Entries ℕ) → Declared x t → Sound w → NewReader w t v →
    e.items ≡ joined nat_eq (read_set_of x t).items v → ShowsStore s w.buckets w.versions w.read_locks → ShowsTxns x w →
    ShowsTxns (with_read_set (writer_waits (cleared_waits x (version_at s v).end) (cleared_word x.cores (version_at s v).end)) t e) (joined_world w t v)
joined_txns s x w t v e d o r items h q =
    rw (waits-cleared s x w v h q)
    (rw (clear-shown s x w v h q)
    (rw (first-is (record x { waits = cleared_list }) count now)
    (shows-reads x w ys S (first_waits cleared_list count now) t e d (first-long cleared_list count now ∙ stale-long (ender_stale w.txns old) x.waits count old) counted
    (λ u ne. seconds-join_other R t v u ne)
    (items ∙ ap (λ xs. joined nat_eq xs v) (q.read_sets t) ∙ sym (seconds-join_same R t v)) q)))
  where
    R : List (ℕ × ℕ)
    R = w.read_locks

    S : List (ℕ × ℕ)
    S = join w.read_locks t v

    count : ℕ
    count = readers w.read_locks v

    old : Ender
    old = (version_in w.versions v).ender

    now : Ender
    now = cleared w.txns (version_in w.versions v).ender

    ys : List Version
    ys = set_ender w.versions v now

    cleared_list : List ℕ
    cleared_list = stale_waits (ender_stale w.txns old) x.waits count old

    counted : (u : ℕ) → entry_at 0 (first_waits cleared_list count now) u ≡ waits (record w { versions = ys; read_locks = S }) u
    counted u =
        let first = first-entry cleared_list count now u (writer-placed x w old cleared_list (stale-long (ender_stale w.txns old) x.waits count old) q (o.enders v)) in
        let less = stale-entry (ender_stale w.txns old) x.waits count old u in
        let was = q.waits u in
        let some = waits-some R w.versions v u r.made in
        let at = waits-at R S w.versions ys v u (same_but w t v r.made) in
        let here : is_waited_for S u v (version_in ys v) ≡ (is_held_by u now && nat_lt 0 (suc count)) =
        ap (λ (z : Version). is_held_by u z.ender && nat_lt 0 (readers S v)) (set_ender-same w.versions v now r.made) ∙ ap (λ n. is_held_by u now && nat_lt 0 n) r.more in
        let b = ap bit here in
        let bits = read_bits w.txns count old u in
        let part = stale_bits (ender_stale w.txns old) (is_waiting u count old) in
        omega (arith, first, less, was, some, at, b, bits, part)

pub shows-read_store : (s : Stored) (x : TxnTable) (w : World) (t v : ℕ) → MayRead w t v → ShowsStore s w.buckets w.versions w.read_locks → ShowsTxns x w →
    ShowsStore (read_locked s x t v) w.buckets (add_read w t v).versions (add_read w t v).read_locks
shows-read_store s x w t v m h q =
    ⊎_elim
    (λ free. subst (λ z. ShowsStore z w.buckets (add_read w t v).versions (add_read w t v).read_locks) (sym (cond-true (freely s x t v) s _ (free-same s x w t v h q ∙ free)))
    (subst (λ (z : World). ShowsStore s w.buckets z.versions z.read_locks) (sym (cond-true (reads_freely w t v) w (joined_world w t v) free)) h))
    (λ bound. subst (λ z. ShowsStore z w.buckets (add_read w t v).versions (add_read w t v).read_locks) (sym (cond-false (freely s x t v) s _ (free-same s x w t v h q ∙ bound)))
    (subst (λ (z : World). ShowsStore (with_end_word s v (with_reader (cleared_word x.cores (version_at s v).end))) w.buckets z.versions z.read_locks) (sym (cond-false (reads_freely w t v) w (joined_world w t v) bound))
    (joined_store s x w t v (new-reader w t v m bound) h q)))
    (cases_Bool (reads_freely w t v))

pub shows-read_txns : (s : Stored) (x : TxnTable) (w : World) (t v : ℕ) (e : Entries ℕ) → Declared x t → Sound w → MayRead w t v →
    e.items ≡ read_lock_reads s x t v → ShowsStore s w.buckets w.versions w.read_locks → ShowsTxns x w →
    ShowsTxns (with_read_set (read_lock_waits s x t v) t e) (add_read w t v)
shows-read_txns s x w t v e d o m items h q =
    ⊎_elim
    (λ free. let f = free-same s x w t v h q ∙ free in
    subst (λ z. ShowsTxns (with_read_set z t e) (add_read w t v)) (sym (cond-true (freely s x t v) x _ f))
    (subst (λ (z : World). ShowsTxns (with_read_set x t e) z) (sym (cond-true (reads_freely w t v) w (joined_world w t v) free))
    (room-read_set x w t e d (items ∙ cond-true (freely s x t v) (read_set_of x t).items _ f) q)))
    (λ bound. let f = free-same s x w t v h q ∙ bound in
    subst (λ z. ShowsTxns (with_read_set z t e) (add_read w t v)) (sym (cond-false (freely s x t v) x _ f))
    (subst (λ (z : World). ShowsTxns (with_read_set (writer_waits (cleared_waits x (version_at s v).end) (cleared_word x.cores (version_at s v).end)) t e) z) (sym (cond-false (reads_freely w t v) w (joined_world w t v) bound))
    (joined_txns s x w t v e d o (new-reader w t v m bound) (items ∙ cond-false (freely s x t v) (read_set_of x t).items _ f) h q)))
    (cases_Bool (reads_freely w t v))

-- ---- what the call requires

pub may-add : (s : Stored) (x : TxnTable) (w : World) (t v : ℕ) → MayRead w t v → ShowsStore s w.buckets w.versions w.read_locks → ShowsTxns x w →
    freely s x t v ≡ false → CanAdd (cleared_word x.cores (version_at s v).end)
may-add s x w t v m h q bound =
    let r = new-reader w t v m (sym (free-same s x w t v h q) ∙ bound) in
    rw (clear-shown s x w v h q) (may_add w.txns (readers w.read_locks v) (cleared w.txns (version_in w.versions v).ender) r.held r.free r.allowed)

can_wait : (x : TxnTable) (w : World) (y : TxnTable) (count : ℕ) (e : Ender) → ShowsTxns x w → IsSoundEnder w e → ((u : ℕ) → Declared x u → Declared y u) →
    ((u : ℕ) → waits_of y u + 1 < 2 ^ 64) → CanWait y (end_word_by count (cleared w.txns e))
can_wait x w y count (EndedAt time) q k same few = tt
can_wait x w y zero (Held None no_more) q k same few = tt
can_wait x w y (suc n) (Held None no_more) q k same few = tt
can_wait x w y count (Held (Some u) no_more) q k same few = either (is_aborted (txn_in w.txns u).state)
  where
    alone : (n : ℕ) → CanWait y (readers_alone n)
    alone zero = tt
    alone (suc n) = tt

    either : (b : Bool) → CanWait y (end_word_by count (if b then Held None false else Held (Some u) no_more))
    either true = alone count
    either false = (same u (present-known x w u q k), few u)

pub may-count : (s : Stored) (x : TxnTable) (w : World) (v : ℕ) → Sound w → length w.versions + length w.txns + 1 < 2 ^ 64 →
    ShowsStore s w.buckets w.versions w.read_locks → ShowsTxns x w → CanWait (cleared_waits x (version_at s v).end) (cleared_word x.cores (version_at s v).end)
may-count s x w v o few h q =
    rw (waits-cleared s x w v h q)
    (rw (clear-shown s x w v h q)
    (can_wait x w (record x { waits = stale_waits (ender_stale w.txns (version_in w.versions v).ender) x.waits (readers w.read_locks v) (version_in w.versions v).ender })
    (readers w.read_locks v) (version_in w.versions v).ender q (o.enders v) (λ u d. record { named = d.named; within = d.within })
    (λ u.
    let less = stale-entry (ender_stale w.txns (version_in w.versions v).ender) x.waits (readers w.read_locks v) (version_in w.versions v).ender u in
    let was = q.waits u in let bound = o.waits_bound u in omega (arith, less, was, bound, few))))
