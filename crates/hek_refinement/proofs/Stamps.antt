-- Words are stamped, and write entries leave.
use Rattle.std.proofs.Common.{◌≡◌, ℕ, zero, suc, ◌+◌, ◌<◌, true, false, List, [], ◌∷◌, refl, ◌∙◌, ap, sym, arith, inl, inr, Some, None, ⊎_elim, length}
use Rattle.std.proofs.lemmas.Bool.{cond-true, cond-false, cases_Bool, cases_eq}
use Rattle.std.proofs.lemmas.Bool.Decides.{nat_tests}
use Rattle.std.specs.Prelude.{◌==◌, ◌&&◌, nat_lt}
use Rattle.hek_rules.specs.declared.event.WriteEntry.{WriteEntry}
use Rattle.hek_rules.specs.declared.word.BeginRecord.{BeginRecord}
use Rattle.hek_rules.specs.declared.word.EndRecord.TheVariants.{Until}
use Rattle.hek_rules.specs.Words.{without_writer}
use Rattle.hek_rules.specs.World.{World, Version, Ender, EndedAt, Held, version_in, is_held_by, txn_in, is_committed}
use Rattle.hek_rules.specs.Waits.{readers, waits, is_waited_for}
use Rattle.hek_rules.specs.Locks.{set_ender}
use Rattle.hek_rules.specs.Table.{entries_of, without_entry, set_creator, given_back}
use Rattle.hek_rules.specs.Shown.{end_word_by}
use Rattle.hek_store.specs.Stored.{Stored, version_at, with_begin_word, with_end_word}
use Rattle.hek_txn.specs.Entries.{Entries}
use Rattle.hek_txn.specs.TxnTable.{TxnTable, Declared, write_set_of, with_write_set}
use Rattle.hek_locks.specs.Locked.{writer_freed}
use Rattle.hek_commit.specs.Stamped.{is_written_by, rest_of}
use Rattle.hek_laws.specs.Lists.{In}
use Rattle.hek_laws.specs.Sound.{Sound}
use Rattle.hek_refinement.specs.Shows.{ShowsStore, ShowsTxns}
use Rattle.hek_refinement.proofs.Pairs.{bit, entries-without_same, entries-without_other}
use Rattle.hek_refinement.proofs.Counts.{version-set_same, waits-at}
use Rattle.hek_refinement.proofs.Stores.{word-shown, shows-begin, shows-end, same-set, set_ender-same}
use Rattle.hek_refinement.proofs.Changes.{shows-versions, shows-writes}
use Rattle.hek_refinement.proofs.Frees.{freed_waits, freed-long, freed-entry, writer_freed-is, word-freed}

-- the first entry of a write set is one of the world's
pub first-written : (ps : List (ℕ × WriteEntry)) (t : ℕ) (e : WriteEntry) (es : List WriteEntry) → entries_of ps t ≡ e ∷ es → In (t, e) ps
first-written [] t e es h = cc
first-written (p ∷ ps) t e es h =
    ⊎_elim
    (λ yes.
    let mine : p.0 ≡ t = grind (arith, nat_tests, yes) in
    let this : p.1 ∷ entries_of ps t ≡ e ∷ es = sym (cond-true (p.0 == t) (p.1 ∷ entries_of ps t) (entries_of ps t) yes) ∙ h in
    let entry : p.1 ≡ e = cc in inl (λ i. (sym mine i, sym entry i)))
    (λ no. inr (first-written ps t e es (sym (cond-false (p.0 == t) (p.1 ∷ entries_of ps t) (entries_of ps t) no) ∙ h)))
    (cases_Bool (p.0 == t))

-- the table after the first entry of t's write set leaves
pub shows-unwritten : (x : TxnTable) (w : World) (t : ℕ) (e : Entries WriteEntry) → Declared x t → e.items ≡ rest_of (write_set_of x t).items → ShowsTxns x w →
    ShowsTxns (with_write_set x t e) (record w { writes = without_entry w.writes t })
shows-unwritten x w t e d items s =
    shows-writes x w (without_entry w.writes t) t e d (λ u ne. entries-without_other w.writes t u ne)
    (items ∙ ap rest_of (s.write_sets t) ∙ sym (entries-without_same w.writes t)) s

-- the table shows the world with other versions, if no count of waits changes
quiet : (x : TxnTable) (w : World) (ys : List Version) → ((u : ℕ) → waits (record w { versions = ys }) u ≡ waits w u) → ShowsTxns x w → ShowsTxns x (record w { versions = ys })
quiet x w ys same s = shows-versions x w ys x.waits refl (λ u. s.waits u ∙ sym (same u)) s

-- ---- a Begin word

pub shows-begun_store : (s : Stored) (w : World) (v : ℕ) (b : BeginRecord) → v < length w.versions → ShowsStore s w.buckets w.versions w.read_locks →
    ShowsStore (with_begin_word s v b) w.buckets (set_creator w.versions v b) w.read_locks
shows-begun_store s w v b l h = shows-begin s w.buckets w.versions w.read_locks v b l h

creator-waits : (w : World) (v : ℕ) (b : BeginRecord) (u : ℕ) → v < length w.versions → waits (record w { versions = set_creator w.versions v b }) u ≡ waits w u
creator-waits w v b u l =
    let x : Version = record (version_in w.versions v) { creator = b } in
    let at = waits-at w.read_locks w.read_locks w.versions (set_creator w.versions v b) v u (same-set w.read_locks w.versions v _ l) in
    let same = ap (λ (y : Version). bit (is_waited_for w.read_locks u v y)) (version-set_same w.versions v x l) in omega (arith, at, same)

pub shows-begun_txns : (x : TxnTable) (w : World) (t v : ℕ) (b : BeginRecord) (e : Entries WriteEntry) → Declared x t → v < length w.versions →
    e.items ≡ rest_of (write_set_of x t).items → ShowsTxns x w →
    ShowsTxns (with_write_set x t e) (record w { versions = set_creator w.versions v b; writes = without_entry w.writes t })
shows-begun_txns x w t v b e d l items s =
    shows-unwritten x (record w { versions = set_creator w.versions v b }) t e d items
    (quiet x w (set_creator w.versions v b) (λ u. creator-waits w v b u l) s)

-- ---- an End word

-- the counts after the writer of a version goes: it no longer waits for the version's readers
ender-waits : (w : World) (v : ℕ) (e : Ender) (u : ℕ) → v < length w.versions → ((y : ℕ) → is_held_by y e ≡ false) →
    waits (record w { versions = set_ender w.versions v e }) u + bit (is_waited_for w.read_locks u v (version_in w.versions v)) ≡ waits w u
ender-waits w v e u l free =
    let at = waits-at w.read_locks w.read_locks w.versions (set_ender w.versions v e) v u (same-set w.read_locks w.versions v _ l) in
    let here : is_waited_for w.read_locks u v (version_in (set_ender w.versions v e) v) ≡ false =
    ap (λ (y : Version). is_waited_for w.read_locks u v y) (set_ender-same w.versions v e l) ∙ ap (λ b. b && nat_lt 0 (readers w.read_locks v)) (free u) in
    let none = ap bit here in omega (arith, at, none)

-- a committed writer waits for nobody, so its stamp changes no count
settled : (w : World) (t v u : ℕ) → Sound w → v < length w.versions → is_held_by t (version_in w.versions v).ender ≡ true → is_committed (txn_in w.txns t).state ≡ true →
    waits (record w { versions = set_ender w.versions v (EndedAt (txn_in w.txns t).end) }) u ≡ waits w u
settled w t v u o l mine done =
    let less = ender-waits w v (EndedAt (txn_in w.txns t).end) u l (λ y. refl) in
    ⊎_elim
    (λ same.
    let prepared = ap (λ (n : ℕ). waits w n) same in let idle = o.waits_for_none t (grind (arith, done)) in omega (arith, less, prepared, idle))
    (λ ne.
    let other = held-alone (version_in w.versions v).ender t u mine ne in
    let none : (is_held_by u (version_in w.versions v).ender && nat_lt 0 (readers w.read_locks v)) ≡ false = ap (λ b. b && nat_lt 0 (readers w.read_locks v)) other in
    let b = ap bit none in omega (arith, less, b))
    (cases_eq u t)
  where
    held-alone : (e : Ender) (t u : ℕ) → is_held_by t e ≡ true → (u ≡ t → ⊥) → is_held_by u e ≡ false
    held-alone (EndedAt time) t u h ne = refl
    held-alone (Held None no_more) t u h ne = refl
    held-alone (Held (Some x) no_more) t u h ne = grind (arith, nat_tests, h, ne)

pub shows-ended_store : (s : Stored) (w : World) (v time : ℕ) → v < length w.versions → ShowsStore s w.buckets w.versions w.read_locks →
    ShowsStore (with_end_word s v (Until time)) w.buckets (set_ender w.versions v (EndedAt time)) w.read_locks
shows-ended_store s w v time l h =
    shows-end s w.buckets w.versions (set_ender w.versions v (EndedAt time)) w.read_locks w.read_locks v (Until time) (EndedAt time)
    (same-set w.read_locks w.versions v _ l) (set_ender-same w.versions v (EndedAt time) l) refl h

pub shows-ended_txns : (x : TxnTable) (w : World) (t v : ℕ) (e : Entries WriteEntry) → Declared x t → Sound w → v < length w.versions →
    is_held_by t (version_in w.versions v).ender ≡ true → is_committed (txn_in w.txns t).state ≡ true →
    e.items ≡ rest_of (write_set_of x t).items → ShowsTxns x w →
    ShowsTxns (with_write_set x t e) (record w { versions = set_ender w.versions v (EndedAt (txn_in w.txns t).end); writes = without_entry w.writes t })
shows-ended_txns x w t v e d o l mine done items s =
    shows-unwritten x (record w { versions = set_ender w.versions v (EndedAt (txn_in w.txns t).end) }) t e d items
    (quiet x w (set_ender w.versions v (EndedAt (txn_in w.txns t).end)) (λ u. settled w t v u o l mine done) s)

-- ---- an aborted writer

pub written-shown : (t count : ℕ) (e : Ender) → is_written_by t (end_word_by count e) ≡ is_held_by t e
written-shown t count (EndedAt time) = refl
written-shown t zero (Held None no_more) = refl
written-shown t (suc n) (Held None no_more) = refl
written-shown t count (Held (Some u) no_more) = refl

back-held : (t : ℕ) (e : Ender) → is_held_by t e ≡ true → given_back t e ≡ Held None false
back-held t (EndedAt time) h = cc
back-held t (Held None no_more) h = cc
back-held t (Held (Some u) no_more) h = cond-true (u == t) (Held None false) (Held (Some u) no_more) h

back-other : (t : ℕ) (e : Ender) → is_held_by t e ≡ false → given_back t e ≡ e
back-other t (EndedAt time) h = refl
back-other t (Held None no_more) h = refl
back-other t (Held (Some u) no_more) h = cond-false (u == t) (Held None false) (Held (Some u) no_more) h

word-back : (t count : ℕ) (e : Ender) → is_held_by t e ≡ true → without_writer (end_word_by count e) ≡ end_word_by count (Held None false)
word-back t count (EndedAt time) h = cc
word-back t count (Held None no_more) h = cc
word-back t count (Held (Some u) no_more) h = word-freed count u no_more

-- a version that is set to its own ender stays
set_ender-own : (vs : List Version) (v : ℕ) → v < length vs → set_ender vs v (version_in vs v).ender ≡ vs
set_ender-own [] v l = absurd (omega (arith, l))
set_ender-own (x ∷ xs) zero l = refl
set_ender-own (x ∷ xs) (suc v) l = ap (λ ys. x ∷ ys) (set_ender-own xs v (omega (arith, l)))

pub left-as_is : (w : World) (t v : ℕ) → v < length w.versions → is_held_by t (version_in w.versions v).ender ≡ false →
    set_ender w.versions v (given_back t (version_in w.versions v).ender) ≡ w.versions
left-as_is w t v l h = ap (set_ender w.versions v) (back-other t (version_in w.versions v).ender h) ∙ set_ender-own w.versions v l

pub shows-back_store : (s : Stored) (w : World) (t v : ℕ) → v < length w.versions → is_held_by t (version_in w.versions v).ender ≡ true →
    ShowsStore s w.buckets w.versions w.read_locks →
    ShowsStore (with_end_word s v (without_writer (version_at s v).end)) w.buckets (set_ender w.versions v (given_back t (version_in w.versions v).ender)) w.read_locks
shows-back_store s w t v l mine h =
    let e : Ender = given_back t (version_in w.versions v).ender in
    shows-end s w.buckets w.versions (set_ender w.versions v (given_back t (version_in w.versions v).ender)) w.read_locks w.read_locks v (without_writer (version_at s v).end) (given_back t (version_in w.versions v).ender)
    (same-set w.read_locks w.versions v _ l) (set_ender-same w.versions v e l)
    (ap without_writer (word-shown s w.buckets w.versions w.read_locks v h) ∙ word-back t (readers w.read_locks v) (version_in w.versions v).ender mine
    ∙ ap (end_word_by (readers w.read_locks v)) (sym (back-held t (version_in w.versions v).ender mine))) h

pub shows-back_txns : (s : Stored) (x : TxnTable) (w : World) (t v : ℕ) (e : Entries WriteEntry) → Declared x t → v < length w.versions →
    is_held_by t (version_in w.versions v).ender ≡ true → e.items ≡ rest_of (write_set_of x t).items →
    ShowsStore s w.buckets w.versions w.read_locks → ShowsTxns x w →
    ShowsTxns (with_write_set (writer_freed x (version_at s v).end) t e)
    (record w { versions = set_ender w.versions v (given_back t (version_in w.versions v).ender); writes = without_entry w.writes t })
shows-back_txns s x w t v e d l mine items h q =
    let count : ℕ = readers w.read_locks v in
    let old : Ender = (version_in w.versions v).ender in
    let ys : List Version = set_ender w.versions v (given_back t (version_in w.versions v).ender) in
    let ws : List ℕ = freed_waits x.waits (readers w.read_locks v) (version_in w.versions v).ender in
    rw (word-shown s w.buckets w.versions w.read_locks v h)
    (rw (writer_freed-is x count old)
    (shows-unwritten (record x { waits = ws }) (record w { versions = ys }) t e (record { named = d.named; within = d.within }) items
    (shows-versions x w ys ws (freed-long x.waits count old)
    (λ u. let low = freed-entry x.waits count old u in let was = q.waits u in
    let now = ender-waits w v (given_back t old) u l (λ y. ap (is_held_by y) (back-held t old mine)) in omega (arith, low, was, now)) q)))
