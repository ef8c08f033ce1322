-- A read lock is released: words, counters and lists are those of the world without the pair.
use Rattle.std.proofs.Common.{◌≡◌, ℕ, zero, suc, ◌+◌, ◌-◌, ◌<◌, ◌≤◌, Bool, true, false, List, refl, ◌∙◌, ap, sym, arith, Option, Some, None, ⊎_elim, length, nat_eq, if◌then◌else◌}
use Rattle.std.proofs.lemmas.Bool.{cond-true, cond-false, cases_Bool, cond_both, lt-ltb}
use Rattle.std.proofs.lemmas.Bool.Decides.{nat_tests}
use Rattle.std.specs.Prelude.{◌==◌, ◌&&◌, nat_lt}
use Rattle.std.specs.Set.{remove_key}
use Rattle.hek_rules.specs.declared.word.EndRecord.TheVariants.{Until, Lock}
use Rattle.hek_rules.specs.declared.word.Dropped.{Dropped}
use Rattle.hek_rules.specs.declared.word.Dropped.TheVariants.{More, Free, Last}
use Rattle.hek_rules.specs.Words.{infinity, readers_of, without_reader, dropped_of, last_of}
use Rattle.hek_rules.specs.Listing.{leave, has}
use Rattle.hek_rules.specs.World.{World, Version, Ender, EndedAt, Held, version_in, txn_in, ender_writer, is_held_by, is_present}
use Rattle.hek_rules.specs.Waits.{readers, waits, is_waited_for}
use Rattle.hek_rules.specs.Locks.{with_ender, set_ender}
use Rattle.hek_rules.specs.Table.{drop_read, sealed, writer_left}
use Rattle.hek_rules.specs.Shown.{end_word_by}
use Rattle.hek_store.specs.Stored.{Stored, version_at, with_end_word}
use Rattle.hek_txn.specs.Entries.{Entries}
use Rattle.hek_txn.specs.TxnTable.{TxnTable, Declared, entry_at, set_at, waits_of, read_set_of, with_read_set}
use Rattle.hek_txn.specs.TxnLemmas.{length_set_at}
use Rattle.hek_locks.specs.Locked.{after_drop, left_writer, CanTell}
use Rattle.hek_laws.specs.Sound.{Sound, is_held, IsSoundEnder}
use Rattle.hek_laws.proofs.Sound.WaitCounts.{length-set, held-sealed}
use Rattle.hek_refinement.specs.Shows.{ShowsStore, ShowsTxns}
use Rattle.hek_refinement.proofs.Pairs.{bit, firsts-leave_count, firsts-leave_other, seconds-leave_same, seconds-leave_other}
use Rattle.hek_refinement.proofs.Counts.{SameBut, version_waits, version-set_other, waits-at}
use Rattle.hek_refinement.proofs.Raised.{entry-lowered}
use Rattle.hek_refinement.proofs.Stores.{word-shown, shows-end, set_ender-same}
use Rattle.hek_refinement.proofs.Changes.{shows-reads}
use Rattle.hek_refinement.proofs.Known.{present-known}

-- ---- the version and its word

-- the versions after a reader leaves `count` readers
abbrev pub after_leave : List Version → ℕ → ℕ → List Version
after_leave vs v count = if count == 0 then set_ender vs v (sealed (version_in vs v).ender) else vs

abbrev pub sealed_at : ℕ → Ender → Ender
sealed_at count e = if count == 0 then sealed e else e

leave-long : (vs : List Version) (v count : ℕ) → length (after_leave vs v count) ≡ length vs
leave-long vs v count = cond_both (count == 0) (set_ender vs v (sealed (version_in vs v).ender)) vs (λ ys. length ys ≡ length vs) (λ _. length-set vs v _) (λ _. refl)

leave-other : (vs : List Version) (v count j : ℕ) → (j ≡ v → ⊥) → version_in (after_leave vs v count) j ≡ version_in vs j
leave-other vs v count j ne =
    cond_both (count == 0) (set_ender vs v (sealed (version_in vs v).ender)) vs (λ ys. version_in ys j ≡ version_in vs j) (λ _. version-set_other vs v j _ ne) (λ _. refl)

leave-same : (vs : List Version) (v count : ℕ) → v < length vs → version_in (after_leave vs v count) v ≡ with_ender (version_in vs v) (sealed_at count (version_in vs v).ender)
leave-same vs v count l =
    ⊎_elim
    (λ h. ap (λ ys. version_in ys v) (cond-true (count == 0) (set_ender vs v (sealed (version_in vs v).ender)) vs h) ∙ set_ender-same vs v _ l
    ∙ ap (λ e. with_ender (version_in vs v) e) (sym (cond-true (count == 0) (sealed (version_in vs v).ender) (version_in vs v).ender h)))
    (λ h. ap (λ ys. version_in ys v) (cond-false (count == 0) (set_ender vs v (sealed (version_in vs v).ender)) vs h)
    ∙ ap (λ e. with_ender (version_in vs v) e) (sym (cond-false (count == 0) (sealed (version_in vs v).ender) (version_in vs v).ender h)))
    (cases_Bool (count == 0))

held-sealed_at : (u count : ℕ) (e : Ender) → is_held_by u (sealed_at count e) ≡ is_held_by u e
held-sealed_at u count e = cond_both (count == 0) (sealed e) e (λ x. is_held_by u x ≡ is_held_by u e) (λ _. held-sealed u e) (λ _. refl)

-- what a reader that goes leaves, by the count of readers left and the writer
abbrev pub drop_kind : ℕ → Option ℕ → Dropped
drop_kind count w = if count == 0 then last_of w else More

one_of : (n : ℕ) → (suc (suc n) == 1) ≡ false
one_of n = grind (arith, nat_tests)

none_of : (n : ℕ) → (suc n == 0) ≡ false
none_of n = grind (arith, nat_tests)

word-left : (count : ℕ) (e : Ender) → is_held e ≡ true → without_reader (end_word_by (suc count) e) ≡ end_word_by count (sealed_at count e)
word-left zero (Held None no_more) h = refl
word-left zero (Held (Some u) no_more) h = refl
word-left (suc n) (Held None no_more) h =
    cond-false (suc (suc n) == 1) (Until infinity) (Lock (suc (suc n) - 1) None false) (one_of n) ∙ ap (λ k. Lock k None false) (omega arith)
    ∙ ap (end_word_by (suc n)) (sym (cond-false (suc n == 0) (sealed (Held None no_more)) (Held None no_more) (none_of n)))
word-left (suc n) (Held (Some u) no_more) h =
    cond-false (suc (suc n) == 1) (Lock 0 (Some u) true) (Lock (suc (suc n) - 1) (Some u) no_more) (one_of n) ∙ ap (λ k. Lock k (Some u) no_more) (omega arith)
    ∙ ap (end_word_by (suc n)) (sym (cond-false (suc n == 0) (sealed (Held (Some u) no_more)) (Held (Some u) no_more) (none_of n)))
word-left count (EndedAt time) h = cc

word-dropped : (count : ℕ) (e : Ender) → is_held e ≡ true → dropped_of (end_word_by (suc count) e) ≡ drop_kind count (ender_writer e)
word-dropped zero (Held None no_more) h = refl
word-dropped zero (Held (Some u) no_more) h = refl
word-dropped (suc n) (Held None no_more) h = cond-false (suc (suc n) == 1) Free More (one_of n) ∙ sym (cond-false (suc n == 0) Free More (none_of n))
word-dropped (suc n) (Held (Some u) no_more) h = cond-false (suc (suc n) == 1) (Last u) More (one_of n) ∙ sym (cond-false (suc n == 0) (Last u) More (none_of n))
word-dropped count (EndedAt time) h = cc

readers-word : (n : ℕ) (e : Ender) → is_held e ≡ true → readers_of (end_word_by (suc n) e) ≡ suc n
readers-word n (EndedAt time) h = cc
readers-word n (Held None f) h = refl
readers-word n (Held (Some u) f) h = refl

told-kind : (count : ℕ) (e : Ender) → left_writer (drop_kind count (ender_writer e)) ≡ writer_left count e
told-kind zero (EndedAt time) = refl
told-kind zero (Held None no_more) = refl
told-kind zero (Held (Some u) no_more) = refl
told-kind (suc n) e = ap left_writer (cond-false (suc n == 0) (last_of (ender_writer e)) More (none_of n)) ∙ sym (cond-false (suc n == 0) (ender_writer e) None (none_of n))

-- ---- the writer that a last reader leaves

abbrev pub is_told : ℕ → Dropped → Bool
is_told u More = false
is_told u Free = false
is_told u (Last x) = x == u

is_told-kind : (u count : ℕ) (e : Ender) → is_told u (drop_kind count (ender_writer e)) ≡ (is_held_by u e && (count == 0))
is_told-kind u zero (EndedAt time) = refl
is_told-kind u zero (Held None no_more) = refl
is_told-kind u zero (Held (Some x) no_more) = grind (arith, nat_tests)
is_told-kind u (suc n) e = let z = none_of n in ap (is_told u) (cond-false (suc n == 0) (last_of (ender_writer e)) More z) ∙ grind (arith, nat_tests)

-- the counters after a reader goes: the writer that a last reader leaves waits for one less
abbrev pub less_waits : Dropped → List ℕ → List ℕ
less_waits More ws = ws
less_waits Free ws = ws
less_waits (Last u) ws = set_at ws u (entry_at 0 ws u - 1)

after_drop-is : (d : Dropped) (x : TxnTable) → after_drop d x ≡ record x { waits = less_waits d x.waits }
after_drop-is More x = refl
after_drop-is Free x = refl
after_drop-is (Last u) x = refl

less-long : (d : Dropped) (ws : List ℕ) → length (less_waits d ws) ≡ length ws
less-long More ws = refl
less-long Free ws = refl
less-long (Last u) ws = length_set_at ws u _

less-entry : (d : Dropped) (ws : List ℕ) (u : ℕ) → entry_at 0 (less_waits d ws) u ≡ entry_at 0 ws u - bit (is_told u d)
less-entry More ws u = omega arith
less-entry Free ws u = omega arith
less-entry (Last x) ws u = entry-lowered ws x u

-- ---- the call and the rule

-- a version v that t read-locks: it exists, is held, and has one reader less after t leaves
pub record Reading (w : World) (t v : ℕ) : Type 0 where
  pub made : v < length w.versions
  pub held : is_held (version_in w.versions v).ender ≡ true
  pub fewer : readers w.read_locks v ≡ suc (readers (leave w.read_locks t v) v)

pub reading : (w : World) (t v : ℕ) → Sound w → has w.read_locks t v ≡ true → Reading w t v
reading w t v s h = record {
  made = s.read_there t v h;
  held = s.read_held t v h;
  fewer = let all = firsts-leave_count w.read_locks t v s.reads_once in let one = ap bit h in omega (arith, all, one);
}

same_but : (w : World) (t v : ℕ) → Reading w t v → SameBut w.read_locks (leave w.read_locks t v) w.versions (after_leave w.versions v (readers (leave w.read_locks t v) v)) v
same_but w t v r = record {
  there = r.made;
  long = leave-long w.versions v (readers (leave w.read_locks t v) v);
  versions = leave-other w.versions v (readers (leave w.read_locks t v) v);
  counts = λ j ne. ap length (firsts-leave_other w.read_locks t v j ne);
}

word_of : (s : Stored) (w : World) (t v : ℕ) → Reading w t v → ShowsStore s w.buckets w.versions w.read_locks →
    (version_at s v).end ≡ end_word_by (suc (readers (leave w.read_locks t v) v)) (version_in w.versions v).ender
word_of s w t v r h = word-shown s w.buckets w.versions w.read_locks v h ∙ ap (λ n. end_word_by n (version_in w.versions v).ender) r.fewer

pub dropped : (s : Stored) (w : World) (t v : ℕ) → Reading w t v → ShowsStore s w.buckets w.versions w.read_locks →
    dropped_of (version_at s v).end ≡ drop_kind (readers (leave w.read_locks t v) v) (ender_writer (version_in w.versions v).ender)
dropped s w t v r h = ap dropped_of (word_of s w t v r h) ∙ word-dropped (readers (leave w.read_locks t v) v) (version_in w.versions v).ender r.held

pub told-same : (s : Stored) (w : World) (t v : ℕ) → Reading w t v → ShowsStore s w.buckets w.versions w.read_locks →
    left_writer (dropped_of (version_at s v).end) ≡ writer_left (readers (leave w.read_locks t v) v) (version_in w.versions v).ender
told-same s w t v r h = ap left_writer (dropped s w t v r h) ∙ told-kind (readers (leave w.read_locks t v) v) (version_in w.versions v).ender

pub shows-released_store : (s : Stored) (w : World) (t v : ℕ) → Reading w t v → ShowsStore s w.buckets w.versions w.read_locks →
    ShowsStore (with_end_word s v (without_reader (version_at s v).end)) w.buckets (drop_read w t v).versions (drop_read w t v).read_locks
shows-released_store s w t v r h =
    let count : ℕ = readers (leave w.read_locks t v) v in
    shows-end s w.buckets w.versions (after_leave w.versions v (readers (leave w.read_locks t v) v)) w.read_locks (leave w.read_locks t v) v
    (without_reader (version_at s v).end) (sealed_at (readers (leave w.read_locks t v) v) (version_in w.versions v).ender) (same_but w t v r)
    (leave-same w.versions v count r.made) (ap without_reader (word_of s w t v r h) ∙ word-left count (version_in w.versions v).ender r.held) h

bits : (b : Bool) (count before after all : ℕ) → 0 < before → after + bit (b && nat_lt 0 before) ≡ all + bit (b && nat_lt 0 count) → after + bit (b && (count == 0)) ≡ all
bits true count before after all h e = let one = ap bit (lt-ltb 0 before h) in counted count e
  where
    counted : (c : ℕ) → after + bit (nat_lt 0 before) ≡ all + bit (nat_lt 0 c) → after + bit (c == 0) ≡ all
    counted zero r = let was = ap bit (lt-ltb 0 before h) in omega (arith, r, was)
    counted (suc n) r = let was = ap bit (lt-ltb 0 before h) in let now = ap bit (lt-ltb 0 (suc n) (omega arith)) in let b = ap bit (none_of n) in omega (arith, r, was, now, b)
bits false count before after all h e = omega (arith, e)

-- the writer of a version whose last reader goes waits for one less
waits-drop : (w : World) (t v u : ℕ) → Reading w t v →
    waits (drop_read w t v) u + bit (is_held_by u (version_in w.versions v).ender && (readers (leave w.read_locks t v) v == 0)) ≡ waits w u
waits-drop w t v u r =
    let R : List (ℕ × ℕ) = w.read_locks in
    let S : List (ℕ × ℕ) = leave w.read_locks t v in
    let count : ℕ = readers S v in
    let vs : List Version = w.versions in
    let ys : List Version = after_leave w.versions v (readers (leave w.read_locks t v) v) in
    let more = r.fewer in
    let some : 0 < readers R v = omega (arith, more) in
    let changed = waits-at R S vs ys v u (same_but w t v r) in
    let here : is_waited_for S u v (version_in ys v) ≡ (is_held_by u (version_in vs v).ender && nat_lt 0 count) =
    ap (λ (x : Version). is_held_by u x.ender && nat_lt 0 count) (leave-same vs v count r.made) ∙ ap (λ b. b && nat_lt 0 count) (held-sealed_at u count (version_in vs v).ender) in
    let fewer = bits (is_held_by u (version_in vs v).ender) count (readers R v) (version_waits S ys u) (version_waits R vs u) some
    (changed ∙ ap (λ b. version_waits R vs u + bit b) here) in
    omega (arith, fewer)

less-counts : (s : Stored) (x : TxnTable) (w : World) (t v u : ℕ) → Reading w t v → ShowsStore s w.buckets w.versions w.read_locks → ShowsTxns x w →
    waits_of x u ≡ waits (drop_read w t v) u + bit (is_told u (dropped_of (version_at s v).end))
less-counts s x w t v u r h q =
    let old = q.waits u in
    let b = ap (λ k. bit (is_told u k)) (dropped s w t v r h) ∙ ap bit (is_told-kind u (readers (leave w.read_locks t v) v) (version_in w.versions v).ender) in
    let n = waits-drop w t v u r in omega (arith, old, b, n)

pub shows-released_txns : (s : Stored) (x : TxnTable) (w : World) (t v : ℕ) (e : Entries ℕ) → Declared x t → Sound w → Reading w t v →
    e.items ≡ remove_key (nat_eq v) (read_set_of x t).items → ShowsStore s w.buckets w.versions w.read_locks → ShowsTxns x w →
    ShowsTxns (with_read_set (after_drop (dropped_of (version_at s v).end) x) t e) (drop_read w t v)
shows-released_txns s x w t v e d o r items h q =
    let kind : Dropped = dropped_of (version_at s v).end in
    rw (after_drop-is kind x)
    (shows-reads x w (after_leave w.versions v (readers (leave w.read_locks t v) v)) (leave w.read_locks t v) (less_waits (dropped_of (version_at s v).end) x.waits) t e d
    (less-long kind x.waits)
    (λ u. let low = less-entry kind x.waits u in let n = less-counts s x w t v u r h q in omega (arith, low, n))
    (λ u ne. seconds-leave_other w.read_locks t v u ne)
    (items ∙ ap (remove_key (nat_eq v)) (q.read_sets t) ∙ sym (seconds-leave_same w.read_locks t v o.reads_once)) q)

-- ---- what the call requires

pub has-reader : (s : Stored) (w : World) (t v : ℕ) → Reading w t v → ShowsStore s w.buckets w.versions w.read_locks → 0 < readers_of (version_at s v).end
has-reader s w t v r h =
    let e = ap readers_of (word_of s w t v r h) ∙ readers-word (readers (leave w.read_locks t v) v) (version_in w.versions v).ender r.held in omega (arith, e)

can_tell : (x : TxnTable) (d : Dropped) → ((u : ℕ) → d ≡ Last u → Declared x u) → ((u : ℕ) → bit (is_told u d) ≤ waits_of x u) → CanTell x d
can_tell x More k h = tt
can_tell x Free k h = tt
can_tell x (Last u) k h = (k u refl, let same : (u == u) ≡ true = grind (arith, nat_tests) in let b = ap bit same in let l = h u in omega (arith, b, l))

last-writer : (x : TxnTable) (w : World) (u count : ℕ) (e : Ender) → ShowsTxns x w → IsSoundEnder w e → drop_kind count (ender_writer e) ≡ Last u → Declared x u
last-writer x w u count (EndedAt time) q h is = absurd (never (count == 0) is)
  where
    never : (b : Bool) → (if b then Free else More) ≡ Last u → ⊥
    never true h = cc
    never false h = cc
last-writer x w u count (Held None f) q h is = absurd (never (count == 0) is)
  where
    never : (b : Bool) → (if b then Free else More) ≡ Last u → ⊥
    never true h = cc
    never false h = cc
last-writer x w u count (Held (Some y) f) q h is = named (count == 0) is
  where
    named : (b : Bool) → (if b then Last y else More) ≡ Last u → Declared x u
    named true i = let e : y ≡ u = cc in present-known x w u q (ap (λ n. is_present (txn_in w.txns n).state) (sym e) ∙ h)
    named false i = cc

pub may-tell : (s : Stored) (x : TxnTable) (w : World) (t v : ℕ) → Sound w → Reading w t v → ShowsStore s w.buckets w.versions w.read_locks → ShowsTxns x w →
    CanTell x (dropped_of (version_at s v).end)
may-tell s x w t v o r h q =
    can_tell x (dropped_of (version_at s v).end)
    (λ u is. last-writer x w u (readers (leave w.read_locks t v) v) (version_in w.versions v).ender q (o.enders v) (sym (dropped s w t v r h) ∙ is))
    (λ u. let n = less-counts s x w t v u r h q in omega (arith, n))
