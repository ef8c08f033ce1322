-- The writer of a version goes: the word, and what the writer waits for.
use Rattle.std.proofs.Common.{◌≡◌, ℕ, zero, suc, ◌-◌, ◌<◌, ◌≤◌, Bool, true, false, List, refl, ap, arith, Some, None, length}
use Rattle.std.proofs.lemmas.Bool.{cond-false, cond_both}
use Rattle.std.proofs.lemmas.Bool.Decides.{nat_tests}
use Rattle.std.specs.Prelude.{◌==◌, ◌&&◌, nat_lt, if◌then◌else◌}
use Rattle.hek_rules.specs.declared.word.EndRecord.TheVariants.{Until, Lock}
use Rattle.hek_rules.specs.Words.{infinity, without_writer}
use Rattle.hek_rules.specs.World.{World, Version, Ender, EndedAt, Held, version_in, is_held_by}
use Rattle.hek_rules.specs.Waits.{readers, is_waited_for}
use Rattle.hek_rules.specs.Locks.{set_ender}
use Rattle.hek_rules.specs.Shown.{end_word_by, readers_alone}
use Rattle.hek_store.specs.Stored.{Stored, version_at}
use Rattle.hek_txn.specs.TxnTable.{TxnTable, entry_at, set_at, waits_of}
use Rattle.hek_txn.specs.TxnLemmas.{length_set_at}
use Rattle.hek_locks.specs.Locked.{CanFree, writer_freed, fewer_waits}
use Rattle.hek_laws.specs.Sound.{Sound, IsSoundEnder}
use Rattle.hek_refinement.specs.Shows.{ShowsStore, ShowsTxns}
use Rattle.hek_refinement.proofs.Pairs.{bit}
use Rattle.hek_refinement.proofs.Counts.{version_waits, waits-at}
use Rattle.hek_refinement.proofs.Raised.{entry-lowered}
use Rattle.hek_refinement.proofs.Stores.{word-shown, same-set, set_ender-same}
use Rattle.hek_refinement.proofs.Known.{present-known}

-- u writes a version that has readers
abbrev pub is_waiting : ℕ → ℕ → Ender → Bool
is_waiting u count e = is_held_by u e && nat_lt 0 count

-- the counters after the writer of a version stops waiting for its readers
abbrev pub freed_waits : List ℕ → ℕ → Ender → List ℕ
freed_waits ws count (EndedAt time) = ws
freed_waits ws count (Held None no_more) = ws
freed_waits ws count (Held (Some u) no_more) = if nat_lt 0 count then set_at ws u (entry_at 0 ws u - 1) else ws

pub freed-long : (ws : List ℕ) (count : ℕ) (e : Ender) → length (freed_waits ws count e) ≡ length ws
freed-long ws count (EndedAt time) = refl
freed-long ws count (Held None no_more) = refl
freed-long ws count (Held (Some u) no_more) =
    cond_both (nat_lt 0 count) (set_at ws u (entry_at 0 ws u - 1)) ws (λ ys. length ys ≡ length ws) (λ _. length_set_at ws u _) (λ _. refl)

no_part : (b : Bool) → bit (b && false) ≡ 0
no_part true = refl
no_part false = refl

whole_part : (b : Bool) → bit (b && true) ≡ bit b
whole_part true = refl
whole_part false = refl

freed_if : (ws : List ℕ) (x u : ℕ) (b : Bool) → entry_at 0 (if b then set_at ws x (entry_at 0 ws x - 1) else ws) u ≡ entry_at 0 ws u - bit ((x == u) && b)
freed_if ws x u true = let low = entry-lowered ws x u in let k = whole_part (x == u) in omega (arith, low, k)
freed_if ws x u false = let k = no_part (x == u) in omega (arith, k)

pub freed-entry : (ws : List ℕ) (count : ℕ) (e : Ender) (u : ℕ) → entry_at 0 (freed_waits ws count e) u ≡ entry_at 0 ws u - bit (is_waiting u count e)
freed-entry ws count (EndedAt time) u = omega arith
freed-entry ws count (Held None no_more) u = omega arith
freed-entry ws count (Held (Some x) no_more) u = freed_if ws x u (nat_lt 0 count)

-- the counter of the writer of a version, by its word
readers_word-freed : (x : TxnTable) (count : ℕ) → writer_freed x (readers_alone count) ≡ x
readers_word-freed x zero = refl
readers_word-freed x (suc n) = refl

freed_table : (x : TxnTable) (u : ℕ) (b : Bool) → (if b then fewer_waits x u else x) ≡ record x { waits = if b then set_at x.waits u (entry_at 0 x.waits u - 1) else x.waits }
freed_table x u true = refl
freed_table x u false = refl

pub writer_freed-is : (x : TxnTable) (count : ℕ) (e : Ender) → writer_freed x (end_word_by count e) ≡ record x { waits = freed_waits x.waits count e }
writer_freed-is x count (EndedAt time) = refl
writer_freed-is x count (Held None no_more) = readers_word-freed x count
writer_freed-is x count (Held (Some u) no_more) = freed_table x u (nat_lt 0 count)

pub word-freed : (count u : ℕ) (no_more : Bool) → without_writer (end_word_by count (Held (Some u) no_more)) ≡ end_word_by count (Held None false)
word-freed zero u no_more = refl
word-freed (suc n) u no_more = cond-false (suc n == 0) (Until infinity) (Lock (suc n) None false) (grind (arith, nat_tests))

-- ---- what the calls require

-- a version that u writes and others read counts among u's waits
pub waits-some : (R : List (ℕ × ℕ)) (vs : List Version) (v u : ℕ) → v < length vs → bit (is_waited_for R u v (version_in vs v)) ≤ version_waits R vs u
waits-some R vs v u l =
    let gone : is_waited_for R u v (version_in (set_ender vs v (EndedAt 0)) v) ≡ false =
    ap (λ (x : Version). is_waited_for R u v x) (set_ender-same vs v (EndedAt 0) l) in
    let at = waits-at R R vs (set_ender vs v (EndedAt 0)) v u (same-set R vs v _ l) in let none = ap bit gone in omega (arith, at, none)

can_free : (x : TxnTable) (w : World) (count : ℕ) (e : Ender) → ShowsTxns x w → IsSoundEnder w e →
    ((u : ℕ) → bit (is_waiting u count e) ≤ waits_of x u) → CanFree x (end_word_by count e)
can_free x w count (EndedAt time) q k h = tt
can_free x w zero (Held None no_more) q k h = tt
can_free x w (suc n) (Held None no_more) q k h = tt
can_free x w count (Held (Some u) no_more) q k h = (
  present-known x w u q k,
  λ some.
      let mine : ((u == u) && nat_lt 0 count) ≡ true = grind (arith, nat_tests, some) in let b = ap bit mine in let l = h u in omega (arith, b, l),
)

-- the counter of the writer shows that it waits for the readers
pub may-free : (s : Stored) (x : TxnTable) (w : World) (v : ℕ) → Sound w → v < length w.versions → ShowsStore s w.buckets w.versions w.read_locks → ShowsTxns x w →
    CanFree x (version_at s v).end
may-free s x w v o l h q =
    rw (word-shown s w.buckets w.versions w.read_locks v h)
    (can_free x w (readers w.read_locks v) (version_in w.versions v).ender q (o.enders v)
    (λ u. let some = waits-some w.read_locks w.versions v u l in let c = q.waits u in omega (arith, some, c)))
