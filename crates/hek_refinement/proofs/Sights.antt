-- What a reader sees by the words is what it sees in the world, and a lock is refused by the words as in the world.
use Rattle.std.proofs.Common.{◌≡◌, ℕ, zero, suc, ◌<◌, Bool, true, false, List, refl, ◌∙◌, ap, sym, arith, Some, None}
use Rattle.std.proofs.lemmas.Bool.{cond-false}
use Rattle.std.proofs.lemmas.Bool.Decides.{nat_tests}
use Rattle.std.specs.Prelude.{◌==◌, if◌then◌else◌}
use Rattle.hek_rules.specs.declared.word.BeginRecord.{BeginRecord}
use Rattle.hek_rules.specs.declared.word.BeginRecord.TheVariants.{At, By}
use Rattle.hek_rules.specs.Words.{infinity}
use Rattle.hek_rules.specs.World.{World, Txn, Ender, EndedAt, Held, version_in, txn_in, is_aborted, is_present}
use Rattle.hek_rules.specs.Waits.{readers}
use Rattle.hek_rules.specs.Shown.{end_word_by, ender_of}
use Rattle.hek_rules.specs.Visibility.{sight, sight_by}
use Rattle.hek_rules.specs.Locks.{cleared, read_refusal, no_read_lock, reads_freely, write_refusal, no_write_lock}
use Rattle.hek_store.specs.Stored.{Stored, version_at}
use Rattle.hek_txn.specs.TxnTable.{TxnTable}
use Rattle.hek_visible.specs.Seen.{version_seen, NamesCreator, NamesWriter}
use Rattle.hek_locks.specs.Locked.{word_refusal, cleared_word, read_refused, write_refused}
use Rattle.hek_laws.specs.Sound.{Sound, IsSoundCreator, IsSoundEnder, IsSoundFlag}
use Rattle.hek_refinement.specs.Shows.{ShowsStore, ShowsTxns}
use Rattle.hek_refinement.proofs.Stores.{word-shown, begin-shown}
use Rattle.hek_refinement.proofs.Known.{present-known}
use Rattle.hek_refinement.proofs.Clears.{clear-shown}
use Rattle.hek_refinement.proofs.ReadLocks.{free-same}
use Rattle.hek_refinement.proofs.WriteLocks.{cleared-flag}

-- ---- the ender of a version, by its word

-- the ender that a word shows is that of its version
pub ender-same : (w : World) (n : ℕ) (e : Ender) → w.clock < infinity → IsSoundEnder w e → IsSoundFlag n e → ender_of (end_word_by n e) ≡ e
ender-same w n (EndedAt time) l k f = let ne : (time == infinity) ≡ false = grind (arith, nat_tests, l, k) in cond-false (time == infinity) (Held None false) (EndedAt time) ne
ender-same w zero (Held None no_more) l k f = ap (Held None) (sym f)
ender-same w (suc n) (Held None no_more) l k f = ap (Held None) (sym f)
ender-same w n (Held (Some u) no_more) l k f = refl

pub ender-shown : (s : Stored) (w : World) (v : ℕ) → Sound w → ShowsStore s w.buckets w.versions w.read_locks → ender_of (version_at s v).end ≡ (version_in w.versions v).ender
ender-shown s w v o h =
    ap ender_of (word-shown s w.buckets w.versions w.read_locks v h)
    ∙ ender-same w (readers w.read_locks v) (version_in w.versions v).ender o.bounded (o.enders v) (o.flags v)

-- ---- sights

pub sight-same : (s : Stored) (x : TxnTable) (w : World) (t rt v : ℕ) → Sound w → ShowsStore s w.buckets w.versions w.read_locks → ShowsTxns x w →
    version_seen s x t rt v ≡ sight w t rt v
sight-same s x w t rt v o h q =
    ap (λ b. sight_by x.cores t rt b (ender_of (version_at s v).end)) (begin-shown s w.buckets w.versions w.read_locks v h)
    ∙ ap (λ e. sight_by x.cores t rt (version_in w.versions v).creator e) (ender-shown s w v o h)
    ∙ ap (λ ts. sight_by ts t rt (version_in w.versions v).creator (version_in w.versions v).ender) q.cores

-- ---- refusals

sound-cleared : (w : World) (e : Ender) → IsSoundEnder w e → IsSoundEnder w (cleared w.txns e)
sound-cleared w (EndedAt time) k = k
sound-cleared w (Held None no_more) k = tt
sound-cleared w (Held (Some u) no_more) k = either (is_aborted (txn_in w.txns u).state)
  where
    either : (b : Bool) → IsSoundEnder w (if b then Held None false else Held (Some u) no_more)
    either true = tt
    either false = k

refusal-same : (ts : List Txn) (w : World) (n : ℕ) (e : Ender) → w.clock < infinity → IsSoundEnder w e → IsSoundFlag n e → word_refusal ts (end_word_by n e) ≡ read_refusal ts n e
refusal-same ts w n (EndedAt time) l k f = ap (read_refusal ts 0) (ender-same w n (EndedAt time) l k f)
refusal-same ts w zero (Held None no_more) l k f = ap (λ b. read_refusal ts 0 (Held None b)) (sym f)
refusal-same ts w (suc n) (Held None no_more) l k f = ap (λ b. read_refusal ts (suc n) (Held None b)) (sym f)
refusal-same ts w n (Held (Some u) no_more) l k f = refl

pub read-refused : (s : Stored) (x : TxnTable) (w : World) (t v : ℕ) → Sound w → ShowsStore s w.buckets w.versions w.read_locks → ShowsTxns x w →
    read_refused s x t v ≡ no_read_lock w t v
read-refused s x w t v o h q =
    let e : Ender = cleared w.txns (version_in w.versions v).ender in
    ap (λ b. if b then None else word_refusal x.cores (cleared_word x.cores (version_at s v).end)) (free-same s x w t v h q)
    ∙ ap (λ z. if reads_freely w t v then None else word_refusal x.cores z) (clear-shown s x w v h q)
    ∙ ap (λ ts. if reads_freely w t v then None else word_refusal ts (end_word_by (readers w.read_locks v) (cleared w.txns (version_in w.versions v).ender))) q.cores
    ∙ ap (λ c. if reads_freely w t v then None else c)
    (refusal-same w.txns w (readers w.read_locks v) e o.bounded (sound-cleared w (version_in w.versions v).ender (o.enders v))
    (cleared-flag w.txns (readers w.read_locks v) (version_in w.versions v).ender (o.flags v)))

pub write-refused : (s : Stored) (x : TxnTable) (w : World) (v : ℕ) → Sound w → ShowsStore s w.buckets w.versions w.read_locks → ShowsTxns x w →
    write_refused s x v ≡ no_write_lock w v
write-refused s x w v o h q =
    ap (λ z. write_refusal (ender_of z)) (clear-shown s x w v h q)
    ∙ ap write_refusal (ender-same w (readers w.read_locks v) (cleared w.txns (version_in w.versions v).ender) o.bounded
    (sound-cleared w (version_in w.versions v).ender (o.enders v)) (cleared-flag w.txns (readers w.read_locks v) (version_in w.versions v).ender (o.flags v)))

-- ---- what the calls require

creator-named : (x : TxnTable) (w : World) (b : BeginRecord) → ShowsTxns x w → IsSoundCreator w b → NamesCreator x b
creator-named x w (At time) q k = tt
creator-named x w (By u) q k = record { declared = present-known x w u q k; present = ap (λ ts. is_present (txn_in ts u).state) q.cores ∙ k }

writer-named : (x : TxnTable) (w : World) (n : ℕ) (e : Ender) → ShowsTxns x w → IsSoundEnder w e → NamesWriter x (end_word_by n e)
writer-named x w n (EndedAt time) q k = tt
writer-named x w zero (Held None no_more) q k = tt
writer-named x w (suc n) (Held None no_more) q k = tt
writer-named x w n (Held (Some u) no_more) q k = record { declared = present-known x w u q k; present = ap (λ ts. is_present (txn_in ts u).state) q.cores ∙ k }

pub names-creator : (s : Stored) (x : TxnTable) (w : World) (v : ℕ) → Sound w → ShowsStore s w.buckets w.versions w.read_locks → ShowsTxns x w → NamesCreator x (version_at s v).begin
names-creator s x w v o h q = rw (begin-shown s w.buckets w.versions w.read_locks v h) (creator-named x w (version_in w.versions v).creator q (o.creators v))

pub names-writer : (s : Stored) (x : TxnTable) (w : World) (v : ℕ) → Sound w → ShowsStore s w.buckets w.versions w.read_locks → ShowsTxns x w → NamesWriter x (version_at s v).end
names-writer s x w v o h q = rw (word-shown s w.buckets w.versions w.read_locks v h) (writer-named x w (readers w.read_locks v) (version_in w.versions v).ender q (o.enders v))
