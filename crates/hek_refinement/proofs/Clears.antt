-- An aborted writer of a version is cleared.
use Rattle.std.proofs.Common.{◌≡◌, ℕ, zero, suc, ◌-◌, Bool, true, false, List, refl, ◌∙◌, ap, arith, Some, None, length}
use Rattle.std.specs.Prelude.{◌&&◌, if◌then◌else◌}
use Rattle.hek_rules.specs.declared.word.EndRecord.TheVariants.{Lock}
use Rattle.hek_rules.specs.Words.{without_writer}
use Rattle.hek_rules.specs.World.{World, Txn, Ender, EndedAt, Held, version_in, txn_in, is_aborted}
use Rattle.hek_rules.specs.Waits.{readers}
use Rattle.hek_rules.specs.Locks.{cleared}
use Rattle.hek_rules.specs.Shown.{end_word_by}
use Rattle.hek_store.specs.Stored.{Stored, version_at}
use Rattle.hek_txn.specs.TxnTable.{TxnTable, entry_at}
use Rattle.hek_locks.specs.Locked.{KnowsWriter, is_stale, cleared_word, cleared_waits, writer_freed}
use Rattle.hek_laws.specs.Sound.{Sound, IsSoundEnder}
use Rattle.hek_refinement.specs.Shows.{ShowsStore, ShowsTxns}
use Rattle.hek_refinement.proofs.Pairs.{bit}
use Rattle.hek_refinement.proofs.Stores.{word-shown}
use Rattle.hek_refinement.proofs.Known.{present-known}
use Rattle.hek_refinement.proofs.Frees.{is_waiting, freed_waits, freed-long, freed-entry, writer_freed-is, word-freed}

-- whether the writer of a version has aborted
abbrev pub ender_stale : List Txn → Ender → Bool
ender_stale ts (EndedAt time) = false
ender_stale ts (Held None no_more) = false
ender_stale ts (Held (Some u) no_more) = is_aborted (txn_in ts u).state

stale-shown : (ts : List Txn) (count : ℕ) (e : Ender) → is_stale ts (end_word_by count e) ≡ ender_stale ts e
stale-shown ts count (EndedAt time) = refl
stale-shown ts zero (Held None no_more) = refl
stale-shown ts (suc n) (Held None no_more) = refl
stale-shown ts count (Held (Some u) no_more) = refl

pub word-cleared : (ts : List Txn) (count : ℕ) (e : Ender) → cleared_word ts (end_word_by count e) ≡ end_word_by count (cleared ts e)
word-cleared ts count (EndedAt time) = refl
word-cleared ts zero (Held None no_more) = refl
word-cleared ts (suc n) (Held None no_more) = refl
word-cleared ts count (Held (Some u) no_more) = either (is_aborted (txn_in ts u).state)
  where
    either : (b : Bool) →
        (if b then without_writer (Lock count (Some u) no_more) else Lock count (Some u) no_more) ≡ end_word_by count (if b then Held None false else Held (Some u) no_more)
    either true = word-freed count u no_more
    either false = refl

-- the word of a version after an aborted writer is cleared
pub clear-shown : (s : Stored) (x : TxnTable) (w : World) (v : ℕ) → ShowsStore s w.buckets w.versions w.read_locks → ShowsTxns x w →
    cleared_word x.cores (version_at s v).end ≡ end_word_by (readers w.read_locks v) (cleared w.txns (version_in w.versions v).ender)
clear-shown s x w v h q =
    ap (cleared_word x.cores) (word-shown s w.buckets w.versions w.read_locks v h)
    ∙ ap (λ ts. cleared_word ts (end_word_by (readers w.read_locks v) (version_in w.versions v).ender)) q.cores
    ∙ word-cleared w.txns (readers w.read_locks v) (version_in w.versions v).ender

-- ---- counters

abbrev pub stale_waits : Bool → List ℕ → ℕ → Ender → List ℕ
stale_waits stale ws count e = if stale then freed_waits ws count e else ws

pub stale-long : (stale : Bool) (ws : List ℕ) (count : ℕ) (e : Ender) → length (stale_waits stale ws count e) ≡ length ws
stale-long true ws count e = freed-long ws count e
stale-long false ws count e = refl

pub stale-entry : (stale : Bool) (ws : List ℕ) (count : ℕ) (e : Ender) (u : ℕ) → entry_at 0 (stale_waits stale ws count e) u ≡ entry_at 0 ws u - bit (stale && is_waiting u count e)
stale-entry true ws count e u = freed-entry ws count e u
stale-entry false ws count e u = omega arith

stale-is : (stale : Bool) (x : TxnTable) (count : ℕ) (e : Ender) → (if stale then writer_freed x (end_word_by count e) else x) ≡ record x { waits = stale_waits stale x.waits count e }
stale-is true x count e = writer_freed-is x count e
stale-is false x count e = refl

pub cleared_waits-is : (x : TxnTable) (count : ℕ) (e : Ender) → cleared_waits x (end_word_by count e) ≡ record x { waits = stale_waits (ender_stale x.cores e) x.waits count e }
cleared_waits-is x count e =
    ap (λ b. if b then writer_freed x (end_word_by count e) else x) (stale-shown x.cores count e) ∙ stale-is (ender_stale x.cores e) x count e

-- the counters after an aborted writer of the version is cleared
pub waits-cleared : (s : Stored) (x : TxnTable) (w : World) (v : ℕ) → ShowsStore s w.buckets w.versions w.read_locks → ShowsTxns x w →
    cleared_waits x (version_at s v).end
    ≡ record x { waits = stale_waits (ender_stale w.txns (version_in w.versions v).ender) x.waits (readers w.read_locks v) (version_in w.versions v).ender }
waits-cleared s x w v h q =
    ap (cleared_waits x) (word-shown s w.buckets w.versions w.read_locks v h)
    ∙ cleared_waits-is x (readers w.read_locks v) (version_in w.versions v).ender
    ∙ ap (λ ts. record x { waits = stale_waits (ender_stale ts (version_in w.versions v).ender) x.waits (readers w.read_locks v) (version_in w.versions v).ender }) q.cores

-- ---- what the calls require

knows : (x : TxnTable) (w : World) (count : ℕ) (e : Ender) → ShowsTxns x w → IsSoundEnder w e → KnowsWriter x (end_word_by count e)
knows x w count (EndedAt time) q k = tt
knows x w zero (Held None no_more) q k = tt
knows x w (suc n) (Held None no_more) q k = tt
knows x w count (Held (Some u) no_more) q k = present-known x w u q k

pub knows-writer : (s : Stored) (x : TxnTable) (w : World) (v : ℕ) → Sound w → ShowsStore s w.buckets w.versions w.read_locks → ShowsTxns x w → KnowsWriter x (version_at s v).end
knows-writer s x w v o h q =
    rw (word-shown s w.buckets w.versions w.read_locks v h) (knows x w (readers w.read_locks v) (version_in w.versions v).ender q (o.enders v))
