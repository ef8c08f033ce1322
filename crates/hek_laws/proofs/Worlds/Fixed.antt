-- The number of buckets, the number of transactions and their levels never change.
use Rattle.std.proofs.Common.{◌≡◌, ℕ, List, [], ◌∷◌, refl, ◌∙◌, ap, length}
use Rattle.hek_rules.specs.declared.event.Event.{Event}
use Rattle.hek_rules.specs.World.{World, Txn, txn_in, set_txn}
use Rattle.hek_rules.specs.Listing.{seconds_of}
use Rattle.hek_rules.specs.declared.event.Effect.{Effect}
use Rattle.hek_rules.specs.Walk.{apply_all}
use Rattle.hek_rules.specs.Run.{next, run}
use Rattle.hek_laws.proofs.Table.SetTxns.{each_txn-set, each_txn-doom, length-set_txn, length-doom}
use Rattle.hek_laws.proofs.Table.Unchanged.{apply_all-times}
use Rattle.hek_laws.proofs.Table.Changes.{each_outcome}

pub record Fixed (w new : World) : Type 0 where
  pub buckets : new.buckets ≡ w.buckets
  pub count : length new.txns ≡ length w.txns
  pub level : (u : ℕ) → (txn_in new.txns u).level ≡ (txn_in w.txns u).level

module _ (w : World) where
  plain : (new : World) → new.buckets ≡ w.buckets → new.txns ≡ w.txns → Fixed w new
  plain new b t = record { buckets = b; count = ap length t; level = λ u. ap (λ ts. (txn_in ts u).level) t }

  walked : (t : ℕ) (es : List Effect) (new : World) → new.buckets ≡ (apply_all t w es).buckets → new.txns ≡ (apply_all t w es).txns → Fixed w new
  walked t es new b s = plain new (b ∙ (apply_all-times t w es).buckets) (s ∙ (apply_all-times t w es).txns)

  sets : (new : World) (t : ℕ) (x : Txn) → new.buckets ≡ w.buckets → new.txns ≡ set_txn w.txns t x → x.level ≡ (txn_in w.txns t).level → Fixed w new
  sets new t x b s l = record { buckets = b; count = ap length s ∙ length-set_txn w.txns t x; level = λ u. ap (λ ts. (txn_in ts u).level) s ∙ each_txn-set (λ n y. y.level ≡ (txn_in w.txns n).level) w.txns t x (λ n. refl) l u }

  pub fixed-next : (e : Event) → Fixed w (next w e)
  fixed-next e = each_outcome w (λ e o. Fixed w o.world) (record {
    same = λ e r _ _. plain _ refl refl;
    aborts = λ e r t cause _ _ _. record { buckets = refl; count = length-doom _ (seconds_of w.dependents t) ∙ length-set_txn w.txns t _; level = λ u. each_txn-doom (λ n y. y.level ≡ (txn_in w.txns n).level) _ (seconds_of w.dependents t) (λ n y f. f) (each_txn-set (λ n y. y.level ≡ (txn_in w.txns n).level) w.txns t _ (λ n. refl) refl) u };
    begins = λ t _ _. sets _ t _ refl refl refl;
    reads = λ t key es _ _. walked t es _ refl refl;
    scans = λ t b es _ _. walked t es _ refl refl;
    exists = λ t key value v es _ _ _. walked t es _ refl refl;
    inserts = λ t key value es _ _ _ _. walked t es _ refl refl;
    misses_update = λ t key value es _ _ _. walked t es _ refl refl;
    updates = λ t key value v es _ _ _. walked t es _ refl refl;
    misses_delete = λ t key es _ _ _. walked t es _ refl refl;
    deletes = λ t key v es _ _ _. walked t es _ refl refl;
    finishes = λ t _. sets _ t _ refl refl refl;
    prepares = λ t _ _ _. sets _ t _ refl refl refl;
    drops = λ t v r _ _ _. plain _ refl refl;
    unlocks = λ t b _. plain _ refl refl;
    frees = λ t u _. plain _ refl refl;
    commits = λ t _ _. sets _ t _ refl refl refl;
    stamps_begin = λ t v _ _ _. plain _ refl refl;
    stamps_end = λ t v _ _ _. plain _ refl refl;
    voids = λ t v _ _ _ _. plain _ refl refl;
    gives_back = λ t v _ _ r _ _ _ _. plain _ refl refl;
    ends = λ t _ _. sets _ t _ refl refl refl;
  }) e

pub fixed-run : (w : World) (es : List Event) → Fixed w (run w es)
fixed-run w [] = plain w w refl refl
fixed-run w (e ∷ es) = let a = fixed-next w e in let b = fixed-run (next w e) es in record { buckets = b.buckets ∙ a.buckets; count = b.count ∙ a.count; level = λ u. b.level u ∙ a.level u }
