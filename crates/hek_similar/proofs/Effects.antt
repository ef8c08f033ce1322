-- The effects of a walk, and a new version, keep worlds similar.
use Rattle.std.proofs.Common.{ℕ, false, List, [], ◌∷◌, ◌++◌, Some, None, refl, ◌∙◌, ap, sym, subst}
use Rattle.std.specs.Prelude.{nat_lt}
use Rattle.hek_rules.specs.declared.event.Effect.{Effect}
use Rattle.hek_rules.specs.declared.event.Effect.TheVariants.{LockBucket, DependOn, MakeWait, ReadLock, WriteLock}
use Rattle.hek_rules.specs.declared.event.WriteEntry.TheVariants.{BeginOf}
use Rattle.hek_rules.specs.declared.word.BeginRecord.TheVariants.{By}
use Rattle.hek_rules.specs.Listing.{join, firsts_of}
use Rattle.hek_rules.specs.World.{World, Version, Txn, Held, txn_in, version_in, bucket_of}
use Rattle.hek_rules.specs.Locks.{cleared, reads_freely, set_ender, add_write, wait_for_holders, add_version}
use Rattle.hek_rules.specs.Walk.{apply, apply_all}
use Rattle.hek_similar.specs.Similar.{Similar, timeless_version}
use Rattle.hek_similar.proofs.Lists.{same-length}
use Rattle.hek_similar.proofs.Alike.{Alike, set-ender, add-one, past-zero}
use Rattle.hek_similar.proofs.Counts.{beside}
use Rattle.hek_similar.proofs.Agree.{beside-similar, similar-beside, similar-alike, two_tests}
use Rattle.hek_similar.proofs.Judged.{clears, cleared-time, same-freely}

module _ (t : ℕ) (w : World) (c : ℕ) (us : List Version) (ss : List Txn) (a : Alike w.versions us w.txns ss) where
  abbrev x : World
  x = beside w c us ss

  clear-alike : (v : ℕ) → Alike (set_ender w.versions v (cleared w.txns (version_in w.versions v).ender)) (set_ender us v (cleared ss (version_in us v).ender)) w.txns ss
  clear-alike v =
      set-ender w.versions us w.txns ss a v _ _ (clears w c us ss a v)
      (λ u l. ap (nat_lt (txn_in w.txns u).begin) (cleared-time w.txns (version_in w.versions v).ender) ∙ (a.looks u l).ended v ∙ sym (ap (nat_lt (txn_in ss u).begin) (cleared-time ss (version_in us v).ender)))

  effect-beside : (e : Effect) → Similar (apply t w e) (apply t x e)
  effect-beside (LockBucket b) = beside-similar (record w { bucket_locks = join w.bucket_locks t b }) c us ss a
  effect-beside (DependOn u) = beside-similar (record w { dependents = join w.dependents u t }) c us ss a
  effect-beside (MakeWait u) = beside-similar (record w { waiters = join w.waiters t u }) c us ss a
  effect-beside (ReadLock v) =
      two_tests (reads_freely w t v) (reads_freely x t v)
      w (record w { versions = set_ender w.versions v (cleared w.txns (version_in w.versions v).ender); read_locks = join w.read_locks t v })
      x (record x { versions = set_ender us v (cleared ss (version_in us v).ender); read_locks = join w.read_locks t v })
      Similar (same-freely w c us ss a t v)
      (λ _. beside-similar w c us ss a)
      (λ _. beside-similar (record w { versions = set_ender w.versions v (cleared w.txns (version_in w.versions v).ender); read_locks = join w.read_locks t v }) c (set_ender us v (cleared ss (version_in us v).ender)) ss (clear-alike v))
  effect-beside (WriteLock v) =
      beside-similar (add_write w t v) c (set_ender us v (Held (Some t) false)) ss
      (set-ender w.versions us w.txns ss a v (Held (Some t) false) (Held (Some t) false) refl (λ u l. past-zero _ _))

  -- the world x with a new version, whose entry has the place n
  abbrev grown : ℕ → ℕ → ℕ → World
  grown key value n =
      record x {
        versions = us ++ record { key = key; value = value; creator = By t; ender = Held None false } ∷ [];
        writes = w.writes ++ (t, BeginOf n) ∷ [];
        waiters = wait_for_holders (firsts_of w.bucket_locks (bucket_of w key)) t w.waiters;
      }

  version-beside : (key value : ℕ) → Similar (add_version w t key value) (add_version x t key value)
  version-beside key value =
      subst (λ n. Similar (add_version w t key value) (grown key value n)) (same-length timeless_version w.versions us a.versions)
      (beside-similar (add_version w t key value) c (us ++ record { key = key; value = value; creator = By t; ender = Held None false } ∷ []) ss (add-one w.versions us w.txns ss a key value t))

effect-similar : (t : ℕ) (w x : World) (e : Effect) → Similar w x → Similar (apply t w e) (apply t x e)
effect-similar t w x e s =
    subst (λ y. Similar (apply t w e) (apply t y e)) (similar-beside w x s) (effect-beside t w x.clock x.versions x.txns (similar-alike w x s) e)

pub effects-similar : (t : ℕ) (w x : World) (es : List Effect) → Similar w x → Similar (apply_all t w es) (apply_all t x es)
effects-similar t w x [] s = s
effects-similar t w x (e ∷ es) s = effects-similar t (apply t w e) (apply t x e) es (effect-similar t w x e s)

pub version-similar : (t : ℕ) (w x : World) (key value : ℕ) → Similar w x → Similar (add_version w t key value) (add_version x t key value)
version-similar t w x key value s =
    subst (λ y. Similar (add_version w t key value) (add_version y t key value)) (similar-beside w x s) (version-beside t w x.clock x.versions x.txns (similar-alike w x s) key value)
