-- The effects of a walk, and a new version, in regrouped worlds.
use Rattle.std.proofs.Common.{ℕ, List, [], ◌∷◌, refl, ◌∙◌, sym, subst, length}
use Rattle.hek_rules.specs.declared.event.Effect.{Effect}
use Rattle.hek_rules.specs.declared.event.Effect.TheVariants.{LockBucket, DependOn, MakeWait, ReadLock, WriteLock}
use Rattle.hek_rules.specs.declared.event.WriteEntry.TheVariants.{BeginOf, EndOf}
use Rattle.hek_rules.specs.Listing.{join, firsts_of}
use Rattle.hek_rules.specs.World.{World, version_in, bucket_of}
use Rattle.hek_rules.specs.Locks.{cleared, reads_freely, set_ender, add_version}
use Rattle.hek_rules.specs.Walk.{apply, apply_all}
use Rattle.hek_similar.specs.Holdings.{Regrouped, holding}
use Rattle.hek_similar.proofs.Agree.{two_tests}
use Rattle.hek_similar.proofs.Holdings.Pairs.{like-append, like-join, like-leave, like-has, like-wait, among-firsts}
use Rattle.hek_similar.proofs.Holdings.Judged.{Held, lists, held, regrouped, holding-is, same-freely}

module _ (t : ℕ) (w y : World) (h : Held (lists w) (lists y)) where
  abbrev x : World
  x = holding w y

  effect-beside : (e : Effect) → Regrouped (apply t w e) (apply t x e)
  effect-beside (LockBucket b) = regrouped (apply t w (LockBucket b)) (apply t x (LockBucket b)) refl refl refl refl (record { read_locks = h.read_locks; writes = h.writes; bucket_locks = like-join w.bucket_locks y.bucket_locks t b h.bucket_locks; waiters = h.waiters; dependents = h.dependents })
  effect-beside (DependOn u) = regrouped (apply t w (DependOn u)) (apply t x (DependOn u)) refl refl refl refl (record { read_locks = h.read_locks; writes = h.writes; bucket_locks = h.bucket_locks; waiters = h.waiters; dependents = like-join w.dependents y.dependents u t h.dependents })
  effect-beside (MakeWait u) = regrouped (apply t w (MakeWait u)) (apply t x (MakeWait u)) refl refl refl refl (record { read_locks = h.read_locks; writes = h.writes; bucket_locks = h.bucket_locks; waiters = like-join w.waiters y.waiters t u h.waiters; dependents = h.dependents })
  effect-beside (ReadLock v) =
      let locked : World = record w { versions = set_ender w.versions v (cleared w.txns (version_in w.versions v).ender); read_locks = join w.read_locks t v } in
      let other : World = record x { versions = set_ender w.versions v (cleared w.txns (version_in w.versions v).ender); read_locks = join y.read_locks t v } in
      two_tests (reads_freely w t v) (reads_freely x t v) w locked x other Regrouped (same-freely w y h t v)
      (λ _. regrouped w x refl refl refl refl h)
      (λ _. regrouped locked other refl refl refl refl (record { read_locks = like-join w.read_locks y.read_locks t v h.read_locks; writes = h.writes; bucket_locks = h.bucket_locks; waiters = h.waiters; dependents = h.dependents }))
  effect-beside (WriteLock v) =
      regrouped (apply t w (WriteLock v)) (apply t x (WriteLock v)) refl refl refl refl (record { read_locks = like-leave w.read_locks y.read_locks t v h.read_locks; writes = like-append w.writes y.writes ((t, EndOf v) ∷ []) h.writes; bucket_locks = h.bucket_locks; waiters = h.waiters; dependents = h.dependents })

  version-beside : (key value : ℕ) → Regrouped (add_version w t key value) (add_version x t key value)
  version-beside key value =
      regrouped (add_version w t key value) (add_version x t key value) refl refl refl refl (record {
        read_locks = h.read_locks;
        writes = like-append w.writes y.writes ((t, BeginOf (length w.versions)) ∷ []) h.writes;
        bucket_locks = h.bucket_locks;
        waiters = like-wait (firsts_of w.bucket_locks (bucket_of w key)) (firsts_of y.bucket_locks (bucket_of w key)) t w.waiters y.waiters
            (λ a. among-firsts w.bucket_locks a (bucket_of w key) ∙ like-has w.bucket_locks y.bucket_locks h.bucket_locks a (bucket_of w key) ∙ sym (among-firsts y.bucket_locks a (bucket_of w key)))
            h.waiters;
        dependents = h.dependents;
      })

effect-regrouped : (t : ℕ) (w x : World) (e : Effect) → Regrouped w x → Regrouped (apply t w e) (apply t x e)
effect-regrouped t w x e g = subst (λ y. Regrouped (apply t w e) (apply t y e)) (holding-is w x g) (effect-beside t w x (held w x g) e)

pub effects-regrouped : (t : ℕ) (w x : World) (es : List Effect) → Regrouped w x → Regrouped (apply_all t w es) (apply_all t x es)
effects-regrouped t w x [] g = g
effects-regrouped t w x (e ∷ es) g = effects-regrouped t (apply t w e) (apply t x e) es (effect-regrouped t w x e g)

pub version-regrouped : (t : ℕ) (w x : World) (key value : ℕ) → Regrouped w x → Regrouped (add_version w t key value) (add_version x t key value)
version-regrouped t w x key value g =
    subst (λ y. Regrouped (add_version w t key value) (add_version y t key value)) (holding-is w x g) (version-beside t w x (held w x g) key value)
