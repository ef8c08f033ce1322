-- The effects of a walk, and a new version, in a renumbered world.
use Rattle.std.proofs.Common.{◌≡◌, ℕ, Bool, true, false, List, [], ◌∷◌, ◌++◌, Some, None, refl, ◌∙◌, ap, sym, subst, length, arith}
use Rattle.std.proofs.lemmas.List.{map-append, length-set}
use Rattle.std.specs.Prelude.{map, slice_set, if◌then◌else◌}
use Rattle.hek_rules.specs.declared.event.Effect.{Effect}
use Rattle.hek_rules.specs.declared.event.Effect.TheVariants.{LockBucket, DependOn, MakeWait, ReadLock, WriteLock}
use Rattle.hek_rules.specs.declared.event.WriteEntry.{WriteEntry}
use Rattle.hek_rules.specs.declared.event.WriteEntry.TheVariants.{BeginOf, EndOf}
use Rattle.hek_rules.specs.declared.word.BeginRecord.TheVariants.{By}
use Rattle.hek_rules.specs.Listing.{join, leave, firsts_of}
use Rattle.hek_rules.specs.World.{World, Version, Held, version_in, bucket_of}
use Rattle.hek_rules.specs.Locks.{cleared, reads_freely, with_ender, set_ender, wait_for_holders, add_version}
use Rattle.hek_rules.specs.Walk.{apply, apply_all}
use Rattle.hek_similar.specs.Places.{Renumbering, renumbered, renumbered_versions, renumbered_lock, renumbered_write}
use Rattle.hek_similar.proofs.Places.Renumbered.{Trades, join-to, leave-to, renumbered-set, renumbered-add, length-renumbered}
use Rattle.hek_similar.proofs.Places.Judged.{through, effect-to, word, freely-to}

-- the world with other versions, read locks and writes
abbrev pub rebuilt : World → List Version → List (ℕ × ℕ) → List (ℕ × WriteEntry) → World
rebuilt w vs ls es = record w { versions = vs; read_locks = ls; writes = es }

pub same-rebuilt : (w : World) (vs us : List Version) (ls ks : List (ℕ × ℕ)) (es fs : List (ℕ × WriteEntry)) → vs ≡ us → ls ≡ ks → es ≡ fs → rebuilt w vs ls es ≡ rebuilt w us ks fs
same-rebuilt w vs us ls ks es fs a b c = ap (λ l. rebuilt w l ls es) a ∙ ap (λ l. rebuilt w us l es) b ∙ ap (rebuilt w us ks) c

module _ (r : Renumbering) (w : World) (trade : Trades r (length w.versions)) where
  abbrev x : World
  x = renumbered r w

  -- a version changes in both worlds
  pub changed : (v : ℕ) (f : Version → Version) → slice_set x.versions (r.to v) (f (version_in x.versions (r.to v))) ≡ renumbered_versions r (slice_set w.versions v (f (version_in w.versions v)))
  changed v f =
      ap (λ y. slice_set x.versions (r.to v) (f y)) (word r w trade v)
      ∙ renumbered-set r (length w.versions) trade w.versions v (f (version_in w.versions v)) refl

  effect-done : (t : ℕ) (e : Effect) → apply t x (effect-to r e) ≡ renumbered r (apply t w e)
  effect-done t (LockBucket b) = refl
  effect-done t (DependOn u) = refl
  effect-done t (MakeWait u) = refl
  effect-done t (ReadLock v) =
      let locked : World = record w { versions = set_ender w.versions v (cleared w.txns (version_in w.versions v).ender); read_locks = join w.read_locks t v } in
      ap (λ b. if b then x else rebuilt x (set_ender x.versions (r.to v) (cleared w.txns (version_in x.versions (r.to v)).ender)) (join x.read_locks t (r.to v)) x.writes) (freely-to r w trade t v)
      ∙ ap (λ y. if reads_freely w t v then x else y)
      (same-rebuilt x (set_ender x.versions (r.to v) (cleared w.txns (version_in x.versions (r.to v)).ender)) (renumbered_versions r locked.versions) (join x.read_locks t (r.to v)) (map (renumbered_lock r) locked.read_locks) x.writes x.writes
      (changed v (λ y. with_ender y (cleared w.txns y.ender))) (join-to r (length w.versions) trade w.read_locks t v) refl)
      ∙ through (renumbered r) (reads_freely w t v) w locked
  effect-done t (WriteLock v) =
      same-rebuilt x (set_ender x.versions (r.to v) (Held (Some t) false)) (renumbered_versions r (set_ender w.versions v (Held (Some t) false))) (leave x.read_locks t (r.to v)) (map (renumbered_lock r) (leave w.read_locks t v)) (x.writes ++ (t, EndOf (r.to v)) ∷ []) (map (renumbered_write r) (w.writes ++ (t, EndOf v) ∷ []))
      (changed v (λ y. with_ender y (Held (Some t) false))) (leave-to r (length w.versions) trade w.read_locks t v) (sym (map-append (renumbered_write r) w.writes ((t, EndOf v) ∷ [])))

  version-done : (t key value : ℕ) → add_version x t key value ≡ renumbered r (add_version w t key value)
  version-done t key value =
      let new : Version = record { key = key; value = value; creator = By t; ender = Held None false } in
      let y : World = record x { waiters = wait_for_holders (firsts_of w.bucket_locks (bucket_of w key)) t w.waiters } in
      same-rebuilt y (x.versions ++ new ∷ []) (renumbered_versions r (w.versions ++ new ∷ [])) x.read_locks x.read_locks (x.writes ++ (t, BeginOf (length x.versions)) ∷ []) (map (renumbered_write r) (w.writes ++ (t, BeginOf (length w.versions)) ∷ []))
      (renumbered-add r (length w.versions) trade w.versions new refl) refl
      (ap (λ n. x.writes ++ (t, BeginOf n) ∷ []) (length-renumbered r (length w.versions) trade w.versions refl ∙ sym (trade.past (length w.versions) (omega arith)))
      ∙ sym (map-append (renumbered_write r) w.writes ((t, BeginOf (length w.versions)) ∷ [])))

length-apply : (t : ℕ) (w : World) (e : Effect) → length (apply t w e).versions ≡ length w.versions
length-apply t w (LockBucket b) = refl
length-apply t w (DependOn u) = refl
length-apply t w (MakeWait u) = refl
length-apply t w (ReadLock v) =
    sym (through (λ (y : World). length y.versions) (reads_freely w t v) w _)
    ∙ ap (λ n. if reads_freely w t v then length w.versions else n) (length-set w.versions v (with_ender (version_in w.versions v) (cleared w.txns (version_in w.versions v).ender)))
    ∙ through (λ (n : ℕ). n) (reads_freely w t v) (length w.versions) (length w.versions) ∙ either (reads_freely w t v)
  where
    either : (b : Bool) → (if b then length w.versions else length w.versions) ≡ length w.versions
    either true = refl
    either false = refl
length-apply t w (WriteLock v) = length-set w.versions v (with_ender (version_in w.versions v) (Held (Some t) false))

length-apply_all : (t : ℕ) (w : World) (es : List Effect) → length (apply_all t w es).versions ≡ length w.versions
length-apply_all t w [] = refl
length-apply_all t w (e ∷ es) = length-apply_all t (apply t w e) es ∙ length-apply t w e

pub effects-done : (r : Renumbering) (w : World) (trade : Trades r (length w.versions)) (t : ℕ) (es : List Effect) → apply_all t (renumbered r w) (map (effect-to r) es) ≡ renumbered r (apply_all t w es)
effects-done r w trade t [] = refl
effects-done r w trade t (e ∷ es) =
    ap (λ y. apply_all t y (map (effect-to r) es)) (effect-done r w trade t e)
    ∙ effects-done r (apply t w e) (subst (Trades r) (sym (length-apply t w e)) trade) t es

pub grown-done : (r : Renumbering) (w : World) (trade : Trades r (length w.versions)) (t key value : ℕ) (es : List Effect) →
    add_version (apply_all t (renumbered r w) (map (effect-to r) es)) t key value ≡ renumbered r (add_version (apply_all t w es) t key value)
grown-done r w trade t key value es =
    ap (λ y. add_version y t key value) (effects-done r w trade t es)
    ∙ version-done r (apply_all t w es) (subst (Trades r) (sym (length-apply_all t w es)) trade) t key value
