-- Versions never go, and their rows never change.
use Rattle.std.proofs.Common.{◌≡◌, ℕ, ◌+◌, ◌<◌, ◌≤◌, List, [], ◌∷◌, ◌++◌, refl, ◌∙◌, ap, sym, arith, ⊎_elim, length}
use Rattle.std.proofs.lemmas.Bool.{cond_both}
use Rattle.std.specs.Prelude.{slice_set}
use Rattle.hek_rules.specs.declared.event.Event.{Event}
use Rattle.hek_rules.specs.declared.event.Effect.{Effect}
use Rattle.hek_rules.specs.declared.event.Effect.TheVariants.{LockBucket, DependOn, MakeWait, ReadLock, WriteLock}
use Rattle.hek_rules.specs.World.{World, Version, version_in}
use Rattle.hek_rules.specs.Walk.{apply, apply_all}
use Rattle.hek_rules.specs.Run.{next, run}
use Rattle.hek_laws.proofs.Table.Changes.{each_outcome}
use Rattle.hek_laws.proofs.Sound.WaitCounts.{version_in-set, length-set}
use Rattle.hek_laws.proofs.Futures.Written.{append-cases}

-- the new versions have the old ones' rows, and maybe more
pub record Grown (vs us : List Version) : Type 0 where
  pub longer : length vs ≤ length us
  pub key : (v : ℕ) → v < length vs → (version_in us v).key ≡ (version_in vs v).key
  pub value : (v : ℕ) → v < length vs → (version_in us v).value ≡ (version_in vs v).value

pub grown_same : (vs : List Version) → Grown vs vs
grown_same vs = record { longer = omega arith; key = λ v _. refl; value = λ v _. refl }

pub grown_then : (vs us ts : List Version) → Grown vs us → Grown us ts → Grown vs ts
grown_then vs us ts a b = record {
  longer = omega (arith, a.longer, b.longer);
  key = λ v h. b.key v (omega (arith, h, a.longer)) ∙ a.key v h;
  value = λ v h. b.value v (omega (arith, h, a.longer)) ∙ a.value v h;
}

grown_set : (vs : List Version) (v : ℕ) (x : Version) → x.key ≡ (version_in vs v).key → x.value ≡ (version_in vs v).value → Grown vs (slice_set vs v x)
grown_set vs v x k l =
    let same = length-set vs v x in
    record {
      longer = omega (arith, same);
      key = λ j _. ⊎_elim (λ p. ap (λ (y : Version). y.key) p.1 ∙ k ∙ ap (λ n. (version_in vs n).key) (sym p.0)) (λ e. ap (λ (y : Version). y.key) e) (version_in-set vs v j x);
      value = λ j _. ⊎_elim (λ p. ap (λ (y : Version). y.value) p.1 ∙ l ∙ ap (λ n. (version_in vs n).value) (sym p.0)) (λ e. ap (λ (y : Version). y.value) e) (version_in-set vs v j x);
    }

long : (vs : List Version) (y : Version) → length (vs ++ y ∷ []) ≡ length vs + 1
long [] y = refl
long (x ∷ vs) y = let rest = long vs y in omega (arith, rest)

grown_append : (vs : List Version) (y : Version) → Grown vs (vs ++ y ∷ [])
grown_append vs y =
    let more = long vs y in
    record {
      longer = omega (arith, more);
      key = λ j h. ⊎_elim (λ e. ap (λ (y : Version). y.key) e) (λ p. let at = p.0 in absurd (omega (arith, at, h))) (append-cases vs y j);
      value = λ j h. ⊎_elim (λ e. ap (λ (y : Version). y.value) e) (λ p. let at = p.0 in absurd (omega (arith, at, h))) (append-cases vs y j);
    }

grown_apply : (t : ℕ) (w : World) (e : Effect) → Grown w.versions (apply t w e).versions
grown_apply t w (LockBucket b) = grown_same w.versions
grown_apply t w (DependOn u) = grown_same w.versions
grown_apply t w (MakeWait u) = grown_same w.versions
grown_apply t w (ReadLock v) = cond_both _ _ _ (λ (x : World). Grown w.versions x.versions) (λ _. grown_same w.versions) (λ _. grown_set w.versions v _ refl refl)
grown_apply t w (WriteLock v) = grown_set w.versions v _ refl refl

grown_all : (t : ℕ) (w : World) (es : List Effect) → Grown w.versions (apply_all t w es).versions
grown_all t w [] = grown_same w.versions
grown_all t w (e ∷ es) = grown_then w.versions (apply t w e).versions (apply_all t (apply t w e) es).versions (grown_apply t w e) (grown_all t (apply t w e) es)

grown_next : (w : World) (e : Event) → Grown w.versions (next w e).versions
grown_next w = each_outcome w (λ e o. Grown w.versions o.world.versions) (record {
  same = λ e r _ _. grown_same w.versions;
  aborts = λ e r t cause _ _ _. grown_same w.versions;
  begins = λ t _ _. grown_same w.versions;
  reads = λ t key es _ _. grown_all t w es;
  scans = λ t b es _ _. grown_all t w es;
  exists = λ t key value v es _ _ _. grown_all t w es;
  inserts = λ t key value es _ _ _ _. grown_then w.versions (apply_all t w es).versions _ (grown_all t w es) (grown_append (apply_all t w es).versions _);
  misses_update = λ t key value es _ _ _. grown_all t w es;
  updates = λ t key value v es _ _ _. grown_then w.versions (apply_all t w es).versions _ (grown_all t w es) (grown_append (apply_all t w es).versions _);
  misses_delete = λ t key es _ _ _. grown_all t w es;
  deletes = λ t key v es _ _ _. grown_all t w es;
  finishes = λ t _. grown_same w.versions;
  prepares = λ t _ _ _. grown_same w.versions;
  drops = λ t v r _ _ _. cond_both _ _ _ (λ (xs : List Version). Grown w.versions xs) (λ _. grown_set w.versions v _ refl refl) (λ _. grown_same w.versions);
  unlocks = λ t b _. grown_same w.versions;
  frees = λ t u _. grown_same w.versions;
  commits = λ t _ _. grown_same w.versions;
  stamps_begin = λ t v _ _ _. grown_set w.versions v _ refl refl;
  stamps_end = λ t v _ _ _. grown_set w.versions v _ refl refl;
  voids = λ t v _ _ _ _. grown_set w.versions v _ refl refl;
  gives_back = λ t v _ _ r _ _ _ _. grown_set w.versions v _ refl refl;
  ends = λ t _ _. grown_same w.versions;
})

pub grown_run : (w : World) (es : List Event) → Grown w.versions (run w es).versions
grown_run w [] = grown_same w.versions
grown_run w (e ∷ es) = grown_then w.versions (next w e).versions (run (next w e) es).versions (grown_next w e) (grown_run (next w e) es)
