-- Versions keep their places and keys, so a renumbering of a world is one of the worlds that follow.
use Rattle.std.proofs.Common.{◌≡◌, ℕ, ◌<◌, ◌≤◌, List, [], ◌∷◌, ◌++◌, refl, ◌∙◌, ap, sym, length, arith, ⊎_elim}
use Rattle.std.proofs.lemmas.Bool.{cases_lt, cases_eq, cond_both}
use Rattle.std.proofs.lemmas.List.{length-set, length_push}
use Rattle.std.specs.Prelude.{slice_set, ◌==◌}
use Rattle.hek_rules.specs.declared.event.Effect.{Effect}
use Rattle.hek_rules.specs.declared.event.Effect.TheVariants.{LockBucket, DependOn, MakeWait, ReadLock, WriteLock}
use Rattle.hek_rules.specs.declared.event.Event.{Event}
use Rattle.hek_rules.specs.World.{World, Version, version_in}
use Rattle.hek_rules.specs.Listing.{leave, join}
use Rattle.hek_rules.specs.Waits.{readers}
use Rattle.hek_rules.specs.Locks.{set_ender, cleared, reads_freely, add_version}
use Rattle.hek_rules.specs.Walk.{apply, apply_all}
use Rattle.hek_rules.specs.Table.{sealed}
use Rattle.hek_rules.specs.Run.{next}
use Rattle.hek_laws.proofs.Table.Changes.{each_outcome}
use Rattle.hek_similar.specs.Places.{Renumbering, IsRenumbering, group_at}
use Rattle.hek_similar.proofs.Places.Renumbered.{trades, to-within, version-set_same, version-set_other, version-add_before}

-- us has all versions of vs at their places, with their keys
pub record Kept (vs us : List Version) : Type 0 where
  pub longer : length vs ≤ length us
  pub keys : (v : ℕ) → v < length vs → (version_in us v).key ≡ (version_in vs v).key

pub kept : (vs : List Version) → Kept vs vs
kept vs = record { longer = omega arith; keys = λ v l. refl }

in_turn : (vs us zs : List Version) → Kept vs us → Kept us zs → Kept vs zs
in_turn vs us zs a b = record {
  longer = let l = a.longer in let m = b.longer in omega (arith, l, m);
  keys = λ v l. b.keys v (let m = a.longer in omega (arith, l, m)) ∙ a.keys v l;
}

kept-set : (vs : List Version) (v : ℕ) (x : Version) → x.key ≡ (version_in vs v).key → Kept vs (slice_set vs v x)
kept-set vs v x e = record {
  longer = let l = length-set vs v x in omega (arith, l);
  keys = λ u l. ⊎_elim (λ q. ap (λ n. (version_in (slice_set vs v x) n).key) q ∙ ap (λ y. y.key) (version-set_same vs v x (omega (arith, l, q))) ∙ e ∙ ap (λ n. (version_in vs n).key) (sym q))
      (λ o. ap (λ y. y.key) (version-set_other vs v u x o)) (cases_eq u v);
}

kept-add : (vs : List Version) (x : Version) → Kept vs (vs ++ x ∷ [])
kept-add vs x = record { longer = let l = length_push vs x in omega (arith, l); keys = λ v l. ap (λ y. y.key) (version-add_before vs x v l) }

kept-apply : (t : ℕ) (w : World) (e : Effect) → Kept w.versions (apply t w e).versions
kept-apply t w (LockBucket b) = kept w.versions
kept-apply t w (DependOn u) = kept w.versions
kept-apply t w (MakeWait u) = kept w.versions
kept-apply t w (ReadLock v) =
    let locked : World = record w { versions = set_ender w.versions v (cleared w.txns (version_in w.versions v).ender); read_locks = join w.read_locks t v } in
    cond_both (reads_freely w t v) w locked (λ y. Kept w.versions y.versions) (λ _. kept w.versions) (λ _. kept-set w.versions v _ refl)
kept-apply t w (WriteLock v) = kept-set w.versions v _ refl

kept-apply_all : (t : ℕ) (w : World) (es : List Effect) → Kept w.versions (apply_all t w es).versions
kept-apply_all t w [] = kept w.versions
kept-apply_all t w (e ∷ es) = in_turn w.versions (apply t w e).versions (apply_all t (apply t w e) es).versions (kept-apply t w e) (kept-apply_all t (apply t w e) es)

kept-grown : (t : ℕ) (w : World) (es : List Effect) (key value : ℕ) → Kept w.versions (add_version (apply_all t w es) t key value).versions
kept-grown t w es key value = in_turn w.versions (apply_all t w es).versions _ (kept-apply_all t w es) (kept-add (apply_all t w es).versions _)

kept-next : (w : World) (e : Event) → Kept w.versions (next w e).versions
kept-next w e = each_outcome w (λ e o. Kept w.versions o.world.versions) (record {
  same = λ e r _ _. kept w.versions;
  aborts = λ e r t cause _ _ _. kept w.versions;
  begins = λ t _ _. kept w.versions;
  reads = λ t key es _ _. kept-apply_all t w es;
  scans = λ t b es _ _. kept-apply_all t w es;
  exists = λ t key value v es _ _ _. kept-apply_all t w es;
  inserts = λ t key value es _ _ _ _. kept-grown t w es key value;
  misses_update = λ t key value es _ _ _. kept-apply_all t w es;
  updates = λ t key value v es _ _ _. kept-grown t w es key value;
  misses_delete = λ t key es _ _ _. kept-apply_all t w es;
  deletes = λ t key v es _ _ _. kept-apply_all t w es;
  finishes = λ t _. kept w.versions;
  prepares = λ t _ _ _. kept w.versions;
  drops = λ t v r _ _ _. cond_both (readers (leave w.read_locks t v) v == 0) (set_ender w.versions v (sealed (version_in w.versions v).ender)) w.versions (Kept w.versions) (λ _. kept-set w.versions v _ refl) (λ _. kept w.versions);
  unlocks = λ t b _. kept w.versions;
  frees = λ t u _. kept w.versions;
  commits = λ t _ _. kept w.versions;
  stamps_begin = λ t v _ _ _. kept-set w.versions v _ refl;
  stamps_end = λ t v _ _ _. kept-set w.versions v _ refl;
  voids = λ t v _ _ _ _. kept-set w.versions v _ refl;
  gives_back = λ t v _ _ r _ _ _ _. kept-set w.versions v _ refl;
  ends = λ t _ _. kept w.versions;
}) e

-- a renumbering of a world is one of each world that keeps its versions
pub still-renumbering : (r : Renumbering) (w y : World) → Kept w.versions y.versions → IsRenumbering r w → IsRenumbering r y
still-renumbering r w y k i = record {
  back = i.back;
  forth = i.forth;
  past = λ v l. i.past v (let m = k.longer in omega (arith, l, m));
  rises = rises;
}
  where
    rises : (u v : ℕ) → u < v → v < length y.versions → group_at r.group y u ≡ group_at r.group y v → r.to u < r.to v
    rises u v l m same =
        ⊎_elim
        (λ old.
        let at : (n : ℕ) → n < length w.versions → group_at r.group y n ≡ group_at r.group w n = λ n p. ap r.group (k.keys n p) in
        i.rises u v l old (sym (at u (omega (arith, l, old))) ∙ same ∙ at v old))
        (λ new.
        let here : r.to v ≡ v = i.past v new in
        ⊎_elim
        (λ old. let n : r.to u < length w.versions = to-within r (length w.versions) (trades r w i) u old in omega (arith, n, new, here))
        (λ late. let there : r.to u ≡ u = i.past u late in omega (arith, l, here, there))
        (cases_lt u (length w.versions)))
        (cases_lt v (length w.versions))

pub next-renumbering : (r : Renumbering) (w : World) (e : Event) → IsRenumbering r w → IsRenumbering r (next w e)
next-renumbering r w e i = still-renumbering r w (next w e) (kept-next w e) i
