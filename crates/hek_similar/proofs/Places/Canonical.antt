-- Equal forms of canonical worlds decide whether worlds are alike.
use Rattle.std.proofs.Common.{◌≡◌, ℕ, ◌+◌, ◌<◌, List, [], ◌∷◌, refl, ◌∙◌, ap, sym, subst, length, arith, ⊎_elim}
use Rattle.std.proofs.lemmas.Bool.{cases_lt, cases_order, lt-ltb, le-ltb, eqb-true, cond-true, cond-false}
use Rattle.std.specs.Prelude.{map, ◌&&◌, ◌==◌, nat_lt, if◌then◌else◌}
use Rattle.hek_rules.specs.declared.event.WriteEntry.{WriteEntry}
use Rattle.hek_rules.specs.declared.event.WriteEntry.TheVariants.{BeginOf, EndOf}
use Rattle.hek_rules.specs.World.{World, version_in}
use Rattle.hek_laws.specs.Sound.{Sound}
use Rattle.hek_similar.specs.Similar.{Similar, timeless_version}
use Rattle.hek_similar.specs.Places.{Renumbering, IsRenumbering, renumbered, renumbered_versions, renumbered_lock, renumbered_entry, renumbered_write, group_at}
use Rattle.hek_similar.specs.Holdings.{Regrouped}
use Rattle.hek_similar.specs.Alike.{Alike}
use Rattle.hek_similar.proofs.Holdings.Judged.{holding-is}
use Rattle.hek_similar.proofs.Holdings.Laws.{regrouped-both_ways, regrouped-renumbering, renumbered-regrouped}
use Rattle.hek_similar.proofs.Holdings.Sound.{sound-regrouped}
use Rattle.hek_similar.proofs.Holdings.Grouped.{regrouped-by_txn, same-by_txn, similar-by_txn}
use Rattle.hek_similar.specs.Canonical.{count_lower, count_before, place_by_group, by_group, by_txn, canonical, canonical_form}
use Rattle.hek_similar.specs.Laws.{CanonicalFormsDecide}
use Rattle.hek_similar.proofs.Lists.{same-version, same-length, places-same}
use Rattle.hek_similar.proofs.Agree.{similar-alike}
use Rattle.hek_similar.proofs.Data.{and-same}
use Rattle.hek_similar.proofs.Forms.{similar-itself, similar-both_ways, same-form, form-similar}
use Rattle.hek_similar.proofs.Places.Renumbered.{trades, length-renumbered, version-from, version-to, is-renumbered, to-within}
use Rattle.hek_similar.proofs.Places.Ordered.{places-count}
use Rattle.hek_similar.proofs.Places.Effects.{same-rebuilt}
use Rattle.hek_similar.proofs.Places.Inverse.{both, both-renumber, renumbered-twice}
use Rattle.hek_similar.proofs.Places.Sound.{worlds-sound}
use Rattle.hek_similar.proofs.Places.Alike.{alike-both_ways, alike-in_turn, renumbered-similar, similar-renumbering}
use Rattle.hek_similar.proofs.Places.Grouped.{by_group-renumbers}

-- ---- from forms
placed-sound : (g : ℕ → ℕ) (w : World) → Sound w → Sound (renumbered (by_group g w) w)
placed-sound g w s = worlds-sound (by_group g w) w (by_group-renumbers g w) s

-- a world is alike to what is similar to its canonical one
by-canonical : (g : ℕ → ℕ) (w x : World) → Sound w → Similar (canonical g w) x → Alike g w x
by-canonical g w x s same = record {
  renumbering = by_group g w;
  groups = refl;
  renumbers = by_group-renumbers g w;
  between = canonical g w;
  regrouped = regrouped-by_txn (renumbered (by_group g w) w) (placed-sound g w s);
  similar = same;
}

canonical-sound : (g : ℕ → ℕ) (w : World) → Sound w → Sound (canonical g w)
canonical-sound g w s = sound-regrouped (renumbered (by_group g w) w) (canonical g w) (regrouped-by_txn (renumbered (by_group g w) w) (placed-sound g w s)) (placed-sound g w s)

forms-alike : (g : ℕ → ℕ) (w x : World) → Sound w → Sound x → canonical_form g w ≡ canonical_form g x → Alike g w x
forms-alike g w x here there e =
    alike-in_turn g w (canonical g x) x
    (by-canonical g w (canonical g x) here (form-similar (canonical g w) (canonical g x) (canonical-sound g w here) (canonical-sound g x there) e))
    (alike-both_ways g x (canonical g x) (by-canonical g x (canonical g x) there (similar-itself (canonical g x))))

-- ---- to forms
-- renumberings that give the same places give the same world
map-by : {X Y : Type 0} (f g : X → Y) (xs : List X) → ((x : X) → f x ≡ g x) → map f xs ≡ map g xs
map-by f g [] h = refl
map-by f g (x ∷ xs) h = ap (λ y. y ∷ map f xs) (h x) ∙ ap (λ l. g x ∷ l) (map-by f g xs h)

entry-by : (r s : Renumbering) → ((v : ℕ) → r.to v ≡ s.to v) → (e : WriteEntry) → renumbered_entry r e ≡ renumbered_entry s e
entry-by r s h (BeginOf v) = ap BeginOf (h v)
entry-by r s h (EndOf v) = ap EndOf (h v)

renumbered-by : (r s : Renumbering) (w : World) → IsRenumbering r w → IsRenumbering s w → ((v : ℕ) → r.to v ≡ s.to v) → renumbered r w ≡ renumbered s w
renumbered-by r s w i j h =
    same-rebuilt w (renumbered_versions r w.versions) (renumbered_versions s w.versions) (map (renumbered_lock r) w.read_locks) (map (renumbered_lock s) w.read_locks) (map (renumbered_write r) w.writes) (map (renumbered_write s) w.writes)
    (is-renumbered s (length w.versions) (trades s w j) w.versions refl (renumbered_versions r w.versions) (length-renumbered r (length w.versions) (trades r w i) w.versions refl)
    (λ v. version-from r (length w.versions) (trades r w i) w.versions refl v
    ∙ ap (version_in w.versions) (sym (j.back (r.from v)) ∙ ap s.from (sym (h (r.from v)) ∙ i.forth v))))
    (map-by (renumbered_lock r) (renumbered_lock s) w.read_locks (λ p. ap {A = ℕ} {B = ℕ × ℕ} (λ v. (p.0, v)) (h p.1)))
    (map-by (renumbered_write r) (renumbered_write s) w.writes (λ p. ap {A = WriteEntry} {B = ℕ × WriteEntry} (λ e. (p.0, e)) (entry-by r s h p.1)))

module _ (r : Renumbering) (w : World) (i : IsRenumbering r w) where
  abbrev y : World
  y = renumbered r w

  lower-to : (c : ℕ) → count_lower r.group y c ≡ count_lower r.group w c
  lower-to c =
      places-count r (length w.versions) (trades r w i) w.versions refl (λ u x. nat_lt (r.group x.key) c) (λ u x. nat_lt (r.group x.key) c) (λ u l. refl)

  -- the new places of two versions of a group are in the order of the old ones
  order-to : (u v : ℕ) → u < length w.versions → v < length w.versions → group_at r.group w u ≡ group_at r.group w v → nat_lt (r.to u) (r.to v) ≡ nat_lt u v
  order-to u v l m e =
      ⊎_elim
      (λ q. ap (λ k. nat_lt (r.to k) (r.to v)) q ∙ le-ltb (r.to v) (r.to v) (omega arith) ∙ sym (le-ltb u v (omega (arith, q))))
      (λ o. ⊎_elim
      (λ q. lt-ltb (r.to u) (r.to v) (i.rises u v q m e) ∙ sym (lt-ltb u v q))
      (λ q. let up : r.to v < r.to u = i.rises v u q l (sym e) in le-ltb (r.to u) (r.to v) (omega (arith, up)) ∙ sym (le-ltb u v (omega (arith, q))))
      o)
      (cases_order u v)

  before-to : (v : ℕ) → v < length w.versions → count_before r.group y (group_at r.group w v) (r.to v) ≡ count_before r.group w (group_at r.group w v) v
  before-to v m =
      places-count r (length w.versions) (trades r w i) w.versions refl
      (λ u x. r.group x.key == group_at r.group w v && nat_lt u v) (λ u x. r.group x.key == group_at r.group w v && nat_lt u (r.to v))
      (λ u l. and-same (group_at r.group w u == group_at r.group w v) (nat_lt (r.to u) (r.to v)) (nat_lt u v) (λ e. order-to u v l m (eqb-true _ _ e)))

  place-to : (v : ℕ) → place_by_group r.group y (r.to v) ≡ place_by_group r.group w v
  place-to v =
      let long : length y.versions ≡ length w.versions = length-renumbered r (length w.versions) (trades r w i) w.versions refl in
      ⊎_elim
      (λ l.
      let m : r.to v < length w.versions = to-within r (length w.versions) (trades r w i) v l in
      cond-true (nat_lt (r.to v) (length y.versions)) (count_lower r.group y (group_at r.group y (r.to v)) + count_before r.group y (group_at r.group y (r.to v)) (r.to v)) (r.to v) (lt-ltb _ _ (omega (arith, m, long)))
      ∙ ap (λ x. count_lower r.group y (r.group x.key) + count_before r.group y (r.group x.key) (r.to v)) (version-to r (length w.versions) (trades r w i) w.versions refl v)
      ∙ ap (λ k. k + count_before r.group y (group_at r.group w v) (r.to v)) (lower-to (group_at r.group w v))
      ∙ ap (λ k. count_lower r.group w (group_at r.group w v) + k) (before-to v l)
      ∙ sym (cond-true (nat_lt v (length w.versions)) (count_lower r.group w (group_at r.group w v) + count_before r.group w (group_at r.group w v) v) v (lt-ltb _ _ l)))
      (λ l.
      let e : r.to v ≡ v = i.past v l in
      cond-false (nat_lt (r.to v) (length y.versions)) (count_lower r.group y (group_at r.group y (r.to v)) + count_before r.group y (group_at r.group y (r.to v)) (r.to v)) (r.to v) (le-ltb _ _ (omega (arith, l, e, long)))
      ∙ e
      ∙ sym (cond-false (nat_lt v (length w.versions)) (count_lower r.group w (group_at r.group w v) + count_before r.group w (group_at r.group w v) v) v (le-ltb _ _ l)))
      (cases_lt v (length w.versions))

-- times don't enter the place
similar-place : (g : ℕ → ℕ) (w x : World) → Similar w x → (v : ℕ) → place_by_group g w v ≡ place_by_group g x v
similar-place g w x s v =
    let e : map timeless_version w.versions ≡ map timeless_version x.versions = (similar-alike w x s).versions in
    let at : group_at g w v ≡ group_at g x v = ap (λ y. g y.key) (same-version w.versions x.versions e v) in
    let lower : (c : ℕ) → count_lower g w c ≡ count_lower g x c
    = λ c. ap length (places-same (λ u y. nat_lt (g y.key) c) (λ u y. nat_lt (g y.key) c) w.versions x.versions (λ u y. refl) (λ u y. refl) (λ u y. refl) e) in
    let before : (c : ℕ) → count_before g w c v ≡ count_before g x c v
    = λ c. ap length (places-same (λ u y. g y.key == c && nat_lt u v) (λ u y. g y.key == c && nat_lt u v) w.versions x.versions (λ u y. refl) (λ u y. refl) (λ u y. refl) e) in
    ap (λ n. if nat_lt v n then count_lower g w (group_at g w v) + count_before g w (group_at g w v) v else v) (same-length timeless_version w.versions x.versions e)
    ∙ ap (λ c. if nat_lt v (length x.versions) then count_lower g w c + count_before g w c v else v) at
    ∙ ap (λ k. if nat_lt v (length x.versions) then k + count_before g w (group_at g x v) v else v) (lower (group_at g x v))
    ∙ ap (λ k. if nat_lt v (length x.versions) then count_lower g x (group_at g x v) + k else v) (before (group_at g x v))

-- nor does who came first
regrouped-place : (g : ℕ → ℕ) (w x : World) → Regrouped w x → (v : ℕ) → place_by_group g w v ≡ place_by_group g x v
regrouped-place g w x a v = ap (λ y. place_by_group g y v) (holding-is w x a)

alike-forms : (g : ℕ → ℕ) (w x : World) → Alike g w x → canonical_form g w ≡ canonical_form g x
alike-forms g w x a =
    let r : Renumbering = a.renumbering in
    let y : World = renumbered r w in
    let m : World = a.between in
    let c : Renumbering = by_group g x in
    let one : c.group ≡ r.group = sym a.groups in
    let of_m : IsRenumbering c m = similar-renumbering c x m (similar-both_ways m x a.similar) (by_group-renumbers g x) in
    let of_y : IsRenumbering c y = regrouped-renumbering c m y (regrouped-both_ways y m a.regrouped) of_m in
    let kept : (v : ℕ) → place_by_group g y (r.to v) ≡ place_by_group g w v
    = subst (λ f. (v : ℕ) → place_by_group f y (r.to v) ≡ place_by_group f w v) a.groups (place-to r w a.renumbers) in
    let placed : renumbered (by_group g w) w ≡ renumbered c y
    = renumbered-by (by_group g w) (both r c) w (by_group-renumbers g w) (both-renumber r c w one a.renumbers of_y)
    (λ v. sym (kept v) ∙ regrouped-place g y m a.regrouped (r.to v) ∙ similar-place g m x a.similar (r.to v))
    ∙ sym (renumbered-twice r c w one a.renumbers of_y) in
    let same : canonical g w ≡ by_txn (renumbered c m) = ap by_txn placed ∙ same-by_txn (renumbered c y) (renumbered c m) (renumbered-regrouped c y m a.regrouped) in
    same-form (canonical g w) (canonical g x)
    (subst (λ z. Similar z (canonical g x)) (sym same) (similar-by_txn (renumbered c m) (renumbered c x) (renumbered-similar c m x of_m a.similar)))

pub canonical-forms-decide : CanonicalFormsDecide
canonical-forms-decide g w x here there = (forms-alike g w x here there, alike-forms g w x)
