-- Renumberings one after another, and back.
use Rattle.std.proofs.Common.{◌≡◌, ℕ, ◌<◌, List, [], ◌∷◌, refl, ◌∙◌, ap, sym, length, arith, ⊎_elim}
use Rattle.std.proofs.lemmas.Bool.{cases_order}
use Rattle.std.specs.Prelude.{map}
use Rattle.hek_rules.specs.declared.event.WriteEntry.{WriteEntry}
use Rattle.hek_rules.specs.declared.event.WriteEntry.TheVariants.{BeginOf, EndOf}
use Rattle.hek_rules.specs.World.{World, version_in}
use Rattle.hek_similar.specs.Places.{Renumbering, IsRenumbering, renumbered, renumbered_versions, renumbered_lock, renumbered_entry, renumbered_write, group_at}
use Rattle.hek_similar.proofs.Places.Renumbered.{Trades, trades, from-apart, from-past, to-within, from-within, length-renumbered, version-from, version-to, is-renumbered}
use Rattle.hek_similar.proofs.Places.Effects.{same-rebuilt}

abbrev pub inverse : Renumbering → Renumbering
inverse r = record { to = r.from; from = r.to; group = r.group }

-- r, and then s
abbrev pub both : Renumbering → Renumbering → Renumbering
both r s = record { to = λ v. s.to (r.to v); from = λ v. r.from (s.from v); group = r.group }

abbrev pub nothing : (ℕ → ℕ) → Renumbering
nothing group = record { to = λ v. v; from = λ v. v; group = group }

pub is-nothing : (group : ℕ → ℕ) (w : World) → IsRenumbering (nothing group) w
is-nothing group w = record { back = λ v. refl; forth = λ v. refl; past = λ v l. refl; rises = λ u v l m e. l }

pub map-twice : {X Y Z : Type 0} (f : X → Y) (g : Y → Z) (h : X → Z) (xs : List X) → ((x : X) → g (f x) ≡ h x) → map g (map f xs) ≡ map h xs
map-twice f g h [] e = refl
map-twice f g h (x ∷ xs) e = ap (λ z. z ∷ map g (map f xs)) (e x) ∙ ap (λ l. h x ∷ l) (map-twice f g h xs e)

map-same : {X : Type 0} (f : X → X) (xs : List X) → ((x : X) → f x ≡ x) → map f xs ≡ xs
map-same f [] e = refl
map-same f (x ∷ xs) e = ap (λ z. z ∷ map f xs) (e x) ∙ ap (λ l. x ∷ l) (map-same f xs e)

entry-twice : (r s : Renumbering) (e : WriteEntry) → renumbered_entry s (renumbered_entry r e) ≡ renumbered_entry (both r s) e
entry-twice r s (BeginOf v) = refl
entry-twice r s (EndOf v) = refl

entry-same : (r : Renumbering) → ((v : ℕ) → r.to v ≡ v) → (e : WriteEntry) → renumbered_entry r e ≡ e
entry-same r h (BeginOf v) = ap BeginOf (h v)
entry-same r h (EndOf v) = ap EndOf (h v)

pub lock-back : (r : Renumbering) → ((v : ℕ) → r.from (r.to v) ≡ v) → (p : ℕ × ℕ) → renumbered_lock (inverse r) (renumbered_lock r p) ≡ p
lock-back r back p = ap {A = ℕ} {B = ℕ × ℕ} (λ v. (p.0, v)) (back p.1)

pub write-back : (r : Renumbering) → ((v : ℕ) → r.from (r.to v) ≡ v) → (p : ℕ × WriteEntry) → renumbered_write (inverse r) (renumbered_write r p) ≡ p
write-back r back p = ap {A = WriteEntry} {B = ℕ × WriteEntry} (λ e. (p.0, e)) (entry-twice r (inverse r) p.1 ∙ entry-same (both r (inverse r)) back p.1)

-- places that all stay change nothing
pub renumbered-same : (r : Renumbering) (w : World) → IsRenumbering r w → ((v : ℕ) → r.to v ≡ v) → renumbered r w ≡ w
renumbered-same r w i stays =
    same-rebuilt w (renumbered_versions r w.versions) w.versions (map (renumbered_lock r) w.read_locks) w.read_locks (map (renumbered_write r) w.writes) w.writes
    (sym (is-renumbered r (length w.versions) (trades r w i) w.versions refl w.versions refl (λ v. ap (version_in w.versions) (sym (i.back v) ∙ ap r.from (stays v)))))
    (map-same (renumbered_lock r) w.read_locks (λ p. ap {A = ℕ} {B = ℕ × ℕ} (λ v. (p.0, v)) (stays p.1)))
    (map-same (renumbered_write r) w.writes (λ p. ap {A = WriteEntry} {B = ℕ × WriteEntry} (λ e. (p.0, e)) (entry-same r stays p.1)))

module _ (r s : Renumbering) (w : World) (same : s.group ≡ r.group) (i : IsRenumbering r w) (j : IsRenumbering s (renumbered r w)) where
  abbrev x : World
  x = renumbered r w

  long : length x.versions ≡ length w.versions
  long = length-renumbered r (length w.versions) (trades r w i) w.versions refl

  pub both-renumber : IsRenumbering (both r s) w
  both-renumber = record {
    back = λ v. ap r.from (j.back (r.to v)) ∙ i.back v;
    forth = λ v. ap s.to (i.forth (s.from v)) ∙ j.forth v;
    past = λ v l. ap s.to (i.past v l) ∙ j.past v (omega (arith, l, long));
    rises = λ u v l m e.
        let one : r.to u < r.to v = i.rises u v l m e in
        let there : r.to v < length w.versions = to-within r (length w.versions) (trades r w i) v m in
        let at : (k : ℕ) → group_at s.group x (r.to k) ≡ group_at r.group w k
        = λ k. ap (λ y. s.group y.key) (version-to r (length w.versions) (trades r w i) w.versions refl k) ∙ ap (λ (f : ℕ → ℕ). f (version_in w.versions k).key) same in
        j.rises (r.to u) (r.to v) one (omega (arith, there, long)) (at u ∙ e ∙ sym (at v));
  }

  pub renumbered-twice : renumbered s x ≡ renumbered (both r s) w
  renumbered-twice =
      same-rebuilt w (renumbered_versions s x.versions) (renumbered_versions (both r s) w.versions) (map (renumbered_lock s) x.read_locks) (map (renumbered_lock (both r s)) w.read_locks) (map (renumbered_write s) x.writes) (map (renumbered_write (both r s)) w.writes)
      (is-renumbered (both r s) (length w.versions) (trades (both r s) w both-renumber) w.versions refl (renumbered_versions s x.versions)
      (length-renumbered s (length x.versions) (trades s x j) x.versions refl ∙ long)
      (λ v. version-from s (length x.versions) (trades s x j) x.versions refl v ∙ version-from r (length w.versions) (trades r w i) w.versions refl (s.from v)))
      (map-twice (renumbered_lock r) (renumbered_lock s) (renumbered_lock (both r s)) w.read_locks (λ p. refl))
      (map-twice (renumbered_write r) (renumbered_write s) (renumbered_write (both r s)) w.writes (λ p. ap {A = WriteEntry} {B = ℕ × WriteEntry} (λ e. (p.0, e)) (entry-twice r s p.1)))

module _ (r : Renumbering) (w : World) (i : IsRenumbering r w) where
  pub inverse-renumbers : IsRenumbering (inverse r) (renumbered r w)
  inverse-renumbers =
      let n : ℕ = length w.versions in
      let t : Trades r n = trades r w i in
      let long : length (renumbered_versions r w.versions) ≡ n = length-renumbered r n t w.versions refl in
      record {
        back = i.forth;
        forth = i.back;
        past = λ v l. from-past r n t v (omega (arith, l, long));
        rises = λ u v l m e.
            let here : r.from u < n = from-within r n t u (omega (arith, l, m, long)) in
            let at : (k : ℕ) → group_at r.group (renumbered r w) k ≡ group_at r.group w (r.from k) = λ k. ap (λ y. r.group y.key) (version-from r n t w.versions refl k) in
            ⊎_elim (λ q. let f : u ≡ v = from-apart r n t u v q in absurd (omega (arith, l, f)))
            (λ o. ⊎_elim (λ q. q)
            (λ q. let back : r.to (r.from v) < r.to (r.from u) = i.rises (r.from v) (r.from u) q here (sym (at v) ∙ sym e ∙ at u) in
            let f = i.forth u in let g = i.forth v in absurd (omega (arith, back, f, g, l))) o)
            (cases_order (r.from u) (r.from v));
      }

  pub renumbered-back : renumbered (inverse r) (renumbered r w) ≡ w
  renumbered-back = renumbered-twice r (inverse r) w refl i inverse-renumbers ∙ renumbered-same (both r (inverse r)) w (both-renumber r (inverse r) w refl i inverse-renumbers) i.back
