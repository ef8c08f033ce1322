-- The places of the versions that pass a test, in a renumbered world: the new places of those that pass it in the old one.
use Rattle.std.proofs.Common.{◌≡◌, ℕ, ◌<◌, Bool, true, List, refl, ◌∙◌, ap, sym, subst, length, arith}
use Rattle.std.proofs.lemmas.Bool.{eqb-true}
use Rattle.std.proofs.lemmas.List.{length-map}
use Rattle.std.specs.Prelude.{map, ◌==◌, ◌%◌}
use Rattle.hek_rules.specs.World.{World, Version, version_in, places, bucket_of}
use Rattle.hek_rules.specs.Walk.{of_key, of_bucket}
use Rattle.hek_laws.specs.Lists.{In}
use Rattle.hek_similar.specs.Places.{Renumbering, IsRenumbering, renumbered, renumbered_versions}
use Rattle.hek_similar.proofs.Places.Rising.{same_rising, In-map, map-In, rises-map, rises-once, once-map, no_longer, places-has, has-places, places-rise}
use Rattle.hek_similar.proofs.Places.Renumbered.{Trades, trades, to-within, to-apart, from-within, length-renumbered, version-from, version-to}

module _ (r : Renumbering) (n : ℕ) (t : Trades r n) (vs : List Version) (long : length vs ≡ n)
    (a b : ℕ → Version → Bool) (same : (v : ℕ) → v < n → b (r.to v) (version_in vs v) ≡ a v (version_in vs v)) where
  abbrev us : List Version
  us = renumbered_versions r vs

  abbrev old : List ℕ
  old = map r.to (places a 0 vs)

  abbrev new : List ℕ
  new = places b 0 us

  from-old : (k : ℕ) → In k old → In k new
  from-old k i =
      let m = map-In r.to (places a 0 vs) k i in
      let p = places-has a vs m.0 m.2 in
      let l : m.0 < length vs = p.0 in
      let there : r.to m.0 < n = to-within r n t m.0 (omega (arith, l, long)) in
      let y : b (r.to m.0) (version_in us (r.to m.0)) ≡ true
      = ap (b (r.to m.0)) (version-to r n t vs long m.0) ∙ same m.0 (omega (arith, l, long)) ∙ p.1 in
      subst (λ q. In q new) (sym m.1) (has-places b us (r.to m.0) (let k = length-renumbered r n t vs long in omega (arith, there, k)) y)

  to-old : (k : ℕ) → In k new → In k old
  to-old k i =
      let p = places-has b us k i in
      let l : k < length us = p.0 in
      let long_too = length-renumbered r n t vs long in
      let there : r.from k < n = from-within r n t k (omega (arith, l, long_too)) in
      let y : a (r.from k) (version_in vs (r.from k)) ≡ true
      = sym (same (r.from k) there) ∙ ap (λ q. b q (version_in vs (r.from k))) (t.forth k) ∙ ap (b k) (sym (version-from r n t vs long k)) ∙ p.1 in
      subst (λ q. In q old) (t.forth k) (In-map r.to (places a 0 vs) (r.from k) (has-places a vs (r.from k) (omega (arith, there, long)) y))

  -- as many versions pass
  pub places-count : length (places b 0 us) ≡ length (places a 0 vs)
  places-count =
      let one = no_longer new old (rises-once new (places-rise b 0 us)) to-old in
      let two = no_longer old new (once-map r.to (places a 0 vs) (to-apart r n t) (rises-once (places a 0 vs) (places-rise a 0 vs))) from-old in
      let long_too = length-map (places a 0 vs) r.to in
      omega (arith, one, two, long_too)

  -- in order too, if the new places of those that pass rise as the old ones do
  pub places-order : ((u v : ℕ) → u < v → v < n → a u (version_in vs u) ≡ true → a v (version_in vs v) ≡ true → r.to u < r.to v) → places b 0 us ≡ map r.to (places a 0 vs)
  places-order up =
      same_rising new old (places-rise b 0 us)
      (rises-map r.to (places a 0 vs) (places-rise a 0 vs) (λ x y i j l.
      let p = places-has a vs x i in
      let q = places-has a vs y j in
      let m : y < length vs = q.0 in
      up x y l (omega (arith, m, long)) p.1 q.1))
      to-old from-old

module _ (r : Renumbering) (w : World) (i : IsRenumbering r w) where
  pub key-order : (key : ℕ) → of_key (renumbered r w) key ≡ map r.to (of_key w key)
  key-order key =
      places-order r (length w.versions) (trades r w i) w.versions refl (λ v x. x.key == key) (λ v x. x.key == key) (λ v l. refl)
      (λ u v l m y z. i.rises u v l m (ap r.group (eqb-true _ _ y ∙ sym (eqb-true _ _ z))))

  pub bucket-order : (bucket : ℕ) → ((k l : ℕ) → k % w.buckets ≡ bucket → l % w.buckets ≡ bucket → r.group k ≡ r.group l) → of_bucket (renumbered r w) bucket ≡ map r.to (of_bucket w bucket)
  bucket-order bucket together =
      places-order r (length w.versions) (trades r w i) w.versions refl (λ v x. bucket_of w x.key == bucket) (λ v x. bucket_of w x.key == bucket) (λ v l. refl)
      (λ u v l m y z. i.rises u v l m (together _ _ (eqb-true _ _ y) (eqb-true _ _ z)))
