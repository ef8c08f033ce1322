-- The victim among places is the victim among the numbers at these places.
use Rattle.std.proofs.Common.{ℕ, suc, ◌≡◌, ◌<◌, ◌≤◌, ◌||◌, Bool, true, false, eqb, List, [], ◌∷◌, ◌++◌, length, map, Some, None, refl, sym, ap, ◌∙◌, subst, inl, inr, arith}
use Rattle.std.proofs.lemmas.Bool.{cases_Bool, cases_lt, eqb-true}
use Rattle.std.proofs.lemmas.List.{length-map}
use Rattle.hek_rules.specs.Cycles.{Follows, IsClosedWalk, IsNotAfter, IsVictim, JoinsBelow}
use Rattle.hek_rules.specs.Listing.{is_among}
use Rattle.hek_rules.specs.Victim.{victim_of}
use Rattle.hek_rules.proofs.VictimLaw.{victim_found, none_found, found_from_victim, none_from_no_walk}
use Rattle.hek_deadlock.specs.Places.{id_at, IsRising}

pub record IsPlace (ids : List ℕ) (u i : ℕ) : Type 0 where
  pub within : i < length ids
  pub is : id_at ids i ≡ u

-- a number in the list has a place there
pub place_of : (ids : List ℕ) (u : ℕ) → is_among ids u ≡ true → (i : ℕ) × IsPlace ids u i
place_of [] u e = cc
place_of (x ∷ xs) u e =
    elim (cases_Bool (eqb x u)) [
      | inl same ↦ (0, record { within = omega arith; is = eqb-true x u same })
      | inr ne ↦
          let rest : (i : ℕ) × IsPlace xs u i = place_of xs u (rest_of (eqb x u) (is_among xs u) ne e) in
          let lt : rest.0 < length xs = rest.1.within in
          (suc rest.0, record { within = omega arith; is = rest.1.is })
    ]
  where
    rest_of : (a b : Bool) → a ≡ false → (a || b) ≡ true → b ≡ true
    rest_of true b e k = cc
    rest_of false b e k = k

-- places and the numbers there have the same order
pub kept : (ids : List ℕ) → IsRising ids → (i j : ℕ) → i ≤ j → j < length ids → id_at ids i ≤ id_at ids j
kept ids r i j le lt =
    elim (cases_lt i j) [
      | inl less ↦ (let l : id_at ids i < id_at ids j = r.less i j less lt in omega arith)
      | inr ge ↦
          let same : i ≡ j = omega arith in
          let e : id_at ids i ≡ id_at ids j = ap (λ (k : ℕ). id_at ids k) same in
          omega arith
    ]

pub same_place : (ids : List ℕ) → IsRising ids → (i j : ℕ) → i < length ids → j < length ids → id_at ids i ≡ id_at ids j → i ≡ j
same_place ids r i j li lj e =
    elim (cases_lt i j) [
      | inl less ↦ (let l : id_at ids i < id_at ids j = r.less i j less lj in absurd (omega arith))
      | inr ge ↦
          elim (cases_lt j i) [
            | inl more ↦ (let l : id_at ids j < id_at ids i = r.less j i more li in absurd (omega arith))
            | inr le ↦ omega arith
          ]
    ]

-- the edges between places are those between the numbers there
pub record IsPlaced (edge small : ℕ → ℕ → Bool) (ids : List ℕ) : Type 0 where
  pub rising : IsRising ids
  pub from : (u t : ℕ) → edge u t ≡ true → is_among ids u ≡ true
  pub to : (u t : ℕ) → edge u t ≡ true → is_among ids t ≡ true
  pub joins : JoinsBelow small (length ids)
  pub same : (i j : ℕ) → i < length ids → j < length ids → small i j ≡ edge (id_at ids i) (id_at ids j)

abbrev pub AreBelow : ℕ → List ℕ → Type 0
AreBelow n [] = Unit {0}
AreBelow n (x ∷ xs) = (x < n) × AreBelow n xs

raised_edge : (edge small : ℕ → ℕ → Bool) (ids : List ℕ) → IsPlaced edge small ids → (i j : ℕ) → small i j ≡ true → edge (id_at ids i) (id_at ids j) ≡ true
raised_edge edge small ids p i j e = sym (p.same i j (p.joins.from i j e) (p.joins.to i j e)) ∙ e

raised : (edge small : ℕ → ℕ → Bool) (ids : List ℕ) → IsPlaced edge small ids → (x : ℕ) (ys : List ℕ) (t : ℕ) → Follows small x (ys ++ t ∷ []) → Follows edge (id_at ids x) (map (id_at ids) ys ++ id_at ids t ∷ [])
raised edge small ids p x [] t f = (raised_edge edge small ids p x t f.0, tt)
raised edge small ids p x (y ∷ ys) t f = (raised_edge edge small ids p x y f.0, raised edge small ids p y ys t f.1)

raised_closed : (edge small : ℕ → ℕ → Bool) (ids : List ℕ) → IsPlaced edge small ids → (u : ℕ) (walk : List ℕ) → IsClosedWalk small u walk → IsClosedWalk edge (id_at ids u) (map (id_at ids) walk)
raised_closed edge small ids p u [] c = c
raised_closed edge small ids p u (x ∷ ys) c = (ap (id_at ids) c.0, raised edge small ids p x ys u c.1)

follows_below : (small : ℕ → ℕ → Bool) (n : ℕ) → JoinsBelow small n → (x : ℕ) (ys : List ℕ) (t : ℕ) → Follows small x (ys ++ t ∷ []) → AreBelow n ys
follows_below small n j x [] t f = tt
follows_below small n j x (y ∷ ys) t f = (j.to x y f.0, follows_below small n j y ys t f.1)

starts_below : (small : ℕ → ℕ → Bool) (n : ℕ) → JoinsBelow small n → (x : ℕ) (ys : List ℕ) (t : ℕ) → Follows small x (ys ++ t ∷ []) → x < n
starts_below small n j x [] t f = j.from x t f.0
starts_below small n j x (y ∷ ys) t f = j.from x y f.0

-- the members of a closed walk are places
pub closed_below : (small : ℕ → ℕ → Bool) (n : ℕ) → JoinsBelow small n → (u : ℕ) (walk : List ℕ) → IsClosedWalk small u walk → AreBelow n walk
closed_below small n j u [] c = tt
closed_below small n j u (x ∷ ys) c = (starts_below small n j x ys u c.1, follows_below small n j x ys u c.1)

-- the places of a walk between numbers are a walk
record IsLowered (small : ℕ → ℕ → Bool) (ids : List ℕ) (x : ℕ) (ys : List ℕ) (t : ℕ) (zs : List ℕ) : Type 0 where
  follows : Follows small x (zs ++ t ∷ [])
  image : map (id_at ids) zs ≡ ys

lowered : (edge small : ℕ → ℕ → Bool) (ids : List ℕ) → IsPlaced edge small ids → (x : ℕ) → x < length ids → (ys : List ℕ) (t : ℕ) → t < length ids → Follows edge (id_at ids x) (ys ++ id_at ids t ∷ []) → (zs : List ℕ) × IsLowered small ids x ys t zs
lowered edge small ids p x lx [] t lt f = ([], record { follows = (p.same x t lx lt ∙ f.0, tt); image = refl })
lowered edge small ids p x lx (y ∷ ys) t lt f =
    let here : (i : ℕ) × IsPlace ids y i = place_of ids y (p.to (id_at ids x) y f.0) in
    let onward : Follows edge (id_at ids here.0) (ys ++ id_at ids t ∷ []) = subst (λ (v : ℕ). Follows edge v (ys ++ id_at ids t ∷ [])) (sym here.1.is) f.1 in
    let rest : (zs : List ℕ) × IsLowered small ids here.0 ys t zs = lowered edge small ids p here.0 here.1.within ys t lt onward in (
      here.0 ∷ rest.0,
      record {
        follows = (p.same x here.0 lx here.1.within ∙ ap (λ (v : ℕ). edge (id_at ids x) v) here.1.is ∙ f.0, rest.1.follows);
        image = ap (λ (v : ℕ). v ∷ map (id_at ids) rest.0) here.1.is ∙ ap (λ (vs : List ℕ). y ∷ vs) rest.1.image;
      },
    )

ends_among : (edge small : ℕ → ℕ → Bool) (ids : List ℕ) → IsPlaced edge small ids → (x : ℕ) (ys : List ℕ) (t : ℕ) → Follows edge x (ys ++ t ∷ []) → is_among ids t ≡ true
ends_among edge small ids p x [] t f = p.to x t f.0
ends_among edge small ids p x (y ∷ ys) t f = ends_among edge small ids p y ys t f.1

-- the places of a closed walk between numbers are a closed walk
record HasPlaces (small : ℕ → ℕ → Bool) (ids : List ℕ) (v : ℕ) (walk : List ℕ) (i : ℕ) (zs : List ℕ) : Type 0 where
  place : IsPlace ids v i
  closed : IsClosedWalk small i zs
  image : map (id_at ids) zs ≡ walk

lowered_closed : (edge small : ℕ → ℕ → Bool) (ids : List ℕ) → IsPlaced edge small ids → (v : ℕ) (walk : List ℕ) → IsClosedWalk edge v walk → (i : ℕ) × (zs : List ℕ) × HasPlaces small ids v walk i zs
lowered_closed edge small ids p v [] c = absurd c
lowered_closed edge small ids p v (x ∷ ys) c =
    let here : (i : ℕ) × IsPlace ids v i = place_of ids v (ends_among edge small ids p x ys v c.1) in
    let i : ℕ = here.0 in
    let start : x ≡ id_at ids i = c.0 ∙ sym here.1.is in
    let f : Follows edge (id_at ids i) (ys ++ id_at ids i ∷ []) = subst (λ (w : ℕ). Follows edge w (ys ++ id_at ids i ∷ [])) start (subst (λ (w : ℕ). Follows edge x (ys ++ w ∷ [])) (sym here.1.is) c.1) in
    let rest : (zs : List ℕ) × IsLowered small ids i ys i zs = lowered edge small ids p i here.1.within ys i here.1.within f in (
      i,
      i ∷ rest.0,
      record {
        place = here.1;
        closed = (refl, rest.1.follows);
        image = ap (λ (w : ℕ). w ∷ map (id_at ids) rest.0) (sym start) ∙ ap (λ (ws : List ℕ). x ∷ ws) rest.1.image;
      },
    )

-- a closed walk from the number at place u has a closed walk of places from u
lowered_at : (edge small : ℕ → ℕ → Bool) (ids : List ℕ) → IsPlaced edge small ids → (u : ℕ) → u < length ids → (walk : List ℕ) → IsClosedWalk edge (id_at ids u) walk → (zs : List ℕ) × HasPlaces small ids (id_at ids u) walk u zs
lowered_at edge small ids p u lt walk c =
    let l : (i : ℕ) × (zs : List ℕ) × HasPlaces small ids (id_at ids u) walk i zs = lowered_closed edge small ids p (id_at ids u) walk c in
    let same : l.0 ≡ u = same_place ids p.rising l.0 u l.2.place.within lt l.2.place.is in
    (l.1, subst (λ (k : ℕ). HasPlaces small ids (id_at ids u) walk k l.1) same l.2)

not_after_mapped : (ids : List ℕ) → IsRising ids → (xs ys : List ℕ) → AreBelow (length ids) ys → IsNotAfter xs ys → IsNotAfter (map (id_at ids) xs) (map (id_at ids) ys)
not_after_mapped ids r [] ys b n = tt
not_after_mapped ids r (x ∷ xs) [] b n = absurd n
not_after_mapped ids r (x ∷ xs) (y ∷ ys) b n =
    elim n [
      | inl lt ↦ inl (r.less x y lt b.0)
      | inr same ↦ inr (ap (id_at ids) same.0, not_after_mapped ids r xs ys b.1 same.1)
    ]

victim_mapped : (edge small : ℕ → ℕ → Bool) (ids : List ℕ) → IsPlaced edge small ids → (u : ℕ) → u < length ids → (cycle : List ℕ) → IsVictim small u cycle → IsVictim edge (id_at ids u) (map (id_at ids) cycle)
victim_mapped edge small ids p u lt cycle v = record {
  closed = raised_closed edge small ids p u cycle v.closed;
  greatest = greatest;
  shortest = shortest;
  least = least;
}
  where
    greatest : (w : ℕ) (walk : List ℕ) → IsClosedWalk edge w walk → w ≤ id_at ids u
    greatest w walk c =
        let l : (i : ℕ) × (zs : List ℕ) × HasPlaces small ids w walk i zs = lowered_closed edge small ids p w walk c in
        let most : l.0 ≤ u = v.greatest l.0 l.1 l.2.closed in
        let is : id_at ids l.0 ≡ w = l.2.place.is in
        let order : id_at ids l.0 ≤ id_at ids u = kept ids p.rising l.0 u most lt in
        omega arith

    long : (walk zs : List ℕ) → HasPlaces small ids (id_at ids u) walk u zs → length zs ≡ length walk
    long walk zs h = sym (length-map zs (id_at ids)) ∙ ap (λ (ws : List ℕ). length ws) h.image

    shortest : (walk : List ℕ) → IsClosedWalk edge (id_at ids u) walk → length (map (id_at ids) cycle) ≤ length walk
    shortest walk c =
        let l : (zs : List ℕ) × HasPlaces small ids (id_at ids u) walk u zs = lowered_at edge small ids p u lt walk c in
        let short : length cycle ≤ length l.0 = v.shortest l.0 l.1.closed in
        let same : length l.0 ≡ length walk = long walk l.0 l.1 in
        let kept_long : length (map (id_at ids) cycle) ≡ length cycle = length-map cycle (id_at ids) in
        omega arith

    least : (walk : List ℕ) → IsClosedWalk edge (id_at ids u) walk → length walk ≡ length (map (id_at ids) cycle) → IsNotAfter (map (id_at ids) cycle) walk
    least walk c e =
        let l : (zs : List ℕ) × HasPlaces small ids (id_at ids u) walk u zs = lowered_at edge small ids p u lt walk c in
        let same : length l.0 ≡ length walk = long walk l.0 l.1 in
        let kept_long : length (map (id_at ids) cycle) ≡ length cycle = length-map cycle (id_at ids) in
        let first : IsNotAfter cycle l.0 = v.least l.0 l.1.closed (omega arith) in
        subst (λ (ws : List ℕ). IsNotAfter (map (id_at ids) cycle) ws) l.1.image
        (not_after_mapped ids p.rising cycle l.0 (closed_below small (length ids) p.joins u l.0 l.1.closed) first)

first_below : (small : ℕ → ℕ → Bool) (n : ℕ) → JoinsBelow small n → (u : ℕ) (walk : List ℕ) → IsClosedWalk small u walk → u < n
first_below small n j u [] c = absurd c
first_below small n j u (x ∷ ys) c = subst (λ (v : ℕ). v < n) c.0 (starts_below small n j x ys u c.1)

pub record HaveVictimPlaces (ids : List ℕ) (u : ℕ) (cycle : List ℕ) : Type 0 where
  pub first : u < length ids
  pub members : AreBelow (length ids) cycle

-- the victim and its cycle are places
pub victim_places : (small : ℕ → ℕ → Bool) (ids : List ℕ) → JoinsBelow small (length ids) → (u : ℕ) (cycle : List ℕ) → victim_of small (length ids) ≡ Some (u, cycle) → HaveVictimPlaces ids u cycle
victim_places small ids j u cycle e =
    let v : IsVictim small u cycle = victim_found small (length ids) j u cycle e in
    record { first = first_below small (length ids) j u cycle v.closed; members = closed_below small (length ids) j u cycle v.closed }

pub victim_at : (edge small : ℕ → ℕ → Bool) (n : ℕ) (ids : List ℕ) → JoinsBelow edge n → IsPlaced edge small ids → (u : ℕ) (cycle : List ℕ) → victim_of small (length ids) ≡ Some (u, cycle) → victim_of edge n ≡ Some (id_at ids u, map (id_at ids) cycle)
victim_at edge small n ids j p u cycle e =
    let v : IsVictim small u cycle = victim_found small (length ids) p.joins u cycle e in
    found_from_victim edge n j (id_at ids u) (map (id_at ids) cycle)
    (victim_mapped edge small ids p u (first_below small (length ids) p.joins u cycle v.closed) cycle v)

pub none_at : (edge small : ℕ → ℕ → Bool) (n : ℕ) (ids : List ℕ) → JoinsBelow edge n → IsPlaced edge small ids → victim_of small (length ids) ≡ None → victim_of edge n ≡ None
none_at edge small n ids j p e = none_from_no_walk edge n j (λ u walk c. absent u walk c)
  where
    absent : (u : ℕ) (walk : List ℕ) → IsClosedWalk edge u walk → ⊥
    absent u walk c =
        let l : (i : ℕ) × (zs : List ℕ) × HasPlaces small ids u walk i zs = lowered_closed edge small ids p u walk c in
        none_found small (length ids) p.joins e l.0 l.1 l.2.closed
