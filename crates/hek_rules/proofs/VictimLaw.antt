-- The computed victim is that of closed walks.
use Rattle.std.proofs.Common.{ℕ, zero, suc, ◌≡◌, ◌<◌, ◌≤◌, Bool, List, [], ◌∷◌, ◌++◌, length, Option, Some, None, refl, sym, ap, ◌∙◌, subst, inl, inr, arith}
use Rattle.std.proofs.lemmas.Bool.{cases_lt, both_ways}
use Rattle.std.proofs.lemmas.Option.{some_pair_parts}
use Rattle.hek_rules.specs.Cycles.{Follows, IsClosedWalk, IsNotAfter, IsVictim, JoinsBelow}
use Rattle.hek_rules.specs.Victim.{leads, fewest, between, victim_below, victim_of, VictimIsFound, NoneIsRight}
use Rattle.hek_rules.proofs.Least.{IsLeast, IsLeast-least, least_none}
use Rattle.hek_rules.proofs.Leads.{leads_of_walk, IsFirst, IsFirst-between}
use Rattle.hek_rules.proofs.Bound.{short_closed}

-- no walk from u is closed if no least number of members is found
pub none_closed : (edge : ℕ → ℕ → Bool) (n : ℕ) → JoinsBelow edge n → (u : ℕ) → fewest edge n u n u ≡ None → (walk : List ℕ) → IsClosedWalk edge u walk → ⊥
unfolding fewest
none_closed edge n j u e [] c = c
none_closed edge n j u e (x ∷ ws) c =
    let f : Follows edge u (ws ++ u ∷ []) = subst (λ (v : ℕ). Follows edge v (ws ++ u ∷ [])) c.0 c.1 in
    let lt : u < n = below ws f in
    let s : (ys : List ℕ) × Follows edge u (ys ++ u ∷ []) × (length ys < n) = short_closed edge n j u lt ws f in
    both_ways _ (least_none (λ m. leads edge n m u u) n e (length s.0) s.2) (leads_of_walk edge n j u u s.0 s.1)
  where
    below : (ws : List ℕ) → Follows edge u (ws ++ u ∷ []) → u < n
    below [] f = j.from u u f.0
    below (w ∷ ws) f = j.from u w f.0

-- the cycle from u is closed, the shortest, and the first of the shortest
pub record IsBest (edge : ℕ → ℕ → Bool) (u : ℕ) (cycle : List ℕ) : Type 0 where
  pub closed : IsClosedWalk edge u cycle
  pub shortest : (walk : List ℕ) → IsClosedWalk edge u walk → length cycle ≤ length walk
  pub least : (walk : List ℕ) → IsClosedWalk edge u walk → length walk ≡ length cycle → IsNotAfter cycle walk

pub IsBest-between : (edge : ℕ → ℕ → Bool) (n : ℕ) → JoinsBelow edge n → (u m : ℕ) → fewest edge n u n u ≡ Some m → IsBest edge u (u ∷ between edge n m u u)
unfolding fewest
IsBest-between edge n j u m e =
    let k : IsLeast (λ m. leads edge n m u u) n m = IsLeast-least (λ m. leads edge n m u u) n m e in
    let r : IsFirst edge m u u (between edge n m u u) = IsFirst-between edge n j m u u k.passes in
    best k (between edge n m u u) r
  where
    shortest : IsLeast (λ m. leads edge n m u u) n m → (ys : List ℕ) → IsFirst edge m u u ys → (walk : List ℕ) → IsClosedWalk edge u walk → length (u ∷ ys) ≤ length walk
    shortest k ys r [] c = absurd c
    shortest k ys r (x ∷ ws) c =
        let f : Follows edge u (ws ++ u ∷ []) = subst (λ (v : ℕ). Follows edge v (ws ++ u ∷ [])) c.0 c.1 in
        let long : length ys ≡ m = r.long in
        elim (cases_lt (length ws) m) [
          | inl lt ↦ absurd (both_ways _ (k.earlier (length ws) lt) (leads_of_walk edge n j u u ws f))
          | inr ge ↦ omega arith
        ]

    first : (ys : List ℕ) → IsFirst edge m u u ys → (walk : List ℕ) → IsClosedWalk edge u walk → length walk ≡ length (u ∷ ys) → IsNotAfter (u ∷ ys) walk
    first ys r [] c l = absurd c
    first ys r (x ∷ ws) c l =
        let f : Follows edge u (ws ++ u ∷ []) = subst (λ (v : ℕ). Follows edge v (ws ++ u ∷ [])) c.0 c.1 in
        let long : length ys ≡ m = r.long in
        inr (sym c.0, r.first ws f (omega arith))

    best : IsLeast (λ m. leads edge n m u u) n m → (ys : List ℕ) → IsFirst edge m u u ys → IsBest edge u (u ∷ ys)
    best k ys r = record { closed = (refl, r.follows); shortest = shortest k ys r; least = first ys r }

-- an answer for candidates below a limit: the best cycle of the greatest of them
pub record IsFoundBelow (edge : ℕ → ℕ → Bool) (n limit u : ℕ) (cycle : List ℕ) : Type 0 where
  pub best : IsBest edge u cycle
  pub above : (v : ℕ) → u < v → v < limit → fewest edge n v n v ≡ None

abbrev pub answer_at : (ℕ → ℕ → Bool) → ℕ → ℕ → Option ℕ → Option (ℕ × List ℕ)
answer_at edge n v None = victim_below edge n v
answer_at edge n v (Some m) = Some (v, v ∷ between edge n m v v)

pub victim_below-suc : (edge : ℕ → ℕ → Bool) (n v : ℕ) (o : Option ℕ) → fewest edge n v n v ≡ o → victim_below edge n (suc v) ≡ answer_at edge n v o
unfolding victim_below
victim_below-suc edge n v None e = rw (victim_below, e) refl
victim_below-suc edge n v (Some m) e = rw (victim_below, e) refl

found_at : (edge : ℕ → ℕ → Bool) (n : ℕ) → JoinsBelow edge n → (v u : ℕ) (cycle : List ℕ) → (victim_below edge n v ≡ Some (u, cycle) → IsFoundBelow edge n v u cycle) → (o : Option ℕ) → fewest edge n v n v ≡ o → answer_at edge n v o ≡ Some (u, cycle) → IsFoundBelow edge n (suc v) u cycle
found_at edge n j v u cycle below None none e =
    let r : IsFoundBelow edge n v u cycle = below e in
    record {
      best = r.best;
      above = (λ w lt le. elim (cases_lt w v) [ inl under ↦ r.above w lt under | inr ge ↦ (let same : w ≡ v = omega arith in rw same none) ]);
    }
found_at edge n j v u cycle below (Some m) some e =
    let parts : (v ≡ u) × (v ∷ between edge n m v v ≡ cycle) = some_pair_parts v u (v ∷ between edge n m v v) cycle e in
    let b : IsBest edge v (v ∷ between edge n m v v) = IsBest-between edge n j v m some in
    record {
      best = subst (λ (w : ℕ). IsBest edge w cycle) parts.0 (subst (λ (c : List ℕ). IsBest edge v c) parts.1 b);
      above = (λ w lt le. let same : v ≡ u = parts.0 in absurd (omega arith));
    }

pub found_below : (edge : ℕ → ℕ → Bool) (n : ℕ) → JoinsBelow edge n → (limit u : ℕ) (cycle : List ℕ) → victim_below edge n limit ≡ Some (u, cycle) → IsFoundBelow edge n limit u cycle
unfolding victim_below
found_below edge n j zero u cycle e = cc
found_below edge n j (suc v) u cycle e =
    found_at edge n j v u cycle (found_below edge n j v u cycle) (fewest edge n v n v) refl (sym (victim_below-suc edge n v (fewest edge n v n v) refl) ∙ e)

none_at : (edge : ℕ → ℕ → Bool) (n u v : ℕ) → (victim_below edge n u ≡ None → v < u → fewest edge n v n v ≡ None) → (o : Option ℕ) → fewest edge n u n u ≡ o → answer_at edge n u o ≡ None → v < suc u → fewest edge n v n v ≡ None
none_at edge n u v below None none e lt =
    elim (cases_lt v u) [ inl under ↦ below e under | inr ge ↦ (let same : v ≡ u = omega arith in rw same none) ]
none_at edge n u v below (Some m) some e lt = cc

pub none_below : (edge : ℕ → ℕ → Bool) (n limit : ℕ) → victim_below edge n limit ≡ None → (v : ℕ) → v < limit → fewest edge n v n v ≡ None
unfolding victim_below
none_below edge n zero e v lt = absurd (omega arith)
none_below edge n (suc u) e v lt =
    none_at edge n u v (λ e lt. none_below edge n u e v lt) (fewest edge n u n u) refl (sym (victim_below-suc edge n u (fewest edge n u n u) refl) ∙ e) lt

-- a closed walk begins at a number below n
pub closed_below : (edge : ℕ → ℕ → Bool) (n : ℕ) → JoinsBelow edge n → (u : ℕ) (walk : List ℕ) → IsClosedWalk edge u walk → u < n
closed_below edge n j u [] c = absurd c
closed_below edge n j u (x ∷ []) c = let same : x ≡ u = c.0 in let lt : x < n = j.from x u c.1.0 in omega arith
closed_below edge n j u (x ∷ y ∷ ws) c = let same : x ≡ u = c.0 in let lt : x < n = j.from x y c.1.0 in omega arith

pub victim_found : (edge : ℕ → ℕ → Bool) (n : ℕ) → JoinsBelow edge n → (u : ℕ) (cycle : List ℕ) → victim_of edge n ≡ Some (u, cycle) → IsVictim edge u cycle
unfolding victim_of
victim_found edge n j u cycle e =
    let r : IsFoundBelow edge n n u cycle = found_below edge n j n u cycle e in
    record {
      closed = r.best.closed;
      greatest = (λ v walk c.
          elim (cases_lt u v) [
            | inl lt ↦ absurd (none_closed edge n j v (r.above v lt (closed_below edge n j v walk c)) walk c)
            | inr ge ↦ ge
          ]);
      shortest = r.best.shortest;
      least = r.best.least;
    }

pub none_found : (edge : ℕ → ℕ → Bool) (n : ℕ) → JoinsBelow edge n → victim_of edge n ≡ None → (u : ℕ) (walk : List ℕ) → IsClosedWalk edge u walk → ⊥
unfolding victim_of
none_found edge n j e u walk c =
    none_closed edge n j u (none_below edge n n e u (closed_below edge n j u walk c)) walk c

not_after_both : (xs ys : List ℕ) → length xs ≡ length ys → IsNotAfter xs ys → IsNotAfter ys xs → xs ≡ ys
not_after_both [] [] l a b = refl
not_after_both [] (y ∷ ys) l a b = absurd (omega arith)
not_after_both (x ∷ xs) [] l a b = absurd a
not_after_both (x ∷ xs) (y ∷ ys) l a b =
    elim a [
      | inl lt ↦ elim b [ inl gt ↦ absurd (omega arith) | inr same ↦ (let s : y ≡ x = same.0 in absurd (omega arith)) ]
      | inr first ↦
          elim b [
            | inl gt ↦ (let s : x ≡ y = first.0 in absurd (omega arith))
            | inr second ↦
                let long : length xs ≡ length ys = omega arith in
                let rest : xs ≡ ys = not_after_both xs ys long first.1 second.1 in
                let head : x ≡ y = first.0 in
                cc
          ]
    ]

-- a graph has at most one victim, with one cycle
pub same_victim : (edge : ℕ → ℕ → Bool) (u v : ℕ) (c d : List ℕ) → IsVictim edge u c → IsVictim edge v d → (u ≡ v) × (c ≡ d)
same_victim edge u v c d k l =
    let le : u ≤ v = l.greatest u c k.closed in
    let ge : v ≤ u = k.greatest v d l.closed in
    let same : v ≡ u = omega arith in
    (sym same, at (subst (λ (w : ℕ). IsVictim edge w d) same l))
  where
    at : IsVictim edge u d → c ≡ d
    at l =
        let le : length c ≤ length d = k.shortest d l.closed in
        let ge : length d ≤ length c = l.shortest c k.closed in
        let long : length c ≡ length d = omega arith in
        not_after_both c d long (k.least d l.closed (sym long)) (l.least c k.closed long)

abbrev some_pair : ℕ → List ℕ → Option (ℕ × List ℕ)
some_pair u d = Some (u, d)

pub found_from_victim : (edge : ℕ → ℕ → Bool) (n : ℕ) → JoinsBelow edge n → (u : ℕ) (cycle : List ℕ) → IsVictim edge u cycle → victim_of edge n ≡ Some (u, cycle)
found_from_victim edge n j u cycle k = at (victim_of edge n) refl
  where
    at : (o : Option (ℕ × List ℕ)) → victim_of edge n ≡ o → victim_of edge n ≡ Some (u, cycle)
    at None e = absurd (none_found edge n j e u cycle k.closed)
    at (Some p) e =
        let s : (p.0 ≡ u) × (p.1 ≡ cycle) = same_victim edge p.0 u p.1 cycle (victim_found edge n j p.0 p.1 e) k in
        e ∙ ap (λ (w : ℕ). some_pair w p.1) s.0 ∙ ap (λ (d : List ℕ). some_pair u d) s.1

pub none_from_no_walk : (edge : ℕ → ℕ → Bool) (n : ℕ) → JoinsBelow edge n → ((u : ℕ) (walk : List ℕ) → IsClosedWalk edge u walk → ⊥) → victim_of edge n ≡ None
none_from_no_walk edge n j absent = at (victim_of edge n) refl
  where
    at : (o : Option (ℕ × List ℕ)) → victim_of edge n ≡ o → victim_of edge n ≡ None
    at None e = e
    at (Some p) e = absurd (absent p.0 p.1 (victim_found edge n j p.0 p.1 e).closed)

pub victim_is_found : VictimIsFound
victim_is_found edge n j u cycle = (victim_found edge n j u cycle, found_from_victim edge n j u cycle)

pub none_is_right : NoneIsRight
none_is_right edge n j = (none_found edge n j, none_from_no_walk edge n j)
