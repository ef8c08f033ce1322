-- The versions, locks and entries of a renumbered world.
use Rattle.std.proofs.Common.{◌≡◌, ℕ, suc, ◌<◌, ◌≤◌, Bool, true, false, List, [], ◌∷◌, ◌++◌, refl, ◌∙◌, ap, sym, length, arith, ⊎_elim}
use Rattle.std.proofs.lemmas.Bool.{cases_lt, cases_eq, eq-eqb, ne_eqb}
use Rattle.std.proofs.lemmas.List.{map-append, length-set, length_push, get_or-set_same, get_or-set_other, get_or_past, set_past, get_or_push, get_or_append_left}
use Rattle.std.proofs.lemmas.List.FromFn.{length-map-range_with_len, get_or-map-range_with_len, fill_by_all}
use Rattle.std.proofs.lemmas.Option.{unwrap_or-slice_get}
use Rattle.std.specs.Prelude.{map, get_or, slice_set, not, ◌==◌, ◌&&◌, ◌||◌, if◌then◌else◌}
use Rattle.hek_rules.specs.declared.event.WriteEntry.{WriteEntry}
use Rattle.hek_rules.specs.World.{World, Version, no_version, version_in}
use Rattle.hek_rules.specs.Listing.{has, is_pair, join, leave, seconds_of, firsts_of}
use Rattle.hek_rules.specs.Waits.{readers}
use Rattle.hek_rules.specs.Table.{entries_of, without_entry}
use Rattle.hek_similar.specs.Places.{Renumbering, IsRenumbering, renumbered_versions, renumbered_lock, renumbered_entry, renumbered_write}

-- ---- versions by their places
version-get_or : (vs : List Version) (v : ℕ) → version_in vs v ≡ get_or vs v no_version
version-get_or vs v = unwrap_or-slice_get vs v no_version

version-past : (vs : List Version) (v : ℕ) → length vs ≤ v → version_in vs v ≡ no_version
version-past vs v l = version-get_or vs v ∙ get_or_past vs v no_version l

pub version-set_same : (vs : List Version) (v : ℕ) (x : Version) → v < length vs → version_in (slice_set vs v x) v ≡ x
version-set_same vs v x l = version-get_or (slice_set vs v x) v ∙ get_or-set_same vs v x no_version l

pub version-set_other : (vs : List Version) (v u : ℕ) (x : Version) → (u ≡ v → ⊥) → version_in (slice_set vs v x) u ≡ version_in vs u
version-set_other vs v u x n = version-get_or (slice_set vs v x) u ∙ get_or-set_other vs v u x no_version n ∙ sym (version-get_or vs u)

pub version-add_before : (vs : List Version) (x : Version) (v : ℕ) → v < length vs → version_in (vs ++ x ∷ []) v ≡ version_in vs v
version-add_before vs x v l = version-get_or (vs ++ x ∷ []) v ∙ get_or_append_left vs (x ∷ []) no_version v l ∙ sym (version-get_or vs v)

version-add_last : (vs : List Version) (x : Version) → version_in (vs ++ x ∷ []) (length vs) ≡ x
version-add_last vs x = version-get_or (vs ++ x ∷ []) (length vs) ∙ get_or_push vs x no_version (length vs) refl

-- each place is taken once, and the places from n on stay
pub record Trades (r : Renumbering) (n : ℕ) : Type 0 where
  pub back : (v : ℕ) → r.from (r.to v) ≡ v
  pub forth : (v : ℕ) → r.to (r.from v) ≡ v
  pub past : (v : ℕ) → n ≤ v → r.to v ≡ v

pub trades : (r : Renumbering) (w : World) → IsRenumbering r w → Trades r (length w.versions)
trades r w i = record { back = i.back; forth = i.forth; past = i.past }

module _ (r : Renumbering) (n : ℕ) (t : Trades r n) where
  pub to-apart : (u v : ℕ) → r.to u ≡ r.to v → u ≡ v
  to-apart u v e = sym (t.back u) ∙ ap r.from e ∙ t.back v

  pub from-apart : (u v : ℕ) → r.from u ≡ r.from v → u ≡ v
  from-apart u v e = sym (t.forth u) ∙ ap r.to e ∙ t.forth v

  pub from-past : (v : ℕ) → n ≤ v → r.from v ≡ v
  from-past v l = ap r.from (sym (t.past v l)) ∙ t.back v

  pub to-within : (v : ℕ) → v < n → r.to v < n
  to-within v l =
      ⊎_elim (λ m. m) (λ m. let e : r.to v ≡ v = to-apart (r.to v) v (t.past (r.to v) m) in absurd (omega (arith, m, l, e))) (cases_lt (r.to v) n)

  pub from-within : (v : ℕ) → v < n → r.from v < n
  from-within v l =
      ⊎_elim (λ m. m) (λ m. let e : r.from v ≡ v = from-apart (r.from v) v (from-past (r.from v) m) in absurd (omega (arith, m, l, e))) (cases_lt (r.from v) n)

  pub same-place : (u v : ℕ) → (r.to u == r.to v) ≡ (u == v)
  same-place u v = ⊎_elim (λ e. eq-eqb _ _ (ap r.to e) ∙ sym (eq-eqb u v e)) (λ o. ne_eqb _ _ (λ e. o (to-apart u v e)) ∙ sym (ne_eqb u v o)) (cases_eq u v)

  -- ---- versions
  module _ (vs : List Version) (long : length vs ≡ n) where
    pub length-renumbered : length (renumbered_versions r vs) ≡ n
    length-renumbered = length-map-range_with_len (λ v. version_in vs (r.from v)) 0 (length vs) ∙ long

    pub version-from : (v : ℕ) → version_in (renumbered_versions r vs) v ≡ version_in vs (r.from v)
    version-from v =
        ⊎_elim
        (λ l. version-get_or (renumbered_versions r vs) v ∙ get_or-map-range_with_len (λ u. version_in vs (r.from u)) 0 (length vs) v v no_version (omega (arith, l, long)) (omega arith))
        (λ l. version-past (renumbered_versions r vs) v (omega (arith, l, length-renumbered)) ∙ sym (ap (version_in vs) (from-past v l) ∙ version-past vs v (omega (arith, l, long))))
        (cases_lt v n)

    pub version-to : (v : ℕ) → version_in (renumbered_versions r vs) (r.to v) ≡ version_in vs v
    version-to v = version-from (r.to v) ∙ ap (version_in vs) (t.back v)

    -- a list with the versions of vs at their new places is vs renumbered
    pub is-renumbered : (us : List Version) → length us ≡ n → ((v : ℕ) → version_in us v ≡ version_in vs (r.from v)) → us ≡ renumbered_versions r vs
    is-renumbered us l h = fill_by_all (λ v. version_in vs (r.from v)) us (length vs) no_version (l ∙ sym long) (λ v _. sym (version-get_or us v) ∙ h v)

  pub renumbered-set : (vs : List Version) (v : ℕ) (x : Version) → length vs ≡ n → slice_set (renumbered_versions r vs) (r.to v) x ≡ renumbered_versions r (slice_set vs v x)
  renumbered-set vs v x long =
      is-renumbered (slice_set vs v x) (length-set vs v x ∙ long) (slice_set (renumbered_versions r vs) (r.to v) x) (length-set (renumbered_versions r vs) (r.to v) x ∙ length-renumbered vs long)
      (λ u. ⊎_elim
      (λ l. ⊎_elim
      (λ e.
      ap (version_in (slice_set (renumbered_versions r vs) (r.to v) x)) e
      ∙ version-set_same (renumbered_versions r vs) (r.to v) x (let m : r.to v < n = to-within v l in let k = length-renumbered vs long in omega (arith, m, k))
      ∙ sym (ap (λ m. version_in (slice_set vs v x) (r.from m)) e ∙ ap (version_in (slice_set vs v x)) (t.back v) ∙ version-set_same vs v x (omega (arith, l, long))))
      (λ o.
      version-set_other (renumbered_versions r vs) (r.to v) u x o ∙ version-from vs long u
      ∙ sym (version-set_other vs v (r.from u) x (λ e. o (sym (t.forth u) ∙ ap r.to e))))
      (cases_eq u (r.to v)))
      (λ l.
      ap (λ us. version_in us u) (set_past (renumbered_versions r vs) (r.to v) x (let m : r.to v ≡ v = t.past v l in let k = length-renumbered vs long in omega (arith, l, m, k)))
      ∙ version-from vs long u
      ∙ sym (ap (λ us. version_in us (r.from u)) (set_past vs v x (omega (arith, l, long)))))
      (cases_lt v n))

  pub renumbered-add : (vs : List Version) (x : Version) → length vs ≡ n → renumbered_versions r vs ++ x ∷ [] ≡ renumbered_versions r (vs ++ x ∷ [])
  renumbered-add vs x long =
      let k : length (renumbered_versions r vs) ≡ n = length-renumbered vs long in
      let f : length (vs ++ x ∷ []) ≡ suc n = length_push vs x ∙ omega (arith, long) in
      let g : length (renumbered_versions r vs ++ x ∷ []) ≡ suc n = length_push (renumbered_versions r vs) x ∙ omega (arith, k) in
      fill_by_all (λ v. version_in (vs ++ x ∷ []) (r.from v)) (renumbered_versions r vs ++ x ∷ []) (length (vs ++ x ∷ [])) no_version (g ∙ sym f)
      (λ v l. sym (version-get_or (renumbered_versions r vs ++ x ∷ []) v) ∙ ⊎_elim
      (λ m. version-add_before (renumbered_versions r vs) x v (omega (arith, m, k)) ∙ version-from vs long v
      ∙ sym (version-add_before vs x (r.from v) (let o : r.from v < n = from-within v m in omega (arith, o, long))))
      (λ m.
      let e : v ≡ n = omega (arith, m, l, f) in
      ap (version_in (renumbered_versions r vs ++ x ∷ [])) (e ∙ sym k) ∙ version-add_last (renumbered_versions r vs) x
      ∙ sym (ap (version_in (vs ++ x ∷ [])) (from-past v m ∙ e ∙ sym long) ∙ version-add_last vs x))
      (cases_lt v n))

  -- ---- locks
  pair-to : (a v : ℕ) (p : ℕ × ℕ) → is_pair a (r.to v) (renumbered_lock r p) ≡ is_pair a v p
  pair-to a v p = ap (λ b. p.0 == a && b) (same-place p.1 v)

  pub has-to : (ps : List (ℕ × ℕ)) (a v : ℕ) → has (map (renumbered_lock r) ps) a (r.to v) ≡ has ps a v
  has-to [] a v = refl
  has-to (p ∷ ps) a v = ap (λ b. b || has (map (renumbered_lock r) ps) a (r.to v)) (pair-to a v p) ∙ ap (λ b. is_pair a v p || b) (has-to ps a v)

  firsts-to : (ps : List (ℕ × ℕ)) (v : ℕ) → firsts_of (map (renumbered_lock r) ps) (r.to v) ≡ firsts_of ps v
  firsts-to [] v = refl
  firsts-to (p ∷ ps) v =
      ap (λ b. if b then p.0 ∷ firsts_of (map (renumbered_lock r) ps) (r.to v) else firsts_of (map (renumbered_lock r) ps) (r.to v)) (same-place p.1 v)
      ∙ ap (λ l. if p.1 == v then p.0 ∷ l else l) (firsts-to ps v)

  pub readers-to : (ps : List (ℕ × ℕ)) (v : ℕ) → readers (map (renumbered_lock r) ps) (r.to v) ≡ readers ps v
  readers-to ps v = ap length (firsts-to ps v)

  pub leave-to : (ps : List (ℕ × ℕ)) (a v : ℕ) → leave (map (renumbered_lock r) ps) a (r.to v) ≡ map (renumbered_lock r) (leave ps a v)
  leave-to [] a v = refl
  leave-to (p ∷ ps) a v =
      ap (λ b. if not b then renumbered_lock r p ∷ leave (map (renumbered_lock r) ps) a (r.to v) else leave (map (renumbered_lock r) ps) a (r.to v)) (pair-to a v p)
      ∙ ap (λ l. if not (is_pair a v p) then renumbered_lock r p ∷ l else l) (leave-to ps a v)
      ∙ by (not (is_pair a v p))
    where
      by : (b : Bool) → (if b then renumbered_lock r p ∷ map (renumbered_lock r) (leave ps a v) else map (renumbered_lock r) (leave ps a v)) ≡ map (renumbered_lock r) (if b then p ∷ leave ps a v else leave ps a v)
      by true = refl
      by false = refl

  pub join-to : (ps : List (ℕ × ℕ)) (a v : ℕ) → join (map (renumbered_lock r) ps) a (r.to v) ≡ map (renumbered_lock r) (join ps a v)
  join-to ps a v =
      ap (λ b. if b then map (renumbered_lock r) ps else map (renumbered_lock r) ps ++ (a, r.to v) ∷ []) (has-to ps a v)
      ∙ ap (λ l. if has ps a v then map (renumbered_lock r) ps else l) (sym (map-append (renumbered_lock r) ps ((a, v) ∷ [])))
      ∙ by (has ps a v)
    where
      by : (b : Bool) → (if b then map (renumbered_lock r) ps else map (renumbered_lock r) (ps ++ (a, v) ∷ [])) ≡ map (renumbered_lock r) (if b then ps else ps ++ (a, v) ∷ [])
      by true = refl
      by false = refl

-- ---- lists of one transaction
pub seconds-to : (r : Renumbering) (ps : List (ℕ × ℕ)) (a : ℕ) → seconds_of (map (renumbered_lock r) ps) a ≡ map r.to (seconds_of ps a)
seconds-to r [] a = refl
seconds-to r (p ∷ ps) a = ap (λ l. if p.0 == a then r.to p.1 ∷ l else l) (seconds-to r ps a) ∙ by (p.0 == a)
  where
    by : (b : Bool) → (if b then r.to p.1 ∷ map r.to (seconds_of ps a) else map r.to (seconds_of ps a)) ≡ map r.to (if b then p.1 ∷ seconds_of ps a else seconds_of ps a)
    by true = refl
    by false = refl

pub entries-to : (r : Renumbering) (ps : List (ℕ × WriteEntry)) (a : ℕ) → entries_of (map (renumbered_write r) ps) a ≡ map (renumbered_entry r) (entries_of ps a)
entries-to r [] a = refl
entries-to r (p ∷ ps) a = ap (λ l. if p.0 == a then renumbered_entry r p.1 ∷ l else l) (entries-to r ps a) ∙ by (p.0 == a)
  where
    by : (b : Bool) → (if b then renumbered_entry r p.1 ∷ map (renumbered_entry r) (entries_of ps a) else map (renumbered_entry r) (entries_of ps a)) ≡ map (renumbered_entry r) (if b then p.1 ∷ entries_of ps a else entries_of ps a)
    by true = refl
    by false = refl

pub without-to : (r : Renumbering) (ps : List (ℕ × WriteEntry)) (a : ℕ) → without_entry (map (renumbered_write r) ps) a ≡ map (renumbered_write r) (without_entry ps a)
without-to r [] a = refl
without-to r (p ∷ ps) a = ap (λ l. if p.0 == a then map (renumbered_write r) ps else renumbered_write r p ∷ l) (without-to r ps a) ∙ by (p.0 == a)
  where
    by : (b : Bool) → (if b then map (renumbered_write r) ps else renumbered_write r p ∷ map (renumbered_write r) (without_entry ps a)) ≡ map (renumbered_write r) (if b then ps else p ∷ without_entry ps a)
    by true = refl
    by false = refl
