-- Lists of transactions and versions after one element is set.
use Rattle.std.proofs.Common.{◌≡◌, ℕ, zero, suc, true, List, [], ◌∷◌, Some, refl, ◌∙◌, ap, sym, length, length-set, inl, inr, subst, ⊎_elim}
use Rattle.std.specs.Prelude.{slice_get, slice_set, is_some, unwrap_or, ◌⊎◌}
use Rattle.hek_rules.specs.World.{Txn, txn_in, set_txn, declared, no_txn}
use Rattle.hek_rules.specs.Table.{doom}

pub slice_get-set_same : {X : Type 0} (xs : List X) (i : ℕ) (x : X) → is_some (slice_get xs i) ≡ true → slice_get (slice_set xs i x) i ≡ Some x
slice_get-set_same [] i x h = cc
slice_get-set_same (y ∷ ys) zero x h = refl
slice_get-set_same (y ∷ ys) (suc i) x h = slice_get-set_same ys i x h

-- an element is the one that was set, or what it was
pub slice_get-set : {X : Type 0} (xs : List X) (i j : ℕ) (x : X) → (j ≡ i) × (slice_get (slice_set xs i x) j ≡ Some x) ⊎ (slice_get (slice_set xs i x) j ≡ slice_get xs j)
slice_get-set [] i j x = inr refl
slice_get-set (y ∷ ys) zero zero x = inl (refl, refl)
slice_get-set (y ∷ ys) zero (suc j) x = inr refl
slice_get-set (y ∷ ys) (suc i) zero x = inr refl
slice_get-set (y ∷ ys) (suc i) (suc j) x = ⊎_elim (λ p. inl (ap suc p.0, p.1)) (λ e. inr e) (slice_get-set ys i j x)

pub txn_in-set_same : (ts : List Txn) (t : ℕ) (x : Txn) → declared ts t ≡ true → txn_in (set_txn ts t x) t ≡ x
txn_in-set_same ts zero x h = cc
txn_in-set_same ts (suc i) x h = ap (λ o. unwrap_or o no_txn) (slice_get-set_same ts i x h)

pub txn_in-set : (ts : List Txn) (t u : ℕ) (x : Txn) → (u ≡ t) × (txn_in (set_txn ts t x) u ≡ x) ⊎ (txn_in (set_txn ts t x) u ≡ txn_in ts u)
txn_in-set ts zero u x = inr refl
txn_in-set ts (suc i) zero x = inr refl
txn_in-set ts (suc i) (suc j) x =
    ⊎_elim (λ p. inl (ap suc p.0, ap (λ o. unwrap_or o no_txn) p.1)) (λ e. inr (ap (λ o. unwrap_or o no_txn) e)) (slice_get-set ts i j x)

pub txn_in-set_other : (ts : List Txn) (t u : ℕ) (x : Txn) → (u ≡ t → ⊥) → txn_in (set_txn ts t x) u ≡ txn_in ts u
txn_in-set_other ts t u x h = ⊎_elim (λ p. absurd (h p.0)) (λ e. e) (txn_in-set ts t u x)

-- a property of each transaction holds after one is set, if it holds of the new one
pub each_txn-set : (P : ℕ → Txn → Type 0) (ts : List Txn) (t : ℕ) (x : Txn) → ((u : ℕ) → P u (txn_in ts u)) → P t x → (u : ℕ) → P u (txn_in (set_txn ts t x) u)
each_txn-set P ts t x all new u =
    ⊎_elim (λ p. subst (P u) (sym p.1) (subst (λ n. P n x) (sym p.0) new)) (λ e. subst (P u) (sym e) (all u)) (txn_in-set ts t u x)

pub each_txn-doom : (P : ℕ → Txn → Type 0) (ts : List Txn) (xs : List ℕ) → ((u : ℕ) (x : Txn) → P u x → P u (record x { abort_now = true })) → ((u : ℕ) → P u (txn_in ts u)) → (u : ℕ) → P u (txn_in (doom ts xs) u)
each_txn-doom P ts [] keeps all u = all u
each_txn-doom P ts (x ∷ xs) keeps all u =
    each_txn-doom P (set_txn ts x (record (txn_in ts x) { abort_now = true })) xs keeps
    (each_txn-set P ts x (record (txn_in ts x) { abort_now = true }) all (keeps x (txn_in ts x) (all x))) u

-- the number of transactions stays
pub length-set_txn : (ts : List Txn) (t : ℕ) (x : Txn) → length (set_txn ts t x) ≡ length ts
length-set_txn ts zero x = refl
length-set_txn ts (suc i) x = length-set ts i x

pub length-doom : (ts : List Txn) (xs : List ℕ) → length (doom ts xs) ≡ length ts
length-doom ts [] = refl
length-doom ts (x ∷ xs) = length-doom (set_txn ts x (record (txn_in ts x) { abort_now = true })) xs ∙ length-set_txn ts x _
