-- Which levels an image of a version has.
use Rattle.std.proofs.Common.{◌≡◌, ℕ, zero, suc, ◌+◌, ◌≤◌, true, false, List, [], ◌∷◌, refl, arith, inl, inr, ◌⊎◌}
use Rattle.std.specs.Prelude.{nat_le}
use Rattle.std.specs.List.{AllByRecursion}
use Rattle.std.proofs.lemmas.Bool.{and_parts, leb-true}
use Rattle.hek_rules.specs.declared.event.Level.{Level}
use Rattle.hek_rules.specs.declared.event.Level.TheVariants.{Serializable, Repeatable, Snapshot}
use Rattle.hek_rules.specs.Plan.{Plan}
use Rattle.hek_image.specs.Schedules.{level_byte, is_snapshot, HasNoSnapshot}
use Rattle.hek_image.specs.Loading.{is_within, is_version, level_coded}

-- an image of this version has a byte for the level
abbrev pub LevelFits : ℕ → List ℕ × Level → Type 0
LevelFits version t = is_within 1 (version + 1) (level_byte t.1) ≡ true

abbrev pub LevelsFit : ℕ → List (List ℕ × Level) → Type 0
LevelsFit version ts = AllByRecursion (LevelFits version) ts

pub few_versions : (version : ℕ) → is_version version ≡ true → version ≤ 2
few_versions version known = leb-true version 2 (and_parts (nat_le 1 version) (nat_le version 2) known).1

pub two_versions : (version : ℕ) → is_version version ≡ true → (version ≡ 2) ⊎ (version ≡ 1)
two_versions version known = by_number version (leb-true 1 version (and_parts (nat_le 1 version) (nat_le version 2) known).0) (few_versions version known)
  where
    by_number : (n : ℕ) → 1 ≤ n → n ≤ 2 → (n ≡ 2) ⊎ (n ≡ 1)
    by_number zero low high = absurd (omega arith)
    by_number (suc zero) low high = inr refl
    by_number (suc (suc zero)) low high = inl refl
    by_number (suc (suc (suc n))) low high = absurd (omega arith)

-- ---- a level and its byte
pub level_again : (l : Level) → level_coded (level_byte l) ≡ l
level_again Serializable = refl
level_again Repeatable = refl
level_again Snapshot = refl

pub level_back : (version n : ℕ) → is_version version ≡ true → is_within 1 (version + 1) n ≡ true → level_byte (level_coded n) ≡ n
level_back version n known h =
    let both = and_parts (nat_le 1 n) (nat_le n (version + 1)) h in
    by_byte n (leb-true 1 n both.0) (omega (arith, leb-true n (version + 1) both.1, few_versions version known))
  where
    by_byte : (m : ℕ) → 1 ≤ m → m ≤ 3 → level_byte (level_coded m) ≡ m
    by_byte zero low high = absurd (omega arith)
    by_byte (suc zero) low high = refl
    by_byte (suc (suc zero)) low high = refl
    by_byte (suc (suc (suc zero))) low high = refl
    by_byte (suc (suc (suc (suc m)))) low high = absurd (omega arith)

-- ---- all levels fit into version 2, and all but Snapshot into version 1
fits_new : (t : List ℕ × Level) → LevelFits 2 t
fits_new (name, Serializable) = refl
fits_new (name, Repeatable) = refl
fits_new (name, Snapshot) = refl

fits_old : (t : List ℕ × Level) → is_snapshot t.1 ≡ false → LevelFits 1 t
fits_old (name, Serializable) e = refl
fits_old (name, Repeatable) e = refl
fits_old (name, Snapshot) e = absurd cc

old_fits : (t : List ℕ × Level) → LevelFits 1 t → is_snapshot t.1 ≡ false
old_fits (name, Serializable) h = refl
old_fits (name, Repeatable) h = refl
old_fits (name, Snapshot) h = absurd cc

all_fit_new : (ts : List (List ℕ × Level)) → LevelsFit 2 ts
all_fit_new [] = tt
all_fit_new (t ∷ ts) = (fits_new t, all_fit_new ts)

all_fit_old : (ts : List (List ℕ × Level)) → AllByRecursion (λ t. is_snapshot t.1 ≡ false) ts → LevelsFit 1 ts
all_fit_old [] h = tt
all_fit_old (t ∷ ts) h = (fits_old t h.0, all_fit_old ts h.1)

old_all_fit : (ts : List (List ℕ × Level)) → LevelsFit 1 ts → AllByRecursion (λ t. is_snapshot t.1 ≡ false) ts
old_all_fit [] h = tt
old_all_fit (t ∷ ts) h = (old_fits t h.0, old_all_fit ts h.1)

pub levels_fit_new : (p : Plan) → LevelsFit 2 p.txns
levels_fit_new p = all_fit_new p.txns

pub levels_fit_old : (p : Plan) → HasNoSnapshot p → LevelsFit 1 p.txns
levels_fit_old p none = all_fit_old p.txns none

pub old_levels_fit : (p : Plan) → LevelsFit 1 p.txns → HasNoSnapshot p
old_levels_fit p fit = old_all_fit p.txns fit
