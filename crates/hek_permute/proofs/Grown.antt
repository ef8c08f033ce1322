-- Plans that grow by one row, transaction or step.
use Rattle.std.proofs.Common.{◌≡◌, ℕ, zero, suc, ◌+◌, ◌<◌, ◌≤◌, List, [], ◌∷◌, ◌++◌, map, length, take, Option, None, Some, refl, sym, ap, ◌∙◌, arith}
use Rattle.std.specs.Prelude.{slice_get}
use Rattle.std.specs.List.{zip}
use Rattle.std.proofs.lemmas.List.{length-map}
use Rattle.std.proofs.lemmas.Slice.Zip.{length-zip}
use Rattle.std.proofs.lemmas.Map.Entries.{length-keys_of}
use Rattle.hek_rules.specs.declared.event.Level.{Level}
use Rattle.hek_rules.specs.declared.event.Event.{Event}
use Rattle.hek_rules.specs.Plan.{Plan, names_of}
use Rattle.hek_permute.specs.Leveled.{levels_at}
use Rattle.hek_rules.proofs.TakeLemmas.{take_push}

pub rows_more : (p made new : Plan) (rows : List (ℕ × ℕ)) (i : ℕ) (row : ℕ × ℕ) → made ≡ record p { rows = take i rows } → new ≡ record made { rows = made.rows ++ row ∷ [] } →
    slice_get rows i ≡ Some row → new ≡ record p { rows = take (i + 1) rows }
rows_more p made new rows i row so added here =
    added
    ∙ ap (λ (m : Plan). record m { rows = m.rows ++ row ∷ [] }) so
    ∙ ap (λ xs. record p { rows = xs }) (sym (take_push rows i row here))

pub txns_more : (p made new : Plan) (txns : List (List ℕ × Level)) (i : ℕ) (txn : List ℕ × Level) → made ≡ record p { txns = take i txns } → new ≡ record made { txns = made.txns ++ txn ∷ [] } →
    slice_get txns i ≡ Some txn → new ≡ record p { txns = take (i + 1) txns }
txns_more p made new txns i txn so added here =
    added
    ∙ ap (λ (m : Plan). record m { txns = m.txns ++ txn ∷ [] }) so
    ∙ ap (λ xs. record p { txns = xs }) (sym (take_push txns i txn here))

pub steps_more : (p made new : Plan) (steps : List Event) (i : ℕ) (step : Event) → made ≡ record p { steps = take i steps } → new ≡ record made { steps = made.steps ++ step ∷ [] } →
    slice_get steps i ≡ Some step → new ≡ record p { steps = take (i + 1) steps }
steps_more p made new steps i step so added here =
    added
    ∙ ap (λ (m : Plan). record m { steps = m.steps ++ step ∷ [] }) so
    ∙ ap (λ xs. record p { steps = xs }) (sym (take_push steps i step here))

-- a list of one value at each place has it there
pub const_at : {A B : Type 0} (xs : List A) (b : B) (i : ℕ) → i < length xs → slice_get (map (λ (x : A). b) xs) i ≡ Some b
const_at [] b i within = absurd (omega (arith, within))
const_at (x ∷ xs) b zero within = refl
const_at (x ∷ xs) b (suc i) within = const_at xs b i (omega (arith, within))

-- what two lists have at a place, as a pair
pub pair_at : {K V : Type 0} (ks : List K) (vs : List V) (i : ℕ) (k : K) (v : V) → slice_get ks i ≡ Some k → slice_get vs i ≡ Some v → slice_get (zip ks vs) i ≡ Some (k, v)
pair_at [] vs i k v first second = let none : None ≡ Some k = first in cc
pair_at (x ∷ ks) [] i k v first second = let none : None ≡ Some v = second in cc
pair_at (x ∷ ks) (y ∷ vs) zero k v first second = let a : Some x ≡ Some k = first in let b : Some y ≡ Some v = second in cc
pair_at (x ∷ ks) (y ∷ vs) (suc i) k v first second = pair_at ks vs i k v first second

length_levels : (level : Option Level) (p : Plan) → length (levels_at level p) ≡ length p.txns
length_levels None p = length-map p.txns (λ t. t.1)
length_levels (Some level) p = length-map p.txns (λ t. level)

-- each name has its level
pub length_leveled : (level : Option Level) (p : Plan) → length (zip (names_of p) (levels_at level p)) ≤ length p.txns
length_leveled level p = omega (arith, length-zip (names_of p) (levels_at level p), length_levels level p, length-keys_of p.txns)
