-- Lists that a loop gathers over the versions and the transactions that a machine shows, one at a time.
use Rattle.std.proofs.Common.{◌≡◌, ℕ, ◌+◌, ◌<◌, Bool, true, false, List, [], ◌∷◌, ◌++◌, append_assoc, refl, ◌∙◌, ap, sym, subst, arith, length, drop, add-one}
use Rattle.std.proofs.lemmas.Bool.{lt-ltb}
use Rattle.std.proofs.lemmas.Option.{unwrap_or-slice_get}
use Rattle.std.proofs.lemmas.List.{append-nil, drop_more, drop_all}
use Rattle.std.specs.Prelude.{if◌then◌else◌, ◌&&◌}
use Rattle.hek_rules.specs.World.{World, Version, no_version, version_in, places}
use Rattle.hek_machine.specs.declared.engine.Engine.{Engine}
use Rattle.hek_machine.specs.Stands.{StandsFor}
use Rattle.hek_machine.specs.Judgements.{IsShown}
use Rattle.hek_why.specs.Passed.{version_passes}
use Rattle.hek_why.specs.Waited.{ids_where}

places-more : (test : ℕ → Version → Bool) (xs : List Version) (i : ℕ) → i < length xs →
    places test i (drop i xs) ≡ (if test i (version_in xs i) then i ∷ places test (i + 1) (drop (i + 1) xs) else places test (i + 1) (drop (i + 1) xs))
places-more test xs i below =
    ap (places test i) (drop_more xs i no_version below)
    ∙ ap (λ x. if test i x then i ∷ places test (i + 1) (drop (i + 1) xs) else places test (i + 1) (drop (i + 1) xs)) (sym (unwrap_or-slice_get xs i no_version))

-- the places found so far, with those of the versions left, are all
abbrev pub Finds : Engine → (World → ℕ → Version → Bool) → List ℕ → ℕ → Type 0
Finds m test found i = (w : World) → StandsFor m w → found ++ places (test w) i (drop i w.versions) ≡ places (test w) 0 w.versions

passed : (w : World) (test : ℕ → Version → Bool) (i : ℕ) (b : Bool) → i < length w.versions → version_passes test i w ≡ b → test i (version_in w.versions i) ≡ b
passed w test i b below shown = ap (λ t. t && test i (version_in w.versions i)) (sym (lt-ltb i (length w.versions) below)) ∙ shown

pub finds_more : (m : Engine) (test : World → ℕ → Version → Bool) (i n : ℕ) (b : Bool) (before after : List ℕ) → i < n → IsShown m (λ w. length w.versions) n →
    IsShown m (λ w. version_passes (test w) i w) b → after ≡ (if b then before ++ i ∷ [] else before) → Finds m test before i → Finds m test after (i + 1)
finds_more m test i n b before after below count shown grown left w s =
    ap (λ xs. xs ++ rest) grown ∙ by b ∙ sym (ap (λ xs. before ++ xs) (places-more (test w) w.versions i here
    ∙ ap (λ t. if t then i ∷ rest else rest) (passed w (test w) i b here (shown w s)))) ∙ left w s
  where
    here : i < length w.versions
    here = let e = count w s in omega (arith, below, e)

    rest : List ℕ
    rest = places (test w) (i + 1) (drop (i + 1) w.versions)

    by : (t : Bool) → (if t then before ++ i ∷ [] else before) ++ rest ≡ before ++ (if t then i ∷ rest else rest)
    by true = append_assoc before (i ∷ []) rest
    by false = refl

pub finds_all : (m : Engine) (test : World → ℕ → Version → Bool) (n : ℕ) (found : List ℕ) → IsShown m (λ w. length w.versions) n → Finds m test found n →
    IsShown m (λ w. places (test w) 0 w.versions) found
finds_all m test n found count left w s =
    sym (left w s) ∙ ap (λ xs. found ++ places (test w) n xs) (let e = count w s in drop_all n w.versions (omega (arith, e))) ∙ append-nil found

-- the IDs found so far
abbrev pub Ids : Engine → (World → ℕ → Bool) → List ℕ → ℕ → Type 0
Ids m test found i = (w : World) → StandsFor m w → found ≡ ids_where (test w) i

pub ids_more : (m : Engine) (test : World → ℕ → Bool) (i : ℕ) (b : Bool) (before after : List ℕ) → IsShown m (λ w. test w (i + 1)) b →
    after ≡ (if b then before ++ (i + 1) ∷ [] else before) → Ids m test before i → Ids m test after (i + 1)
ids_more m test i b before after shown grown so_far w s =
    grown
    ∙ ap (λ t. if t then before ++ (i + 1) ∷ [] else before) (sym (shown w s))
    ∙ ap (λ xs. if test w (i + 1) then xs ++ (i + 1) ∷ [] else xs) (so_far w s)
    ∙ subst (λ (k : ℕ). (if test w k then ids_where (test w) i ++ k ∷ [] else ids_where (test w) i) ≡ ids_where (test w) (i + 1)) (sym (add-one i)) (ap (ids_where (test w)) (sym (add-one i)))

pub ids_all : (m : Engine) (test : World → ℕ → Bool) (n : ℕ) (found : List ℕ) → IsShown m (λ w. length w.txns) n → Ids m test found n →
    IsShown m (λ w. ids_where (test w) (length w.txns)) found
ids_all m test n found count so_far w s = ap (ids_where (test w)) (count w s) ∙ sym (so_far w s)

-- the places found after the next version, for a loop's variable
pub finds_next : (m : Engine) (test : World → ℕ → Version → Bool) (i v n : ℕ) (b : Bool) (before after : List ℕ) → v ≡ i → i < n → IsShown m (λ w. length w.versions) n →
    IsShown m (λ w. version_passes (test w) v w) b → after ≡ (if b then before ++ v ∷ [] else before) → Finds m test before i → Finds m test after (i + 1)
finds_next m test i v n b before after same below count shown grown left =
    finds_more m test i n b before after below count (subst (λ (k : ℕ). IsShown m (λ w. version_passes (test w) k w) b) same shown)
    (subst (λ (k : ℕ). after ≡ (if b then before ++ k ∷ [] else before)) same grown) left

pub ids_next : (m : Engine) (test : World → ℕ → Bool) (i t : ℕ) (b : Bool) (before after : List ℕ) → t ≡ i + 1 → IsShown m (λ w. test w t) b →
    after ≡ (if b then before ++ t ∷ [] else before) → Ids m test before i → Ids m test after (i + 1)
ids_next m test i t b before after same shown grown so_far =
    ids_more m test i b before after (subst (λ (k : ℕ). IsShown m (λ w. test w k) b) same shown)
    (subst (λ (k : ℕ). after ≡ (if b then before ++ k ∷ [] else before)) same grown) so_far

-- at the end of the loop the places found are all
pub finds_end : (m : Engine) (test : World → ℕ → Version → Bool) (i n : ℕ) (found : List ℕ) → i ≡ n → IsShown m (λ w. length w.versions) n → Finds m test found i →
    IsShown m (λ w. places (test w) 0 w.versions) found
finds_end m test i n found same count left = finds_all m test n found count (subst (Finds m test found) same left)

pub ids_end : (m : Engine) (test : World → ℕ → Bool) (i n : ℕ) (found : List ℕ) → i ≡ n → IsShown m (λ w. length w.txns) n → Ids m test found i →
    IsShown m (λ w. ids_where (test w) (length w.txns)) found
ids_end m test i n found same count so_far = ids_all m test n found count (subst (Ids m test found) same so_far)
