-- Versions and transactions with their times left out, one by one; and two worlds' lists changed alike at one place.
use Rattle.std.proofs.Common.{◌≡◌, ℕ, zero, suc, ◌+◌, Bool, List, [], ◌∷◌, ◌++◌, refl, ◌∙◌, ap, sym, length}
use Rattle.std.proofs.lemmas.List.{map-set}
use Rattle.std.specs.Prelude.{map, slice_get, slice_set, unwrap_or, if◌then◌else◌}
use Rattle.hek_rules.specs.World.{Version, Txn, no_txn, no_version, txn_in, set_txn, version_in, places}
use Rattle.hek_similar.specs.Similar.{timeless_txn, timeless_version}

-- the element at an index, of a list and of what a function makes of it
get-map : {X : Type 0} (g : X → X) (xs : List X) (none : X) (i : ℕ) → g none ≡ none → unwrap_or (slice_get (map g xs) i) none ≡ g (unwrap_or (slice_get xs i) none)
get-map g [] none i e = sym e
get-map g (x ∷ xs) none zero e = refl
get-map g (x ∷ xs) none (suc i) e = get-map g xs none i e

pub txn-timeless : (ts : List Txn) (t : ℕ) → txn_in (map timeless_txn ts) t ≡ timeless_txn (txn_in ts t)
txn-timeless ts zero = refl
txn-timeless ts (suc i) = get-map timeless_txn ts no_txn i refl

pub version-timeless : (vs : List Version) (v : ℕ) → version_in (map timeless_version vs) v ≡ timeless_version (version_in vs v)
version-timeless vs v = get-map timeless_version vs no_version v refl

-- lists that are equal without times have equal elements without times
pub same-txn : (ts ss : List Txn) → map timeless_txn ts ≡ map timeless_txn ss → (t : ℕ) → timeless_txn (txn_in ts t) ≡ timeless_txn (txn_in ss t)
same-txn ts ss e t = sym (txn-timeless ts t) ∙ ap (λ l. txn_in l t) e ∙ txn-timeless ss t

pub same-version : (vs us : List Version) → map timeless_version vs ≡ map timeless_version us → (v : ℕ) → timeless_version (version_in vs v) ≡ timeless_version (version_in us v)
same-version vs us e v = sym (version-timeless vs v) ∙ ap (λ l. version_in l v) e ∙ version-timeless us v

pub length-map : {X : Type 0} (g : X → X) (xs : List X) → length (map g xs) ≡ length xs
length-map g [] = refl
length-map g (x ∷ xs) = ap suc (length-map g xs)

pub same-length : {X : Type 0} (g : X → X) (xs ys : List X) → map g xs ≡ map g ys → length xs ≡ length ys
same-length g xs ys e = sym (length-map g xs) ∙ ap length e ∙ length-map g ys

-- ---- one element is set in both lists
pub set-same : {X : Type 0} (g : X → X) (xs ys : List X) (i : ℕ) (x y : X) → map g xs ≡ map g ys → g x ≡ g y → map g (slice_set xs i x) ≡ map g (slice_set ys i y)
set-same g xs ys i x y e h = map-set g xs i x ∙ ap (λ l. slice_set l i (g x)) e ∙ ap (λ a. slice_set (map g ys) i a) h ∙ sym (map-set g ys i y)

pub set_txn-same : (ts ss : List Txn) (t : ℕ) (y z : Txn) → map timeless_txn ts ≡ map timeless_txn ss → timeless_txn y ≡ timeless_txn z → map timeless_txn (set_txn ts t y) ≡ map timeless_txn (set_txn ss t z)
set_txn-same ts ss zero y z e h = e
set_txn-same ts ss (suc i) y z e h = set-same timeless_txn ts ss i y z e h

-- what holds of each two elements holds after one is set, if it holds of the new ones
each_two-set : {X : Type 0} (P : ℕ → X → X → Type 0) (none : X) (xs ys : List X) (i : ℕ) (x y : X) → length xs ≡ length ys →
    ((j : ℕ) → P j (unwrap_or (slice_get xs j) none) (unwrap_or (slice_get ys j) none)) → P i x y →
    (j : ℕ) → P j (unwrap_or (slice_get (slice_set xs i x) j) none) (unwrap_or (slice_get (slice_set ys i y) j) none)
each_two-set P none [] [] i x y e all new j = all j
each_two-set P none [] (b ∷ bs) i x y e all new j = cc
each_two-set P none (a ∷ cs) [] i x y e all new j = cc
each_two-set P none (a ∷ cs) (b ∷ bs) zero x y e all new zero = new
each_two-set P none (a ∷ cs) (b ∷ bs) zero x y e all new (suc j) = all (suc j)
each_two-set P none (a ∷ cs) (b ∷ bs) (suc i) x y e all new zero = all zero
each_two-set P none (a ∷ cs) (b ∷ bs) (suc i) x y e all new (suc j) =
    let f : length cs ≡ length bs = cc in each_two-set (λ n. P (suc n)) none cs bs i x y f (λ n. all (suc n)) new j

pub each_version-set : (P : ℕ → Version → Version → Type 0) (vs us : List Version) (v : ℕ) (y z : Version) → length vs ≡ length us →
    ((n : ℕ) → P n (version_in vs n) (version_in us n)) → P v y z → (n : ℕ) → P n (version_in (slice_set vs v y) n) (version_in (slice_set us v z) n)
each_version-set P vs us v y z e all new n = each_two-set P no_version vs us v y z e all new n

pub each_two_txns-set : (P : ℕ → Txn → Txn → Type 0) (ts ss : List Txn) (t : ℕ) (y z : Txn) → length ts ≡ length ss →
    ((u : ℕ) → P u (txn_in ts u) (txn_in ss u)) → P t y z → (u : ℕ) → P u (txn_in (set_txn ts t y) u) (txn_in (set_txn ss t z) u)
each_two_txns-set P ts ss zero y z e all new u = all u
each_two_txns-set P ts ss (suc i) y z e all new zero = all zero
each_two_txns-set P ts ss (suc i) y z e all new (suc j) = each_two-set (λ n. P (suc n)) no_txn ts ss i y z e (λ n. all (suc n)) new j

-- ---- one version is added to both lists
pub each_version-append : (P : Version → Version → Type 0) (vs us : List Version) (y z : Version) → length vs ≡ length us →
    ((n : ℕ) → P (version_in vs n) (version_in us n)) → P y z → (n : ℕ) → P (version_in (vs ++ y ∷ []) n) (version_in (us ++ z ∷ []) n)
each_version-append P [] [] y z e all new zero = new
each_version-append P [] [] y z e all new (suc n) = all n
each_version-append P [] (b ∷ bs) y z e all new n = cc
each_version-append P (a ∷ cs) [] y z e all new n = cc
each_version-append P (a ∷ cs) (b ∷ bs) y z e all new zero = all zero
each_version-append P (a ∷ cs) (b ∷ bs) y z e all new (suc n) =
    let f : length cs ≡ length bs = cc in each_version-append P cs bs y z f (λ n. all (suc n)) new n

map-append : {X : Type 0} (g : X → X) (xs ys : List X) → map g (xs ++ ys) ≡ map g xs ++ map g ys
map-append g [] ys = refl
map-append g (x ∷ xs) ys = ap (λ l. g x ∷ l) (map-append g xs ys)

pub append-same : {X : Type 0} (g : X → X) (xs ys zs : List X) → map g xs ≡ map g ys → map g (xs ++ zs) ≡ map g (ys ++ zs)
append-same g xs ys zs e = map-append g xs zs ∙ ap (λ l. l ++ map g zs) e ∙ sym (map-append g ys zs)

-- ---- places
pub places-map : (g : Version → Version) (a b : ℕ → Version → Bool) → ((i : ℕ) (x : Version) → a i (g x) ≡ b i x) → (i : ℕ) (xs : List Version) → places a i (map g xs) ≡ places b i xs
places-map g a b e i [] = refl
places-map g a b e i (x ∷ xs) =
    ap (λ t. if t then i ∷ places a (i + 1) (map g xs) else places a (i + 1) (map g xs)) (e i x)
    ∙ ap (λ l. if b i x then i ∷ l else l) (places-map g a b e (i + 1) xs)

-- a test that times don't enter gives the same places in both lists
pub places-same : (a b : ℕ → Version → Bool) (vs us : List Version) → ((i : ℕ) (x : Version) → a i (timeless_version x) ≡ a i x) → ((i : ℕ) (x : Version) → b i (timeless_version x) ≡ b i x) →
    ((i : ℕ) (x : Version) → a i x ≡ b i x) → map timeless_version vs ≡ map timeless_version us → places a 0 vs ≡ places b 0 us
places-same a b vs us ea eb same e =
    sym (places-map timeless_version a a ea 0 vs) ∙ ap (λ l. places a 0 l) e
    ∙ places-map timeless_version a b (λ i x. ea i x ∙ same i x) 0 us
