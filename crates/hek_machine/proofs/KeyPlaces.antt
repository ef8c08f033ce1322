-- The versions of a key or a bucket in the store are those of the world.
use Rattle.std.proofs.Common.{◌≡◌, ℕ, zero, suc, ◌+◌, ◌<◌, ◌%◌, Bool, List, [], ◌∷◌, refl, ◌∙◌, ap, arith, length}
use Rattle.std.proofs.lemmas.Bool.{cond_both}
use Rattle.std.specs.Prelude.{◌==◌, if◌then◌else◌, slice_index_or, filter}
use Rattle.std.specs.List.{All}
use Rattle.hek_rules.specs.World.{World, Version, version_in, places}
use Rattle.hek_rules.specs.Walk as walk
use Rattle.hek_store.specs.declared.version.Version.{Version as StoredVersion}
use Rattle.hek_store.specs.Stored.{Stored, version_at, no_version, of_key, of_bucket}
use Rattle.hek_store.specs.Stored as stored
use Rattle.hek_refinement.specs.Shows.{ShowsStore}

-- the places of keys that pass a test are the same in the store and in the world
places-keys : (f : ℕ → Bool) (i : ℕ) (xs : List StoredVersion) (ys : List Version) → length xs ≡ length ys →
    ((v : ℕ) → (slice_index_or xs v no_version).key ≡ (version_in ys v).key) → stored.places (λ x. f x.key) i xs ≡ places (λ v x. f x.key) i ys
places-keys f i [] [] e h = refl
places-keys f i [] (y ∷ ys) e h = absurd (omega (arith, e))
places-keys f i (x ∷ xs) [] e h = absurd (omega (arith, e))
places-keys f i (x ∷ xs) (y ∷ ys) e h =
    let rest = places-keys f (i + 1) xs ys (omega (arith, e)) (λ v. h (suc v)) in
    ap (λ vs. if f x.key then i ∷ vs else vs) rest ∙ ap (λ k. if f k then i ∷ places (λ v z. f z.key) (i + 1) ys else places (λ v z. f z.key) (i + 1) ys) (h 0)

keys-shown : (s : Stored) (w : World) → ShowsStore s w.buckets w.versions w.read_locks → (v : ℕ) → (version_at s v).key ≡ (version_in w.versions v).key
keys-shown s w h v = ap (λ (x : StoredVersion). x.key) (h.versions v)

pub of_key-same : (s : Stored) (w : World) (key : ℕ) → ShowsStore s w.buckets w.versions w.read_locks → of_key s.versions key ≡ walk.of_key w key
of_key-same s w key h = places-keys (λ k. k == key) 0 s.versions w.versions h.count (keys-shown s w h)

pub of_bucket-same : (s : Stored) (w : World) (bucket : ℕ) → ShowsStore s w.buckets w.versions w.read_locks → of_bucket s.buckets s.versions bucket ≡ walk.of_bucket w bucket
of_bucket-same s w bucket h =
    ap (λ n. of_bucket n s.versions bucket) h.buckets ∙ places-keys (λ k. k % w.buckets == bucket) 0 s.versions w.versions h.count (keys-shown s w h)

all-first : (n i : ℕ) (vs : List ℕ) → i < n → All (λ v. v < n) vs → All (λ v. v < n) (i ∷ vs)
all-first n i vs below rest zero d l = below
all-first n i vs below rest (suc k) d l = rest k d (omega (arith, l))

-- each place listed is that of a version
places-below : (test : StoredVersion → Bool) (i n : ℕ) (xs : List StoredVersion) → i + length xs ≡ n → All (λ v. v < n) (stored.places test i xs)
places-below test i n [] e = λ k d l. absurd (omega (arith, l))
places-below test i n (x ∷ xs) e =
    let rest : All (λ v. v < n) (stored.places test (i + 1) xs) = places-below test (i + 1) n xs (omega (arith, e)) in
    cond_both (test x) (i ∷ stored.places test (i + 1) xs) (stored.places test (i + 1) xs) (All (λ v. v < n))
    (λ _. all-first n i (stored.places test (i + 1) xs) (omega (arith, e)) rest) (λ _. rest)

pub of_key-below : (s : Stored) (key : ℕ) → All (λ v. v < length s.versions) (of_key s.versions key)
of_key-below s key = places-below (λ x. x.key == key) 0 (length s.versions) s.versions (omega arith)

pub of_bucket-below : (s : Stored) (bucket : ℕ) → All (λ v. v < length s.versions) (of_bucket s.buckets s.versions bucket)
of_bucket-below s bucket = places-below (λ x. x.key % s.buckets == bucket) 0 (length s.versions) s.versions (omega arith)

-- places that a filter keeps are those of versions
pub filter_below : (test : ℕ → Bool) (n : ℕ) (xs : List ℕ) → All (λ x. x < n) xs → All (λ x. x < n) (filter test xs)
filter_below test n [] a = λ k d l. absurd (omega (arith, l))
filter_below test n (x ∷ xs) a =
    let rest : All (λ v. v < n) (filter test xs) = filter_below test n xs (λ k d l. a (suc k) d (omega (arith, l))) in
    cond_both (test x) (x ∷ filter test xs) (filter test xs) (All (λ v. v < n)) (λ _. all-first n x (filter test xs) (a 0 0 (omega arith)) rest) (λ _. rest)
