-- The committed rows: the transactions that made and ended a version, by its words.
use Rattle.std.proofs.Common.{◌≡◌, ℕ, zero, suc, ◌+◌, ◌<◌, Bool, true, false, List, [], ◌∷◌, ◌++◌, append_assoc, refl, ◌∙◌, ap, sym, subst, arith, length, drop, Some, None}
use Rattle.std.proofs.lemmas.Bool.{cond_both}
use Rattle.std.proofs.lemmas.Bool.Decides.{nat_tests}
use Rattle.std.proofs.lemmas.List.Elements.{All-nil, All-cons}
use Rattle.std.specs.List.{All}
use Rattle.std.proofs.lemmas.Option.{unwrap_or-slice_get}
use Rattle.std.proofs.lemmas.List.{drop_more}
use Rattle.std.specs.Prelude.{◌&&◌, ◌==◌, is_some, if◌then◌else◌}
use Rattle.hek_rules.specs.declared.word.BeginRecord.{BeginRecord}
use Rattle.hek_rules.specs.declared.word.BeginRecord.TheVariants.{At, By}
use Rattle.hek_rules.specs.declared.word.EndRecord.{EndRecord}
use Rattle.hek_rules.specs.declared.word.EndRecord.TheVariants.{Until, Lock}
use Rattle.hek_rules.specs.Words.{infinity, begin_txn, writer_of, end_time, end_number}
use Rattle.hek_rules.specs.World.{World, Version, Ender, EndedAt, Held, no_version, version_in, places}
use Rattle.hek_rules.specs.Waits.{readers}
use Rattle.hek_rules.specs.Shown.{end_word_by, was_made, lasts}
use Rattle.hek_store.specs.Stored.{version_at}
use Rattle.hek_txn.specs.TxnTable.{TxnTable, Declared}
use Rattle.hek_visible.specs.Seen.{NamesCreator, NamesWriter}
use Rattle.hek_laws.specs.Sound.{IsSoundEnder}
use Rattle.hek_laws.proofs.Runs.Reachable.{reachable-sound}
use Rattle.hek_refinement.proofs.Stores.{word-shown}
use Rattle.hek_machine.specs.declared.engine.Engine.{Engine}
use Rattle.hek_machine.specs.Stands.{StandsFor, StandsForSome}
use Rattle.hek_machine.specs.Judgements.{IsShown}
use Rattle.hek_machine.proofs.WalkRules.{sight_creator, sight_writer}

-- ---- the transaction that a word names

named-maker : (x : TxnTable) (b : BeginRecord) (u : ℕ) → NamesCreator x b → begin_txn b ≡ Some u → Declared x u
named-maker x (At time) u k h = cc
named-maker x (By z) u k h = let e : z ≡ u = cc in subst (Declared x) e k.declared

named-ender : (x : TxnTable) (b : EndRecord) (u : ℕ) → NamesWriter x b → writer_of b ≡ Some u → Declared x u
named-ender x (Until time) u k h = cc
named-ender x (Lock n None no_more) u k h = cc
named-ender x (Lock n (Some z) no_more) u k h = let e : z ≡ u = cc in subst (Declared x) e k.declared

pub maker_declared : (m : Engine) (v u : ℕ) → StandsForSome m → begin_txn (version_at m.store v).begin ≡ Some u → Declared m.txns u
maker_declared m v u o h = named-maker m.txns (version_at m.store v).begin u (sight_creator m v o) h

pub ender_declared : (m : Engine) (v u : ℕ) → StandsForSome m → writer_of (version_at m.store v).end ≡ Some u → Declared m.txns u
ender_declared m v u o h = named-ender m.txns (version_at m.store v).end u (sight_writer m v o) h

-- ---- versions that no committed transaction ended

-- an End time below infinity is past
by-time : (w : World) (n : ℕ) (e : Ender) → IsSoundEnder w e → w.clock < infinity → is_some (end_time (end_word_by n e)) ≡ true → lasts w e ≡ (end_number (end_word_by n e) == end_number (Until infinity))
by-time w n (EndedAt time) k l h = let ne : (time == infinity) ≡ false = grind (arith, nat_tests, l, k) in sym ne
by-time w zero (Held None no_more) k l h = refl
by-time w (suc n) (Held None no_more) k l h = cc
by-time w n (Held (Some u) no_more) k l h = cc

pub lasts_at : (m : Engine) (v : ℕ) → is_some (end_time (version_at m.store v).end) ≡ true →
    IsShown m (λ w. lasts w (version_in w.versions v).ender) (end_number (version_at m.store v).end == end_number (Until infinity))
lasts_at m v h w s =
    let o = reachable-sound w s.reachable in
    let shown = word-shown m.store w.buckets w.versions w.read_locks v s.shows.store in
    by-time w (readers w.read_locks v) (version_in w.versions v).ender (o.enders v) o.bounded (ap (λ x. is_some (end_time x)) (sym shown) ∙ h)
    ∙ ap (λ x. end_number x == end_number (Until infinity)) (sym shown)

-- ---- the versions one by one

abbrev pub is_row : World → ℕ → Version → Bool
is_row w v x = was_made w x.creator && lasts w x.ender

places-more : (test : ℕ → Version → Bool) (xs : List Version) (i : ℕ) → i < length xs →
    places test i (drop i xs) ≡ (if test i (version_in xs i) then i ∷ places test (i + 1) (drop (i + 1) xs) else places test (i + 1) (drop (i + 1) xs))
places-more test xs i below =
    ap (places test i) (drop_more xs i no_version below)
    ∙ ap (λ x. if test i x then i ∷ places test (i + 1) (drop (i + 1) xs) else places test (i + 1) (drop (i + 1) xs)) (sym (unwrap_or-slice_get xs i no_version))

-- the rows found so far and the rows among the versions left are all committed rows
abbrev pub Found : Engine → List ℕ → ℕ → Type 0
Found m found i = (w : World) → StandsFor m w → found ++ places (is_row w) i (drop i w.versions) ≡ places (is_row w) 0 w.versions

pub found_more : (m : Engine) (i : ℕ) (b : Bool) (before after : List ℕ) → i < length m.store.versions → IsShown m (λ w. is_row w i (version_in w.versions i)) b →
    after ≡ (if b then before ++ i ∷ [] else before) → Found m before i → Found m after (i + 1)
found_more m i b before after below shown grown left w s =
    ap (λ xs. xs ++ rest) grown ∙ by b ∙ sym (ap (λ xs. before ++ xs) (places-more (is_row w) w.versions i (let e = s.shows.store.count in omega (arith, below, e))
    ∙ ap (λ t. if t then i ∷ rest else rest) (shown w s))) ∙ left w s
  where
    rest : List ℕ
    rest = places (is_row w) (i + 1) (drop (i + 1) w.versions)

    by : (t : Bool) → (if t then before ++ i ∷ [] else before) ++ rest ≡ before ++ (if t then i ∷ rest else rest)
    by true = append_assoc before (i ∷ []) rest
    by false = refl

-- ---- each committed row is a version of the store

world-below : (test : ℕ → Version → Bool) (i n : ℕ) (xs : List Version) → i + length xs ≡ n → All (λ v. v < n) (places test i xs)
world-below test i n [] e = All-nil (λ v. v < n)
world-below test i n (x ∷ xs) e =
    let rest : All (λ v. v < n) (places test (i + 1) xs) = world-below test (i + 1) n xs (omega (arith, e)) in
    cond_both (test i x) (i ∷ places test (i + 1) xs) (places test (i + 1) xs) (All (λ v. v < n))
    (λ _. All-cons (λ v. v < n) i (places test (i + 1) xs) (omega (arith, e)) rest) (λ _. rest)

pub rows_below : (m : Engine) (vs : List ℕ) → StandsForSome m → IsShown m (λ w. places (is_row w) 0 w.versions) vs → All (λ v. v < length m.store.versions) vs
rows_below m vs o shown =
    let e = o.stands.shows.store.count in
    subst (All (λ v. v < length m.store.versions)) (shown o.world o.stands)
    (world-below (is_row o.world) 0 (length m.store.versions) o.world.versions (omega (arith, e)))
