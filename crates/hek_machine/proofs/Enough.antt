-- Versions of a key that suffice for a transaction: those left out add nothing to a walk, are not seen, and claim
-- nothing.
use Rattle.std.proofs.Common.{◌≡◌, ℕ, zero, suc, ◌+◌, ◌<◌, ◌%◌, Bool, true, false, List, [], ◌∷◌, refl, ◌∙◌, ap, sym, subst, arith, length, Option, ⊎_elim}
use Rattle.std.proofs.lemmas.Bool.{and_parts, or_cases, cases_Bool, cases_lt, cond-true, cond-false, cond_both, eqb-true, false≢true, le-ltb, lt-ltb}
use Rattle.std.specs.Prelude.{◌==◌, ◌≤◌, ◌⊎◌, not, nat_lt, Some, None, ◌&&◌, ◌||◌, filter, if◌then◌else◌, slice_index_or}
use Rattle.std.specs.List.{All, AllByRecursion, list_any}
use Rattle.hek_rules.specs.World.{World, Version, Txn, EndedAt, Held, is_active, txn_in, version_in, bucket_of, places}
use Rattle.hek_rules.specs.Words.{infinity, begin_time, end_time, writer_of}
use Rattle.hek_rules.specs.Shown.{ender_of}
use Rattle.hek_rules.specs.declared.event.Level.{Level}
use Rattle.hek_rules.specs.declared.event.Level.TheVariants.{Serializable, Repeatable, Snapshot}
use Rattle.hek_rules.specs.declared.word.BeginRecord.{BeginRecord}
use Rattle.hek_rules.specs.declared.word.BeginRecord.TheVariants.{At, By}
use Rattle.hek_rules.specs.declared.word.EndRecord.{EndRecord}
use Rattle.hek_rules.specs.declared.word.EndRecord.TheVariants.{Until, Lock}
use Rattle.hek_rules.specs.declared.event.Sight.TheVariants.{Seen, Hidden}
use Rattle.hek_rules.specs.Visibility.{sight, sight_by, end_sight, own_sight, under_writer, from_creator, is_seen}
use Rattle.hek_rules.specs.Walk.{Judgement, Refuse, Allow, Purpose, behind, and_then, looks_at, read_time, version_judged, versions_judged, bucket_effects, seen_of, last, walk}
use Rattle.hek_rules.specs.Table.{claims, is_claim, is_claimed}
use Rattle.hek_store.specs.declared.version.Version.{Version as StoredVersion}
use Rattle.hek_store.specs.Stored.{Stored, version_at, no_version, of_key}
use Rattle.hek_store.specs.Stored as stored
use Rattle.hek_visible.specs.Seen.{version_seen}
use Rattle.hek_machine.specs.declared.engine.Engine.{Engine}
use Rattle.hek_machine.specs.Stands.{StandsFor, StandsForSome}
use Rattle.hek_machine.specs.Judgements.{looks}
use Rattle.hek_machine.specs.Walked.{AreVersionPlaces}
use Rattle.hek_machine.specs.Written.{AreEnough}
use Rattle.hek_machine.proofs.KeyPlaces.{of_key-below, of_key-same, filter_below}
use Rattle.hek_machine.proofs.RuleWalks.{key_places}
use Rattle.hek_machine.proofs.WalkRules.{sight-shown, sight_time}
use Rattle.hek_machine.proofs.ClaimRules.{claim_shown}
use Rattle.hek_store.specs.Living.{IsLiving, is_over, is_over_by, is_past, is_at_or_by, is_writer, is_replaced, is_gone}

-- ---- lists without some of their members

-- each version that `keep` leaves out is hidden from t
abbrev IsHidden : World → ℕ → (ℕ → Bool) → ℕ → Type 0
IsHidden w t keep v = keep v ≡ false → sight w t (read_time w t) v ≡ Hidden

behind-nil : (j : Judgement) → behind [] j ≡ j
behind-nil (Refuse cause) = refl
behind-nil (Allow es) = refl

judged-filter : (w : World) (t : ℕ) (p : Purpose) (target : Option ℕ) (keep : ℕ → Bool) (vs : List ℕ) → AllByRecursion (IsHidden w t keep) vs →
    versions_judged w t p target (filter keep vs) ≡ versions_judged w t p target vs
judged-filter w t p target keep [] h = refl
judged-filter w t p target keep (v ∷ vs) h =
    let rest = judged-filter w t p target keep vs h.1 in
    ⊎_elim
    (λ y. ap (versions_judged w t p target) (cond-true (keep v) (v ∷ filter keep vs) (filter keep vs) y) ∙ ap (and_then (version_judged w t p target v (sight w t (read_time w t) v))) rest)
    (λ n. ap (versions_judged w t p target) (cond-false (keep v) (v ∷ filter keep vs) (filter keep vs) n) ∙ rest ∙ sym (behind-nil (versions_judged w t p target vs))
    ∙ ap (λ s. and_then (version_judged w t p target v s) (versions_judged w t p target vs)) (sym (h.0 n)))
    (cases_Bool (keep v))

seen-filter : (w : World) (t : ℕ) (keep : ℕ → Bool) (vs : List ℕ) → AllByRecursion (IsHidden w t keep) vs → seen_of w t (filter keep vs) ≡ seen_of w t vs
seen-filter w t keep [] h = refl
seen-filter w t keep (v ∷ vs) h =
    let rest = seen-filter w t keep vs h.1 in
    ⊎_elim
    (λ y. ap (seen_of w t) (cond-true (keep v) (v ∷ filter keep vs) (filter keep vs) y)
    ∙ ap (λ xs. if is_seen (sight w t (read_time w t) v) then v ∷ xs else xs) rest)
    (λ n. ap (seen_of w t) (cond-false (keep v) (v ∷ filter keep vs) (filter keep vs) n) ∙ rest
    ∙ ap (λ s. if is_seen s then v ∷ seen_of w t vs else seen_of w t vs) (sym (h.0 n)))
    (cases_Bool (keep v))

any-filter : (test keep : ℕ → Bool) (vs : List ℕ) → AllByRecursion (λ v. keep v ≡ false → test v ≡ false) vs → list_any test (filter keep vs) ≡ list_any test vs
any-filter test keep [] h = refl
any-filter test keep (v ∷ vs) h =
    let rest = any-filter test keep vs h.1 in
    ⊎_elim (λ y. ap (list_any test) (cond-true (keep v) (v ∷ filter keep vs) (filter keep vs) y) ∙ ap (λ b. test v || b) rest)
    (λ n. ap (list_any test) (cond-false (keep v) (v ∷ filter keep vs) (filter keep vs) n) ∙ rest ∙ ap (λ b. b || list_any test vs) (sym (h.0 n)))
    (cases_Bool (keep v))

places-filter : (keep : ℕ → Bool) (test : Version → Bool) (i : ℕ) (xs : List Version) → places (λ v x. keep v && test x) i xs ≡ filter keep (places (λ v x. test x) i xs)
places-filter keep test i [] = refl
places-filter keep test i (x ∷ xs) =
    let rest = places-filter keep test (i + 1) xs in
    ⊎_elim
    (λ y. ⊎_elim
    (λ yes. ap (λ b. if b && test x then i ∷ places (λ v z. keep v && test z) (i + 1) xs else places (λ v z. keep v && test z) (i + 1) xs) y
    ∙ cond-true (test x) (i ∷ places (λ v z. keep v && test z) (i + 1) xs) (places (λ v z. keep v && test z) (i + 1) xs) yes
    ∙ ap (λ vs. i ∷ vs) rest
    ∙ sym (cond-true (keep i) (i ∷ filter keep (places (λ v z. test z) (i + 1) xs)) (filter keep (places (λ v z. test z) (i + 1) xs)) y)
    ∙ ap (filter keep) (sym (cond-true (test x) (i ∷ places (λ v z. test z) (i + 1) xs) (places (λ v z. test z) (i + 1) xs) yes)))
    (λ no. ap (λ b. if b && test x then i ∷ places (λ v z. keep v && test z) (i + 1) xs else places (λ v z. keep v && test z) (i + 1) xs) y
    ∙ cond-false (test x) (i ∷ places (λ v z. keep v && test z) (i + 1) xs) (places (λ v z. keep v && test z) (i + 1) xs) no
    ∙ rest ∙ ap (filter keep) (sym (cond-false (test x) (i ∷ places (λ v z. test z) (i + 1) xs) (places (λ v z. test z) (i + 1) xs) no)))
    (cases_Bool (test x)))
    (λ n. ap (λ b. if b && test x then i ∷ places (λ v z. keep v && test z) (i + 1) xs else places (λ v z. keep v && test z) (i + 1) xs) n ∙ rest
    ∙ ⊎_elim
    (λ yes. sym (cond-false (keep i) (i ∷ filter keep (places (λ v z. test z) (i + 1) xs)) (filter keep (places (λ v z. test z) (i + 1) xs)) n)
    ∙ ap (filter keep) (sym (cond-true (test x) (i ∷ places (λ v z. test z) (i + 1) xs) (places (λ v z. test z) (i + 1) xs) yes)))
    (λ no. ap (filter keep) (sym (cond-false (test x) (i ∷ places (λ v z. test z) (i + 1) xs) (places (λ v z. test z) (i + 1) xs) no)))
    (cases_Bool (test x)))
    (cases_Bool (keep i))

-- a property of each version that passes the test holds of all places listed
places-each : (test : StoredVersion → Bool) (P : ℕ → Type 0) (i : ℕ) (xs : List StoredVersion) →
    ((j : ℕ) → j < length xs → test (slice_index_or xs j no_version) ≡ true → P (i + j)) → AllByRecursion P (stored.places test i xs)
places-each test P i [] h = tt
places-each test P i (x ∷ xs) h =
    let rest = places-each test P (i + 1) xs (λ j l y. subst P (omega arith) (h (suc j) (omega (arith, l)) y)) in
    cond_both (test x) (i ∷ stored.places test (i + 1) xs) (stored.places test (i + 1) xs) (AllByRecursion P) (λ y. (subst P (omega arith) (h zero (omega arith) y), rest)) (λ n. rest)

-- ---- versions that suffice

-- a version of the key that is hidden from t and claims nothing
pub record IsIdle (m : Engine) (t v : ℕ) : Type 0 where
  pub hidden : version_seen m.store m.txns t (looks m t) v ≡ Hidden
  pub claims : (w : World) → StandsFor m w → is_claim w t (txn_in w.txns t).level (version_in w.versions v).creator ≡ false

-- all versions of a key suffice
pub all_enough : (m : Engine) (t key : ℕ) (vs : List ℕ) → StandsForSome m → vs ≡ of_key m.store.versions key → AreEnough m t key vs
all_enough m t key vs o e = record {
  below = subst (All (λ v. v < length m.store.versions)) (sym e) (of_key-below m.store key);
  places = subst (AreVersionPlaces m (key % m.store.buckets)) (sym e) (key_places m key o);
  walked = λ w p s. ap (walk w t p (bucket_of w key)) (e ∙ of_key-same m.store w key s.shows.store);
  seen = λ w s. ap (seen_of w t) (e ∙ of_key-same m.store w key s.shows.store);
  claimed = λ w s. ap (is_claimed w t) (e ∙ of_key-same m.store w key s.shows.store);
}

-- the versions of a key suffice without some that are hidden and claim nothing
pub enough_without : (m : Engine) (t key : ℕ) (vs : List ℕ) (keep : ℕ → Bool) → StandsForSome m → vs ≡ filter keep (of_key m.store.versions key) →
    ((v : ℕ) → v < length m.store.versions → (version_at m.store v).key ≡ key → keep v ≡ false → IsIdle m t v) → AreEnough m t key vs
enough_without m t key vs keep o e idle = record {
  below = subst (All (λ v. v < length m.store.versions)) (sym e) (filter_below keep (length m.store.versions) all (of_key-below m.store key));
  places = record {
    test = λ v x. keep v && (x.key == key);
    same = λ w s. places-filter keep (λ x. x.key == key) 0 w.versions ∙ ap (filter keep) (sym (of_key-same m.store w key s.shows.store)) ∙ sym e;
    there = (key_places m key o).there;
  };
  walked = λ w p s.
      ap (walk w t p (bucket_of w key)) e
      ∙ ap (λ o. behind (bucket_effects (txn_in w.txns t).level (bucket_of w key)) (versions_judged w t p (last o) (filter keep all))) (seen-filter w t keep all (hidden w s))
      ∙ ap (behind (bucket_effects (txn_in w.txns t).level (bucket_of w key))) (judged-filter w t p (last (seen_of w t all)) keep all (hidden w s))
      ∙ ap (walk w t p (bucket_of w key)) (of_key-same m.store w key s.shows.store);
  seen = λ w s. ap (seen_of w t) e ∙ seen-filter w t keep all (hidden w s) ∙ ap (seen_of w t) (of_key-same m.store w key s.shows.store);
  claimed = λ w s.
      ap (is_claimed w t) e
      ∙ any-filter (λ v. is_claim w t (txn_in w.txns t).level (version_in w.versions v).creator) keep all (each (λ v. keep v ≡ false → is_claim w t (txn_in w.txns t).level (version_in w.versions v).creator ≡ false) (λ v i n. (i n).claims w s))
      ∙ ap (is_claimed w t) (of_key-same m.store w key s.shows.store);
}
  where
    all : List ℕ
    all = of_key m.store.versions key

    each : (P : ℕ → Type 0) → ((v : ℕ) → (keep v ≡ false → IsIdle m t v) → P v) → AllByRecursion P all
    each P f = places-each (λ x. x.key == key) P 0 m.store.versions (λ j l y. subst P (omega arith) (f j (λ n. idle j l (eqb-true _ _ y) n)))

    hidden : (w : World) → StandsFor m w → AllByRecursion (IsHidden w t keep) all
    hidden w s = each (IsHidden w t keep) (λ v i n. sym (sight-shown m w t v s) ∙ (i n).hidden)

-- ---- versions that are over

ended : (ts : List Txn) (reader rt : ℕ) (e : EndRecord) → rt < infinity → is_past rt (end_time e) ≡ true → end_sight ts reader rt (ender_of e) ≡ Hidden
ended ts reader rt (Lock readers writer no_more) early past = absurd (false≢true past)
ended ts reader rt (Until until) early past =
    ⊎_elim (λ (l : rt < until). absurd (false≢true (ap not (sym (lt-ltb rt until l)) ∙ past)))
    (λ (g : until ≤ rt).
    ⊎_elim (λ y. let same = eqb-true until infinity y in absurd (omega (arith, same, g, early)))
    (λ n. ap (end_sight ts reader rt) (cond-false (until == infinity) (Held None false) (EndedAt until) n) ∙ cond-false (nat_lt rt until) Seen Hidden (le-ltb rt until g))
    (cases_Bool (until == infinity)))
    (cases_lt rt until)

hidden-at : (ts : List Txn) (reader rt from : ℕ) (e : EndRecord) → rt < infinity → (is_past rt (end_time e) || from == infinity) ≡ true → sight_by ts reader rt (At from) (ender_of e) ≡ Hidden
hidden-at ts reader rt from e early h =
    ⊎_elim (λ (l : rt < from). cond-true (nat_lt rt from) Hidden (end_sight ts reader rt (ender_of e)) (lt-ltb rt from l))
    (λ (g : from ≤ rt).
    ⊎_elim (λ y. cond-false (nat_lt rt from) Hidden (end_sight ts reader rt (ender_of e)) (le-ltb rt from g) ∙ ended ts reader rt e early y)
    (λ n. let same = eqb-true from infinity (sym (ap (λ b. b || from == infinity) n) ∙ h) in absurd (omega (arith, same, g, early)))
    (cases_Bool (is_past rt (end_time e))))
    (cases_lt rt from)

hidden-over : (ts : List Txn) (reader rt : ℕ) (b : BeginRecord) (e : EndRecord) → rt < infinity → is_over_by rt (begin_time b) (end_time e) ≡ true → sight_by ts reader rt b (ender_of e) ≡ Hidden
hidden-over ts reader rt (By u) e early h = absurd (false≢true h)
hidden-over ts reader rt (At from) e early h = hidden-at ts reader rt from e early h

-- the levels at which a transaction looks at the clock
abbrev pub LooksNow : Level → Type 0
LooksNow Snapshot = ⊥
LooksNow Repeatable = Unit {0}
LooksNow Serializable = Unit {0}

looks-now : (level : Level) (begin now : ℕ) → LooksNow level → looks_at level begin now ≡ now
looks-now Snapshot begin now n = absurd n
looks-now Repeatable begin now n = refl
looks-now Serializable begin now n = refl

unclaimed : (ts : List Txn) (t rt time : ℕ) (level : Level) (b : BeginRecord) (e : EndRecord) → LooksNow level → is_over_by time (begin_time b) (end_time e) ≡ true → claims ts t rt level b ≡ false
unclaimed ts t rt time Snapshot b e n h = absurd n
unclaimed ts t rt time Repeatable (At from) e n h = refl
unclaimed ts t rt time Repeatable (By u) e n h = absurd (false≢true h)
unclaimed ts t rt time Serializable (At from) e n h = refl
unclaimed ts t rt time Serializable (By u) e n h = absurd (false≢true h)

over_idle : (m : Engine) (t v : ℕ) → StandsForSome m → LooksNow (txn_in m.txns.cores t).level → is_over m.clock (version_at m.store v) ≡ true → IsIdle m t v
over_idle m t v o now over =
    let level = (txn_in m.txns.cores t).level in
    let same : looks m t ≡ m.clock = looks-now level (txn_in m.txns.cores t).begin m.clock now in
    let x = version_at m.store v in
    record {
      hidden = hidden-over m.txns.cores t (looks m t) x.begin x.end (sight_time m t o) (ap (λ n. is_over n x) same ∙ over);
      claims = claim_shown m t v x.begin false refl (sym (unclaimed m.txns.cores t (looks m t) m.clock level x.begin x.end now over));
    }

-- ---- versions that the transaction itself wrote over

written-over : (ts : List Txn) (reader rt : ℕ) (e : EndRecord) → is_writer reader (writer_of e) ≡ true → (end_sight ts reader rt (ender_of e) ≡ Hidden) × (own_sight (ender_of e) ≡ Hidden)
written-over ts reader rt (Until until) y = absurd (false≢true y)
written-over ts reader rt (Lock readers None no_more) y = absurd (false≢true y)
written-over ts reader rt (Lock readers (Some w) no_more) y = (cond-true (w == reader) Hidden (under_writer rt w (txn_in ts w).end (txn_in ts w).state) y, refl)

hidden-replaced : (ts : List Txn) (reader rt : ℕ) (b : BeginRecord) (e : EndRecord) → (is_at_or_by reader b && is_writer reader (writer_of e)) ≡ true → sight_by ts reader rt b (ender_of e) ≡ Hidden
hidden-replaced ts reader rt (At from) e h =
    cond_both (nat_lt rt from) Hidden (end_sight ts reader rt (ender_of e)) (λ s. s ≡ Hidden) (λ y. refl) (λ n. (written-over ts reader rt e h).0)
hidden-replaced ts reader rt (By u) e h =
    let parts = and_parts (u == reader) (is_writer reader (writer_of e)) h in
    cond-true (u == reader) (own_sight (ender_of e)) (from_creator rt u (txn_in ts u).end (txn_in ts u).state (end_sight ts reader rt (ender_of e))) parts.0
    ∙ (written-over ts reader rt e parts.1).1

unclaimed-replaced : (ts : List Txn) (t rt : ℕ) (level : Level) (b : BeginRecord) (e : EndRecord) → LooksNow level → (is_at_or_by t b && is_writer t (writer_of e)) ≡ true → claims ts t rt level b ≡ false
unclaimed-replaced ts t rt Snapshot b e n h = absurd n
unclaimed-replaced ts t rt Repeatable (At from) e n h = refl
unclaimed-replaced ts t rt Repeatable (By u) e n h = ap (λ same. not same && is_active (txn_in ts u).state) (and_parts (u == t) (is_writer t (writer_of e)) h).0
unclaimed-replaced ts t rt Serializable (At from) e n h = refl
unclaimed-replaced ts t rt Serializable (By u) e n h = ap (λ same. not same && is_active (txn_in ts u).state) (and_parts (u == t) (is_writer t (writer_of e)) h).0

replaced_idle : (m : Engine) (t v : ℕ) → LooksNow (txn_in m.txns.cores t).level → is_replaced t (version_at m.store v) ≡ true → IsIdle m t v
replaced_idle m t v now replaced =
    let x = version_at m.store v in
    record {
      hidden = hidden-replaced m.txns.cores t (looks m t) x.begin x.end replaced;
      claims = claim_shown m t v x.begin false refl (sym (unclaimed-replaced m.txns.cores t (looks m t) (txn_in m.txns.cores t).level x.begin x.end now replaced));
    }

-- the living versions of a key suffice for a transaction that looks at the clock
pub living_enough : (m : Engine) (t key : ℕ) (vs : List ℕ) → StandsForSome m → LooksNow (txn_in m.txns.cores t).level → IsLiving m.store.versions key (is_gone (Some t) m.clock) vs → AreEnough m t key vs
living_enough m t key vs o now living =
    enough_without m t key vs (λ v. not (nat_lt v living.from)) o living.left
    (λ v l k n. idle v (living.over v (before v living.from n) l k))
  where
    before : (v from : ℕ) → not (nat_lt v from) ≡ false → v < from
    before v from n = ⊎_elim (λ (l : v < from). l) (λ (g : from ≤ v). absurd (false≢true (sym n ∙ ap not (le-ltb v from g)))) (cases_lt v from)

    idle : (v : ℕ) → is_gone (Some t) m.clock (version_at m.store v) ≡ true → IsIdle m t v
    idle v gone =
        ⊎_elim (λ over. over_idle m t v o now over) (λ replaced. replaced_idle m t v now replaced)
        (or_cases (is_over m.clock (version_at m.store v)) (is_replaced t (version_at m.store v)) gone)

pub now_by_level : (level found : Level) → found ≡ level → (found ≡ Serializable) ⊎ (found ≡ Repeatable) → LooksNow level
now_by_level level found same which =
    subst LooksNow same (⊎_elim (λ s. subst LooksNow (sym s) tt) (λ r. subst LooksNow (sym r) tt) which)
