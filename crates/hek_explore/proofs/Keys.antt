-- Plays with equal keys are twins.
use Rattle.std.proofs.Common.{◌≡◌, ℕ, suc, zero, ◌+◌, ◌<◌, ◌≤◌, true, false, List, [], ◌∷◌, ◌++◌, Option, Some, None, length, refl, ap, sym, subst, ◌∙◌, map, arith, inl, inr, IsTrue}
use Rattle.std.proofs.lemmas.Bool.{cases_Bool, cond-true, lt-ltb, le-ltb, ltb-true, ltb-false}
use Rattle.std.proofs.lemmas.Bool.Decides.{nat_tests}
use Rattle.std.proofs.lemmas.List.{length-append, length-map}
use Rattle.std.proofs.lemmas.List.Elements.{All-head, All-tail}
use Rattle.std.specs.Prelude.{◌⊎◌, ◌==◌, ◌&&◌, nat_lt, if◌then◌else◌, slice_get, unwrap_or, not}
use Rattle.hek_rules.specs.declared.event.Level.{Level}
use Rattle.hek_rules.specs.declared.word.EndRecord.{EndRecord}
use Rattle.hek_rules.specs.declared.word.EndRecord.TheVariants.{Until, Lock}
use Rattle.hek_rules.specs.Events.{txn_of}
use Rattle.hek_rules.specs.Plan.{Plan, IsDeclared, levels_of}
use Rattle.hek_rules.specs.Serial.{is_of, is_id}
use Rattle.hek_rules.specs.Shown.{begin_word, end_word, end_word_by, readers_alone, read_set, write_set, bucket_set, waiting_list, dependents_of}
use Rattle.hek_rules.specs.Waits.{readers}
use Rattle.hek_rules.specs.Words.{infinity}
use Rattle.hek_rules.specs.World.{World, Version, Txn, Ender, EndedAt, Held, new_txn, no_txn, no_version, txn_in, version_in, is_prepared}
use Rattle.hek_laws.specs.Sound.{Sound, IsSoundEnder, IsSoundFlag, OwnsNothing}
use Rattle.hek_laws.proofs.Runs.Reachable.{reachable-sound}
use Rattle.hek_laws.proofs.Worlds.Fixed.{fixed-run}
use Rattle.hek_machine.specs.Observed.{opening_of}
use Rattle.hek_similar.specs.Alike.{Alike}
use Rattle.hek_similar.specs.Canonical.{by_group}
use Rattle.hek_similar.specs.Forms.{After}
use Rattle.hek_similar.specs.Holdings.{Regrouped, holding}
use Rattle.hek_similar.specs.Similar.{Similar, LookAlike, timeless, timeless_creator, timeless_ender, timeless_version, timeless_txn, made_time, ended_time, looks_back}
use Rattle.hek_similar.specs.Verdicts.{judged_part}
use Rattle.hek_similar.proofs.Alike.{Past, sound-past}
use Rattle.hek_similar.proofs.Forms.{answers-from, similar-itself}
use Rattle.hek_similar.proofs.Holdings.Laws.{regrouped-itself}
use Rattle.hek_similar.proofs.Places.Alike.{alike-both_ways, alike-in_turn}
use Rattle.hek_similar.proofs.Places.Grouped.{by_group-renumbers}
use Rattle.hek_similar.proofs.Places.Sound.{worlds-sound}
use Rattle.hek_worker.specs.declared.entry.Entry.{Entry}
use Rattle.hek_worker.specs.History.{IsEntry, IsHistory, is_that, history_events}
use Rattle.hek_permute.specs.declared.outcome.Ending.TheVariants as ending
use Rattle.hek_permute.specs.declared.play.Place.{Place}
use Rattle.hek_permute.specs.Outcomes.{end_in}
use Rattle.hek_explore.specs.declared.key.VersionKey.{VersionKey}
use Rattle.hek_explore.specs.Groups.{group_in}
use Rattle.hek_explore.specs.Keys.{list_upto, timeless_end, until_time, version_key, after_time, TxnShape, txn_shape, Shape, shape_in, sorted_by}
use Rattle.hek_explore.specs.Twins.{world_after, steps_in}
use Rattle.hek_explore.specs.Laws.{EqualKeysMakeTwins}
use Rattle.hek_explore.proofs.Extended.{world-reachable}

-- ---- lists by place
pub upto-length : {X : Type 0} (f : ℕ → X) (n : ℕ) → length (list_upto f n) ≡ n
upto-length f zero = refl
upto-length f (suc n) =
    let l : length (list_upto f n ++ f n ∷ []) ≡ length (list_upto f n) + length (f n ∷ []) = length-append (list_upto f n) (f n ∷ []) in
    let k : length (list_upto f n) ≡ n = upto-length f n in
    omega (arith, l, k)

snoc-same : {X : Type 0} (xs ys : List X) (x y : X) → xs ++ x ∷ [] ≡ ys ++ y ∷ [] → (xs ≡ ys) × (x ≡ y)
snoc-same [] [] x y e = (refl, cc)
snoc-same [] (b ∷ []) x y e = absurd (cc)
snoc-same [] (b ∷ c ∷ ys) x y e = absurd (cc)
snoc-same (a ∷ []) [] x y e = absurd (cc)
snoc-same (a ∷ c ∷ xs) [] x y e = absurd (cc)
snoc-same (a ∷ xs) (b ∷ ys) x y e =
    let head : a ≡ b = cc in
    let tail : xs ++ x ∷ [] ≡ ys ++ y ∷ [] = cc in
    let rest = snoc-same xs ys x y tail in
    (cc, rest.1)

below-last : (i n : ℕ) → i < suc n → (i < n) ⊎ (i ≡ n)
below-last i n h = elim (cases_Bool (nat_lt i n)) [ inl a ↦ inl (ltb-true i n a) | inr a ↦ inr (let b : n ≤ i = ltb-false i n a in omega arith) ]

upto-same : {X : Type 0} (f g : ℕ → X) (n : ℕ) → list_upto f n ≡ list_upto g n → (i : ℕ) → i < n → f i ≡ g i
upto-same f g zero e i h = absurd (omega arith)
upto-same f g (suc n) e i h =
    let both = snoc-same (list_upto f n) (list_upto g n) (f n) (g n) e in
    elim (below-last i n h) [
      | inl a ↦ upto-same f g n both.0 i a
      | inr a ↦ ap f a ∙ both.1 ∙ sym (ap g a)
    ]

upto-count : {X : Type 0} (f g : ℕ → X) (n m : ℕ) → list_upto f n ≡ list_upto g m → n ≡ m
upto-count f g n m e = sym (upto-length f n) ∙ ap (λ l. length l) e ∙ upto-length g m

past-end : {X : Type 0} (xs : List X) (i : ℕ) (none : X) → length xs ≤ i → unwrap_or (slice_get xs i) none ≡ none
past-end [] i none h = refl
past-end (x ∷ xs) zero none h = absurd (omega arith)
past-end (x ∷ xs) (suc i) none h = past-end xs i none (omega arith)

within-or-not : (i n : ℕ) → (i < n) ⊎ (n ≤ i)
within-or-not i n = elim (cases_Bool (nat_lt i n)) [ inl a ↦ inl (ltb-true i n a) | inr a ↦ inr (ltb-false i n a) ]

-- ---- End words
abbrev decoded : EndRecord → Ender
decoded (Until time) = if nat_lt time infinity then EndedAt 0 else Held None false
decoded (Lock readers writer no_more) = Held writer no_more

decoded-alone : (count : ℕ) → decoded (timeless_end (readers_alone count)) ≡ Held None false
decoded-alone zero = refl
decoded-alone (suc n) = refl

ender-decoded : (w : World) (count : ℕ) (e : Ender) → IsSoundEnder w e → IsSoundFlag count e → w.clock < infinity → timeless_ender e ≡ decoded (timeless_end (end_word_by count e))
ender-decoded w count (EndedAt time) s f b =
    let low : nat_lt time infinity ≡ true = lt-ltb time infinity (omega (arith, s, b)) in
    sym (ap (λ c. decoded (Until (if c then 0 else infinity))) low)
ender-decoded w count (Held None no_more) s f b = ap (λ c. Held None c) f ∙ sym (decoded-alone count)
ender-decoded w count (Held (Some u) no_more) s f b = refl

until-alone : (count : ℕ) → until_time (readers_alone count) ≡ 0
until-alone zero = refl
until-alone (suc n) = refl

pub ended-until : (w : World) (count : ℕ) (e : Ender) → IsSoundEnder w e → w.clock < infinity → ended_time e ≡ until_time (end_word_by count e)
ended-until w count (EndedAt time) s b =
    let low : nat_lt time infinity ≡ true = lt-ltb time infinity (omega (arith, s, b)) in
    sym (ap (λ c. if c then time else 0) low)
ended-until w count (Held None no_more) s b = sym (until-alone count)
ended-until w count (Held (Some u) no_more) s b = refl

-- ---- worlds
module _ (w x : World) (sw : Sound w) (sx : Sound x) (P Q : List Place) (h k : List Entry) (e : shape_in w P h ≡ shape_in x Q k) where
  versions-count : length w.versions ≡ length x.versions
  versions-count = upto-count (version_key w) (version_key x) (length w.versions) (length x.versions) (ap (λ (z : Shape). z.versions) e)

  txns-count : length w.txns ≡ length x.txns
  txns-count = upto-count (λ i. txn_shape w h (i + 1)) (λ i. txn_shape x k (i + 1)) (length w.txns) (length x.txns) (ap (λ (z : Shape). z.txns) e)

  version-at : (v : ℕ) → v < length w.versions → version_key w v ≡ version_key x v
  version-at v b =
      upto-same (version_key w) (version_key x) (length w.versions)
      (ap (λ (z : Shape). z.versions) e ∙ ap (list_upto (version_key x)) (sym versions-count)) v b

  txn-at : (i : ℕ) → i < length w.txns → txn_shape w h (i + 1) ≡ txn_shape x k (i + 1)
  txn-at i b =
      upto-same (λ i. txn_shape w h (i + 1)) (λ i. txn_shape x k (i + 1)) (length w.txns)
      (ap (λ (z : Shape). z.txns) e ∙ ap (list_upto (λ i. txn_shape x k (i + 1))) (sym txns-count)) i b

  ender-of : (y : World) (s : Sound y) (v : ℕ) → timeless_ender (version_in y.versions v).ender ≡ decoded (timeless_end (end_word y v))
  ender-of y s v = ender-decoded y (readers y.read_locks v) (version_in y.versions v).ender (s.enders v) (s.flags v) s.bounded

  version-within : (v : ℕ) → v < length w.versions → timeless_version (version_in w.versions v) ≡ timeless_version (version_in x.versions v)
  version-within v b =
      let key = version-at v b in
      let words : timeless_ender (version_in w.versions v).ender ≡ timeless_ender (version_in x.versions v).ender =
      ender-of w sw v ∙ ap (λ (z : VersionKey). decoded z.end) key ∙ sym (ender-of x sx v) in
      ap {A = VersionKey} {B = Version} (λ z. record { key = z.key; value = z.value; creator = z.begin; ender = timeless_ender (version_in w.versions v).ender }) key
      ∙ ap {A = Ender} {B = Version} (λ z. record { key = (version_in x.versions v).key; value = (version_in x.versions v).value; creator = timeless_creator (version_in x.versions v).creator; ender = z }) words

  version-same : (v : ℕ) → timeless_version (version_in w.versions v) ≡ timeless_version (version_in x.versions v)
  version-same v = elim (within-or-not v (length w.versions)) [
    | inl b ↦ version-within v b
    | inr b ↦ ap timeless_version (past-end w.versions v no_version b ∙ sym (past-end x.versions v no_version (subst (λ n. n ≤ v) versions-count b)))
  ]

  txn-within : (i : ℕ) → i < length w.txns → timeless_txn (txn_in w.txns (i + 1)) ≡ timeless_txn (txn_in x.txns (i + 1))
  txn-within i b =
      ap {A = TxnShape} {B = Txn} (λ z. record { level = z.level; state = z.state; begin = 0; end = 0; no_more_waits = z.no_more_waits; abort_now = z.abort_now }) (txn-at i b)

  txn-same : (i : ℕ) → timeless_txn (txn_in w.txns (suc i)) ≡ timeless_txn (txn_in x.txns (suc i))
  txn-same i = elim (within-or-not i (length w.txns)) [
    | inl b ↦ let n : i + 1 ≡ suc i = omega arith in subst (λ n. timeless_txn (txn_in w.txns n) ≡ timeless_txn (txn_in x.txns n)) n (txn-within i b)
    | inr b ↦ ap timeless_txn (past-end w.txns i no_txn b ∙ sym (past-end x.txns i no_txn (subst (λ n. n ≤ i) txns-count b)))
  ]

  versions-same : map timeless_version w.versions ≡ map timeless_version x.versions
  versions-same = answers-from timeless_version timeless_version no_version w.versions x.versions versions-count version-same

  txns-same : map timeless_txn w.txns ≡ map timeless_txn x.txns
  txns-same = answers-from timeless_txn timeless_txn no_txn w.txns x.txns txns-count txn-same

  -- a transaction that is not declared owns nothing
  owns-none : (y : World) (s : Sound y) (t : ℕ) → txn_in y.txns t ≡ no_txn → OwnsNothing y t
  owns-none y s t is = s.unbegun_owns t (ap (λ (z : Txn). z.state) is)

  -- what holds of declared transactions by their keys, and of others since they own nothing, holds of all
  each-txn : (P : ℕ → Type 0) → ((i : ℕ) → i < length w.txns → P (i + 1)) → ((t : ℕ) → OwnsNothing w t → OwnsNothing x t → P t) → (t : ℕ) → P t
  each-txn P here none zero = none 0 (owns-none w sw 0 refl) (owns-none x sx 0 refl)
  each-txn P here none (suc i) = elim (within-or-not i (length w.txns)) [
    | inl b ↦ let n : i + 1 ≡ suc i = omega arith in subst P n (here i b)
    | inr b ↦ none (suc i) (owns-none w sw (suc i) (past-end w.txns i no_txn b)) (owns-none x sx (suc i) (past-end x.txns i no_txn (subst (λ n. n ≤ i) txns-count b)))
  ]

  abbrev between : World
  between = holding w x

  pub grouped : Regrouped w between
  grouped = record {
    buckets = refl;
    clock = refl;
    versions = refl;
    txns = refl;
    read_sets = each-txn (λ t. read_set w t ≡ read_set x t) (λ i b. ap (λ (z : TxnShape). z.reads) (txn-at i b)) (λ t a c. a.reads ∙ sym c.reads);
    write_sets = each-txn (λ t. write_set w t ≡ write_set x t) (λ i b. ap (λ (z : TxnShape). z.writes) (txn-at i b)) (λ t a c. a.writes ∙ sym c.writes);
    bucket_sets = each-txn (λ t. bucket_set w t ≡ bucket_set x t) (λ i b. ap (λ (z : TxnShape). z.buckets) (txn-at i b)) (λ t a c. a.buckets ∙ sym c.buckets);
    waiting_lists = each-txn (λ t. waiting_list w t ≡ waiting_list x t) (λ i b. ap (λ (z : TxnShape). z.waiters) (txn-at i b)) (λ t a c. a.waiters ∙ sym c.waiters);
    dependents = each-txn (λ t. dependents_of w t ≡ dependents_of x t) (λ i b. ap (λ (z : TxnShape). z.dependents) (txn-at i b)) (λ t a c. a.dependents ∙ sym c.dependents);
  }

  -- ---- looks
  pw : Past w.clock w.versions w.txns
  pw = sound-past w sw

  px : Past x.clock x.versions x.txns
  px = sound-past x sx

  some-same : {X : Type 0} (a b : X) → Some a ≡ Some b → a ≡ b
  some-same a b h = cc

  look-within : (i : ℕ) → i < length w.txns → looks_back (txn_in w.txns (i + 1)) ≡ true → after_time w (txn_in w.txns (i + 1)).begin ≡ after_time x (txn_in x.txns (i + 1)).begin
  look-within i b l =
      let m : looks_back (txn_in x.txns (i + 1)) ≡ true = sym (ap looks_back (txn-within i b)) ∙ l in
      some-same _ _
      (sym (cond-true _ (Some (after_time w (txn_in w.txns (i + 1)).begin)) None l) ∙ ap (λ (z : TxnShape). z.look) (txn-at i b)
      ∙ cond-true _ (Some (after_time x (txn_in x.txns (i + 1)).begin)) None m)

  look-alike : (r q : ℕ) → r < infinity → q < infinity → after_time w r ≡ after_time x q → LookAlike w.versions x.versions w.txns x.txns r q
  look-alike r q low short a = record {
    made = λ v. elim (within-or-not v (length w.versions)) [
      | inl b ↦ upto-same (λ v. nat_lt r (made_time (begin_word w v))) (λ v. nat_lt q (made_time (begin_word x v))) (length w.versions)
          (ap (λ (z : After). z.made) a ∙ ap (list_upto (λ v. nat_lt q (made_time (begin_word x v)))) (sym versions-count)) v b
      | inr b ↦
          let here : nat_lt r infinity ≡ true = lt-ltb r infinity low in
          let there : nat_lt q infinity ≡ true = lt-ltb q infinity short in
          ap (λ (z : Version). nat_lt r (made_time z.creator)) (past-end w.versions v no_version b) ∙ here ∙ sym there
          ∙ sym (ap (λ (z : Version). nat_lt q (made_time z.creator)) (past-end x.versions v no_version (subst (λ n. n ≤ v) versions-count b)))
    ];
    ended = λ v.
        let one : ended_time (version_in w.versions v).ender ≡ until_time (end_word w v) = ended-until w (readers w.read_locks v) (version_in w.versions v).ender (sw.enders v) sw.bounded in
        let two : ended_time (version_in x.versions v).ender ≡ until_time (end_word x v) = ended-until x (readers x.read_locks v) (version_in x.versions v).ender (sx.enders v) sx.bounded in
        elim (within-or-not v (length w.versions)) [
          | inl b ↦ ap (nat_lt r) one ∙ upto-same (λ v. nat_lt r (until_time (end_word w v))) (λ v. nat_lt q (until_time (end_word x v))) (length w.versions)
              (ap (λ (z : After). z.ended) a ∙ ap (list_upto (λ v. nat_lt q (until_time (end_word x v)))) (sym versions-count)) v b ∙ sym (ap (nat_lt q) two)
          | inr b ↦
              let here : nat_lt r 0 ≡ false = le-ltb r 0 (omega arith) in
              let there : nat_lt q 0 ≡ false = le-ltb q 0 (omega arith) in
              ap (λ (z : Version). nat_lt r (ended_time z.ender)) (past-end w.versions v no_version b) ∙ here ∙ sym there
              ∙ sym (ap (λ (z : Version). nat_lt q (ended_time z.ender)) (past-end x.versions v no_version (subst (λ n. n ≤ v) versions-count b)))
        ];
    prepared = λ u p. prepared-at u p;
  }
    where
      prepared-within : (i : ℕ) → i < length w.txns → is_prepared (txn_in w.txns (i + 1)).state ≡ true → nat_lt r (txn_in w.txns (i + 1)).end ≡ nat_lt q (txn_in x.txns (i + 1)).end
      prepared-within i b p =
          let there : is_prepared (txn_in x.txns (i + 1)).state ≡ true = sym (ap (λ (z : Txn). is_prepared z.state) (txn-within i b)) ∙ p in
          let both : (is_prepared (txn_in w.txns (i + 1)).state && nat_lt r (txn_in w.txns (i + 1)).end) ≡ (is_prepared (txn_in x.txns (i + 1)).state && nat_lt q (txn_in x.txns (i + 1)).end) =
          upto-same (λ i. is_prepared (txn_in w.txns (i + 1)).state && nat_lt r (txn_in w.txns (i + 1)).end) (λ i. is_prepared (txn_in x.txns (i + 1)).state && nat_lt q (txn_in x.txns (i + 1)).end) (length w.txns)
          (ap (λ (z : After). z.prepared) a ∙ ap (list_upto (λ i. is_prepared (txn_in x.txns (i + 1)).state && nat_lt q (txn_in x.txns (i + 1)).end)) (sym txns-count)) i b in
          sym (ap (λ c. c && nat_lt r (txn_in w.txns (i + 1)).end) p) ∙ both ∙ ap (λ c. c && nat_lt q (txn_in x.txns (i + 1)).end) there

      prepared-at : (u : ℕ) → is_prepared (txn_in w.txns u).state ≡ true → nat_lt r (txn_in w.txns u).end ≡ nat_lt q (txn_in x.txns u).end
      prepared-at zero p = absurd (let bad : false ≡ true = p in cc)
      prepared-at (suc i) p = elim (within-or-not i (length w.txns)) [
        | inl b ↦
            let n : i + 1 ≡ suc i = omega arith in
            subst (λ n. nat_lt r (txn_in w.txns n).end ≡ nat_lt q (txn_in x.txns n).end) n (prepared-within i b (subst (λ m. is_prepared (txn_in w.txns m).state ≡ true) (sym n) p))
        | inr b ↦ absurd (let bad : false ≡ true = sym (ap (λ (z : Txn). is_prepared z.state) (past-end w.txns i no_txn b)) ∙ p in cc)
      ]

  looks-at : (t : ℕ) → looks_back (txn_in w.txns t) ≡ true → LookAlike w.versions x.versions w.txns x.txns (txn_in w.txns t).begin (txn_in x.txns t).begin
  looks-at zero l = absurd (let bad : false ≡ true = l in cc)
  looks-at (suc i) l = elim (within-or-not i (length w.txns)) [
    | inl b ↦
        let n : i + 1 ≡ suc i = omega arith in
        let wb : (txn_in w.txns (i + 1)).begin < w.clock = pw.begins (i + 1) in
        let xb : (txn_in x.txns (i + 1)).begin < x.clock = px.begins (i + 1) in
        let wc : w.clock < infinity = sw.bounded in
        let xc : x.clock < infinity = sx.bounded in
        subst (λ n. LookAlike w.versions x.versions w.txns x.txns (txn_in w.txns n).begin (txn_in x.txns n).begin) n
        (look-alike (txn_in w.txns (i + 1)).begin (txn_in x.txns (i + 1)).begin (omega arith) (omega arith) (look-within i b (subst (λ m. looks_back (txn_in w.txns m) ≡ true) (sym n) l)))
    | inr b ↦ absurd (let bad : false ≡ true = sym (ap looks_back (past-end w.txns i no_txn b)) ∙ l in cc)
  ]

  pub keys-similar : w.buckets ≡ x.buckets → Similar between x
  keys-similar same = record {
    same = ap {A = ℕ} {B = World} (λ n. record (timeless between) { buckets = n }) same
        ∙ ap {A = List Version} {B = World} (λ l. record (timeless between) { buckets = x.buckets; versions = l }) versions-same
        ∙ ap {A = List Txn} {B = World} (λ l. record (timeless x) { txns = l }) txns-same;
    looks = looks-at;
  }

  -- ---- histories
  -- what holds of declared transactions by their keys holds of all, if it holds of the others
  pub each-declared : (P : ℕ → Type 0) → ((z : ℕ) → txn_shape w h z ≡ txn_shape x k z → P z) → ((t : ℕ) → (IsDeclared (length w.txns) t → ⊥) → P t) → (t : ℕ) → P t
  each-declared P here none zero = none 0 (λ d. absurd (omega (arith, d.0)))
  each-declared P here none (suc i) = elim (within-or-not i (length w.txns)) [
    | inl b ↦ let n : i + 1 ≡ suc i = omega arith in subst P n (here (i + 1) (txn-at i b))
    | inr b ↦ none (suc i) (λ d. absurd (omega (arith, d.1, b)))
  ]

other-txn : (n t u : ℕ) (o : Option ℕ) → (IsDeclared n t → ⊥) → IsDeclared n u → IsTrue (is_that u o) → is_id o t ≡ false
other-txn n t u None not d h = refl
other-txn n t u (Some z) not d h =
    let is : z ≡ u = grind (arith, nat_tests, h) in
    let other : z ≡ t → ⊥ = λ e. not (subst (IsDeclared n) (sym is ∙ e) d) in
    grind (arith, nat_tests, other)

none-judged : (n t : ℕ) (xs : List Entry) → (IsDeclared n t → ⊥) → IsHistory n xs → judged_part t (steps_in xs) ≡ []
none-judged n t [] not all = refl
none-judged n t (x ∷ xs) not all =
    let head : IsEntry n x = All-head (IsEntry n) x xs all in
    let other : is_of t x.event ≡ false = other-txn n t x.worker (txn_of x.event) not head.0 head.1 in
    rw other (none-judged n t xs not (All-tail (IsEntry n) x xs all))

none-ends : (n t : ℕ) (xs : List Entry) → (IsDeclared n t → ⊥) → IsHistory n xs → end_in t xs ≡ ending.Unended
none-ends n t [] not all = refl
none-ends n t (x ∷ xs) not all =
    let head : IsEntry n x = All-head (IsEntry n) x xs all in
    let ne : x.worker ≡ t → ⊥ = λ e. not (subst (IsDeclared n) e head.0) in
    let other : (x.worker == t) ≡ false = grind (arith, nat_tests, ne) in
    rw other (none-ends n t xs not (All-tail (IsEntry n) x xs all))

world-count : (p : Plan) (h : List Entry) → length (world_after p h).txns ≡ length p.txns
world-count p h =
    (fixed-run (opening_of p 1) (history_events h)).count ∙ length-map (levels_of p) (λ (l : Level). new_txn l) ∙ length-map p.txns (λ (t : List ℕ × Level). t.1)

-- ---- worlds with their versions by group
pub sorted-sound : (g : ℕ → ℕ) (w : World) → Sound w → Sound (sorted_by g w)
sorted-sound g w s = worlds-sound (by_group g w) w (by_group-renumbers g w) s

alike-sorted : (g : ℕ → ℕ) (w : World) → Alike g w (sorted_by g w)
alike-sorted g w = record {
  renumbering = by_group g w;
  groups = refl;
  renumbers = by_group-renumbers g w;
  between = sorted_by g w;
  regrouped = regrouped-itself (sorted_by g w);
  similar = similar-itself (sorted_by g w);
}

keys-alike : (g : ℕ → ℕ) (w x : World) → Sound w → Sound x → (P Q : List Place) (h k : List Entry) → w.buckets ≡ x.buckets → shape_in (sorted_by g w) P h ≡ shape_in (sorted_by g x) Q k
    → Alike g w x
keys-alike g w x sw sx P Q h k same e =
    alike-in_turn g w (sorted_by g x) x
    (record {
      renumbering = by_group g w;
      groups = refl;
      renumbers = by_group-renumbers g w;
      between = holding (sorted_by g w) (sorted_by g x);
      regrouped = grouped (sorted_by g w) (sorted_by g x) (sorted-sound g w sw) (sorted-sound g x sx) P Q h k e;
      similar = keys-similar (sorted_by g w) (sorted_by g x) (sorted-sound g w sw) (sorted-sound g x sx) P Q h k e same;
    })
    (alike-both_ways g x (sorted_by g x) (alike-sorted g x))

pub keys-twins : EqualKeysMakeTwins
keys-twins p form works past others places seats h k plan first other e =
    let sw : Sound (world_after p h) = reachable-sound (world_after p h) (world-reachable p h plan first.placed) in
    let sx : Sound (world_after p k) = reachable-sound (world_after p k) (world-reachable p k plan other.placed) in
    let buckets : (world_after p h).buckets ≡ (world_after p k).buckets = (fixed-run (opening_of p 1) (history_events h)).buckets ∙ sym (fixed-run (opening_of p 1) (history_events k)).buckets in
    let count : length (world_after p h).txns ≡ length p.txns = world-count p h in (
      ap (λ (z : Shape). z.places) e,
      record {
        worlds = keys-alike (group_in p) (world_after p h) (world_after p k) sw sx places seats h k buckets e;
        told = record {
          drawn = ap (λ (z : Shape). z.drawn) e;
          parts = each-declared (sorted_by (group_in p) (world_after p h)) (sorted_by (group_in p) (world_after p k)) (sorted-sound (group_in p) (world_after p h) sw) (sorted-sound (group_in p) (world_after p k) sx) places seats h k e (λ t. judged_part t (steps_in h) ≡ judged_part t (steps_in k))
              (λ t same. ap (λ (z : TxnShape). z.part) same)
              (λ t not. none-judged (length p.txns) t h (subst (λ n. IsDeclared n t → ⊥) count not) first.formed ∙ sym (none-judged (length p.txns) t k (subst (λ n. IsDeclared n t → ⊥) count not) other.formed));
        };
        ends = each-declared (sorted_by (group_in p) (world_after p h)) (sorted_by (group_in p) (world_after p k)) (sorted-sound (group_in p) (world_after p h) sw) (sorted-sound (group_in p) (world_after p k) sx) places seats h k e (λ t. end_in t h ≡ end_in t k)
            (λ t same. ap (λ (z : TxnShape). z.ending) same)
            (λ t not. none-ends (length p.txns) t h (subst (λ n. IsDeclared n t → ⊥) count not) first.formed ∙ sym (none-ends (length p.txns) t k (subst (λ n. IsDeclared n t → ⊥) count not) other.formed));
        waited = ap (λ (z : Shape). z.waited) e;
      },
    )
