-- What transactions hold, by transaction.
use Rattle.std.proofs.Common.{◌≡◌, ℕ, zero, suc, ◌+◌, ◌<◌, ◌≤◌, true, List, [], ◌∷◌, ◌++◌, ◌⊎◌, inl, inr, refl, ◌∙◌, ap, sym, length, arith, ⊎_elim}
use Rattle.std.proofs.lemmas.Bool.{cases_lt, cases_eq, cond-true, cond-false, eq-eqb, ne_eqb, false≢true}
use Rattle.std.proofs.lemmas.List.{append-nil, length-map}
use Rattle.std.proofs.lemmas.Option.{slice_get_past}
use Rattle.std.specs.List.{flat_map, range_with_len}
use Rattle.std.specs.Prelude.{map, ◌==◌, unwrap_or}
use Rattle.hek_rules.specs.declared.event.WriteEntry.{WriteEntry}
use Rattle.hek_rules.specs.Listing.{seconds_of}
use Rattle.hek_rules.specs.World.{World, Txn, no_txn, txn_in, is_present, is_preparing}
use Rattle.hek_rules.specs.Table.{entries_of}
use Rattle.hek_laws.specs.Sound.{Sound}
use Rattle.hek_laws.proofs.Lists.Pairs.{seconds-none, entries-none}
use Rattle.hek_similar.specs.Similar.{Similar, timeless, timeless_txn}
use Rattle.hek_similar.specs.Holdings.{Regrouped, holding}
use Rattle.hek_similar.specs.Canonical.{by_first, by_writer, by_txn}
use Rattle.hek_similar.proofs.Holdings.Pairs.{gathered, gathered-append, seconds-gathered, entries-gathered}
use Rattle.hek_similar.proofs.Holdings.Judged.{holding-is}

-- ---- pairs by their first parts
-- the pairs of a with each of f a, of a + 1 with each of f (a + 1), and so on
abbrev collected : {X : Type 0} → (ℕ → List X) → ℕ → ℕ → List (ℕ × X)
collected f a n = flat_map (λ t. map (λ x. (t, x)) (f t)) (range_with_len a n)

gathered-own : {X : Type 0} (xs : List X) (a : ℕ) → gathered (map (λ x. (a, x)) xs) a ≡ xs
gathered-own [] a = refl
gathered-own (x ∷ xs) a = cond-true (a == a) _ _ (eq-eqb a a refl) ∙ ap (λ l. x ∷ l) (gathered-own xs a)

gathered-foreign : {X : Type 0} (xs : List X) (a c : ℕ) → (a ≡ c → ⊥) → gathered (map (λ x. (a, x)) xs) c ≡ []
gathered-foreign [] a c n = refl
gathered-foreign (x ∷ xs) a c n = cond-false (a == c) _ _ (ne_eqb a c n) ∙ gathered-foreign xs a c n

collected-off : {X : Type 0} (f : ℕ → List X) (a n c : ℕ) → (c < a) ⊎ (a + n ≤ c) → gathered (collected f a n) c ≡ []
collected-off f a zero c o = refl
collected-off f a (suc n) c o =
    gathered-append (map (λ x. (a, x)) (f a)) (collected f (a + 1) n) c
    ∙ ap (λ l. l ++ gathered (collected f (a + 1) n) c) (gathered-foreign (f a) a c (λ e. ⊎_elim (λ l. omega (arith, l, e)) (λ l. omega (arith, l, e)) o))
    ∙ collected-off f (a + 1) n c (⊎_elim (λ l. inl (omega (arith, l))) (λ l. inr (omega (arith, l))) o)

collected-at : {X : Type 0} (f : ℕ → List X) (a n c : ℕ) → a ≤ c → c < a + n → gathered (collected f a n) c ≡ f c
collected-at f a zero c l m = absurd (omega arith)
collected-at f a (suc n) c l m =
    gathered-append (map (λ x. (a, x)) (f a)) (collected f (a + 1) n) c
    ∙ ⊎_elim
    (λ e.
    ap (λ k. gathered (map (λ x. (k, x)) (f k)) c ++ gathered (collected f (a + 1) n) c) e
    ∙ ap (λ k. k ++ gathered (collected f (a + 1) n) c) (gathered-own (f c) c)
    ∙ ap (λ k. f c ++ k) (collected-off f (a + 1) n c (inl (omega (arith, e))))
    ∙ append-nil (f c))
    (λ o.
    ap (λ k. k ++ gathered (collected f (a + 1) n) c) (gathered-foreign (f a) a c o)
    ∙ collected-at f (a + 1) n c (⊎_elim (λ q. omega (arith, q)) (λ q. absurd (o (omega (arith, q, l)))) (cases_lt a c)) (omega (arith, m)))
    (cases_eq a c)

first-kept : (n : ℕ) (ps : List (ℕ × ℕ)) → ((a : ℕ) → n < a → seconds_of ps a ≡ []) → (a : ℕ) → seconds_of ps a ≡ seconds_of (by_first n ps) a
first-kept n ps none a =
    sym (seconds-gathered (by_first n ps) a
    ∙ ⊎_elim (λ l. collected-off (seconds_of ps) 0 (n + 1) a (inr (omega (arith, l))) ∙ sym (none a l)) (λ l. collected-at (seconds_of ps) 0 (n + 1) a (omega arith) (omega (arith, l))) (cases_lt n a))

writer-kept : (n : ℕ) (ps : List (ℕ × WriteEntry)) → ((a : ℕ) → n < a → entries_of ps a ≡ []) → (a : ℕ) → entries_of ps a ≡ entries_of (by_writer n ps) a
writer-kept n ps none a =
    sym (entries-gathered (by_writer n ps) a
    ∙ ⊎_elim (λ l. collected-off (entries_of ps) 0 (n + 1) a (inr (omega (arith, l))) ∙ sym (none a l)) (λ l. collected-at (entries_of ps) 0 (n + 1) a (omega arith) (omega (arith, l))) (cases_lt n a))

-- ---- a sound world is regrouped so
txn-past : (ts : List Txn) (a : ℕ) → length ts < a → txn_in ts a ≡ no_txn
txn-past ts zero l = refl
txn-past ts (suc i) l = ap (λ o. unwrap_or o no_txn) (slice_get_past ts i (omega (arith, l)))

pub regrouped-by_txn : (w : World) → Sound w → Regrouped w (by_txn w)
regrouped-by_txn w s = record {
  buckets = refl;
  clock = refl;
  versions = refl;
  txns = refl;
  read_sets = first-kept (length w.txns) w.read_locks (λ a l. seconds-none w.read_locks a (λ b k. absent a l (s.reader_present a b k)));
  write_sets = writer-kept (length w.txns) w.writes (λ a l. entries-none w.writes a (λ e i. absent a l (s.writer_present a e i)));
  bucket_sets = first-kept (length w.txns) w.bucket_locks (λ a l. seconds-none w.bucket_locks a (λ b k. absent a l (s.locker_present a b k)));
  waiting_lists = first-kept (length w.txns) w.waiters (λ a l. seconds-none w.waiters a (λ b k. absent a l (s.holder_present a b k)));
  dependents = first-kept (length w.txns) w.dependents (λ a l. seconds-none w.dependents a (λ b k. false≢true (ap (λ y. is_preparing y.state) (sym (txn-past w.txns a l)) ∙ s.depended_preparing a b k)));
}
  where
    absent : (a : ℕ) → length w.txns < a → is_present (txn_in w.txns a).state ≡ true → ⊥
    absent a l p = false≢true (ap (λ y. is_present y.state) (sym (txn-past w.txns a l)) ∙ p)

-- ---- regrouped worlds come to the same
flat-by : {A B : Type 0} (f g : A → List B) (xs : List A) → ((x : A) → f x ≡ g x) → flat_map f xs ≡ flat_map g xs
flat-by f g [] h = refl
flat-by f g (x ∷ xs) h = ap (λ l. l ++ flat_map f xs) (h x) ∙ ap (λ l. g x ++ l) (flat-by f g xs h)

same-first : (n : ℕ) (ps qs : List (ℕ × ℕ)) → ((a : ℕ) → seconds_of ps a ≡ seconds_of qs a) → by_first n ps ≡ by_first n qs
same-first n ps qs h = flat-by (λ t. map (λ v. (t, v)) (seconds_of ps t)) (λ t. map (λ v. (t, v)) (seconds_of qs t)) (range_with_len 0 (n + 1)) (λ t. ap (map (λ v. (t, v))) (h t))

same-writer : (n : ℕ) (ps qs : List (ℕ × WriteEntry)) → ((a : ℕ) → entries_of ps a ≡ entries_of qs a) → by_writer n ps ≡ by_writer n qs
same-writer n ps qs h = flat-by (λ t. map (λ e. (t, e)) (entries_of ps t)) (λ t. map (λ e. (t, e)) (entries_of qs t)) (range_with_len 0 (n + 1)) (λ t. ap (map (λ e. (t, e))) (h t))

pub same-by_txn : (w x : World) → Regrouped w x → by_txn w ≡ by_txn x
same-by_txn w x g =
    let n : ℕ = length w.txns in
    let z : World = by_txn (holding w x) in
    ap (λ l. record (by_txn w) { read_locks = l }) (same-first n w.read_locks x.read_locks g.read_sets)
    ∙ ap (λ l. record (by_txn w) { read_locks = z.read_locks; writes = l }) (same-writer n w.writes x.writes g.write_sets)
    ∙ ap (λ l. record (by_txn w) { read_locks = z.read_locks; writes = z.writes; bucket_locks = l }) (same-first n w.bucket_locks x.bucket_locks g.bucket_sets)
    ∙ ap (λ l. record z { waiters = l; dependents = by_first n w.dependents }) (same-first n w.waiters x.waiters g.waiting_lists)
    ∙ ap (λ l. record z { dependents = l }) (same-first n w.dependents x.dependents g.dependents)
    ∙ ap by_txn (holding-is w x g)

-- ---- similar worlds stay similar
pub similar-by_txn : (w x : World) → Similar w x → Similar (by_txn w) (by_txn x)
similar-by_txn w x s = record { same = at w ∙ ap by_txn s.same ∙ sym (at x); looks = s.looks }
  where
    at : (y : World) → timeless (by_txn y) ≡ by_txn (timeless y)
    at y =
        ap (λ n. record (timeless y) { read_locks = by_first n y.read_locks; writes = by_writer n y.writes; bucket_locks = by_first n y.bucket_locks; waiters = by_first n y.waiters; dependents = by_first n y.dependents })
        (sym (length-map y.txns timeless_txn))
