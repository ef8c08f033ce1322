-- Each entry of a write set names its transaction in the word; an End word may have lost an aborted one.
use Rattle.std.proofs.Common.{◌≡◌, ℕ, Bool, true, false, List, [], ◌∷◌, ◌++◌, Some, None, refl, ◌∙◌, ap, sym, arith, inl, inr, ⊎_elim, subst, length}
use Rattle.std.proofs.lemmas.Bool.{cases_Bool, cases_eq, cond-true, cond-false, cond_both, false≢true, eqb-true, eq-eqb}
use Rattle.std.specs.Prelude.{◌==◌, ◌⊎◌, slice_set}
use Rattle.hek_rules.specs.declared.event.Effect.{Effect}
use Rattle.hek_rules.specs.declared.event.Effect.TheVariants.{WriteLock}
use Rattle.hek_rules.specs.declared.event.State.TheVariants as state
use Rattle.hek_rules.specs.declared.event.WriteEntry.{WriteEntry}
use Rattle.hek_rules.specs.declared.event.WriteEntry.TheVariants.{BeginOf, EndOf}
use Rattle.hek_rules.specs.declared.word.BeginRecord.{BeginRecord}
use Rattle.hek_rules.specs.declared.word.BeginRecord.TheVariants.{At, By}
use Rattle.hek_rules.specs.Listing.{leave, seconds_of}
use Rattle.hek_rules.specs.World.{World, Txn, Version, Ender, EndedAt, Held, txn_in, set_txn, version_in, is_held_by, is_made_by, is_aborted, no_version}
use Rattle.hek_rules.specs.Waits.{readers}
use Rattle.hek_rules.specs.Locks.{cleared, with_ender, add_version}
use Rattle.hek_rules.specs.Walk.{Purpose, apply_all}
use Rattle.hek_rules.specs.Table.{begin, finish, prepare, commit, drop_read, sealed, given_back, without_entry, entries_of}
use Rattle.hek_laws.specs.Lists.{In, Once}
use Rattle.hek_laws.proofs.Table.SetTxns.{each_txn-set, each_txn-doom, txn_in-set_other}
use Rattle.hek_laws.proofs.Table.Unchanged.{apply_all-times}
use Rattle.hek_laws.proofs.Table.WorldSteps.{EachStep}
use Rattle.hek_laws.proofs.Walks.Judged.{In-split}
use Rattle.hek_laws.proofs.Walks.Walked.{write-done}
use Rattle.hek_laws.proofs.Walks.Walking.{Walking, Locks, can-all, moved}
use Rattle.hek_laws.proofs.Walks.ReadLocks.{tested-there}
use Rattle.hek_laws.proofs.Words.Version.{entry-was}
use Rattle.hek_laws.proofs.Words.Walks.{entries-from}
use Rattle.hek_laws.proofs.Words.EachEvent.{entry-In, entries-In, entries-none}
use Rattle.hek_laws.proofs.Futures.Written.{append-cases, append-last}
use Rattle.hek_laws.proofs.Sound.WaitCounts.{version_in-set, held-sealed}
use Rattle.hek_laws.proofs.Words.Alone.{Entries, held-cleared, held-free}
use Rattle.hek_laws.proofs.Sound.Singles.{Single}

-- ---- single words
one-maker : (t u : ℕ) (c : BeginRecord) → is_made_by t c ≡ true → is_made_by u c ≡ true → u ≡ t
one-maker t u (At time) m n = absurd (false≢true m)
one-maker t u (By x) m n = sym (eqb-true x u n) ∙ eqb-true x t m

one-holder : (t u : ℕ) (e : Ender) → is_held_by t e ≡ true → is_held_by u e ≡ true → u ≡ t
one-holder t u (EndedAt time) m n = absurd (false≢true m)
one-holder t u (Held None b) m n = absurd (false≢true m)
one-holder t u (Held (Some x) b) m n = sym (eqb-true x u n) ∙ eqb-true x t m

held-given : (u t : ℕ) (e : Ender) → is_held_by u e ≡ true → (is_held_by u (given_back t e) ≡ true) ⊎ (u ≡ t)
held-given u t (EndedAt time) h = absurd (false≢true h)
held-given u t (Held None b) h = absurd (false≢true h)
held-given u t (Held (Some x) b) h =
    ⊎_elim (λ y. inr (sym (eqb-true x u h) ∙ eqb-true x t y))
    (λ n. inl (ap (is_held_by u) (cond-false (x == t) (Held None false) (Held (Some x) b) n) ∙ h)) (cases_Bool (x == t))

-- the first entry of t is not in the list without it
entry-gone : (ps : List (ℕ × WriteEntry)) (t : ℕ) (e : WriteEntry) (es : List WriteEntry) → Once ps → entries_of ps t ≡ e ∷ es → In (t, e) (without_entry ps t) → ⊥
entry-gone [] t e es o is i = i
entry-gone (p ∷ ps) t e es o is i =
    ⊎_elim
    (λ y.
    let q : p.1 ∷ entries_of ps t ≡ e ∷ es = sym (cond-true (p.0 == t) (p.1 ∷ entries_of ps t) (entries_of ps t) y) ∙ is in
    let first : p.1 ≡ e = cc in
    let j = subst (In (t, e)) (cond-true (p.0 == t) ps (p ∷ without_entry ps t) y) i in
    o.0 (subst (λ (x : ℕ × WriteEntry). In x ps) (λ k. (sym (eqb-true p.0 t y) k, sym first k)) j))
    (λ n.
    let rest = sym (cond-false (p.0 == t) (p.1 ∷ entries_of ps t) (entries_of ps t) n) ∙ is in
    ⊎_elim (λ here. false≢true (sym n ∙ eq-eqb p.0 t (ap (λ (x : ℕ × WriteEntry). x.0) (sym here)))) (λ later. entry-gone ps t e es o.1 rest later)
    (subst (In (t, e)) (cond-false (p.0 == t) ps (p ∷ without_entry ps t) n) i))
    (cases_Bool (p.0 == t))

module _ (w : World) (k : Entries w) (s : Single w) where
  -- the entries after a transaction that has not aborted changes
  sets : (new : World) (t : ℕ) (x : Txn) → new.txns ≡ set_txn w.txns t x → new.versions ≡ w.versions → new.writes ≡ w.writes → is_aborted (txn_in w.txns t).state ≡ false → Entries new
  sets new t x e v l n = record {
    made = λ u j i. ap (λ vs. is_made_by u (version_in vs j).creator) v ∙ k.made u j (subst (In (u, BeginOf j)) l i);
    ended = λ u j i. ⊎_elim (λ h. inl (ap (λ vs. is_held_by u (version_in vs j).ender) v ∙ h))
        (λ a. inr (ap (λ ts. is_aborted (txn_in ts u).state) e ∙ each_txn-set (λ m y. is_aborted (txn_in w.txns m).state ≡ true → is_aborted y.state ≡ true) w.txns t x (λ m q. q) (λ q. absurd (false≢true (sym n ∙ q))) u a))
        (k.ended u j (subst (In (u, EndOf j)) l i));
  }

  pub entries-walked : (t : ℕ) (p : Purpose) (bucket : ℕ) (test : ℕ → Version → Bool) (es : List Effect) → Walking w t p bucket test es → Entries (apply_all t w es)
  entries-walked t p bucket test es y =
      let L = apply_all t w es in
      let moves = moved w t p bucket test es y in
      let lost : (u : ℕ) → is_aborted (txn_in w.txns u).state ≡ true → is_aborted (txn_in L.txns u).state ≡ true = λ u a. ap (λ ts. is_aborted (txn_in ts u).state) (apply_all-times t w es).txns ∙ a in
      record {
        made = λ u v i. ap (is_made_by u) (moves v).creator ∙ ⊎_elim (k.made u v) (λ q. let z : BeginOf v ≡ EndOf q.0 = ap (λ (x : ℕ × WriteEntry). x.1) q.1 in cc) (entries-from t w es (u, BeginOf v) i);
        ended = λ u v i.
            ⊎_elim
            (λ q. ⊎_elim
            (λ h. ⊎_elim (λ e. inl (ap (is_held_by u) e ∙ h))
            (λ r. ⊎_elim (λ e. ⊎_elim (λ c. inl (ap (is_held_by u) e ∙ c)) (λ a. inr (lost u a)) (held-cleared w.txns u (version_in w.versions v).ender h))
            (λ z. ⊎_elim (λ c. absurd (held-free u (cleared w.txns (version_in w.versions v).ender) c z.1.0)) (λ a. inr (lost u a)) (held-cleared w.txns u (version_in w.versions v).ender h)) r) (moves v).ender)
            (λ a. inr (lost u a)) (k.ended u v q))
            (λ q.
            let un : u ≡ t = ap (λ (x : ℕ × WriteEntry). x.0) q.1 in
            let pl : EndOf v ≡ EndOf q.0 = ap (λ (x : ℕ × WriteEntry). x.1) q.1 in
            let at : v ≡ q.0 = cc in
            let lock : In (WriteLock v) es = subst (λ n. In (WriteLock n) es) (sym at) q.2 in
            inl (subst (λ n. is_held_by n (version_in L.versions v).ender ≡ true) (sym un)
            (write-done w t (Locks w es) y.state v es (tested-there test w.versions v (y.warrant (WriteLock v) lock).2) lock (can-all w t p bucket test es y))))
            (entries-from t w es (u, EndOf v) i);
      }

  added : (l : World) (t key value : ℕ) → Entries l → Entries (add_version l t key value)
  added l t key value o =
      let y : Version = record { key = key; value = value; creator = By t; ender = Held None false } in
      let n = length l.versions in
      record {
        made = λ u v i. ⊎_elim (λ q. old u v (append-cases l.versions y v) (λ x. is_made_by u x.creator) refl (o.made u v q))
            (λ q. ⊎_elim (λ e.
            let at : BeginOf v ≡ BeginOf n = ap (λ (x : ℕ × WriteEntry). x.1) e in
            let place : v ≡ n = cc in
            ap (λ m. is_made_by u (version_in (l.versions ++ y ∷ []) m).creator) place ∙ ap (λ (x : Version). is_made_by u x.creator) (append-last l.versions y) ∙ eq-eqb t u (ap (λ (x : ℕ × WriteEntry). x.0) (sym e)))
            (λ z. absurd z) q)
            (In-split (u, BeginOf v) l.writes ((t, BeginOf n) ∷ []) i);
        ended = λ u v i. ⊎_elim (λ q. ⊎_elim (λ h. inl (old u v (append-cases l.versions y v) (λ x. is_held_by u x.ender) refl h)) (λ a. inr a) (o.ended u v q))
            (λ q. ⊎_elim (λ e. let z : EndOf v ≡ BeginOf n = ap (λ (x : ℕ × WriteEntry). x.1) e in cc) (λ z. absurd z) q) (In-split (u, EndOf v) l.writes ((t, BeginOf n) ∷ []) i);
      }
    where
      old : {y : Version} (u v : ℕ) → (version_in (l.versions ++ y ∷ []) v ≡ version_in l.versions v) ⊎ ((v ≡ length l.versions) × (version_in (l.versions ++ y ∷ []) v ≡ y) × (version_in l.versions v ≡ no_version)) →
          (test : Version → Bool) → test no_version ≡ false → test (version_in l.versions v) ≡ true → test (version_in (l.versions ++ y ∷ []) v) ≡ true
      old {y} u v c test n h = ⊎_elim (λ e. ap test e ∙ h) (λ q. absurd (false≢true (sym n ∙ ap test (sym q.2) ∙ h))) c

  -- the entries after a version gets another ender
  with-ender : (new : World) (v : ℕ) (f : Ender) → new.txns ≡ w.txns → new.versions ≡ slice_set w.versions v (with_ender (version_in w.versions v) f) → ((x : ℕ × WriteEntry) → In x new.writes → In x w.writes) →
      ((u : ℕ) → In (u, EndOf v) new.writes → (is_held_by u (version_in w.versions v).ender ≡ true) → (is_held_by u f ≡ true) ⊎ (is_aborted (txn_in w.txns u).state ≡ true)) → Entries new
  with-ender new v f e s l keeps = record {
    made = λ u j i. ap (λ vs. is_made_by u (version_in vs j).creator) s
        ∙ ⊎_elim (λ p. ap (λ (x : Version). is_made_by u x.creator) p.1 ∙ ap (λ n. is_made_by u (version_in w.versions n).creator) (sym p.0)) (λ q. ap (λ (x : Version). is_made_by u x.creator) q) (version_in-set w.versions v j _)
        ∙ k.made u j (l (u, BeginOf j) i);
    ended = λ u j i.
        ⊎_elim
        (λ h. ⊎_elim
        (λ p. ⊎_elim (λ c. inl (ap (λ vs. is_held_by u (version_in vs j).ender) s ∙ ap (λ (x : Version). is_held_by u x.ender) p.1 ∙ c)) (λ a. inr (ap (λ ts. is_aborted (txn_in ts u).state) e ∙ a))
        (keeps u (subst (λ n. In (u, EndOf n) new.writes) p.0 i) (ap (λ n. is_held_by u (version_in w.versions n).ender) (sym p.0) ∙ h)))
        (λ q. inl (ap (λ vs. is_held_by u (version_in vs j).ender) s ∙ ap (λ (x : Version). is_held_by u x.ender) q ∙ h)) (version_in-set w.versions v j _))
        (λ a. inr (ap (λ ts. is_aborted (txn_in ts u).state) e ∙ a)) (k.ended u j (l (u, EndOf j) i));
  }

  pub entries-step : EachStep w Entries
  entries-step = record {
    same = k;
    aborts = λ t cause l. record {
      made = k.made;
      ended = λ u j i. ⊎_elim (λ h. inl h) (λ a. inr (each_txn-doom (λ m y. is_aborted (txn_in w.txns m).state ≡ true → is_aborted y.state ≡ true) _ (seconds_of w.dependents t) (λ m y q. q)
          (each_txn-set (λ m y. is_aborted (txn_in w.txns m).state ≡ true → is_aborted y.state ≡ true) w.txns t (record (txn_in w.txns t) { state = state.Aborted cause }) (λ m q. q) (λ _. refl)) u a)) (k.ended u j i);
    };
    begins = λ t p. sets (begin w t) t _ refl refl refl (ap is_aborted p.state);
    walks = λ t p bucket test es y. entries-walked t p bucket test es y;
    adds = λ t p bucket test es key value y. added (apply_all t w es) t key value (entries-walked t p bucket test es y);
    finishes = λ t a. sets (finish w t) t _ refl refl refl (ap is_aborted a.state);
    prepares = λ t a _. sets (prepare w t) t _ refl refl refl (ap is_aborted a.state);
    drops = λ t v _. dropped t v;
    unlocks = λ t b _. record { made = k.made; ended = k.ended };
    frees = λ t u _. record { made = k.made; ended = k.ended };
    commits = λ t p _. sets (commit w t) t _ refl refl refl (ap is_aborted p.state);
    stamps_begin = λ t v time es is. record {
      made = λ u j i. let was = k.made u j (entry-was w.writes t u (BeginOf j) i) in
          ⊎_elim (λ same. let un = one-maker t u (version_in w.versions v).creator (k.made t v (entry-In w.writes t (BeginOf v) es is)) (subst (λ n. is_made_by u (version_in w.versions n).creator ≡ true) same was) in
          absurd (entry-gone w.writes t (BeginOf v) es s.writes_once is (subst (λ n. In (n, BeginOf v) (without_entry w.writes t)) un (subst (λ n. In (u, BeginOf n) (without_entry w.writes t)) same i))))
          (λ other. ⊎_elim (λ p. absurd (other p.0)) (λ q. ap (λ (x : Version). is_made_by u x.creator) q ∙ was) (version_in-set w.versions v j (record (version_in w.versions v) { creator = At time }))) (cases_eq j v);
      ended = λ u j i. ⊎_elim (λ h. inl (⊎_elim (λ p. ap (λ (x : Version). is_held_by u x.ender) p.1 ∙ ap (λ n. is_held_by u (version_in w.versions n).ender) (sym p.0)) (λ q. ap (λ (x : Version). is_held_by u x.ender) q) (version_in-set w.versions v j (record (version_in w.versions v) { creator = At time })) ∙ h))
          (λ a. inr a) (k.ended u j (entry-was w.writes t u (EndOf j) i));
    };
    stamps_end = λ t v es p is. with-ender _ v (EndedAt (txn_in w.txns t).end) refl refl (λ x i. entry-was w.writes t x.0 x.1 i)
        (λ u i h. ⊎_elim
        (λ mine. let un = one-holder t u (version_in w.versions v).ender mine h in absurd (entry-gone w.writes t (EndOf v) es s.writes_once is (subst (λ n. In (n, EndOf v) (without_entry w.writes t)) un i)))
        (λ a. absurd (false≢true (sym (ap is_aborted p.state) ∙ a))) (k.ended t v (entry-In w.writes t (EndOf v) es is)));
    gives_back = λ t v es cause p is. with-ender _ v (given_back t (version_in w.versions v).ender) refl refl (λ x i. entry-was w.writes t x.0 x.1 i)
        (λ u i h. ⊎_elim (λ y. inl y) (λ e. inr (ap (λ n. is_aborted (txn_in w.txns n).state) e ∙ ap is_aborted p.state)) (held-given u t (version_in w.versions v).ender h));
    ends = λ t p z. record {
      made = k.made;
      ended = λ u j i. ⊎_elim (λ h. inl h)
          (λ a. inr (ap (λ (x : Txn). is_aborted x.state) (txn_in-set_other w.txns t u _ (λ e. entries-none (entries_of w.writes t) (EndOf j) (entries-In w.writes t (EndOf j) (subst (λ n. In (n, EndOf j) w.writes) e i)) (let q = eqb-true _ 0 z in omega (arith, q)))) ∙ a)) (k.ended u j i);
    };
  }
    where
      dropped : (t v : ℕ) → Entries (drop_read w t v)
      dropped t v =
          let x = with_ender (version_in w.versions v) (sealed (version_in w.versions v).ender) in
          let zero = readers (leave w.read_locks t v) v == 0 in
          let same : (j u : ℕ) → ((is_made_by u (version_in (slice_set w.versions v x) j).creator ≡ is_made_by u (version_in w.versions j).creator)) × ((is_held_by u (version_in (slice_set w.versions v x) j).ender ≡ is_held_by u (version_in w.versions j).ender)) =
          λ j u. ⊎_elim (λ p. (ap (λ (y : Version). is_made_by u y.creator) p.1 ∙ ap (λ n. is_made_by u (version_in w.versions n).creator) (sym p.0), ap (λ (y : Version). is_held_by u y.ender) p.1 ∙ held-sealed u (version_in w.versions v).ender ∙ ap (λ n. is_held_by u (version_in w.versions n).ender) (sym p.0)))
          (λ e. (ap (λ (y : Version). is_made_by u y.creator) e, ap (λ (y : Version). is_held_by u y.ender) e)) (version_in-set w.versions v j x) in
          record {
            made = λ u j i. cond_both zero (slice_set w.versions v x) w.versions (λ vs. is_made_by u (version_in vs j).creator ≡ true) (λ _. (same j u).0 ∙ k.made u j i) (λ _. k.made u j i);
            ended = λ u j i. ⊎_elim (λ h. inl (cond_both zero (slice_set w.versions v x) w.versions (λ vs. is_held_by u (version_in vs j).ender ≡ true) (λ _. (same j u).1 ∙ h) (λ _. h))) (λ a. inr a) (k.ended u j i);
          }
