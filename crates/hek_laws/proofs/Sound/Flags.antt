-- NoMoreReadLocks is set only under a writer, of a version without readers, and no version has more than 255 readers.
use Rattle.std.proofs.Common.{◌≡◌, ℕ, ◌<◌, ◌≤◌, Bool, true, false, List, Some, None, refl, ◌∙◌, ap, sym, arith, ⊎_elim, subst}
use Rattle.std.proofs.lemmas.Bool.{cases_Bool, cond-true, cond-false, cond_both, false≢true, eqb-true, eq-eqb, ltb-true, and_cases}
use Rattle.std.specs.Prelude.{not, nat_lt, ◌==◌, ◌&&◌, slice_set}
use Rattle.hek_rules.specs.declared.event.Cause.TheVariants.{ReadersFull, NoMoreWaits}
use Rattle.hek_rules.specs.declared.event.Effect.{Effect}
use Rattle.hek_rules.specs.declared.event.Effect.TheVariants.{ReadLock}
use Rattle.hek_rules.specs.declared.word.BeginRecord.TheVariants.{By}
use Rattle.hek_rules.specs.Listing.{leave, is_pair}
use Rattle.hek_rules.specs.World.{World, Txn, Version, Ender, EndedAt, Held, txn_in, version_in, places, is_aborted}
use Rattle.hek_rules.specs.Waits.{readers}
use Rattle.hek_rules.specs.Locks.{cleared, read_refusal, reads_freely, with_ender}
use Rattle.hek_rules.specs.Walk.{Purpose, apply_all}
use Rattle.hek_rules.specs.Table.{sealed, given_back, drop_read}
use Rattle.hek_laws.specs.Sound.{IsSoundEnder, IsSoundFlag, is_held}
use Rattle.hek_laws.proofs.Sound.WaitCounts.{version_in-set, readers-filter}
use Rattle.hek_laws.proofs.Futures.Written.{append-cases}
use Rattle.hek_laws.proofs.Walks.Sights.{seen-held}
use Rattle.hek_laws.proofs.Walks.Warrants.{Warrant}
use Rattle.hek_laws.proofs.Walks.ReadLocks.{Fresh, walk-locks}
use Rattle.hek_laws.proofs.Table.WorldSteps.{EachStep}
use Rattle.hek_laws.proofs.Walks.Walking.{Walking, moved}

pub record Flags (read_locks : List (ℕ × ℕ)) (vs : List Version) : Type 0 where
  pub flags : (v : ℕ) → IsSoundFlag (readers read_locks v) (version_in vs v).ender
  pub few : (v : ℕ) → readers read_locks v ≤ 255

-- ---- single enders
fewer-fits : (n m : ℕ) (e : Ender) → m ≤ n → IsSoundFlag n e → IsSoundFlag m e
fewer-fits n m (EndedAt time) l f = tt
fewer-fits n m (Held None b) l f = f
fewer-fits n m (Held (Some u) b) l f = λ q. let z = f q in omega (arith, l, z)

cleared-fits : (n : ℕ) (ts : List Txn) (e : Ender) → IsSoundFlag n e → IsSoundFlag n (cleared ts e)
cleared-fits n ts (EndedAt time) f = tt
cleared-fits n ts (Held None b) f = f
cleared-fits n ts (Held (Some u) b) f = cond_both (is_aborted (txn_in ts u).state) (Held None false) (Held (Some u) b) (IsSoundFlag n) (λ _. refl) (λ _. f)

pub held-cleared : (ts : List Txn) (e : Ender) → is_held e ≡ true → is_held (cleared ts e) ≡ true
held-cleared ts (EndedAt time) h = h
held-cleared ts (Held None b) h = refl
held-cleared ts (Held (Some u) b) h = cond_both (is_aborted (txn_in ts u).state) (Held None false) (Held (Some u) b) (λ e. is_held e ≡ true) (λ _. refl) (λ _. refl)

sealed-fits : (e : Ender) → IsSoundFlag 0 e → IsSoundFlag 0 (sealed e)
sealed-fits (EndedAt time) f = tt
sealed-fits (Held None b) f = f
sealed-fits (Held (Some u) b) f = λ _. refl

given-fits : (n t : ℕ) (e : Ender) → IsSoundFlag n e → IsSoundFlag n (given_back t e)
given-fits n t (EndedAt time) f = tt
given-fits n t (Held None b) f = f
given-fits n t (Held (Some u) b) f = cond_both (u == t) (Held None false) (Held (Some u) b) (IsSoundFlag n) (λ _. refl) (λ _. f)

-- a held version that a reader may lock has no flag, and room for the reader
pub record Open (ts : List Txn) (count : ℕ) (e : Ender) : Type 0 where
  pub fits : (n : ℕ) → IsSoundFlag n e
  pub room : count < 255
  -- a first reader makes no finished writer wait
  pub first : (u : ℕ) (b : Bool) → e ≡ Held (Some u) b → count ≡ 0 → (txn_in ts u).no_more_waits ≡ false

pub allowed-open : (ts : List Txn) (count : ℕ) (e : Ender) → is_held e ≡ true → read_refusal ts count e ≡ None → Open ts count e
allowed-open ts count (EndedAt time) h n = cc
allowed-open ts count (Held None true) h n = cc
allowed-open ts count (Held (Some u) true) h n = cc
allowed-open ts count (Held None false) h n =
    ⊎_elim (λ y. record { fits = λ m. refl; room = ltb-true count 255 y; first = λ u b q. cc })
    (λ f. let z : Some ReadersFull ≡ None = sym (cond-false (nat_lt count 255) None (Some ReadersFull) f) ∙ n in cc) (cases_Bool (nat_lt count 255))
allowed-open ts count (Held (Some u) false) h n =
    ⊎_elim
    (λ y.
    let rest = sym (cond-false (not (nat_lt count 255)) (Some ReadersFull) _ (ap not y)) ∙ n in
    ⊎_elim (λ q. let z : Some NoMoreWaits ≡ None = sym (cond-true (count == 0 && (txn_in ts u).no_more_waits) (Some NoMoreWaits) None q) ∙ rest in cc)
    (λ q. record { fits = λ m. refused m; room = ltb-true count 255 y; first = λ x b same z. waits q x b same z }) (cases_Bool (count == 0 && (txn_in ts u).no_more_waits)))
    (λ f. let z : Some ReadersFull ≡ None = sym (cond-true (not (nat_lt count 255)) (Some ReadersFull) _ (ap not f)) ∙ n in cc) (cases_Bool (nat_lt count 255))
  where
    refused : (m : ℕ) → false ≡ true → m ≡ 0
    refused m z = absurd (false≢true z)

    waits : (count == 0 && (txn_in ts u).no_more_waits) ≡ false → (x : ℕ) (b : Bool) → Held (Some u) false ≡ Held (Some x) b → count ≡ 0 → (txn_in ts x).no_more_waits ≡ false
    waits q x b same z =
        let one : u ≡ x = cc in
        subst (λ n. (txn_in ts n).no_more_waits ≡ false) one (⊎_elim (λ no'. absurd (false≢true (sym no' ∙ eq-eqb count 0 z))) (λ f. f) (and_cases _ _ q))

-- ---- the steps
set-fits : (ps : List (ℕ × ℕ)) (vs : List Version) (v : ℕ) (x : Version) → IsSoundFlag (readers ps v) x.ender → ((j : ℕ) → IsSoundFlag (readers ps j) (version_in vs j).ender) → (j : ℕ) → IsSoundFlag (readers ps j) (version_in (slice_set vs v x) j).ender
set-fits ps vs v x new old j =
    ⊎_elim (λ p. subst (λ y. IsSoundFlag (readers ps j) y.ender) (sym p.1) (subst (λ n. IsSoundFlag (readers ps n) x.ender) (sym p.0) new))
    (λ e. subst (λ y. IsSoundFlag (readers ps j) y.ender) (sym e) (old j)) (version_in-set vs v j x)

module _ (w : World) (f : Flags w.read_locks w.versions) (enders : (v : ℕ) → IsSoundEnder w (version_in w.versions v).ender) where
  -- a version that gets a reader by the walk may be read-locked
  pub fresh-open : (t : ℕ) (p : Purpose) (bucket : ℕ) (vs : List ℕ) (L : World) (v : ℕ) → Fresh w t (λ n. Warrant w t p bucket vs (ReadLock n)) L v → Open w.txns (readers w.read_locks v) (cleared w.txns (version_in w.versions v).ender)
  fresh-open t p bucket vs L v k =
      let r = k.warrant in
      let held = seen-held w t (version_in w.versions v).creator (version_in w.versions v).ender (enders v) r.2 in
      allowed-open w.txns (readers w.read_locks v) (cleared w.txns (version_in w.versions v).ender) (held-cleared w.txns (version_in w.versions v).ender held)
      (sym (cond-false (reads_freely w t v) None (read_refusal w.txns (readers w.read_locks v) (cleared w.txns (version_in w.versions v).ender)) k.free) ∙ r.3)

  pub walked : (t : ℕ) (p : Purpose) (bucket : ℕ) (test : ℕ → Version → Bool) (es : List Effect) → Walking w t p bucket test es → Flags (apply_all t w es).read_locks (apply_all t w es).versions
  walked t p bucket test es k =
      let L = apply_all t w es in
      let moves = moved w t p bucket test es k in
      let locks = λ (v : ℕ). walk-locks w t p bucket test es k v in
      record {
        flags = λ v.
            ⊎_elim
            (λ less.
            let fits = fewer-fits _ _ (version_in w.versions v).ender less (f.flags v) in
            ⊎_elim (λ e. subst (IsSoundFlag (readers L.read_locks v)) (sym e) fits)
            (λ q. ⊎_elim (λ e. subst (IsSoundFlag (readers L.read_locks v)) (sym e) (cleared-fits _ w.txns _ fits))
            (λ z. subst (IsSoundFlag (readers L.read_locks v)) (sym z.0) (λ y. absurd (false≢true y))) q) (moves v).ender)
            (λ new. subst (IsSoundFlag (readers L.read_locks v)) (sym new.ender) ((fresh-open t p bucket (places test 0 w.versions) L v new).fits (readers L.read_locks v))) (locks v);
        few = λ v. let old = f.few v in
            ⊎_elim (λ less. omega (arith, less, old))
            (λ new. let more = new.readers in let room = (fresh-open t p bucket (places test 0 w.versions) L v new).room in omega (arith, more, room)) (locks v);
      }

  pub flags-step : EachStep w (λ new. Flags new.read_locks new.versions)
  flags-step = record {
    same = f;
    aborts = λ t cause _. f;
    begins = λ t _. f;
    walks = λ t p bucket test es k. walked t p bucket test es k;
    adds = λ t p bucket test es key value k.
        let L = apply_all t w es in
        let g = walked t p bucket test es k in
        let y : Version = record { key = key; value = value; creator = By t; ender = Held None false } in
        record {
          flags = λ v. ⊎_elim (λ e. subst (λ x. IsSoundFlag (readers L.read_locks v) x.ender) (sym e) (g.flags v)) (λ q. subst (λ x. IsSoundFlag (readers L.read_locks v) x.ender) (sym q.1) refl) (append-cases L.versions y v);
          few = g.few;
        };
    finishes = λ t _. f;
    prepares = λ t _ _. f;
    drops = λ t v _. dropped t v;
    unlocks = λ t b _. f;
    frees = λ t u _. f;
    commits = λ t _ _. f;
    stamps_begin = λ t v time _ _. record { flags = set-fits w.read_locks w.versions v _ (f.flags v) f.flags; few = f.few };
    stamps_end = λ t v es _ _. record { flags = set-fits w.read_locks w.versions v _ tt f.flags; few = f.few };
    gives_back = λ t v _ _ _ _. record { flags = set-fits w.read_locks w.versions v _ (given-fits _ t _ (f.flags v)) f.flags; few = f.few };
    ends = λ t _ _. f;
  }
    where
      dropped : (t v : ℕ) → Flags (drop_read w t v).read_locks (drop_read w t v).versions
      dropped t v =
          let ps = leave w.read_locks t v in
          let less = readers-filter (λ (q : ℕ × ℕ). not (is_pair t v q)) w.read_locks in
          let fits = λ (j : ℕ). fewer-fits _ _ (version_in w.versions j).ender (less j) (f.flags j) in
          let x = with_ender (version_in w.versions v) (sealed (version_in w.versions v).ender) in
          record {
            flags = λ j. cond_both (readers ps v == 0) (slice_set w.versions v x) w.versions (λ vs. IsSoundFlag (readers ps j) (version_in vs j).ender)
                (λ z. set-fits ps w.versions v x (let none = eqb-true (readers ps v) 0 z in subst (λ n. IsSoundFlag n (sealed (version_in w.versions v).ender)) (sym none) (sealed-fits (version_in w.versions v).ender (subst (λ n. IsSoundFlag n (version_in w.versions v).ender) none (fits v)))) fits j)
                (λ _. fits j);
            few = λ j. let old = f.few j in let l = less j in omega (arith, old, l);
          }
