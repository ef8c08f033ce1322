-- Versions that stood at a past time, in a future: an event leaves them standing, and the makers of versions stay named.
use Rattle.std.proofs.Common.{◌≡◌, ℕ, zero, suc, ◌<◌, ◌≤◌, Bool, true, false, List, [], ◌∷◌, ◌++◌, Some, None, refl, ◌∙◌, ap, sym, arith, ⊎_elim, subst}
use Rattle.std.proofs.lemmas.Bool.{cases_Bool, cond_both, false≢true, lt-ltb, le-ltb, eqb-true}
use Rattle.std.specs.Prelude.{not, ◌==◌, ◌&&◌, nat_lt, is_some, slice_get}
use Rattle.std.specs.Option.{option_or}
use Rattle.hek_rules.specs.declared.event.State.TheVariants as state
use Rattle.hek_rules.specs.declared.event.Event.{Event}
use Rattle.hek_rules.specs.declared.event.Effect.{Effect}
use Rattle.hek_rules.specs.declared.event.WriteEntry.TheVariants.{BeginOf}
use Rattle.hek_rules.specs.declared.reply.Reply.{Reply}
use Rattle.hek_rules.specs.declared.word.BeginRecord.{BeginRecord}
use Rattle.hek_rules.specs.declared.word.BeginRecord.TheVariants.{At, By}
use Rattle.hek_rules.specs.Words.{infinity}
use Rattle.hek_rules.specs.World.{World, Version, Txn, Ender, EndedAt, Held, txn_in, version_in, bucket_of, is_aborted}
use Rattle.hek_rules.specs.Locks.{add_version, with_ender, set_ender}
use Rattle.hek_rules.specs.Waits.{readers}
use Rattle.hek_rules.specs.Listing.{leave}
use Rattle.hek_rules.specs.Walk.{Allow, Purpose, ToRead, ToWrite, walk, last, seen_of, of_key, of_bucket, apply_all}
use Rattle.hek_rules.specs.Table.{drop_read, sealed, given_back, set_creator}
use Rattle.hek_rules.specs.Serial.{end_of}
use Rattle.hek_rules.specs.Run.{next}
use Rattle.hek_laws.specs.Sound.{IsSoundCreator, IsSoundEnder}
use Rattle.hek_laws.proofs.Table.Changes.{EachChange, each_outcome}
use Rattle.hek_laws.proofs.Sound.WaitCounts.{version_in-set}
use Rattle.hek_laws.proofs.Words.Names.{MadeFor}
use Rattle.hek_laws.proofs.Words.EachEvent.{entry-In}
use Rattle.hek_laws.proofs.Walks.Walked.{good-all, good-start}
use Rattle.hek_laws.proofs.Worlds.AsTold.{AsTold}
use Rattle.hek_laws.proofs.Worlds.Histories.{end_of-append}
use Rattle.hek_laws.proofs.Futures.Stood.{ended_by, made_then, kept_then, stood_at}
use Rattle.hek_laws.proofs.Futures.Living.{made_in, kept_in}
use Rattle.hek_laws.proofs.Futures.Matches.{lives_at}
use Rattle.hek_laws.proofs.Futures.Survivors.{History, Future}
use Rattle.hek_laws.proofs.Futures.Invariant.{Structure}
use Rattle.hek_laws.proofs.Futures.Quiet.{aborted-outside, committed-inside}
use Rattle.hek_laws.proofs.Futures.Bystanders.{MayWrite, walk-can, active-out}
use Rattle.hek_laws.proofs.Futures.Written.{append-cases}
use Rattle.hek_laws.proofs.Futures.Carried.{Knows, Carried, Calm}

-- the version stood at the time, in the future
abbrev pub stood_in : World → (ℕ → Bool) → ℕ → ℕ → Bool
stood_in w A time v = stood_at w.versions time (ended_by w.txns time A) v

-- x made the version: its word names x, or has the end time of x
abbrev pub IsMaker : List Txn → ℕ → BeginRecord → Type 0
IsMaker ts x (At time) = time ≡ (txn_in ts x).end
IsMaker ts x (By u) = u ≡ x

and-yes : (b : Bool) → (b && true) ≡ b
and-yes true = refl
and-yes false = refl

-- ---- versions that live stand just before the clock, and at it
module _ (w : World) (h : History) (s : Structure w h) (A : ℕ → Bool) (time : ℕ) (late : w.clock ≤ suc time) (early : time < infinity) where
  ended-all : (u : ℕ) → ended_by w.txns time A u ≡ A u
  ended-all u = let below = s.times.ends_below u in ap (λ b. A u && not b) (le-ltb time (txn_in w.txns u).end (omega (arith, below, late))) ∙ and-yes (A u)

  made : (c : BeginRecord) → IsSoundCreator w c → made_then time (ended_by w.txns time A) c ≡ made_in A c
  made (At begin) q =
      ⊎_elim (λ l. ap not (le-ltb time begin (omega (arith, l, late))) ∙ sym (lt-ltb begin infinity (let b = s.bounded in omega (arith, l, b))))
      (λ never. ap not (lt-ltb time begin (omega (arith, never, early))) ∙ sym (le-ltb begin infinity (omega (arith, never)))) q
  made (By u) q = ended-all u

  kept : (e : Ender) → IsSoundEnder w e → kept_then time (ended_by w.txns time A) e ≡ kept_in A e
  kept (EndedAt end) q = le-ltb time end (omega (arith, q, late))
  kept (Held None b) q = refl
  kept (Held (Some u) b) q = ap not (ended-all u)

  pub stood-lives : (v : ℕ) → stood_in w A time v ≡ lives_at w.versions A v
  stood-lives v =
      ap (λ b. b && kept_then time (ended_by w.txns time A) (version_in w.versions v).ender) (made (version_in w.versions v).creator (s.creators v))
      ∙ ap (λ b. made_in A (version_in w.versions v).creator && b) (kept (version_in w.versions v).ender (s.enders v))

-- ---- an event at which no transaction of the future draws its end time
module _ (w : World) (h : History) (new : World) (e : Event) (r : Reply) (s : Structure w h) (c : Calm w h new e r) (told : (u : ℕ) → AsTold (h ++ (e, r) ∷ []) u (txn_in new.txns u))
    (A : ℕ → Bool) (f : Future w h A) (fn : Future new (h ++ (e, r) ∷ []) A) where
  pub same-end : (u : ℕ) → A u ≡ true → (txn_in new.txns u).end ≡ (txn_in w.txns u).end
  same-end u a =
      let both : Some (txn_in new.txns u).end ≡ Some (txn_in w.txns u).end =
      sym ((told u).drawn (fn.drawn u a)) ∙ end_of-append u h ((e, r) ∷ []) ∙ ap (λ o. option_or o (end_of u ((e, r) ∷ []))) (s.drawn u (f.drawn u a)) in cc

  same-ended : (time u : ℕ) → ended_by new.txns time A u ≡ ended_by w.txns time A u
  same-ended time u =
      ⊎_elim (λ a. ap (λ n. A u && not (nat_lt time n)) (same-end u a))
      (λ n. ap (λ b. b && not (nat_lt time (txn_in new.txns u).end)) n ∙ sym (ap (λ b. b && not (nat_lt time (txn_in w.txns u).end)) n)) (cases_Bool (A u))

  known : (time : ℕ) → time < infinity → Knows w time (ended_by w.txns time A)
  known time l = record {
    early = l;
    aborted = λ u a. ap (λ b. b && not (nat_lt time (txn_in w.txns u).end)) (aborted-outside w h A 0 u s.settled f refl a).out;
    committed = λ u y. ap (λ b. b && not (nat_lt time (txn_in w.txns u).end)) (committed-inside w h A 0 u s f refl y).in';
  }

  carried : (time : ℕ) → time < infinity → (v : ℕ) → Carried time (ended_by w.txns time A) w.versions new.versions v
  carried time l = c.words time (ended_by w.txns time A) (known time l) (λ u a o y. ap (λ b. b && not (nat_lt time (txn_in w.txns u).end)) (active-out w h A u s.settled f a))

  pub past-stood : (time : ℕ) → time < infinity → (v : ℕ) → stood_in new A time v ≡ stood_in w A time v
  past-stood time l v = ap (λ B. stood_at new.versions time B v) (λ i u. same-ended time u i) ∙ (carried time l v).stood

  pub past-key : (v : ℕ) → is_some (slice_get w.versions v) ≡ true → (version_in new.versions v).key ≡ (version_in w.versions v).key
  past-key v there = (carried w.clock s.bounded v).key there

  -- at one clock the same versions live
  pub past-lives : Structure new (h ++ (e, r) ∷ []) → new.clock ≡ w.clock → (v : ℕ) → lives_at new.versions A v ≡ lives_at w.versions A v
  past-lives sn same v =
      sym (stood-lives new (h ++ (e, r) ∷ []) sn A w.clock (omega (arith, same)) s.bounded v) ∙ past-stood w.clock s.bounded v ∙ stood-lives w h s A w.clock (omega arith) s.bounded v

-- ---- makers
pub maker-range : (vs : List Version) (ts : List Txn) (x v : ℕ) → (txn_in ts x).end < infinity → IsMaker ts x (version_in vs v).creator → is_some (slice_get vs v) ≡ true
maker-range [] ts x v l m = let never : infinity ≡ (txn_in ts x).end = m in absurd (omega (arith, never, l))
maker-range (y ∷ ys) ts x zero l m = refl
maker-range (y ∷ ys) ts x (suc v) l m = maker-range ys ts x v l m

pub maker-ends : (ts us : List Txn) (x : ℕ) (c : BeginRecord) → (txn_in us x).end ≡ (txn_in ts x).end → IsMaker ts x c → IsMaker us x c
maker-ends ts us x (At time) e m = m ∙ sym e
maker-ends ts us x (By u) e m = m

-- the maker of a version that has not aborted stays its maker
abbrev pub MakersStay : World → List Version → Type 0
MakersStay w vs = (v x : ℕ) → is_aborted (txn_in w.txns x).state ≡ false → (txn_in w.txns x).end < infinity → IsMaker w.txns x (version_in w.versions v).creator → IsMaker w.txns x (version_in vs v).creator

module _ (w : World) (h : History) (s : Structure w h) where
  walk-makers : (t : ℕ) (p : Purpose) (bucket : ℕ) (vs : List ℕ) (es : List Effect) → (txn_in w.txns t).state ≡ state.Active → walk w t p bucket vs ≡ Allow es → MakersStay w (apply_all t w es).versions
  walk-makers t p bucket vs es a ok v x n l m =
      subst (IsMaker w.txns x) (sym ((good-all w t (MayWrite w p (last (seen_of w t vs))) a w es (walk-can w t p bucket vs es ok) (good-start w t (MayWrite w p (last (seen_of w t vs))))).moved v).creator) m

  made-makers : (t key value : ℕ) (cur : World) → MakersStay w cur.versions → MakersStay w (add_version cur t key value).versions
  made-makers t key value cur k v x n l m =
      ⊎_elim (λ same. subst (IsMaker w.txns x) (sym (ap (λ (y : Version). y.creator) same)) (k v x n l m))
      (λ fresh. let never : infinity ≡ (txn_in w.txns x).end = subst (IsMaker w.txns x) (ap (λ (y : Version). y.creator) fresh.2) (k v x n l m) in absurd (omega (arith, never, l)))
      (append-cases cur.versions (record { key = key; value = value; creator = By t; ender = Held None false }) v)

  stays : MakersStay w w.versions
  stays v x n l m = m

  ender-makers : (n : ℕ) (f : Ender) → MakersStay w (set_ender w.versions n f)
  ender-makers n f v x a l m =
      ⊎_elim (λ p. subst (IsMaker w.txns x) (sym (ap (λ (y : Version). y.creator) p.1)) (subst (λ j. IsMaker w.txns x (version_in w.versions j).creator) p.0 m))
      (λ e. subst (IsMaker w.txns x) (sym (ap (λ (y : Version). y.creator) e)) m) (version_in-set w.versions n v (with_ender (version_in w.versions n) f))

  creator-makers : (n time : ℕ) →
      ((x : ℕ) → is_aborted (txn_in w.txns x).state ≡ false → (txn_in w.txns x).end < infinity → IsMaker w.txns x (version_in w.versions n).creator → time ≡ (txn_in w.txns x).end) → MakersStay w (set_creator w.versions n (At time))
  creator-makers n time at v x a l m =
      ⊎_elim (λ p. subst (IsMaker w.txns x) (sym (ap (λ (y : Version). y.creator) p.1)) (at x a l (subst (λ j. IsMaker w.txns x (version_in w.versions j).creator) p.0 m)))
      (λ e. subst (IsMaker w.txns x) (sym (ap (λ (y : Version). y.creator) e)) m) (version_in-set w.versions n v (record (version_in w.versions n) { creator = At time }))

  stamped : (t : ℕ) (c : BeginRecord) → (txn_in w.txns t).state ≡ state.Committed → MadeFor (txn_in w.txns t) t c → (x : ℕ) → IsMaker w.txns x c → (txn_in w.txns t).end ≡ (txn_in w.txns x).end
  stamped t (At time) p m x k = ⊎_elim (λ q. sym q.1 ∙ k) (λ q. absurd (false≢true (ap is_aborted (sym p) ∙ q.0))) m
  stamped t (By u) p m x k = ap (λ n. (txn_in w.txns n).end) (sym (eqb-true u t m) ∙ k)

  voided : (t : ℕ) (c : BeginRecord) → is_aborted (txn_in w.txns t).state ≡ true → MadeFor (txn_in w.txns t) t c → (x : ℕ) → is_aborted (txn_in w.txns x).state ≡ false → (txn_in w.txns x).end < infinity → IsMaker w.txns x c → infinity ≡ (txn_in w.txns x).end
  voided t (At time) p m x a l k = ⊎_elim (λ q. absurd (false≢true (sym (ap is_aborted q.0) ∙ p))) (λ q. sym q.1 ∙ k) m
  voided t (By u) p m x a l k = absurd (false≢true (sym a ∙ ap (λ n. is_aborted (txn_in w.txns n).state) (sym k ∙ eqb-true u t m) ∙ p))

  each_makers : EachChange w (λ e o. MakersStay w o.world.versions)
  each_makers = record {
    same = λ e r i m. stays;
    aborts = λ e r t cause i l m. stays;
    begins = λ t p c. stays;
    reads = λ t key es a ok. walk-makers t ToRead (bucket_of w key) (of_key w key) es a.state ok;
    scans = λ t bucket es a ok. walk-makers t ToRead bucket (of_bucket w bucket) es a.state ok;
    exists = λ t key value v es a ok is. walk-makers t ToRead (bucket_of w key) (of_key w key) es a.state ok;
    inserts = λ t key value es a ok is free. made-makers t key value (apply_all t w es) (walk-makers t ToRead (bucket_of w key) (of_key w key) es a.state ok);
    misses_update = λ t key value es a ok is. walk-makers t ToWrite (bucket_of w key) (of_key w key) es a.state ok;
    updates = λ t key value z es a ok is. made-makers t key value (apply_all t w es) (walk-makers t ToWrite (bucket_of w key) (of_key w key) es a.state ok);
    misses_delete = λ t key es a ok is. walk-makers t ToWrite (bucket_of w key) (of_key w key) es a.state ok;
    deletes = λ t key z es a ok is. walk-makers t ToWrite (bucket_of w key) (of_key w key) es a.state ok;
    finishes = λ t a. stays;
    prepares = λ t a z c. stays;
    drops = λ t v r p i n. dropped t v;
    unlocks = λ t b p. stays;
    frees = λ t u p. stays;
    commits = λ t p z. stays;
    stamps_begin = λ t v es p is. creator-makers v (txn_in w.txns t).end (λ x a l m. stamped t (version_in w.versions v).creator p.state (s.begin_entry v t (entry-In w.writes t (BeginOf v) es is)) x m);
    stamps_end = λ t v es p is. ender-makers v (EndedAt (txn_in w.txns t).end);
    voids = λ t v es cause p is. creator-makers v infinity (λ x a l m. voided t (version_in w.versions v).creator (ap is_aborted p.state) (s.begin_entry v t (entry-In w.writes t (BeginOf v) es is)) x a l m);
    gives_back = λ t v es cause r p is i n. ender-makers v (given_back t (version_in w.versions v).ender);
    ends = λ t p z. stays;
  }
    where
      dropped : (t v : ℕ) → MakersStay w (drop_read w t v).versions
      dropped t v =
          cond_both (readers (leave w.read_locks t v) v == 0) (set_ender w.versions v (sealed (version_in w.versions v).ender)) w.versions (MakersStay w)
          (λ _. ender-makers v (sealed (version_in w.versions v).ender)) (λ _. stays)

  pub makers-stay : (e : Event) → MakersStay w (next w e).versions
  makers-stay e = each_outcome w (λ e o. MakersStay w o.world.versions) each_makers e
