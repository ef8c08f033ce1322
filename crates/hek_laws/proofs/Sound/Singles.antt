-- Each list of a world has each pair once.
use Rattle.std.proofs.Common.{◌≡◌, ℕ, Bool, true, List, [], ◌∷◌, None, refl, ◌∙◌, ap, sym, inl, inr, ⊎_elim, length}
use Rattle.std.proofs.lemmas.Bool.{cond_both, false≢true}
use Rattle.std.specs.Prelude.{not, ◌==◌}
use Rattle.hek_rules.specs.declared.event.State.TheVariants as state
use Rattle.hek_rules.specs.declared.event.Effect.{Effect}
use Rattle.hek_rules.specs.declared.event.Effect.TheVariants.{LockBucket, DependOn, MakeWait, ReadLock, WriteLock}
use Rattle.hek_rules.specs.declared.event.WriteEntry.{WriteEntry}
use Rattle.hek_rules.specs.declared.event.WriteEntry.TheVariants.{BeginOf, EndOf}
use Rattle.hek_rules.specs.Listing.{is_pair, firsts_of}
use Rattle.hek_rules.specs.World.{World, Version, txn_in, version_in, bucket_of, is_aborted}
use Rattle.hek_rules.specs.Locks.{reads_freely, write_refusal, cleared}
use Rattle.hek_rules.specs.Walk.{Purpose, apply, apply_all}
use Rattle.hek_rules.specs.Table.{without_entry}
use Rattle.hek_laws.specs.Lists.{In, Once}
use Rattle.hek_laws.proofs.Futures.Written.{range-length}
use Rattle.hek_laws.proofs.Words.Walks.{entries-from}
use Rattle.hek_laws.proofs.Words.Alone.{WordsRight, Entries, held-cleared, held-free}
use Rattle.hek_laws.proofs.Lists.Pairs.{once-append, once-join, once-filter, once-wait, once-without_entry}
use Rattle.hek_laws.proofs.Walks.WriteOnce.{LocksOnce}
use Rattle.hek_laws.proofs.Sound.WaitsFall.{length-walked}
use Rattle.hek_laws.proofs.Table.WorldSteps.{EachStep}
use Rattle.hek_laws.proofs.Walks.Walking.{Walking}

pub record Singly (reads : List (ℕ × ℕ)) (writes : List (ℕ × WriteEntry)) (buckets waiters dependents : List (ℕ × ℕ)) : Type 0 where
  pub reads_once : Once reads
  pub writes_once : Once writes
  pub buckets_once : Once buckets
  pub waiters_once : Once waiters
  pub dependents_once : Once dependents

abbrev pub Single : World → Type 0
Single w = Singly w.read_locks w.writes w.bucket_locks w.waiters w.dependents

-- ---- walks
-- the write locks that are still to come have no entry yet
record NoEntry (t : ℕ) (cur : World) (es : List Effect) : Type 0 where
  none : (v : ℕ) → In (WriteLock v) es → In (t, EndOf v) cur.writes → ⊥

single-apply : (t : ℕ) (cur : World) (e : Effect) → ((v : ℕ) → WriteLock v ≡ e → In (t, EndOf v) cur.writes → ⊥) → Single cur → Single (apply t cur e)
single-apply t cur (LockBucket b) n s = record { reads_once = s.reads_once; writes_once = s.writes_once; buckets_once = once-join cur.bucket_locks t b s.buckets_once; waiters_once = s.waiters_once; dependents_once = s.dependents_once }
single-apply t cur (DependOn u) n s = record { reads_once = s.reads_once; writes_once = s.writes_once; buckets_once = s.buckets_once; waiters_once = s.waiters_once; dependents_once = once-join cur.dependents u t s.dependents_once }
single-apply t cur (MakeWait u) n s = record { reads_once = s.reads_once; writes_once = s.writes_once; buckets_once = s.buckets_once; waiters_once = once-join cur.waiters t u s.waiters_once; dependents_once = s.dependents_once }
single-apply t cur (ReadLock v) n s =
    cond_both (reads_freely cur t v) cur _ Single (λ _. s)
    (λ _. record { reads_once = once-join cur.read_locks t v s.reads_once; writes_once = s.writes_once; buckets_once = s.buckets_once; waiters_once = s.waiters_once; dependents_once = s.dependents_once })
single-apply t cur (WriteLock v) n s =
    record {
      reads_once = once-filter (λ (p : ℕ × ℕ). not (is_pair t v p)) cur.read_locks s.reads_once;
      writes_once = once-append cur.writes (t, EndOf v) s.writes_once (n v refl);
      buckets_once = s.buckets_once;
      waiters_once = s.waiters_once;
      dependents_once = s.dependents_once;
    }

single-all : (t : ℕ) (cur : World) (es : List Effect) → LocksOnce es → NoEntry t cur es → Single cur → Single (apply_all t cur es)
single-all t cur [] o n s = s
single-all t cur (e ∷ es) o n s =
    single-all t (apply t cur e) es o.1
    (record {
      none = λ v i j. ⊎_elim (λ q. n.none v (inr i) q) (λ q. let same : EndOf v ≡ EndOf q.0 = ap (λ (x : ℕ × WriteEntry). x.1) q.1 in
          ⊎_elim (λ here. o.0 v (sym here ∙ ap WriteLock (let z : q.0 ≡ v = cc in z)) i) (λ none. absurd none) q.2) (entries-from t cur (e ∷ []) (t, EndOf v) j);
    })
    (single-apply t cur e (λ v q i. n.none v (inl q) i) s)

module _ (w : World) (k : WordsRight w) (n : Entries w) (s : Single w) where
  -- t has not write-locked a version that it may write-lock
  unwritten : (t v : ℕ) → (txn_in w.txns t).state ≡ state.Active → write_refusal (cleared w.txns (version_in w.versions v).ender) ≡ None → In (t, EndOf v) w.writes → ⊥
  unwritten t v a free i =
      let gone : is_aborted (txn_in w.txns t).state ≡ true → ⊥ = λ y. false≢true (sym (ap is_aborted a) ∙ y) in
      ⊎_elim (λ h. ⊎_elim (λ c. held-free t (cleared w.txns (version_in w.versions v).ender) c free) gone (held-cleared w.txns t (version_in w.versions v).ender h)) gone (n.ended t v i)

  pub walked : (t : ℕ) (p : Purpose) (bucket : ℕ) (test : ℕ → Version → Bool) (es : List Effect) → Walking w t p bucket test es → Single (apply_all t w es)
  walked t p bucket test es y =
      single-all t w es y.once
      (record { none = λ v i. unwritten t v y.state (y.warrant (WriteLock v) i).4 }) s

  pub single-step : EachStep w Single
  single-step = record {
    same = s;
    aborts = λ t cause _. record { reads_once = s.reads_once; writes_once = s.writes_once; buckets_once = s.buckets_once; waiters_once = s.waiters_once; dependents_once = once-filter (λ (p : ℕ × ℕ). not (p.0 == t)) w.dependents s.dependents_once };
    begins = λ t _. s;
    walks = λ t p bucket test es y. walked t p bucket test es y;
    adds = λ t p bucket test es key value y.
        let L = apply_all t w es in
        let o = walked t p bucket test es y in
        record {
          reads_once = o.reads_once;
          writes_once = once-append L.writes (t, BeginOf (length L.versions)) o.writes_once (λ i. ⊎_elim (λ q. range-length w.versions (length L.versions) (length-walked t w es) (k.begin_range (length L.versions) t q))
              (λ q. let z : BeginOf (length L.versions) ≡ EndOf q.0 = ap (λ (x : ℕ × WriteEntry). x.1) q.1 in cc) (entries-from t w es (t, BeginOf (length L.versions)) i));
          buckets_once = o.buckets_once;
          waiters_once = once-wait (firsts_of L.bucket_locks (bucket_of L key)) t L.waiters o.waiters_once;
          dependents_once = o.dependents_once;
        };
    finishes = λ t _. s;
    prepares = λ t _ _. s;
    drops = λ t v _. record { reads_once = once-filter (λ (p : ℕ × ℕ). not (is_pair t v p)) w.read_locks s.reads_once; writes_once = s.writes_once; buckets_once = s.buckets_once; waiters_once = s.waiters_once; dependents_once = s.dependents_once };
    unlocks = λ t b _. record { reads_once = s.reads_once; writes_once = s.writes_once; buckets_once = once-filter (λ (p : ℕ × ℕ). not (is_pair t b p)) w.bucket_locks s.buckets_once; waiters_once = s.waiters_once; dependents_once = s.dependents_once };
    frees = λ t u _. record { reads_once = s.reads_once; writes_once = s.writes_once; buckets_once = s.buckets_once; waiters_once = once-filter (λ (p : ℕ × ℕ). not (is_pair t u p)) w.waiters s.waiters_once; dependents_once = s.dependents_once };
    commits = λ t _ _. record { reads_once = s.reads_once; writes_once = s.writes_once; buckets_once = s.buckets_once; waiters_once = s.waiters_once; dependents_once = once-filter (λ (p : ℕ × ℕ). not (p.0 == t)) w.dependents s.dependents_once };
    stamps_begin = λ t v time _ _. stamped t;
    stamps_end = λ t v es _ _. stamped t;
    gives_back = λ t v _ _ _ _. stamped t;
    ends = λ t _ _. s;
  }
    where
      stamped : (t : ℕ) → Singly w.read_locks (without_entry w.writes t) w.bucket_locks w.waiters w.dependents
      stamped t = record { reads_once = s.reads_once; writes_once = once-without_entry w.writes t s.writes_once; buckets_once = s.buckets_once; waiters_once = s.waiters_once; dependents_once = s.dependents_once }
