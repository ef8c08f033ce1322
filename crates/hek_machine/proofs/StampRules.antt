-- The stamp of the first entry of a write set is its rule.
use Rattle.std.proofs.Common.{◌≡◌, ℕ, ◌<◌, Bool, true, false, List, [], ◌∷◌, refl, ◌∙◌, ap, sym, subst, arith, Some, None, ⊎_elim, length}
use Rattle.std.proofs.lemmas.Bool.{cond-true, cond-false, cases_Bool}
use Rattle.std.specs.Prelude.{slice_get, if◌then◌else◌}
use Rattle.hek_rules.specs.declared.event.WriteEntry.{WriteEntry}
use Rattle.hek_rules.specs.declared.event.WriteEntry.TheVariants.{BeginOf, EndOf}
use Rattle.hek_rules.specs.declared.event.State.{State}
use Rattle.hek_rules.specs.declared.event.State.TheVariants as state
use Rattle.hek_rules.specs.declared.reply.Reply.{Reply}
use Rattle.hek_rules.specs.declared.reply.Reply.TheVariants as reply
use Rattle.hek_rules.specs.declared.word.BeginRecord.TheVariants.{At}
use Rattle.hek_rules.specs.Words.{IsTime, infinity}
use Rattle.hek_rules.specs.World.{World, version_in, txn_in, is_held_by, is_committed, is_aborted}
use Rattle.hek_rules.specs.Waits.{readers}
use Rattle.hek_rules.specs.Table.{Outcome, stamp_rule, stamp_committed, stamp_aborted, entries_of}
use Rattle.hek_store.specs.Stored.{Stored, version_at}
use Rattle.hek_txn.specs.TxnTable.{TxnTable, Declared, write_set_of, with_write_set}
use Rattle.hek_commit.specs.Stamped.{CanStamp, version_of, is_written_by, stamped_store, stamped_txns, stamp_reply, stamped_committed, stamped_aborted, committed_reply, aborted_reply, freed_aborted, rest_of}
use Rattle.hek_laws.specs.Lists.{In}
use Rattle.hek_laws.specs.Sound.{Sound}
use Rattle.hek_laws.proofs.Runs.Reachable.{reachable-sound}
use Rattle.hek_refinement.proofs.Rooms.{room-write_set}
use Rattle.hek_refinement.proofs.Stores.{word-shown}
use Rattle.hek_refinement.proofs.Frees.{may-free}
use Rattle.hek_refinement.proofs.Stamps.{first-written, shows-unwritten, shows-begun_store, shows-begun_txns, shows-ended_store, shows-ended_txns, shows-back_store, shows-back_txns, written-shown, left-as_is}
use Rattle.hek_machine.specs.declared.engine.Engine.{Engine}
use Rattle.hek_machine.specs.Stands.{Shows, StandsFor, StandsForSome, IsRule}

-- the store, the table and the reply after a stamp
pub record Stamping (m : Engine) (t : ℕ) (store : Stored) (x : TxnTable) (r : Reply) : Type 0 where
  pub store_is : store ≡ stamped_store m.store m.txns.cores t (slice_get (write_set_of m.txns t).items 0)
  pub txns_is : x ≡ with_write_set (stamped_txns m.store m.txns t (slice_get (write_set_of m.txns t).items 0)) t (write_set_of x t)
  pub writes : (write_set_of x t).items ≡ rest_of (write_set_of m.txns t).items
  pub reply_is : r ≡ stamp_reply m.store m.txns.cores t (slice_get (write_set_of m.txns t).items 0)

-- an outcome has this reply, and a world that these parts show
abbrev Gives : Engine → Stored → TxnTable → Reply → Outcome → Type 0
Gives m store x r o = (r ≡ o.reply) × Shows (record m { store = store; txns = x }) o.world

-- ---- the entry

entry : (m : Engine) (w : World) (t : ℕ) (e : WriteEntry) (es : List WriteEntry) → StandsFor m w → (write_set_of m.txns t).items ≡ e ∷ es → In (t, e) w.writes
entry m w t e es s h = first-written w.writes t e es (sym (s.shows.txns.write_sets t) ∙ h)

entry-there : (w : World) (t : ℕ) (e : WriteEntry) → Sound w → In (t, e) w.writes → version_of e < length w.versions
entry-there w t (BeginOf v) o i = o.made_there t v i
entry-there w t (EndOf v) o i = o.ended_there t v i

committed-holds : (w : World) (t v : ℕ) → Sound w → In (t, EndOf v) w.writes → is_committed (txn_in w.txns t).state ≡ true → is_held_by t (version_in w.versions v).ender ≡ true
committed-holds w t v o i done = ⊎_elim (λ h. h) (λ a. absurd (never (txn_in w.txns t).state done a)) (o.ended_by t v i)
  where
    never : (s : State) → is_committed s ≡ true → is_aborted s ≡ true → ⊥
    never state.NotBegun a b = cc
    never state.Active a b = cc
    never state.Preparing a b = cc
    never state.Committed a b = cc
    never (state.Aborted cause) a b = cc
    never state.Terminated a b = cc

-- ---- each kind of stamp

committed-stamp : (m : Engine) (w : World) (t : ℕ) (x : TxnTable) (e : WriteEntry) (es : List WriteEntry) → StandsFor m w → Declared m.txns t → In (t, e) w.writes →
    is_committed (txn_in w.txns t).state ≡ true → (write_set_of x t).items ≡ rest_of (write_set_of m.txns t).items →
    Gives m (stamped_committed m.store (txn_in w.txns t).end e) (with_write_set m.txns t (write_set_of x t)) (committed_reply e) (stamp_committed w t (e ∷ es))
committed-stamp m w t x (BeginOf v) es s d i done items =
    let h = s.shows in let l = (reachable-sound w s.reachable).made_there t v i in (
      refl,
      record {
        clock = h.clock;
        store = shows-begun_store m.store w v (At (txn_in w.txns t).end) l h.store;
        txns = shows-begun_txns m.txns w t v (At (txn_in w.txns t).end) (write_set_of x t) d l items h.txns;
        buckets = h.buckets;
      },
    )
committed-stamp m w t x (EndOf v) es s d i done items =
    let h = s.shows in let o = reachable-sound w s.reachable in let l = o.ended_there t v i in (
      refl,
      record {
        clock = h.clock;
        store = shows-ended_store m.store w v (txn_in w.txns t).end l h.store;
        txns = shows-ended_txns m.txns w t v (write_set_of x t) d o l (committed-holds w t v o i done) done items h.txns;
        buckets = h.buckets;
      },
    )

held-same : (m : Engine) (w : World) (t v : ℕ) → StandsFor m w → is_written_by t (version_at m.store v).end ≡ is_held_by t (version_in w.versions v).ender
held-same m w t v s =
    ap (is_written_by t) (word-shown m.store w.buckets w.versions w.read_locks v s.shows.store) ∙ written-shown t (readers w.read_locks v) (version_in w.versions v).ender

aborted-stamp : (m : Engine) (w : World) (t : ℕ) (x : TxnTable) (e : WriteEntry) (es : List WriteEntry) → StandsFor m w → Declared m.txns t → In (t, e) w.writes →
    (write_set_of x t).items ≡ rest_of (write_set_of m.txns t).items →
    Gives m (stamped_aborted m.store t e) (with_write_set (freed_aborted m.store m.txns t e) t (write_set_of x t)) (aborted_reply m.store t e) (stamp_aborted w t (e ∷ es))
aborted-stamp m w t x (BeginOf v) es s d i items =
    let h = s.shows in let l = (reachable-sound w s.reachable).made_there t v i in (
      refl,
      record {
        clock = h.clock;
        store = shows-begun_store m.store w v (At infinity) l h.store;
        txns = shows-begun_txns m.txns w t v (At infinity) (write_set_of x t) d l items h.txns;
        buckets = h.buckets;
      },
    )
aborted-stamp m w t x (EndOf v) es s d i items =
    ⊎_elim
    (λ mine. rw same (rw mine (
      refl,
      record {
        clock = h.clock;
        store = shows-back_store m.store w t v l mine h.store;
        txns = shows-back_txns m.store m.txns w t v (write_set_of x t) d l mine items h.store h.txns;
        buckets = h.buckets;
      },
    )))
    (λ other. rw same (rw other (rw (left-as_is w t v l other) (
      refl,
      record {
        clock = h.clock;
        store = h.store;
        txns = shows-unwritten m.txns w t (write_set_of x t) d items h.txns;
        buckets = h.buckets;
      },
    ))))
    (cases_Bool (is_held_by t (version_in w.versions v).ender))
  where
    h : Shows m w
    h = s.shows

    l : v < length w.versions
    l = (reachable-sound w s.reachable).ended_there t v i

    same : is_written_by t (version_at m.store v).end ≡ is_held_by t (version_in w.versions v).ender
    same = held-same m w t v s

-- ---- the rule

rest : (m : Engine) (w : World) (t : ℕ) (store : Stored) (x : TxnTable) (r : Reply) → StandsFor m w → Declared m.txns t → Stamping m t store x r →
    (es : List WriteEntry) → (write_set_of m.txns t).items ≡ es → entries_of w.writes t ≡ es → (c : Bool) → is_committed (txn_in w.txns t).state ≡ c →
    Gives m store x r (if c then stamp_committed w t es else stamp_aborted w t es)
rest m w t store x r s d k [] here shown c phase =
    let h = s.shows in
    let first : slice_get (write_set_of m.txns t).items 0 ≡ None = ap (λ xs. slice_get xs 0) here in
    nothing c
  where
    same : (write_set_of x t).items ≡ (write_set_of m.txns t).items
    same = k.writes ∙ ap rest_of here ∙ sym here

    shows : Shows (record m { store = store; txns = x }) w
    shows = record {
      clock = s.shows.clock;
      store = rw (k.store_is ∙ ap (stamped_store m.store m.txns.cores t) (ap (λ xs. slice_get xs 0) here)) s.shows.store;
      txns = rw (k.txns_is ∙ ap (λ o. with_write_set (stamped_txns m.store m.txns t o) t (write_set_of x t)) (ap (λ xs. slice_get xs 0) here)) (room-write_set m.txns w t (write_set_of x t) d same s.shows.txns);
      buckets = s.shows.buckets;
    }

    answered : r ≡ reply.Nothing
    answered = k.reply_is ∙ ap (stamp_reply m.store m.txns.cores t) (ap (λ xs. slice_get xs 0) here)

    nothing : (c : Bool) → Gives m store x r (if c then stamp_committed w t [] else stamp_aborted w t [])
    nothing true = (answered, shows)
    nothing false = (answered, shows)
rest m w t store x r s d k (e ∷ es) here shown true phase =
    rw (k.store_is ∙ ap (stamped_store m.store m.txns.cores t) first ∙ cond-true (is_committed (txn_in m.txns.cores t).state) _ _ done ∙ ap (λ ts. stamped_committed m.store (txn_in ts t).end e) s.shows.txns.cores)
    (rw (k.txns_is ∙ ap (λ o. with_write_set (stamped_txns m.store m.txns t o) t (write_set_of x t)) first ∙ ap (λ z. with_write_set z t (write_set_of x t)) (cond-true (is_committed (txn_in m.txns.cores t).state) m.txns (freed_aborted m.store m.txns t e) done))
    (rw (k.reply_is ∙ ap (stamp_reply m.store m.txns.cores t) first ∙ cond-true (is_committed (txn_in m.txns.cores t).state) _ _ done)
    (committed-stamp m w t x e es s d (entry m w t e es s here) phase k.writes)))
  where
    first : slice_get (write_set_of m.txns t).items 0 ≡ Some e
    first = ap (λ xs. slice_get xs 0) here

    done : is_committed (txn_in m.txns.cores t).state ≡ true
    done = ap (λ ts. is_committed (txn_in ts t).state) s.shows.txns.cores ∙ phase
rest m w t store x r s d k (e ∷ es) here shown false phase =
    rw (k.store_is ∙ ap (stamped_store m.store m.txns.cores t) first ∙ cond-false (is_committed (txn_in m.txns.cores t).state) _ _ undone)
    (rw (k.txns_is ∙ ap (λ o. with_write_set (stamped_txns m.store m.txns t o) t (write_set_of x t)) first ∙ ap (λ z. with_write_set z t (write_set_of x t)) (cond-false (is_committed (txn_in m.txns.cores t).state) m.txns (freed_aborted m.store m.txns t e) undone))
    (rw (k.reply_is ∙ ap (stamp_reply m.store m.txns.cores t) first ∙ cond-false (is_committed (txn_in m.txns.cores t).state) _ _ undone)
    (aborted-stamp m w t x e es s d (entry m w t e es s here) k.writes)))
  where
    first : slice_get (write_set_of m.txns t).items 0 ≡ Some e
    first = ap (λ xs. slice_get xs 0) here

    undone : is_committed (txn_in m.txns.cores t).state ≡ false
    undone = ap (λ ts. is_committed (txn_in ts t).state) s.shows.txns.cores ∙ phase

stamp-gives : (m : Engine) (w : World) (t : ℕ) (store : Stored) (x : TxnTable) (r : Reply) → StandsFor m w → Declared m.txns t → Stamping m t store x r →
    Gives m store x r (stamp_rule w t)
stamp-gives m w t store x r s d k =
    subst (λ es. Gives m store x r (if is_committed (txn_in w.txns t).state then stamp_committed w t es else stamp_aborted w t es)) (s.shows.txns.write_sets t)
    (rest m w t store x r s d k (write_set_of m.txns t).items refl (sym (s.shows.txns.write_sets t)) (is_committed (txn_in w.txns t).state) refl)

pub row_of_stamp : (m : Engine) (t : ℕ) (store : Stored) (x : TxnTable) (r : Reply) → Declared m.txns t → Stamping m t store x r →
    IsRule (λ w. stamp_rule w t) m (record m { store = store; txns = x }) r
row_of_stamp m t store x r d k = record {
  reply = λ w s. (stamp-gives m w t store x r s d k).0;
  shows = λ w s. (stamp-gives m w t store x r s d k).1;
}

-- ---- what the call requires

pub stamp_time : (m : Engine) (t : ℕ) → StandsForSome m → IsTime (txn_in m.txns.cores t).end
stamp_time m t o =
    let k = reachable-sound o.world o.stands.reachable in
    let below = k.times.ends_below t in let clock = k.bounded in
    let same = ap (λ ts. (txn_in ts t).end) o.stands.shows.txns.cores in omega (arith, below, clock, same)

pub can_stamp : (m : Engine) (t : ℕ) → StandsForSome m → CanStamp m.store m.txns (slice_get (write_set_of m.txns t).items 0)
can_stamp m t o = can (write_set_of m.txns t).items refl
  where
    can : (es : List WriteEntry) → (write_set_of m.txns t).items ≡ es → CanStamp m.store m.txns (slice_get es 0)
    can [] h = tt
    can (e ∷ es) h =
        let w : World = o.world in
        let k = reachable-sound o.world o.stands.reachable in
        let l : version_of e < length w.versions = entry-there w t e k (entry m w t e es o.stands h) in
        (let c = o.stands.shows.store.count in omega (arith, l, c), may-free m.store m.txns w (version_of e) k l o.stands.shows.store o.stands.shows.txns)
