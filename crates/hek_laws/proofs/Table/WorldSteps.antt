-- The changes of a world by an event, with all kinds of walks as one: for properties of the world alone.
use Rattle.std.proofs.Common.{◌≡◌, ℕ, ◌<◌, Bool, true, false, List, ◌∷◌, arith}
use Rattle.std.specs.Prelude.{◌==◌}
use Rattle.hek_rules.specs.declared.event.Cause.{Cause}
use Rattle.hek_rules.specs.declared.event.Effect.{Effect}
use Rattle.hek_rules.specs.declared.event.Event.{Event}
use Rattle.hek_rules.specs.declared.event.State.TheVariants as state
use Rattle.hek_rules.specs.declared.event.WriteEntry.{WriteEntry}
use Rattle.hek_rules.specs.declared.event.WriteEntry.TheVariants.{BeginOf, EndOf}
use Rattle.hek_rules.specs.declared.word.BeginRecord.TheVariants.{At}
use Rattle.hek_rules.specs.Words.{infinity}
use Rattle.hek_rules.specs.Listing.{leave}
use Rattle.hek_rules.specs.World.{World, Version, EndedAt, txn_in, version_in, places, bucket_of}
use Rattle.hek_rules.specs.Waits.{waits, commit_deps}
use Rattle.hek_rules.specs.Locks.{set_ender, add_version}
use Rattle.hek_rules.specs.Walk.{Allow, Purpose, ToRead, ToWrite, walk, apply_all}
use Rattle.hek_rules.specs.Table.{abort, begin, finish, prepare, commit, end, drop_read, given_back, set_creator, without_entry, entries_of, holds_nothing}
use Rattle.hek_rules.specs.Run.{next}
use Rattle.hek_laws.specs.Runs.{IsPlaced}
use Rattle.hek_laws.proofs.Table.Cases.{IsActive, IsIn, IsLive, IsPast, IsDecided, IsPreparing}
use Rattle.hek_laws.proofs.Walks.Walking.{Walking, walking}
use Rattle.hek_laws.proofs.Table.Changes.{EachChange, each_outcome}

-- the property P holds of each world that an event can leave
pub record EachStep (w : World) (P : World → Type 0) : Type 0 where
  pub same : P w
  pub aborts : (t : ℕ) (cause : Cause) → IsLive w t → P (abort w t cause)
  pub begins : (t : ℕ) → IsIn w t state.NotBegun → P (begin w t)
  pub walks : (t : ℕ) (p : Purpose) (bucket : ℕ) (test : ℕ → Version → Bool) (es : List Effect) → Walking w t p bucket test es → P (apply_all t w es)
  pub adds : (t : ℕ) (p : Purpose) (bucket : ℕ) (test : ℕ → Version → Bool) (es : List Effect) (key value : ℕ) → Walking w t p bucket test es → P (add_version (apply_all t w es) t key value)
  pub finishes : (t : ℕ) → IsActive w t false → P (finish w t)
  pub prepares : (t : ℕ) → IsActive w t true → waits w t ≡ 0 → P (prepare w t)
  pub drops : (t v : ℕ) → IsPast w t → P (drop_read w t v)
  pub unlocks : (t b : ℕ) → IsPast w t → P (record w { bucket_locks = leave w.bucket_locks t b })
  pub frees : (t u : ℕ) → IsPast w t → P (record w { waiters = leave w.waiters t u })
  pub commits : (t : ℕ) → IsPreparing w t → commit_deps w t ≡ 0 → P (commit w t)
  pub stamps_begin : (t v time : ℕ) (es : List WriteEntry) → entries_of w.writes t ≡ BeginOf v ∷ es → P (record w { versions = set_creator w.versions v (At time); writes = without_entry w.writes t })
  pub stamps_end : (t v : ℕ) (es : List WriteEntry) → IsIn w t state.Committed → entries_of w.writes t ≡ EndOf v ∷ es → P (record w { versions = set_ender w.versions v (EndedAt (txn_in w.txns t).end); writes = without_entry w.writes t })
  pub gives_back : (t v : ℕ) (es : List WriteEntry) (cause : Cause) → IsIn w t (state.Aborted cause) → entries_of w.writes t ≡ EndOf v ∷ es → P (record w { versions = set_ender w.versions v (given_back t (version_in w.versions v).ender); writes = without_entry w.writes t })
  pub ends : (t : ℕ) → IsDecided w t → holds_nothing w t ≡ true → P (end w t)

module _ (w : World) (P : World → Type 0) (some : 0 < w.buckets) (c : EachStep w P) where
  in-range : (key : ℕ) → bucket_of w key < w.buckets
  in-range key = omega (arith, some)

  key-walk : (t : ℕ) (p : Purpose) (key : ℕ) (es : List Effect) → IsActive w t false → walk w t p (bucket_of w key) (places (λ v x. x.key == key) 0 w.versions) ≡ Allow es → Walking w t p (bucket_of w key) (λ v x. x.key == key) es
  key-walk t p key es a ok = walking w t p (bucket_of w key) (λ v x. x.key == key) es a.state a.no_more_waits ok (in-range key)

  each_change : EachChange w (λ e o. IsPlaced w.buckets e → P o.world)
  each_change = record {
    same = λ e r _ _ _. c.same;
    aborts = λ e r t cause _ l _ _. c.aborts t cause l;
    begins = λ t p _ _. c.begins t p;
    reads = λ t key es a ok _. c.walks t ToRead _ _ es (key-walk t ToRead key es a ok);
    scans = λ t b es a ok placed. c.walks t ToRead b (λ v x. bucket_of w x.key == b) es (walking w t ToRead b (λ v x. bucket_of w x.key == b) es a.state a.no_more_waits ok placed);
    exists = λ t key value v es a ok _ _. c.walks t ToRead _ _ es (key-walk t ToRead key es a ok);
    inserts = λ t key value es a ok _ _ _. c.adds t ToRead _ _ es key value (key-walk t ToRead key es a ok);
    misses_update = λ t key value es a ok _ _. c.walks t ToWrite _ _ es (key-walk t ToWrite key es a ok);
    updates = λ t key value v es a ok _ _. c.adds t ToWrite _ _ es key value (key-walk t ToWrite key es a ok);
    misses_delete = λ t key es a ok _ _. c.walks t ToWrite _ _ es (key-walk t ToWrite key es a ok);
    deletes = λ t key v es a ok _ _. c.walks t ToWrite _ _ es (key-walk t ToWrite key es a ok);
    finishes = λ t a _. c.finishes t a;
    prepares = λ t a z _ _. c.prepares t a z;
    drops = λ t v r p _ _ _. c.drops t v p;
    unlocks = λ t b p _. c.unlocks t b p;
    frees = λ t u p _. c.frees t u p;
    commits = λ t p z _. c.commits t p z;
    stamps_begin = λ t v es p is _. c.stamps_begin t v _ es is;
    stamps_end = λ t v es p is _. c.stamps_end t v es p is;
    voids = λ t v es cause p is _. c.stamps_begin t v infinity es is;
    gives_back = λ t v es cause r p is _ _ _. c.gives_back t v es cause p is;
    ends = λ t p z _. c.ends t p z;
  }

  pub each_step : (e : Event) → IsPlaced w.buckets e → P (next w e)
  each_step e = each_outcome w (λ e o. IsPlaced w.buckets e → P o.world) each_change e
