-- The renumbered world of a sound world is sound.
use Rattle.std.proofs.Common.{◌≡◌, ℕ, ◌<◌, ◌≤◌, ◌⊎◌, true, refl, ◌∙◌, ap, sym, subst, length, arith}
use Rattle.std.specs.Prelude.{map}
use Rattle.hek_rules.specs.declared.event.WriteEntry.{WriteEntry}
use Rattle.hek_rules.specs.declared.event.WriteEntry.TheVariants.{BeginOf, EndOf}
use Rattle.hek_rules.specs.Listing.{has}
use Rattle.hek_rules.specs.World.{World, Version, txn_in, version_in, is_held_by, is_made_by, is_aborted}
use Rattle.hek_rules.specs.Waits.{readers}
use Rattle.hek_laws.specs.Lists.{In}
use Rattle.hek_laws.specs.Sound.{Sound, OwnsNothing, IsSoundCreator, IsSoundEnder, IsSoundFlag, is_held}
use Rattle.hek_similar.specs.Places.{Renumbering, IsRenumbering, renumbered, renumbered_lock, renumbered_entry, renumbered_write}
use Rattle.hek_similar.specs.Laws.{RenumberedWorldsAreSound}
use Rattle.hek_similar.proofs.Places.Rising.{In-map, map-In, once-map}
use Rattle.hek_similar.proofs.Places.Renumbered.{Trades, trades, to-within, length-renumbered, version-from, has-to, readers-to, seconds-to, entries-to}
use Rattle.hek_similar.proofs.Places.Counts.{waits-to}
use Rattle.hek_similar.proofs.Places.Inverse.{inverse, lock-back, write-back}

module _ (r : Renumbering) (w : World) (i : IsRenumbering r w) (s : Sound w) where
  abbrev x : World
  x = renumbered r w

  trade : Trades r (length w.versions)
  trade = trades r w i

  long : length x.versions ≡ length w.versions
  long = length-renumbered r (length w.versions) trade w.versions refl

  word : (v : ℕ) → version_in w.versions (r.from v) ≡ version_in x.versions v
  word v = sym (version-from r (length w.versions) trade w.versions refl v)

  lock-from : (t v : ℕ) → has x.read_locks t v ≡ true → has w.read_locks t (r.from v) ≡ true
  lock-from t v h = sym (has-to r (length w.versions) trade w.read_locks t (r.from v)) ∙ ap (has x.read_locks t) (i.forth v) ∙ h

  readers-from : (v : ℕ) → readers w.read_locks (r.from v) ≡ readers x.read_locks v
  readers-from v = sym (readers-to r (length w.versions) trade w.read_locks (r.from v)) ∙ ap (readers x.read_locks) (i.forth v)

  write-from : (p : ℕ × WriteEntry) → In p x.writes → In (renumbered_write (inverse r) p) w.writes
  write-from p h =
      let m = map-In (renumbered_write r) w.writes p h in
      subst (λ q. In q w.writes) (sym (ap (renumbered_write (inverse r)) m.1 ∙ write-back r i.back m.0)) m.2

  begin-to : (t v : ℕ) → In (t, BeginOf (r.from v)) w.writes → In (t, BeginOf v) x.writes
  begin-to t v h = subst (λ n. In (t, BeginOf n) x.writes) (i.forth v) (In-map (renumbered_write r) w.writes (t, BeginOf (r.from v)) h)

  end-to : (t v : ℕ) → In (t, EndOf (r.from v)) w.writes → In (t, EndOf v) x.writes
  end-to t v h = subst (λ n. In (t, EndOf n) x.writes) (i.forth v) (In-map (renumbered_write r) w.writes (t, EndOf (r.from v)) h)

  -- a place that stood for a version still does
  there-from : (v : ℕ) → r.from v < length w.versions → v < length x.versions
  there-from v l = let m = to-within r (length w.versions) trade (r.from v) l in let e = i.forth v in omega (arith, m, e, long)

  owns : (t : ℕ) → OwnsNothing w t → OwnsNothing x t
  owns t o = record {
    reads = seconds-to r w.read_locks t ∙ ap (map r.to) o.reads;
    writes = entries-to r w.writes t ∙ ap (map (renumbered_entry r)) o.writes;
    buckets = o.buckets;
    waiters = o.waiters;
    dependents = o.dependents;
  }

  sound-renumbered : Sound x
  sound-renumbered = record {
    buckets = s.buckets;
    bounded = s.bounded;
    times = s.times;
    creators = λ v. subst (λ (y : Version). IsSoundCreator w y.creator) (word v) (s.creators (r.from v));
    enders = λ v. subst (λ (y : Version). IsSoundEnder w y.ender) (word v) (s.enders (r.from v));
    flags = λ v. subst (λ n. IsSoundFlag n (version_in x.versions v).ender) (readers-from v) (subst (λ (y : Version). IsSoundFlag (readers w.read_locks (r.from v)) y.ender) (word v) (s.flags (r.from v)));
    readers = λ v. subst (λ n. n ≤ 255) (readers-from v) (s.readers (r.from v));
    reads_once = once-map (renumbered_lock r) w.read_locks (λ p q e. sym (lock-back r i.back p) ∙ ap (renumbered_lock (inverse r)) e ∙ lock-back r i.back q) s.reads_once;
    writes_once = once-map (renumbered_write r) w.writes (λ p q e. sym (write-back r i.back p) ∙ ap (renumbered_write (inverse r)) e ∙ write-back r i.back q) s.writes_once;
    buckets_once = s.buckets_once;
    waiters_once = s.waiters_once;
    dependents_once = s.dependents_once;
    reader_present = λ t v h. s.reader_present t (r.from v) (lock-from t v h);
    read_there = λ t v h. there-from v (s.read_there t (r.from v) (lock-from t v h));
    read_held = λ t v h. ap (λ (y : Version). is_held y.ender) (sym (word v)) ∙ s.read_held t (r.from v) (lock-from t v h);
    writer_present = λ t e h. s.writer_present t (renumbered_entry (inverse r) e) (write-from (t, e) h);
    made_there = λ t v h. there-from v (s.made_there t (r.from v) (write-from (t, BeginOf v) h));
    ended_there = λ t v h. there-from v (s.ended_there t (r.from v) (write-from (t, EndOf v) h));
    made_by = λ t v h. ap (λ (y : Version). is_made_by t y.creator) (sym (word v)) ∙ s.made_by t (r.from v) (write-from (t, BeginOf v) h);
    ended_by = λ t v h. subst (λ (y : Version). (is_held_by t y.ender ≡ true) ⊎ (is_aborted (txn_in w.txns t).state ≡ true)) (word v) (s.ended_by t (r.from v) (write-from (t, EndOf v) h));
    creator_entry = λ t v h. begin-to t v (s.creator_entry t (r.from v) (ap (λ (y : Version). is_made_by t y.creator) (word v) ∙ h));
    writer_entry = λ t v h. end-to t v (s.writer_entry t (r.from v) (ap (λ (y : Version). is_held_by t y.ender) (word v) ∙ h));
    locker_present = s.locker_present;
    bucket_there = s.bucket_there;
    holder_present = s.holder_present;
    waiter_begun = s.waiter_begun;
    waits_for_other = s.waits_for_other;
    depended_preparing = s.depended_preparing;
    dependent_begun = s.dependent_begun;
    dependent_uncommitted = s.dependent_uncommitted;
    depends_on_other = s.depends_on_other;
    waits_bound = λ u. let e = waits-to r w trade u in let l = s.waits_bound u in omega (arith, e, l, long);
    deps_bound = s.deps_bound;
    waits_for_none = λ u p. waits-to r w trade u ∙ s.waits_for_none u p;
    no_more_waits = s.no_more_waits;
    unbegun = s.unbegun;
    unbegun_owns = λ t e. owns t (s.unbegun_owns t e);
    unbegun_waits = λ t e. waits-to r w trade t ∙ s.unbegun_waits t e;
    unbegun_deps = s.unbegun_deps;
    ended_owns = λ t e. owns t (s.ended_owns t e);
  }

pub worlds-sound : RenumberedWorldsAreSound
worlds-sound r w i s = sound-renumbered r w i s
