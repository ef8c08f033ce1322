-- A world regrouped from a sound one is sound.
use Rattle.std.proofs.Common.{◌≡◌, ℕ, ◌+◌, ◌≤◌, true, ◌∙◌, sym, subst, length}
use Rattle.hek_rules.specs.declared.event.WriteEntry.{WriteEntry}
use Rattle.hek_rules.specs.declared.event.WriteEntry.TheVariants.{BeginOf, EndOf}
use Rattle.hek_rules.specs.Listing.{has}
use Rattle.hek_rules.specs.World.{World, version_in}
use Rattle.hek_laws.specs.Lists.{In}
use Rattle.hek_laws.specs.Sound.{Sound, OwnsNothing, IsSoundFlag}
use Rattle.hek_similar.specs.Holdings.{holding}
use Rattle.hek_similar.specs.Laws.{RegroupedWorldsAreSound}
use Rattle.hek_similar.proofs.Holdings.Pairs.{like-has, like-In, like-once, like-seconds, like-entries}
use Rattle.hek_similar.proofs.Holdings.Judged.{Held, lists, held, holding-is}
use Rattle.hek_similar.proofs.Holdings.Counts.{same-readers, same-waits, same-deps}

module _ (w y : World) (h : Held (lists w) (lists y)) (s : Sound w) where
  abbrev x : World
  x = holding w y

  read-from : (t v : ℕ) → has y.read_locks t v ≡ true → has w.read_locks t v ≡ true
  read-from t v k = like-has w.read_locks y.read_locks h.read_locks t v ∙ k

  lock-from : (t b : ℕ) → has y.bucket_locks t b ≡ true → has w.bucket_locks t b ≡ true
  lock-from t b k = like-has w.bucket_locks y.bucket_locks h.bucket_locks t b ∙ k

  wait-from : (t u : ℕ) → has y.waiters t u ≡ true → has w.waiters t u ≡ true
  wait-from t u k = like-has w.waiters y.waiters h.waiters t u ∙ k

  dependent-from : (u t : ℕ) → has y.dependents u t ≡ true → has w.dependents u t ≡ true
  dependent-from u t k = like-has w.dependents y.dependents h.dependents u t ∙ k

  write-from : (t : ℕ) (e : WriteEntry) → In (t, e) y.writes → In (t, e) w.writes
  write-from t e i = like-In y.writes w.writes (λ a. sym (h.writes a)) t e i

  owns : (t : ℕ) → OwnsNothing w t → OwnsNothing x t
  owns t o = record {
    reads = sym (like-seconds w.read_locks y.read_locks h.read_locks t) ∙ o.reads;
    writes = sym (like-entries w.writes y.writes h.writes t) ∙ o.writes;
    buckets = sym (like-seconds w.bucket_locks y.bucket_locks h.bucket_locks t) ∙ o.buckets;
    waiters = sym (like-seconds w.waiters y.waiters h.waiters t) ∙ o.waiters;
    dependents = sym (like-seconds w.dependents y.dependents h.dependents t) ∙ o.dependents;
  }

  sound-beside : Sound x
  sound-beside = record {
    buckets = s.buckets;
    bounded = s.bounded;
    times = s.times;
    creators = s.creators;
    enders = s.enders;
    flags = λ v. subst (λ n. IsSoundFlag n (version_in w.versions v).ender) (same-readers w y h v) (s.flags v);
    readers = λ v. subst (λ n. n ≤ 255) (same-readers w y h v) (s.readers v);
    reads_once = like-once w.read_locks y.read_locks h.read_locks s.reads_once;
    writes_once = like-once w.writes y.writes h.writes s.writes_once;
    buckets_once = like-once w.bucket_locks y.bucket_locks h.bucket_locks s.buckets_once;
    waiters_once = like-once w.waiters y.waiters h.waiters s.waiters_once;
    dependents_once = like-once w.dependents y.dependents h.dependents s.dependents_once;
    reader_present = λ t v k. s.reader_present t v (read-from t v k);
    read_there = λ t v k. s.read_there t v (read-from t v k);
    read_held = λ t v k. s.read_held t v (read-from t v k);
    writer_present = λ t e i. s.writer_present t e (write-from t e i);
    made_there = λ t v i. s.made_there t v (write-from t (BeginOf v) i);
    ended_there = λ t v i. s.ended_there t v (write-from t (EndOf v) i);
    made_by = λ t v i. s.made_by t v (write-from t (BeginOf v) i);
    ended_by = λ t v i. s.ended_by t v (write-from t (EndOf v) i);
    creator_entry = λ t v k. like-In w.writes y.writes h.writes t (BeginOf v) (s.creator_entry t v k);
    writer_entry = λ t v k. like-In w.writes y.writes h.writes t (EndOf v) (s.writer_entry t v k);
    locker_present = λ t b k. s.locker_present t b (lock-from t b k);
    bucket_there = λ t b k. s.bucket_there t b (lock-from t b k);
    holder_present = λ t u k. s.holder_present t u (wait-from t u k);
    waiter_begun = λ t u k. s.waiter_begun t u (wait-from t u k);
    waits_for_other = λ t u k. s.waits_for_other t u (wait-from t u k);
    depended_preparing = λ u t k. s.depended_preparing u t (dependent-from u t k);
    dependent_begun = λ u t k. s.dependent_begun u t (dependent-from u t k);
    dependent_uncommitted = λ u t k. s.dependent_uncommitted u t (dependent-from u t k);
    depends_on_other = λ u t k. s.depends_on_other u t (dependent-from u t k);
    waits_bound = λ u. subst (λ n. n ≤ length w.versions + length w.txns) (same-waits w y h u) (s.waits_bound u);
    deps_bound = λ t. subst (λ n. n ≤ length w.txns) (same-deps w y h t) (s.deps_bound t);
    waits_for_none = λ u p. sym (same-waits w y h u) ∙ s.waits_for_none u p;
    no_more_waits = s.no_more_waits;
    unbegun = s.unbegun;
    unbegun_owns = λ t e. owns t (s.unbegun_owns t e);
    unbegun_waits = λ t e. sym (same-waits w y h t) ∙ s.unbegun_waits t e;
    unbegun_deps = λ t e. sym (same-deps w y h t) ∙ s.unbegun_deps t e;
    ended_owns = λ t e. owns t (s.ended_owns t e);
  }

pub sound-regrouped : RegroupedWorldsAreSound
sound-regrouped w x g s = subst Sound (holding-is w x g) (sound-beside w x (held w x g) s)
