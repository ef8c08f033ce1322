-- Walks are judged the same in regrouped worlds.
use Rattle.std.proofs.Common.{◌≡◌, ℕ, List, [], ◌∷◌, Some, None, Option, refl, ◌∙◌, ap, length}
use Rattle.hek_rules.specs.Listing.{firsts_of}
use Rattle.std.specs.Prelude.{◌||◌, if◌then◌else◌}
use Rattle.hek_rules.specs.declared.event.Level.{Level}
use Rattle.hek_rules.specs.declared.event.Level.TheVariants.{Serializable, Repeatable, Snapshot}
use Rattle.hek_rules.specs.declared.event.Cause.TheVariants.{NoMoreWaits}
use Rattle.hek_rules.specs.declared.event.Effect.TheVariants.{DependOn, MakeWait, ReadLock}
use Rattle.hek_rules.specs.declared.event.Sight.{Sight}
use Rattle.hek_rules.specs.declared.event.Sight.TheVariants.{Seen, SeenIf, Hidden, HiddenIf, HiddenActive}
use Rattle.hek_rules.specs.declared.event.WriteEntry.{WriteEntry}
use Rattle.hek_rules.specs.World.{World, txn_in, version_in, is_made_by}
use Rattle.hek_rules.specs.Locks.{cleared, read_refusal, reads_freely, no_read_lock}
use Rattle.hek_rules.specs.Visibility.{sight}
use Rattle.hek_rules.specs.Walk.{Refuse, Allow, Purpose, ToRead, ToWrite, behind, and_then, unless_refused, read_time, read_judged, lock_judged, wait_judged, version_judged, versions_judged, bucket_effects, last, seen_of, walk}
use Rattle.hek_similar.specs.Holdings.{Regrouped, holding}
use Rattle.hek_similar.proofs.Holdings.Pairs.{Like, like-has, like-count, seconds-like, entries-like, like-seconds, like-entries}

-- what the transactions of a world hold
pub record Lists : Type 0 where
  pub read_locks : List (ℕ × ℕ)
  pub writes : List (ℕ × WriteEntry)
  pub bucket_locks : List (ℕ × ℕ)
  pub waiters : List (ℕ × ℕ)
  pub dependents : List (ℕ × ℕ)

abbrev pub lists : World → Lists
lists w = record { read_locks = w.read_locks; writes = w.writes; bucket_locks = w.bucket_locks; waiters = w.waiters; dependents = w.dependents }

-- each transaction holds the same
pub record Held (a b : Lists) : Type 0 where
  pub read_locks : Like a.read_locks b.read_locks
  pub writes : Like a.writes b.writes
  pub bucket_locks : Like a.bucket_locks b.bucket_locks
  pub waiters : Like a.waiters b.waiters
  pub dependents : Like a.dependents b.dependents

pub held : (w x : World) → Regrouped w x → Held (lists w) (lists x)
held w x g = record {
  read_locks = seconds-like w.read_locks x.read_locks g.read_sets;
  writes = entries-like w.writes x.writes g.write_sets;
  bucket_locks = seconds-like w.bucket_locks x.bucket_locks g.bucket_sets;
  waiters = seconds-like w.waiters x.waiters g.waiting_lists;
  dependents = seconds-like w.dependents x.dependents g.dependents;
}

pub regrouped : (w x : World) → w.buckets ≡ x.buckets → w.clock ≡ x.clock → w.versions ≡ x.versions → w.txns ≡ x.txns → Held (lists w) (lists x) → Regrouped w x
regrouped w x b c v t h = record {
  buckets = b;
  clock = c;
  versions = v;
  txns = t;
  read_sets = like-seconds w.read_locks x.read_locks h.read_locks;
  write_sets = like-entries w.writes x.writes h.writes;
  bucket_sets = like-seconds w.bucket_locks x.bucket_locks h.bucket_locks;
  waiting_lists = like-seconds w.waiters x.waiters h.waiters;
  dependents = like-seconds w.dependents x.dependents h.dependents;
}

pub holding-is : (w x : World) → Regrouped w x → holding w x ≡ x
holding-is w x g =
    ap (λ n. record (holding w x) { buckets = n }) g.buckets
    ∙ ap (λ n. record (holding w x) { buckets = x.buckets; clock = n }) g.clock
    ∙ ap (λ l. record (holding w x) { buckets = x.buckets; clock = x.clock; versions = l }) g.versions
    ∙ ap (λ l. record x { txns = l }) g.txns

module _ (w y : World) (h : Held (lists w) (lists y)) where
  abbrev x : World
  x = holding w y

  pub same-freely : (t v : ℕ) → reads_freely w t v ≡ reads_freely x t v
  same-freely t v = ap (λ b. is_made_by t (version_in w.versions v).creator || b) (like-has w.read_locks y.read_locks h.read_locks t v)

  same-read_lock : (t v : ℕ) → no_read_lock w t v ≡ no_read_lock x t v
  same-read_lock t v =
      ap (λ b. if b then None else read_refusal w.txns (length (firsts_of w.read_locks v)) (cleared w.txns (version_in w.versions v).ender)) (same-freely t v)
      ∙ ap (λ n. if reads_freely x t v then None else read_refusal w.txns n (cleared w.txns (version_in w.versions v).ender)) (like-count w.read_locks y.read_locks h.read_locks v)

  same-read_judged : (t v : ℕ) (level : Level) → read_judged w t v level ≡ read_judged x t v level
  same-read_judged t v Serializable = ap (λ o. unless_refused o (ReadLock v)) (same-read_lock t v)
  same-read_judged t v Repeatable = ap (λ o. unless_refused o (ReadLock v)) (same-read_lock t v)
  same-read_judged t v Snapshot = refl

  same-lock_judged : (t : ℕ) (p : Purpose) (target : Option ℕ) (v : ℕ) → lock_judged w t p target v ≡ lock_judged x t p target v
  same-lock_judged t ToRead target v = same-read_judged t v (txn_in w.txns t).level
  same-lock_judged t ToWrite None v = refl
  same-lock_judged t ToWrite (Some n) v = refl

  same-wait_judged : (t u : ℕ) (level : Level) → wait_judged w t u level ≡ wait_judged x t u level
  same-wait_judged t u Repeatable = refl
  same-wait_judged t u Snapshot = refl
  same-wait_judged t u Serializable =
      ap (λ b. if b then Allow [] else (if (txn_in w.txns u).no_more_waits then Refuse NoMoreWaits else Allow (MakeWait u ∷ []))) (like-has w.waiters y.waiters h.waiters t u)

  same-version_judged : (t : ℕ) (p : Purpose) (target : Option ℕ) (v : ℕ) (s : Sight) → version_judged w t p target v s ≡ version_judged x t p target v s
  same-version_judged t p target v Seen = same-lock_judged t p target v
  same-version_judged t p target v (SeenIf u) = ap (behind (DependOn u ∷ [])) (same-lock_judged t p target v)
  same-version_judged t p target v Hidden = refl
  same-version_judged t p target v (HiddenIf u) = refl
  same-version_judged t p target v (HiddenActive u) = same-wait_judged t u (txn_in w.txns t).level

  same-versions_judged : (t : ℕ) (p : Purpose) (target : Option ℕ) (vs : List ℕ) → versions_judged w t p target vs ≡ versions_judged x t p target vs
  same-versions_judged t p target [] = refl
  same-versions_judged t p target (v ∷ vs) =
      ap (λ j. and_then j (versions_judged w t p target vs)) (same-version_judged t p target v (sight w t (read_time w t) v))
      ∙ ap (and_then (version_judged x t p target v (sight x t (read_time x t) v))) (same-versions_judged t p target vs)

  pub same-walk : (t : ℕ) (p : Purpose) (bucket : ℕ) (vs : List ℕ) → walk w t p bucket vs ≡ walk x t p bucket vs
  same-walk t p bucket vs = ap (behind (bucket_effects (txn_in w.txns t).level bucket)) (same-versions_judged t p (last (seen_of w t vs)) vs)
