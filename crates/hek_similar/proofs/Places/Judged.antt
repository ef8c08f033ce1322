-- Walks are judged the same in a renumbered world, but for the places in their effects.
use Rattle.std.proofs.Common.{◌≡◌, ℕ, Bool, true, false, List, [], ◌∷◌, Some, None, Option, refl, ◌∙◌, ap, sym, length}
use Rattle.std.proofs.lemmas.List.{map-append}
use Rattle.std.specs.Prelude.{map, ◌==◌, ◌||◌, if◌then◌else◌}
use Rattle.hek_rules.specs.declared.event.Level.{Level}
use Rattle.hek_rules.specs.declared.event.Level.TheVariants.{Serializable, Repeatable, Snapshot}
use Rattle.hek_rules.specs.declared.event.Cause.{Cause}
use Rattle.hek_rules.specs.declared.event.Cause.TheVariants.{NoMoreWaits}
use Rattle.hek_rules.specs.declared.event.Effect.{Effect}
use Rattle.hek_rules.specs.declared.event.Effect.TheVariants.{LockBucket, DependOn, MakeWait, ReadLock, WriteLock}
use Rattle.hek_rules.specs.declared.event.Sight.{Sight}
use Rattle.hek_rules.specs.declared.event.Sight.TheVariants.{Seen, SeenIf, Hidden, HiddenIf, HiddenActive}
use Rattle.hek_rules.specs.Listing.{has}
use Rattle.hek_rules.specs.World.{World, txn_in, version_in, is_made_by}
use Rattle.hek_rules.specs.Waits.{readers}
use Rattle.hek_rules.specs.Locks.{cleared, read_refusal, reads_freely, no_read_lock, write_refusal, no_write_lock}
use Rattle.hek_rules.specs.Visibility.{sight, sight_by, is_seen}
use Rattle.hek_rules.specs.Walk.{Judgement, Refuse, Allow, Purpose, ToRead, ToWrite, behind, and_then, unless_refused, read_time, read_judged, lock_judged, wait_judged, version_judged, versions_judged, bucket_effects, last, seen_of, walk}
use Rattle.hek_similar.specs.Places.{Renumbering, renumbered}
use Rattle.hek_similar.proofs.Places.Renumbered.{Trades, version-to, has-to, readers-to, same-place}

pub through : {X Y : Type 0} (f : X → Y) (b : Bool) (x y : X) → (if b then f x else f y) ≡ f (if b then x else y)
through f true x y = refl
through f false x y = refl

-- ---- effects and judgements at the new places
abbrev pub effect-to : Renumbering → Effect → Effect
effect-to r (LockBucket b) = LockBucket b
effect-to r (DependOn u) = DependOn u
effect-to r (MakeWait u) = MakeWait u
effect-to r (ReadLock v) = ReadLock (r.to v)
effect-to r (WriteLock v) = WriteLock (r.to v)

abbrev pub judgement-to : Renumbering → Judgement → Judgement
judgement-to r (Refuse cause) = Refuse cause
judgement-to r (Allow es) = Allow (map (effect-to r) es)

abbrev pub target-to : Renumbering → Option ℕ → Option ℕ
target-to r None = None
target-to r (Some v) = Some (r.to v)

pub last-to : (r : Renumbering) (vs : List ℕ) → last (map r.to vs) ≡ target-to r (last vs)
last-to r [] = refl
last-to r (v ∷ []) = refl
last-to r (v ∷ x ∷ xs) = last-to r (x ∷ xs)

behind-to : (r : Renumbering) (before : List Effect) (j : Judgement) → behind (map (effect-to r) before) (judgement-to r j) ≡ judgement-to r (behind before j)
behind-to r before (Refuse cause) = refl
behind-to r before (Allow es) = ap Allow (sym (map-append (effect-to r) before es))

and_then-to : (r : Renumbering) (j k : Judgement) → and_then (judgement-to r j) (judgement-to r k) ≡ judgement-to r (and_then j k)
and_then-to r (Refuse cause) k = refl
and_then-to r (Allow es) k = behind-to r es k

unless-to : (r : Renumbering) (o : Option Cause) (e : Effect) → unless_refused o (effect-to r e) ≡ judgement-to r (unless_refused o e)
unless-to r None e = refl
unless-to r (Some cause) e = refl

bucket-to : (r : Renumbering) (level : Level) (bucket : ℕ) → bucket_effects level bucket ≡ map (effect-to r) (bucket_effects level bucket)
bucket-to r Serializable bucket = refl
bucket-to r Repeatable bucket = refl
bucket-to r Snapshot bucket = refl

module _ (r : Renumbering) (w : World) (trade : Trades r (length w.versions)) where
  abbrev x : World
  x = renumbered r w

  pub word : (v : ℕ) → version_in x.versions (r.to v) ≡ version_in w.versions v
  word v = version-to r (length w.versions) trade w.versions refl v

  sight-to : (t time v : ℕ) → sight x t time (r.to v) ≡ sight w t time v
  sight-to t time v = ap (λ y. sight_by w.txns t time y.creator y.ender) (word v)

  pub freely-to : (t v : ℕ) → reads_freely x t (r.to v) ≡ reads_freely w t v
  freely-to t v =
      ap (λ y. is_made_by t y.creator || has x.read_locks t (r.to v)) (word v)
      ∙ ap (λ b. is_made_by t (version_in w.versions v).creator || b) (has-to r (length w.versions) trade w.read_locks t v)

  read_lock-to : (t v : ℕ) → no_read_lock x t (r.to v) ≡ no_read_lock w t v
  read_lock-to t v =
      ap (λ b. if b then None else read_refusal w.txns (readers x.read_locks (r.to v)) (cleared w.txns (version_in x.versions (r.to v)).ender)) (freely-to t v)
      ∙ ap (λ n. if reads_freely w t v then None else read_refusal w.txns n (cleared w.txns (version_in x.versions (r.to v)).ender)) (readers-to r (length w.versions) trade w.read_locks v)
      ∙ ap (λ y. if reads_freely w t v then None else read_refusal w.txns (readers w.read_locks v) (cleared w.txns y.ender)) (word v)

  write_lock-to : (v : ℕ) → no_write_lock x (r.to v) ≡ no_write_lock w v
  write_lock-to v = ap (λ y. write_refusal (cleared w.txns y.ender)) (word v)

  locked-to : (t v : ℕ) → unless_refused (no_read_lock x t (r.to v)) (ReadLock (r.to v)) ≡ judgement-to r (unless_refused (no_read_lock w t v) (ReadLock v))
  locked-to t v = ap (λ o. unless_refused o (ReadLock (r.to v))) (read_lock-to t v) ∙ unless-to r (no_read_lock w t v) (ReadLock v)

  read_judged-to : (t v : ℕ) (level : Level) → read_judged x t (r.to v) level ≡ judgement-to r (read_judged w t v level)
  read_judged-to t v Serializable = locked-to t v
  read_judged-to t v Repeatable = locked-to t v
  read_judged-to t v Snapshot = refl

  lock_judged-to : (t : ℕ) (p : Purpose) (target : Option ℕ) (v : ℕ) → lock_judged x t p (target-to r target) (r.to v) ≡ judgement-to r (lock_judged w t p target v)
  lock_judged-to t ToRead target v = read_judged-to t v (txn_in w.txns t).level
  lock_judged-to t ToWrite None v = refl
  lock_judged-to t ToWrite (Some n) v =
      ap (λ b. if b then unless_refused (no_write_lock x (r.to v)) (WriteLock (r.to v)) else Allow []) (same-place r (length w.versions) trade v n)
      ∙ ap (λ j. if v == n then j else Allow []) (ap (λ o. unless_refused o (WriteLock (r.to v))) (write_lock-to v) ∙ unless-to r (no_write_lock w v) (WriteLock v))
      ∙ through (judgement-to r) (v == n) (unless_refused (no_write_lock w v) (WriteLock v)) (Allow [])

  wait_judged-to : (t u : ℕ) (level : Level) → wait_judged x t u level ≡ judgement-to r (wait_judged w t u level)
  wait_judged-to t u Repeatable = refl
  wait_judged-to t u Snapshot = refl
  wait_judged-to t u Serializable = by (has w.waiters t u) (txn_in w.txns u).no_more_waits
    where
      by : (b c : Bool) → (if b then Allow [] else (if c then Refuse NoMoreWaits else Allow (MakeWait u ∷ []))) ≡ judgement-to r (if b then Allow [] else (if c then Refuse NoMoreWaits else Allow (MakeWait u ∷ [])))
      by true c = refl
      by false true = refl
      by false false = refl

  version_judged-to : (t : ℕ) (p : Purpose) (target : Option ℕ) (v : ℕ) (s : Sight) → version_judged x t p (target-to r target) (r.to v) s ≡ judgement-to r (version_judged w t p target v s)
  version_judged-to t p target v Seen = lock_judged-to t p target v
  version_judged-to t p target v (SeenIf u) = ap (behind (DependOn u ∷ [])) (lock_judged-to t p target v) ∙ behind-to r (DependOn u ∷ []) (lock_judged w t p target v)
  version_judged-to t p target v Hidden = refl
  version_judged-to t p target v (HiddenIf u) = refl
  version_judged-to t p target v (HiddenActive u) = wait_judged-to t u (txn_in w.txns t).level

  versions_judged-to : (t : ℕ) (p : Purpose) (target : Option ℕ) (vs : List ℕ) → versions_judged x t p (target-to r target) (map r.to vs) ≡ judgement-to r (versions_judged w t p target vs)
  versions_judged-to t p target [] = refl
  versions_judged-to t p target (v ∷ vs) =
      ap (λ s. and_then (version_judged x t p (target-to r target) (r.to v) s) (versions_judged x t p (target-to r target) (map r.to vs))) (sight-to t (read_time w t) v)
      ∙ ap (λ j. and_then j (versions_judged x t p (target-to r target) (map r.to vs))) (version_judged-to t p target v (sight w t (read_time w t) v))
      ∙ ap (and_then (judgement-to r (version_judged w t p target v (sight w t (read_time w t) v)))) (versions_judged-to t p target vs)
      ∙ and_then-to r (version_judged w t p target v (sight w t (read_time w t) v)) (versions_judged w t p target vs)

  pub seen-to : (t : ℕ) (vs : List ℕ) → seen_of x t (map r.to vs) ≡ map r.to (seen_of w t vs)
  seen-to t [] = refl
  seen-to t (v ∷ vs) =
      ap (λ s. if is_seen s then r.to v ∷ seen_of x t (map r.to vs) else seen_of x t (map r.to vs)) (sight-to t (read_time w t) v)
      ∙ ap (λ l. if is_seen (sight w t (read_time w t) v) then r.to v ∷ l else l) (seen-to t vs)
      ∙ through (map r.to) (is_seen (sight w t (read_time w t) v)) (v ∷ seen_of w t vs) (seen_of w t vs)

  pub walk-to : (t : ℕ) (p : Purpose) (bucket : ℕ) (vs : List ℕ) → walk x t p bucket (map r.to vs) ≡ judgement-to r (walk w t p bucket vs)
  walk-to t p bucket vs =
      ap (λ l. behind (bucket_effects (txn_in w.txns t).level bucket) (versions_judged x t p (last l) (map r.to vs))) (seen-to t vs)
      ∙ ap (λ o. behind (bucket_effects (txn_in w.txns t).level bucket) (versions_judged x t p o (map r.to vs))) (last-to r (seen_of w t vs))
      ∙ ap (λ j. behind (bucket_effects (txn_in w.txns t).level bucket) j) (versions_judged-to t p (last (seen_of w t vs)) vs)
      ∙ ap (λ es. behind es (judgement-to r (versions_judged w t p (last (seen_of w t vs)) vs))) (bucket-to r (txn_in w.txns t).level bucket)
      ∙ behind-to r (bucket_effects (txn_in w.txns t).level bucket) (versions_judged w t p (last (seen_of w t vs)) vs)
