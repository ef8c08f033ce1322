-- Locks are refused, and walks are judged, the same in similar worlds.
use Rattle.std.proofs.Common.{◌≡◌, ℕ, Bool, true, false, List, [], ◌∷◌, Some, None, Option, refl, ◌∙◌, ap, sym}
use Rattle.std.specs.Prelude.{map, ◌==◌, ◌&&◌, ◌||◌, not, nat_lt, if◌then◌else◌}
use Rattle.hek_rules.specs.declared.event.Level.{Level}
use Rattle.hek_rules.specs.declared.event.Level.TheVariants.{Serializable, Repeatable, Snapshot}
use Rattle.hek_rules.specs.declared.event.Cause.TheVariants.{ReadersFull, NoMoreWaits}
use Rattle.hek_rules.specs.declared.event.Effect.TheVariants.{DependOn, MakeWait, ReadLock, WriteLock}
use Rattle.hek_rules.specs.declared.event.Sight.{Sight}
use Rattle.hek_rules.specs.declared.event.Sight.TheVariants.{Seen, SeenIf, Hidden, HiddenIf, HiddenActive}
use Rattle.hek_rules.specs.declared.word.BeginRecord.{BeginRecord}
use Rattle.hek_rules.specs.declared.word.BeginRecord.TheVariants.{At, By}
use Rattle.hek_rules.specs.Listing.{has}
use Rattle.hek_rules.specs.World.{World, Version, Txn, Ender, EndedAt, Held, txn_in, version_in, is_made_by, is_aborted}
use Rattle.hek_rules.specs.Waits.{readers}
use Rattle.hek_rules.specs.Checks.{is_open}
use Rattle.hek_rules.specs.Locks.{cleared, read_refusal, reads_freely, no_read_lock, write_refusal, no_write_lock}
use Rattle.hek_rules.specs.Visibility.{sight}
use Rattle.hek_rules.specs.Walk.{Refuse, Allow, Purpose, ToRead, ToWrite, behind, and_then, unless_refused, read_time, read_judged, lock_judged, wait_judged, version_judged, versions_judged, bucket_effects, last, seen_of, walk}
use Rattle.hek_similar.specs.Similar.{timeless_txn, timeless_version, timeless_creator, timeless_ender, ended_time}
use Rattle.hek_similar.proofs.Lists.{same-txn, same-version, txn-timeless}
use Rattle.hek_similar.proofs.Alike.{Alike, Past}
use Rattle.hek_similar.proofs.Counts.{beside}
use Rattle.hek_similar.proofs.Sights.{same-sight, same-seen}

-- ---- words without times
made-timeless : (t : ℕ) (c : BeginRecord) → is_made_by t (timeless_creator c) ≡ is_made_by t c
made-timeless t (At time) = refl
made-timeless t (By u) = refl

same-made : (t : ℕ) (c d : BeginRecord) → timeless_creator c ≡ timeless_creator d → is_made_by t c ≡ is_made_by t d
same-made t c d s = sym (made-timeless t c) ∙ ap (is_made_by t) s ∙ made-timeless t d

cleared-held : (b : Bool) (u : ℕ) (no_more : Bool) → timeless_ender (if b then Held None false else Held (Some u) no_more) ≡ (if b then Held None false else Held (Some u) no_more)
cleared-held true u no_more = refl
cleared-held false u no_more = refl

cleared-timeless : (ts : List Txn) (e : Ender) → timeless_ender (cleared ts e) ≡ cleared (map timeless_txn ts) (timeless_ender e)
cleared-timeless ts (EndedAt time) = refl
cleared-timeless ts (Held None no_more) = refl
cleared-timeless ts (Held (Some u) no_more) =
    cleared-held (is_aborted (txn_in ts u).state) u no_more
    ∙ ap (λ y. if is_aborted y.state then Held None false else Held (Some u) no_more) (sym (txn-timeless ts u))

pub same-cleared : (ts ss : List Txn) (e f : Ender) → map timeless_txn ts ≡ map timeless_txn ss → timeless_ender e ≡ timeless_ender f → timeless_ender (cleared ts e) ≡ timeless_ender (cleared ss f)
same-cleared ts ss e f s t = cleared-timeless ts e ∙ ap (λ l. cleared l (timeless_ender e)) s ∙ ap (cleared (map timeless_txn ss)) t ∙ sym (cleared-timeless ss f)

pub cleared-time : (ts : List Txn) (e : Ender) → ended_time (cleared ts e) ≡ ended_time e
cleared-time ts (EndedAt time) = refl
cleared-time ts (Held None no_more) = refl
cleared-time ts (Held (Some u) no_more) = by (is_aborted (txn_in ts u).state)
  where
    by : (b : Bool) → ended_time (if b then Held None false else Held (Some u) no_more) ≡ 0
    by true = refl
    by false = refl

refusal-timeless : (ts : List Txn) (n : ℕ) (e : Ender) → read_refusal ts n e ≡ read_refusal (map timeless_txn ts) n (timeless_ender e)
refusal-timeless ts n (EndedAt time) = refl
refusal-timeless ts n (Held None true) = refl
refusal-timeless ts n (Held (Some u) true) = refl
refusal-timeless ts n (Held None false) = refl
refusal-timeless ts n (Held (Some u) false) =
    ap (λ (y : Txn). if not (nat_lt n 255) then Some ReadersFull else (if n == 0 && y.no_more_waits then Some NoMoreWaits else None)) (sym (txn-timeless ts u))

same-refusal : (ts ss : List Txn) (n : ℕ) (e f : Ender) → map timeless_txn ts ≡ map timeless_txn ss → timeless_ender e ≡ timeless_ender f → read_refusal ts n e ≡ read_refusal ss n f
same-refusal ts ss n e f s t = refusal-timeless ts n e ∙ ap (λ l. read_refusal l n (timeless_ender e)) s ∙ ap (read_refusal (map timeless_txn ss) n) t ∙ sym (refusal-timeless ss n f)

write-timeless : (e : Ender) → write_refusal (timeless_ender e) ≡ write_refusal e
write-timeless (EndedAt time) = refl
write-timeless (Held writer no_more) = refl

module _ (w : World) (c : ℕ) (us : List Version) (ss : List Txn) (a : Alike w.versions us w.txns ss) where
  abbrev x : World
  x = beside w c us ss

  same-at : (t : ℕ) → timeless_txn (txn_in w.txns t) ≡ timeless_txn (txn_in ss t)
  same-at t = same-txn w.txns ss a.txns t

  same-word : (v : ℕ) → timeless_version (version_in w.versions v) ≡ timeless_version (version_in us v)
  same-word v = same-version w.versions us a.versions v

  pub clears : (v : ℕ) → timeless_ender (cleared w.txns (version_in w.versions v).ender) ≡ timeless_ender (cleared ss (version_in us v).ender)
  clears v = same-cleared w.txns ss _ _ a.txns (ap (λ y. y.ender) (same-word v))

  pub same-freely : (t v : ℕ) → reads_freely w t v ≡ reads_freely x t v
  same-freely t v = ap (λ b. b || has w.read_locks t v) (same-made t _ _ (ap (λ y. y.creator) (same-word v)))

  same-read_lock : (t v : ℕ) → no_read_lock w t v ≡ no_read_lock x t v
  same-read_lock t v =
      ap (λ b. if b then None else read_refusal w.txns (readers w.read_locks v) (cleared w.txns (version_in w.versions v).ender)) (same-freely t v)
      ∙ ap (λ o. if reads_freely x t v then None else o) (same-refusal w.txns ss (readers w.read_locks v) _ _ a.txns (clears v))

  same-write_lock : (v : ℕ) → no_write_lock w v ≡ no_write_lock x v
  same-write_lock v =
      sym (write-timeless (cleared w.txns (version_in w.versions v).ender)) ∙ ap write_refusal (clears v) ∙ write-timeless (cleared ss (version_in us v).ender)

  same-read_judged : (t v : ℕ) (level : Level) → read_judged w t v level ≡ read_judged x t v level
  same-read_judged t v Serializable = ap (λ o. unless_refused o (ReadLock v)) (same-read_lock t v)
  same-read_judged t v Repeatable = ap (λ o. unless_refused o (ReadLock v)) (same-read_lock t v)
  same-read_judged t v Snapshot = refl

  same-lock_judged : (t : ℕ) (p : Purpose) (target : Option ℕ) (v : ℕ) → lock_judged w t p target v ≡ lock_judged x t p target v
  same-lock_judged t ToRead target v = same-read_judged t v (txn_in w.txns t).level ∙ ap (λ y. read_judged x t v y.level) (same-at t)
  same-lock_judged t ToWrite None v = refl
  same-lock_judged t ToWrite (Some n) v = ap (λ o. if v == n then unless_refused o (WriteLock v) else Allow []) (same-write_lock v)

  same-wait_judged : (t u : ℕ) (level : Level) → wait_judged w t u level ≡ wait_judged x t u level
  same-wait_judged t u Repeatable = refl
  same-wait_judged t u Snapshot = refl
  same-wait_judged t u Serializable =
      ap (λ (y : Txn). if has w.waiters t u then Allow [] else (if y.no_more_waits then Refuse NoMoreWaits else Allow (MakeWait u ∷ []))) (same-at u)

  same-version_judged : (t : ℕ) (p : Purpose) (target : Option ℕ) (v : ℕ) (s : Sight) → version_judged w t p target v s ≡ version_judged x t p target v s
  same-version_judged t p target v Seen = same-lock_judged t p target v
  same-version_judged t p target v (SeenIf u) = ap (behind (DependOn u ∷ [])) (same-lock_judged t p target v)
  same-version_judged t p target v Hidden = refl
  same-version_judged t p target v (HiddenIf u) = refl
  same-version_judged t p target v (HiddenActive u) = same-wait_judged t u (txn_in w.txns t).level ∙ ap (λ y. wait_judged x t u y.level) (same-at t)

  module _ (p : Past w.clock w.versions w.txns) (q : Past c us ss) (t : ℕ) (o : is_open (txn_in w.txns t) ≡ true) where
    same-versions_judged : (aim : Purpose) (target : Option ℕ) (vs : List ℕ) → versions_judged w t aim target vs ≡ versions_judged x t aim target vs
    same-versions_judged aim target [] = refl
    same-versions_judged aim target (v ∷ vs) =
        ap (λ j. and_then j (versions_judged w t aim target vs))
        (same-version_judged t aim target v (sight w t (read_time w t) v) ∙ ap (version_judged x t aim target v) (same-sight w c us ss a p q t o v))
        ∙ ap (and_then (version_judged x t aim target v (sight x t (read_time x t) v))) (same-versions_judged aim target vs)

    pub same-walk : (aim : Purpose) (bucket : ℕ) (vs : List ℕ) → walk w t aim bucket vs ≡ walk x t aim bucket vs
    same-walk aim bucket vs =
        ap (λ (y : Txn). behind (bucket_effects y.level bucket) (versions_judged w t aim (last (seen_of w t vs)) vs)) (same-at t)
        ∙ ap (λ s. behind (bucket_effects (txn_in ss t).level bucket) (versions_judged w t aim (last s) vs)) (same-seen w c us ss a p q t o vs)
        ∙ ap (behind (bucket_effects (txn_in ss t).level bucket)) (same-versions_judged aim (last (seen_of x t vs)) vs)
