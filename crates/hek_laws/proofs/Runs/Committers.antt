-- A committed transaction depended on committed ones alone.
use Rattle.std.proofs.Common.{◌≡◌, ℕ, true, false, List, [], ◌∷◌, ◌++◌, refl, ◌∙◌, ap, sym, ⊎_elim}
use Rattle.std.proofs.lemmas.Bool.{cases_Bool, false≢true, eqb-true, or_cases, or_left, or_right, or_from}
use Rattle.std.specs.Prelude.{◌||◌, ◌==◌}
use Rattle.hek_rules.specs.declared.event.Event.{Event}
use Rattle.hek_rules.specs.declared.reply.Reply.{Reply}
use Rattle.hek_rules.specs.Listing.{has, is_among}
use Rattle.hek_rules.specs.World.{World, opening, txn_in}
use Rattle.hek_rules.specs.Faults.{put_all}
use Rattle.hek_rules.specs.Run.{next, transcript, reply as reply_to}
use Rattle.hek_rules.specs.Serial.{committed_by, committed_in}
use Rattle.hek_laws.specs.Runs.{IsReachable}
use Rattle.hek_laws.proofs.Table.Changes.{each_outcome}
use Rattle.hek_laws.proofs.Worlds.Histories.{committed_in-append, append-nil}
use Rattle.hek_laws.proofs.Futures.Survivors.{History, has_committed, Goes}
use Rattle.hek_laws.proofs.Futures.PullBack.{is_among-append, each_goes, preparing-unsettled}
use Rattle.hek_laws.specs.Rows.{AreRising}
use Rattle.hek_laws.proofs.Runs.Opening.{base-rising}
use Rattle.hek_laws.proofs.Runs.Whole.{Whole, whole-next}
use Rattle.hek_laws.proofs.Runs.Reachable.{reachable-firm}

-- a doomed transaction does not commit at its next event
doomed-uncommitted : (w : World) (t : ℕ) → (txn_in w.txns t).abort_now ≡ true → (e : Event) → is_among (committed_by e (reply_to w e)) t ≡ false
doomed-uncommitted w t bad e = each_outcome w (λ e o. is_among (committed_by e o.reply) t ≡ false) (record {
  same = λ e r i _. ap (λ xs. is_among xs t) i.commits;
  aborts = λ e r x cause i _ _. ap (λ xs. is_among xs t) i.commits;
  begins = λ x _ _. refl;
  reads = λ x key es _ _. refl;
  scans = λ x b es _ _. refl;
  exists = λ x key value v es _ _ _. refl;
  inserts = λ x key value es _ _ _ _. refl;
  misses_update = λ x key value es _ _ _. refl;
  updates = λ x key value v es _ _ _. refl;
  misses_delete = λ x key es _ _ _. refl;
  deletes = λ x key v es _ _ _. refl;
  finishes = λ x _. refl;
  prepares = λ x _ _ _. refl;
  drops = λ x v r _ i _. ap (λ xs. is_among xs t) i.commits;
  unlocks = λ x b _. refl;
  frees = λ x u _. refl;
  commits = λ x p _. or_from _ _ (⊎_elim (λ y. absurd (false≢true (sym p.hopeful ∙ ap (λ n. (txn_in w.txns n).abort_now) (eqb-true x t y) ∙ bad))) (λ n. n) (cases_Bool (x == t))) refl;
  stamps_begin = λ x v _ _ _. refl;
  stamps_end = λ x v _ _ _. refl;
  voids = λ x v _ _ _ _. refl;
  gives_back = λ x v _ _ r _ _ i _. ap (λ xs. is_among xs t) i.commits;
  ends = λ x _ _. refl;
}) e

module _ (rows : List (ℕ × ℕ)) (up : AreRising rows) where
  goes : (w : World) (h : History) → Whole rows w h → (e : Event) → Goes w h (next w e) (h ++ (e, reply_to w e) ∷ [])
  goes w h k e = each_outcome w (λ e o. Goes w h o.world (h ++ (e, o.reply) ∷ [])) (each_goes w h k.dependences (record { settled = λ u y. (k.told u).settled y })) e

  among-first : (w : World) (e : Event) (es : List Event) (n : ℕ) → has_committed (transcript w (e ∷ es)) n ≡ (is_among (committed_by e (reply_to w e)) n || has_committed (transcript (next w e) es) n)
  among-first w e es n = is_among-append (committed_by e (reply_to w e)) (committed_in (transcript (next w e) es)) n

  -- a doomed transaction never commits
  doomed-never : (w : World) (h : History) → Whole rows w h → (t : ℕ) → (txn_in w.txns t).abort_now ≡ true → (es : List Event) → has_committed (transcript w es) t ≡ true → ⊥
  doomed-never w h k t bad [] y = false≢true y
  doomed-never w h k t bad (e ∷ es) y =
      ⊎_elim (λ now. false≢true (sym (doomed-uncommitted w t bad e) ∙ now))
      (λ later. doomed-never (next w e) (h ++ (e, reply_to w e) ∷ []) (whole-next rows up w h e k) t ((goes w h k e).stays t bad) es later)
      (or_cases _ _ (sym (among-first w e es t) ∙ y))

  -- the transactions that commit in some events and one more
  among-last : (h : History) (e : Event) (r : Reply) (n : ℕ) → has_committed (h ++ (e, r) ∷ []) n ≡ (has_committed h n || is_among (committed_by e r) n)
  among-last h e r n =
      ap (λ xs. is_among xs n) (committed_in-append h ((e, r) ∷ []) ∙ ap (λ xs. committed_in h ++ xs) (append-nil (committed_by e r)))
      ∙ is_among-append (committed_in h) (committed_by e r) n

  depended-committed : (w : World) (h : History) → Whole rows w h → (u t : ℕ) → has w.dependents u t ≡ true → (es : List Event) → has_committed (transcript w es) t ≡ true → has_committed (transcript w es) u ≡ true
  depended-committed w h k u t d [] y = absurd (false≢true y)
  depended-committed w h k u t d (e ∷ es) y =
      let new = next w e in
      let later = h ++ (e, reply_to w e) ∷ [] in
      let k2 = whole-next rows up w h e k in
      let past = among-last h e (reply_to w e) in
      among-first w e es u ∙
      ⊎_elim
      (λ still.
      let out = k2.dependences.second u t still in
      let rest = ⊎_elim (λ now. absurd (false≢true (sym out ∙ past t ∙ or_right (has_committed h t) _ now))) (λ q. q) (or_cases _ _ (sym (among-first w e es t) ∙ y)) in
      or_right (is_among (committed_by e (reply_to w e)) u) _ (depended-committed new later k2 u t still es rest))
      (λ c. ⊎_elim
      (λ done. or_left _ (has_committed (transcript new es) u) (⊎_elim (λ before. absurd (false≢true (sym (preparing-unsettled w h u (record { settled = λ n z. (k.told n).settled z }) (k.dependences.first u t d)) ∙ before))) (λ now. now) (or_cases _ _ (sym (past u) ∙ done))))
      (λ bad. absurd (⊎_elim (λ now. false≢true (sym bad.1 ∙ past t ∙ or_right (has_committed h t) _ now)) (λ rest. doomed-never new later k2 t bad.0 es rest) (or_cases _ _ (sym (among-first w e es t) ∙ y)))) c)
      ((goes w h k e).dependence u t d)

pub depend-on-committed : (w : World) → IsReachable w → (u t : ℕ) → has w.dependents u t ≡ true → (es : List Event) → has_committed (transcript w es) t ≡ true → has_committed (transcript w es) u ≡ true
depend-on-committed w r u t d es y = depended-committed (put_all r.rows []) (base-rising r.rows) w (transcript (opening r.buckets r.rows r.levels r.clock) r.events) (reachable-firm w r).whole u t d es y
