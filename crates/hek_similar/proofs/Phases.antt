-- Begin, finish, precommit, commit, abort, release, stamp, end and detect, in similar worlds.
use Rattle.std.proofs.Common.{◌≡◌, ℕ, ◌+◌, ◌<◌, Bool, true, false, List, [], ◌∷◌, Some, None, Option, refl, ◌∙◌, ap, sym, subst, arith}
use Rattle.std.proofs.lemmas.Bool.{false≢true, and_right, or_right, lt-ltb}
use Rattle.std.specs.Prelude.{◌==◌, nat_lt, slice_set, if◌then◌else◌}
use Rattle.hek_rules.specs.declared.event.State.TheVariants as state
use Rattle.hek_rules.specs.declared.event.Cause.{Cause}
use Rattle.hek_rules.specs.declared.event.Cause.TheVariants.{Deadlock}
use Rattle.hek_rules.specs.declared.event.WriteEntry.{WriteEntry}
use Rattle.hek_rules.specs.declared.event.WriteEntry.TheVariants.{BeginOf, EndOf}
use Rattle.hek_rules.specs.declared.reply.Reply.TheVariants as reply
use Rattle.hek_rules.specs.declared.word.BeginRecord.TheVariants.{At}
use Rattle.hek_rules.specs.Words.{infinity}
use Rattle.hek_rules.specs.Listing.{seconds_of, leave}
use Rattle.hek_rules.specs.World.{World, Version, Txn, Ender, EndedAt, Held, txn_in, set_txn, version_in, ender_writer, is_committed, is_prepared}
use Rattle.hek_rules.specs.Waits.{waits, commit_deps, readers}
use Rattle.hek_rules.specs.WaitGraph.{victim}
use Rattle.hek_rules.specs.Locks.{set_ender}
use Rattle.hek_rules.specs.Table.{doom, abort, aborted, begin_rule, begin, finish, finish_rule, prepare, precommit_rule, commit, commit_rule, sealed, drop_read, release_read, release_waiter, release_bucket, release_first, release_rule, entries_of, without_entry, given_back, stamp_committed, stamp_aborted, stamp_rule, end, end_rule, detect_rule}
use Rattle.hek_similar.specs.Similar.{Similar, timeless_txn, timeless_ender, ended_time, timeless_reply}
use Rattle.hek_similar.proofs.Lists.{same-txn, same-version}
use Rattle.hek_similar.proofs.Alike.{Alike, Past, set-txn, close-txn, set-ender, set-creator, doom-alike, clock-look, begins-before}
use Rattle.hek_similar.proofs.Counts.{beside, same-waits, same-victim, same-held}
use Rattle.hek_similar.proofs.Agree.{Agree, beside-similar, unchanged-agree, two_conds, two_tests}

-- ---- enders without times
writer-timeless : (e : Ender) → ender_writer (timeless_ender e) ≡ ender_writer e
writer-timeless (EndedAt time) = refl
writer-timeless (Held writer no_more) = refl

same-writer : (e f : Ender) → timeless_ender e ≡ timeless_ender f → ender_writer e ≡ ender_writer f
same-writer e f s = sym (writer-timeless e) ∙ ap ender_writer s ∙ writer-timeless f

sealed-timeless : (e : Ender) → timeless_ender (sealed e) ≡ sealed (timeless_ender e)
sealed-timeless (EndedAt time) = refl
sealed-timeless (Held None no_more) = refl
sealed-timeless (Held (Some u) no_more) = refl

same-sealed : (e f : Ender) → timeless_ender e ≡ timeless_ender f → timeless_ender (sealed e) ≡ timeless_ender (sealed f)
same-sealed e f s = sealed-timeless e ∙ ap sealed s ∙ sym (sealed-timeless f)

sealed-time : (e : Ender) → ended_time (sealed e) ≡ ended_time e
sealed-time (EndedAt time) = refl
sealed-time (Held None no_more) = refl
sealed-time (Held (Some u) no_more) = refl

given-held : (t u : ℕ) (no_more : Bool) → timeless_ender (given_back t (Held (Some u) no_more)) ≡ given_back t (Held (Some u) no_more)
given-held t u no_more = by (u == t)
  where
    by : (b : Bool) → timeless_ender (if b then Held None false else Held (Some u) no_more) ≡ (if b then Held None false else Held (Some u) no_more)
    by true = refl
    by false = refl

given-timeless : (t : ℕ) (e : Ender) → timeless_ender (given_back t e) ≡ given_back t (timeless_ender e)
given-timeless t (EndedAt time) = refl
given-timeless t (Held None no_more) = refl
given-timeless t (Held (Some u) no_more) = given-held t u no_more

same-given : (t : ℕ) (e f : Ender) → timeless_ender e ≡ timeless_ender f → timeless_ender (given_back t e) ≡ timeless_ender (given_back t f)
same-given t e f s = given-timeless t e ∙ ap (given_back t) s ∙ sym (given-timeless t f)

given-time : (t : ℕ) (e : Ender) → ended_time (given_back t e) ≡ ended_time e
given-time t (EndedAt time) = refl
given-time t (Held None no_more) = refl
given-time t (Held (Some u) no_more) = by (u == t)
  where
    by : (b : Bool) → ended_time (if b then Held None false else Held (Some u) no_more) ≡ 0
    by true = refl
    by false = refl

module _ (w : World) (c : ℕ) (us : List Version) (ss : List Txn) (a : Alike w.versions us w.txns ss) where
  abbrev x : World
  x = beside w c us ss

  same-at : (t : ℕ) → timeless_txn (txn_in w.txns t) ≡ timeless_txn (txn_in ss t)
  same-at t = same-txn w.txns ss a.txns t

  same-ender : (v : ℕ) → timeless_ender (version_in w.versions v).ender ≡ timeless_ender (version_in us v).ender
  same-ender v = ap (λ y. y.ender) (same-version w.versions us a.versions v)

  -- ---- times that are drawn
  pub begin-agree : (t : ℕ) → Past w.clock w.versions w.txns → Past c us ss → Agree (begin_rule w t) (begin_rule x t)
  begin-agree t p q =
      let y : Txn = record (txn_in w.txns t) { state = state.Active; begin = w.clock } in
      let z : Txn = record (txn_in ss t) { state = state.Active; begin = c } in
      let ok : Alike w.versions us (set_txn w.txns t y) (set_txn ss t z) =
      set-txn w.versions us w.txns ss a t y z (ap {A = Txn} {B = Txn} (λ b. record b { state = state.Active }) (same-at t))
      (λ h. absurd (false≢true h)) (λ _. clock-look w.clock c w.versions us w.txns ss a.versions p q) in
      record { reply = refl; world = beside-similar (begin w t) (c + 1) us (set_txn ss t z) ok }

  prepare-similar : (t : ℕ) → Past w.clock w.versions w.txns → Past c us ss → Similar (prepare w t) (prepare x t)
  prepare-similar t p q =
      let y : Txn = record (txn_in w.txns t) { state = state.Preparing; end = w.clock } in
      let z : Txn = record (txn_in ss t) { state = state.Preparing; end = c } in
      let ok : Alike w.versions us (set_txn w.txns t y) (set_txn ss t z) =
      close-txn w.versions us w.txns ss a t y z (ap {A = Txn} {B = Txn} (λ b. record b { state = state.Preparing }) (same-at t)) refl
      (λ _ u _. begins-before w.clock c _ _ (p.begins u) (q.begins u)) in
      beside-similar (prepare w t) (c + 1) us (set_txn ss t z) ok

  pub precommit-agree : (t : ℕ) → Past w.clock w.versions w.txns → Past c us ss → Agree (precommit_rule w t) (precommit_rule x t)
  precommit-agree t p q =
      let same : waits w t ≡ waits x t = same-waits w c us ss a.versions a.txns t in
      two_tests (waits w t == 0) (waits x t == 0) _ _ _ _ Agree (ap (λ n. n == 0) same)
      (λ _. record { reply = refl; world = prepare-similar t p q })
      (λ _. unchanged-agree w c us ss a _ _ (ap reply.Waiting same))

  -- ---- changes of state
  pub finish-agree : (t : ℕ) → Agree (finish_rule w t) (finish_rule x t)
  finish-agree t =
      let y : Txn = record (txn_in w.txns t) { no_more_waits = true } in
      let z : Txn = record (txn_in ss t) { no_more_waits = true } in
      let ok : Alike w.versions us (set_txn w.txns t y) (set_txn ss t z) =
      close-txn w.versions us w.txns ss a t y z (ap {A = Txn} {B = Txn} (λ b. record b { no_more_waits = true }) (same-at t)) (and_right _ _ refl)
      (λ h u l. (a.looks u l).prepared t h) in
      record { reply = refl; world = beside-similar (finish w t) c us (set_txn ss t z) ok }

  commit-similar : (t : ℕ) → (txn_in w.txns t).state ≡ state.Preparing → Similar (commit w t) (commit x t)
  commit-similar t is =
      let y : Txn = record (txn_in w.txns t) { state = state.Committed } in
      let z : Txn = record (txn_in ss t) { state = state.Committed } in
      let ok : Alike w.versions us (set_txn w.txns t y) (set_txn ss t z) =
      close-txn w.versions us w.txns ss a t y z (ap {A = Txn} {B = Txn} (λ b. record b { state = state.Committed }) (same-at t)) refl
      (λ _ u l. (a.looks u l).prepared t (ap is_prepared is)) in
      beside-similar (commit w t) c us (set_txn ss t z) ok

  pub commit-agree : (t : ℕ) → (txn_in w.txns t).state ≡ state.Preparing → Agree (commit_rule w t) (commit_rule x t)
  commit-agree t is =
      two_conds (commit_deps w t == 0) _ _ _ _ Agree (λ _. record { reply = refl; world = commit-similar t is }) (λ _. unchanged-agree w c us ss a _ _ refl)

  pub end-agree : (t : ℕ) → Agree (end_rule w t) (end_rule x t)
  end-agree t =
      let y : Txn = record (txn_in w.txns t) { state = state.Terminated } in
      let z : Txn = record (txn_in ss t) { state = state.Terminated } in
      let ok : Alike w.versions us (set_txn w.txns t y) (set_txn ss t z) =
      close-txn w.versions us w.txns ss a t y z (ap {A = Txn} {B = Txn} (λ b. record b { state = state.Terminated }) (same-at t)) refl
      (λ h. absurd (false≢true h)) in
      record { reply = refl; world = beside-similar (end w t) c us (set_txn ss t z) ok }

  pub abort-similar : (t : ℕ) (cause : Cause) → Similar (abort w t cause) (abort x t cause)
  abort-similar t cause =
      let y : Txn = record (txn_in w.txns t) { state = state.Aborted cause } in
      let z : Txn = record (txn_in ss t) { state = state.Aborted cause } in
      let ok : Alike w.versions us (set_txn w.txns t y) (set_txn ss t z) =
      close-txn w.versions us w.txns ss a t y z (ap {A = Txn} {B = Txn} (λ b. record b { state = state.Aborted cause }) (same-at t)) refl
      (λ h. absurd (false≢true h)) in
      beside-similar (abort w t cause) c us (doom (set_txn ss t z) (seconds_of w.dependents t)) (doom-alike w.versions us (set_txn w.txns t y) (set_txn ss t z) (seconds_of w.dependents t) ok)

  pub aborted-agree : (t : ℕ) (cause : Cause) → Agree (aborted w t cause) (aborted x t cause)
  aborted-agree t cause = record { reply = refl; world = abort-similar t cause }

  detect-by : (o : Option (ℕ × List ℕ)) → Agree (detect_rule w o) (detect_rule x o)
  detect-by None = unchanged-agree w c us ss a _ _ refl
  detect-by (Some found) = record { reply = refl; world = abort-similar found.0 Deadlock }

  pub detect-agree : Agree (detect_rule w (victim w)) (detect_rule x (victim x))
  detect-agree = subst (λ o. Agree (detect_rule w (victim w)) (detect_rule x o)) (same-victim w c us ss a.versions a.txns) (detect-by (victim w))

  -- ---- release
  seal-alike : (v : ℕ) → Alike (set_ender w.versions v (sealed (version_in w.versions v).ender)) (set_ender us v (sealed (version_in us v).ender)) w.txns ss
  seal-alike v =
      set-ender w.versions us w.txns ss a v _ _ (same-sealed _ _ (same-ender v))
      (λ u l. ap (nat_lt (txn_in w.txns u).begin) (sealed-time (version_in w.versions v).ender) ∙ (a.looks u l).ended v ∙ sym (ap (nat_lt (txn_in ss u).begin) (sealed-time (version_in us v).ender)))

  drop-similar : (t v : ℕ) → Similar (drop_read w t v) (drop_read x t v)
  drop-similar t v =
      let n : ℕ = readers (leave w.read_locks t v) v in
      beside-similar (drop_read w t v) c (drop_read x t v).versions ss
      (two_conds (n == 0) (set_ender w.versions v (sealed (version_in w.versions v).ender)) w.versions (set_ender us v (sealed (version_in us v).ender)) us (λ vs xs. Alike vs xs w.txns ss) (λ _. seal-alike v) (λ _. a))

  read-agree : (t v : ℕ) → Agree (release_read w t v) (release_read x t v)
  read-agree t v = record {
    reply = ap (λ o. reply.ReleasedRead v (if readers (leave w.read_locks t v) v == 0 then o else None)) (same-writer _ _ (same-ender v));
    world = drop-similar t v;
  }

  waiter-agree : (t : ℕ) (l : List ℕ) → Agree (release_waiter w t l) (release_waiter x t l)
  waiter-agree t [] = unchanged-agree w c us ss a _ _ refl
  waiter-agree t (u ∷ l) = record { reply = refl; world = beside-similar (record w { waiters = leave w.waiters t u }) c us ss a }

  bucket-agree : (t : ℕ) (bs : List ℕ) → Agree (release_bucket w t bs) (release_bucket x t bs)
  bucket-agree t [] = waiter-agree t (seconds_of w.waiters t)
  bucket-agree t (b ∷ bs) = record { reply = refl; world = beside-similar (record w { bucket_locks = leave w.bucket_locks t b }) c us ss a }

  first-agree : (t : ℕ) (vs : List ℕ) → Agree (release_first w t vs) (release_first x t vs)
  first-agree t [] = bucket-agree t (seconds_of w.bucket_locks t)
  first-agree t (v ∷ vs) = read-agree t v

  pub release-agree : (t : ℕ) → Agree (release_rule w t) (release_rule x t)
  release-agree t = first-agree t (seconds_of w.read_locks t)

  -- ---- stamps
  module _ (p : Past w.clock w.versions w.txns) (q : Past c us ss) (t : ℕ) where
    -- an end time comes
    comes : (b : ℕ) (vs : List Version) (ts : List Txn) → Past b vs ts → nat_lt (txn_in ts t).end infinity ≡ true
    comes b vs ts r = let before : (txn_in ts t).end < b = r.ends t in let short : b < infinity = r.clock in lt-ltb _ infinity (omega arith)

    stamp-begin : (v : ℕ) → is_prepared (txn_in w.txns t).state ≡ true →
        Similar (record w { versions = slice_set w.versions v (record (version_in w.versions v) { creator = At (txn_in w.txns t).end }); writes = without_entry w.writes t })
        (record x { versions = slice_set us v (record (version_in us v) { creator = At (txn_in ss t).end }); writes = without_entry w.writes t })
    stamp-begin v is =
        beside-similar (record w { versions = slice_set w.versions v (record (version_in w.versions v) { creator = At (txn_in w.txns t).end }); writes = without_entry w.writes t }) c _ ss
        (set-creator w.versions us w.txns ss a v (At (txn_in w.txns t).end) (At (txn_in ss t).end)
        (ap (λ b. At (if b then 0 else infinity)) (comes w.clock w.versions w.txns p ∙ sym (comes c us ss q)))
        (λ u l. (a.looks u l).prepared t is))

    stamp-end : (v : ℕ) → is_prepared (txn_in w.txns t).state ≡ true →
        Similar (record w { versions = set_ender w.versions v (EndedAt (txn_in w.txns t).end); writes = without_entry w.writes t })
        (record x { versions = set_ender us v (EndedAt (txn_in ss t).end); writes = without_entry w.writes t })
    stamp-end v is =
        beside-similar (record w { versions = set_ender w.versions v (EndedAt (txn_in w.txns t).end); writes = without_entry w.writes t }) c _ ss
        (set-ender w.versions us w.txns ss a v (EndedAt (txn_in w.txns t).end) (EndedAt (txn_in ss t).end) refl (λ u l. (a.looks u l).prepared t is))

    committed-agree : (es : List WriteEntry) → is_prepared (txn_in w.txns t).state ≡ true → Agree (stamp_committed w t es) (stamp_committed x t es)
    committed-agree [] is = unchanged-agree w c us ss a _ _ refl
    committed-agree (BeginOf v ∷ es) is = record { reply = refl; world = stamp-begin v is }
    committed-agree (EndOf v ∷ es) is = record { reply = refl; world = stamp-end v is }

    infinite : (u : ℕ) → nat_lt (txn_in w.txns u).begin infinity ≡ nat_lt (txn_in ss u).begin infinity
    infinite u =
        let b : (txn_in w.txns u).begin < w.clock = p.begins u in
        let d : (txn_in ss u).begin < c = q.begins u in
        let k : w.clock < infinity = p.clock in
        let m : c < infinity = q.clock in
        begins-before infinity infinity _ _ (omega arith) (omega arith)

    void-begin : (v : ℕ) →
        Similar (record w { versions = slice_set w.versions v (record (version_in w.versions v) { creator = At infinity }); writes = without_entry w.writes t })
        (record x { versions = slice_set us v (record (version_in us v) { creator = At infinity }); writes = without_entry w.writes t })
    void-begin v =
        beside-similar (record w { versions = slice_set w.versions v (record (version_in w.versions v) { creator = At infinity }); writes = without_entry w.writes t }) c _ ss
        (set-creator w.versions us w.txns ss a v (At infinity) (At infinity) refl (λ u l. infinite u))

    give-back : (v : ℕ) →
        Similar (record w { versions = set_ender w.versions v (given_back t (version_in w.versions v).ender); writes = without_entry w.writes t })
        (record x { versions = set_ender us v (given_back t (version_in us v).ender); writes = without_entry w.writes t })
    give-back v =
        beside-similar (record w { versions = set_ender w.versions v (given_back t (version_in w.versions v).ender); writes = without_entry w.writes t }) c _ ss
        (set-ender w.versions us w.txns ss a v _ _ (same-given t _ _ (same-ender v))
        (λ u l. ap (nat_lt (txn_in w.txns u).begin) (given-time t (version_in w.versions v).ender) ∙ (a.looks u l).ended v ∙ sym (ap (nat_lt (txn_in ss u).begin) (given-time t (version_in us v).ender))))

    undone-agree : (es : List WriteEntry) → Agree (stamp_aborted w t es) (stamp_aborted x t es)
    undone-agree [] = unchanged-agree w c us ss a _ _ refl
    undone-agree (BeginOf v ∷ es) = record { reply = refl; world = void-begin v }
    undone-agree (EndOf v ∷ es) = record {
      reply = ap (λ b. timeless_reply (if b then reply.StampedEnd v else reply.Left v)) (same-held t _ _ (same-ender v));
      world = give-back v;
    }

    pub stamp-agree : Agree (stamp_rule w t) (stamp_rule x t)
    stamp-agree =
        two_tests (is_committed (txn_in w.txns t).state) (is_committed (txn_in ss t).state) _ _ _ _ Agree (ap (λ y. is_committed y.state) (same-at t))
        (λ is. committed-agree (entries_of w.writes t) (or_right _ _ is)) (λ _. undone-agree (entries_of w.writes t))
