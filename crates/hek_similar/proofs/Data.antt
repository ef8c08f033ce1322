-- Reads, scans, inserts, updates and deletes in similar worlds.
use Rattle.std.proofs.Common.{◌≡◌, ℕ, Bool, true, false, List, [], ◌∷◌, Some, None, Option, refl, ◌∙◌, ap, sym, subst}
use Rattle.std.specs.Prelude.{map, ◌==◌, ◌&&◌, ◌||◌, not, nat_lt}
use Rattle.hek_rules.specs.declared.event.Level.{Level}
use Rattle.hek_rules.specs.declared.event.Level.TheVariants.{Serializable, Repeatable, Snapshot}
use Rattle.hek_rules.specs.declared.event.Cause.{Cause}
use Rattle.hek_rules.specs.declared.event.Cause.TheVariants.{Conflict}
use Rattle.hek_rules.specs.declared.event.Effect.{Effect}
use Rattle.hek_rules.specs.declared.reply.Reply.TheVariants as reply
use Rattle.hek_rules.specs.declared.word.BeginRecord.{BeginRecord}
use Rattle.hek_rules.specs.declared.word.BeginRecord.TheVariants.{At, By}
use Rattle.hek_rules.specs.Words.{infinity}
use Rattle.hek_rules.specs.Listing.{put}
use Rattle.hek_rules.specs.World.{World, Version, Txn, txn_in, version_in, bucket_of, is_active, is_prepared}
use Rattle.hek_rules.specs.Checks.{is_open}
use Rattle.hek_rules.specs.Locks.{add_version}
use Rattle.hek_rules.specs.Walk.{Judgement, Refuse, Allow, Purpose, ToRead, ToWrite, read_time, last, seen_of, walk, apply_all, of_key, of_bucket}
use Rattle.hek_rules.specs.Table.{Outcome, found, after_read, read_rule, pairs_of, after_scan, scan_rule, is_made_by_other, is_made_later, claims, is_claim, is_claimed, after_insert, insert_rule, after_update, update_rule, after_delete, delete_rule, aborted}
use Rattle.hek_similar.specs.Similar.{Similar, timeless_txn, timeless_version, timeless_creator, timeless_reply, made_time, LookAlike}
use Rattle.hek_similar.proofs.Lists.{same-txn, same-version, places-same}
use Rattle.hek_similar.proofs.Alike.{Alike, Past, same-comes}
use Rattle.hek_similar.proofs.Counts.{beside}
use Rattle.hek_similar.proofs.Agree.{Agree, beside-similar, two_tests}
use Rattle.hek_similar.proofs.Phases.{aborted-agree}
use Rattle.hek_similar.proofs.Sights.{read-look, same-seen}
use Rattle.hek_similar.proofs.Judged.{same-walk}
use Rattle.hek_similar.proofs.Effects.{effects-similar, version-similar}

-- ---- rows
pub same-pairs : (vs us : List Version) → map timeless_version vs ≡ map timeless_version us → (pairs : List (ℕ × ℕ)) (l : List ℕ) → pairs_of vs pairs l ≡ pairs_of us pairs l
same-pairs vs us e pairs [] = refl
same-pairs vs us e pairs (v ∷ l) =
    same-pairs vs us e (put (version_in vs v).key (version_in vs v).value pairs) l
    ∙ ap (λ (y : Version). pairs_of us (put y.key y.value pairs) l) (same-version vs us e v)

-- ---- claims
other-timeless : (ts ss : List Txn) (t : ℕ) (c : BeginRecord) → map timeless_txn ts ≡ map timeless_txn ss → is_made_by_other ts t c ≡ is_made_by_other ss t (timeless_creator c)
other-timeless ts ss t (At time) e = refl
other-timeless ts ss t (By u) e = ap (λ (y : Txn). not (u == t) && is_active y.state) (same-txn ts ss e u)

same-other : (ts ss : List Txn) (t : ℕ) (c d : BeginRecord) → map timeless_txn ts ≡ map timeless_txn ss → timeless_creator c ≡ timeless_creator d → is_made_by_other ts t c ≡ is_made_by_other ss t d
same-other ts ss t c d e s = other-timeless ts ss t c e ∙ ap (is_made_by_other ss t) s ∙ sym (other-timeless ss ss t d refl)

pub and-same : (a b c : Bool) → (a ≡ true → b ≡ c) → (a && b) ≡ (a && c)
and-same true b c h = h refl
and-same false b c h = refl

module _ (vs us : List Version) (ts ss : List Txn) (e : map timeless_txn ts ≡ map timeless_txn ss) (r q : ℕ) (l : LookAlike vs us ts ss r q) where
  later-by : (u : ℕ) → is_made_later ts r (By u) ≡ is_made_later ss q (By u)
  later-by u =
      and-same (is_prepared (txn_in ts u).state) _ _ (l.prepared u)
      ∙ ap (λ (y : Txn). is_prepared y.state && nat_lt q (txn_in ss u).end) (same-txn ts ss e u)

  same-later : (c d : BeginRecord) → timeless_creator c ≡ timeless_creator d → nat_lt r (made_time c) ≡ nat_lt q (made_time d) → is_made_later ts r c ≡ is_made_later ss q d
  same-later (At a) (At b) s h = ap (λ n. n && nat_lt a infinity) h ∙ ap (λ n. nat_lt q b && n) (same-comes (At a) (At b) s)
  same-later (At a) (By u) s h = cc
  same-later (By u) (At a) s h = cc
  same-later (By u) (By n) s h = later-by u ∙ ap (is_made_later ss q) s

  same-claims : (t : ℕ) (level : Level) (c d : BeginRecord) → timeless_creator c ≡ timeless_creator d → nat_lt r (made_time c) ≡ nat_lt q (made_time d) → claims ts t r level c ≡ claims ss t q level d
  same-claims t Serializable c d s h = same-other ts ss t c d e s
  same-claims t Repeatable c d s h = same-other ts ss t c d e s
  same-claims t Snapshot c d s h = ap (λ n. n || is_made_later ts r c) (same-other ts ss t c d e s) ∙ ap (λ n. is_made_by_other ss t d || n) (same-later c d s h)

module _ (w : World) (c : ℕ) (us : List Version) (ss : List Txn) (a : Alike w.versions us w.txns ss) where
  abbrev x : World
  x = beside w c us ss

  pub same-key : (key : ℕ) → of_key w key ≡ of_key x key
  same-key key = places-same (λ v y. y.key == key) (λ v y. y.key == key) w.versions us (λ v y. refl) (λ v y. refl) (λ v y. refl) a.versions

  same-bucket : (bucket : ℕ) → of_bucket w bucket ≡ of_bucket x bucket
  same-bucket bucket = places-same (λ v y. bucket_of w y.key == bucket) (λ v y. bucket_of w y.key == bucket) w.versions us (λ v y. refl) (λ v y. refl) (λ v y. refl) a.versions

  refuse-agree : (t : ℕ) (cause : Cause) → Agree (aborted w t cause) (aborted x t cause)
  refuse-agree t cause = aborted-agree w c us ss a t cause

  all-similar : (t : ℕ) (es : List Effect) → Similar (apply_all t w es) (apply_all t x es)
  all-similar t es = effects-similar t w x es (beside-similar w c us ss a)

  grown-similar : (t key value : ℕ) (es : List Effect) → Similar (add_version (apply_all t w es) t key value) (add_version (apply_all t x es) t key value)
  grown-similar t key value es = version-similar t (apply_all t w es) (apply_all t x es) key value (all-similar t es)

  -- ---- what a walk found, and what it was judged
  found-same : (target : Option ℕ) → timeless_reply (found w target) ≡ timeless_reply (found x target)
  found-same None = refl
  found-same (Some v) = ap (λ (y : Version). reply.Found y.value) (same-version w.versions us a.versions v)

  after_read-agree : (t : ℕ) (target : Option ℕ) (j : Judgement) → Agree (after_read w t target j) (after_read x t target j)
  after_read-agree t target (Refuse cause) = refuse-agree t cause
  after_read-agree t target (Allow es) = record { reply = found-same target; world = all-similar t es }

  after_scan-agree : (t : ℕ) (seen : List ℕ) (j : Judgement) → Agree (after_scan w t seen j) (after_scan x t seen j)
  after_scan-agree t seen (Refuse cause) = refuse-agree t cause
  after_scan-agree t seen (Allow es) = record { reply = ap reply.Rows (same-pairs w.versions us a.versions [] seen); world = all-similar t es }

  after_update-agree : (t key value : ℕ) (target : Option ℕ) (j : Judgement) → Agree (after_update w t key value target j) (after_update x t key value target j)
  after_update-agree t key value target (Refuse cause) = refuse-agree t cause
  after_update-agree t key value None (Allow es) = record { reply = refl; world = all-similar t es }
  after_update-agree t key value (Some v) (Allow es) = record { reply = refl; world = grown-similar t key value es }

  after_delete-agree : (t : ℕ) (target : Option ℕ) (j : Judgement) → Agree (after_delete w t target j) (after_delete x t target j)
  after_delete-agree t target (Refuse cause) = refuse-agree t cause
  after_delete-agree t None (Allow es) = record { reply = refl; world = all-similar t es }
  after_delete-agree t (Some v) (Allow es) = record { reply = refl; world = all-similar t es }

  module _ (p : Past w.clock w.versions w.txns) (q : Past c us ss) (t : ℕ) (o : is_open (txn_in w.txns t) ≡ true) where
    same-claim : (v : ℕ) → is_claim w t (txn_in w.txns t).level (version_in w.versions v).creator ≡ is_claim x t (txn_in ss t).level (version_in us v).creator
    same-claim v =
        let l : LookAlike w.versions us w.txns ss (read_time w t) (read_time x t) = read-look w c us ss a p q t o in
        same-claims w.versions us w.txns ss a.txns (read_time w t) (read_time x t) l t (txn_in w.txns t).level _ _ (ap (λ y. y.creator) (same-version w.versions us a.versions v)) (l.made v)
        ∙ ap (λ y. claims ss t (read_time x t) y.level (version_in us v).creator) (same-txn w.txns ss a.txns t)

    same-claimed : (vs : List ℕ) → is_claimed w t vs ≡ is_claimed x t vs
    same-claimed [] = refl
    same-claimed (v ∷ vs) = ap (λ b. b || is_claimed w t vs) (same-claim v) ∙ ap (λ b. is_claim x t (txn_in ss t).level (version_in us v).creator || b) (same-claimed vs)

    after_insert-agree : (key value : ℕ) (target : Option ℕ) (j : Judgement) → Agree (after_insert w t key value target j) (after_insert x t key value target j)
    after_insert-agree key value target (Refuse cause) = refuse-agree t cause
    after_insert-agree key value (Some v) (Allow es) = record { reply = refl; world = all-similar t es }
    after_insert-agree key value None (Allow es) =
        two_tests (is_claimed w t (of_key w key)) (is_claimed x t (of_key x key)) _ _ _ _ Agree (same-claimed (of_key w key) ∙ ap (is_claimed x t) (same-key key))
        (λ _. refuse-agree t Conflict) (λ _. record { reply = refl; world = grown-similar t key value es })

    -- the last version seen of a key, and the judgement of a walk over its versions
    same-last : (key : ℕ) → last (seen_of w t (of_key w key)) ≡ last (seen_of x t (of_key x key))
    same-last key = ap last (same-seen w c us ss a p q t o (of_key w key) ∙ ap (seen_of x t) (same-key key))

    same-judged : (aim : Purpose) (key : ℕ) → walk w t aim (bucket_of w key) (of_key w key) ≡ walk x t aim (bucket_of x key) (of_key x key)
    same-judged aim key = same-walk w c us ss a p q t o aim (bucket_of w key) (of_key w key) ∙ ap (walk x t aim (bucket_of w key)) (same-key key)

    -- what agrees after any target and judgement agrees after those of a key
    at-key : (aim : Purpose) (key : ℕ) (f g : Option ℕ → Judgement → Outcome) → ((n : Option ℕ) (j : Judgement) → Agree (f n j) (g n j)) →
        Agree (f (last (seen_of w t (of_key w key))) (walk w t aim (bucket_of w key) (of_key w key))) (g (last (seen_of x t (of_key x key))) (walk x t aim (bucket_of x key) (of_key x key)))
    at-key aim key f g both =
        let n : Option ℕ = last (seen_of w t (of_key w key)) in
        let j : Judgement = walk w t aim (bucket_of w key) (of_key w key) in
        subst (λ m. Agree (f n j) (g m (walk x t aim (bucket_of x key) (of_key x key)))) (same-last key)
        (subst (λ k. Agree (f n j) (g n k)) (same-judged aim key) (both n j))

    pub read-agree : (key : ℕ) → Agree (read_rule w t key) (read_rule x t key)
    read-agree key = at-key ToRead key (after_read w t) (after_read x t) (after_read-agree t)

    pub insert-agree : (key value : ℕ) → Agree (insert_rule w t key value) (insert_rule x t key value)
    insert-agree key value = at-key ToRead key (after_insert w t key value) (after_insert x t key value) (after_insert-agree key value)

    pub update-agree : (key value : ℕ) → Agree (update_rule w t key value) (update_rule x t key value)
    update-agree key value = at-key ToWrite key (after_update w t key value) (after_update x t key value) (after_update-agree t key value)

    pub delete-agree : (key : ℕ) → Agree (delete_rule w t key) (delete_rule x t key)
    delete-agree key = at-key ToWrite key (after_delete w t) (after_delete x t) (after_delete-agree t)

    pub scan-agree : (bucket : ℕ) → Agree (scan_rule w t bucket) (scan_rule x t bucket)
    scan-agree bucket =
        let n : List ℕ = seen_of w t (of_bucket w bucket) in
        let j : Judgement = walk w t ToRead bucket (of_bucket w bucket) in
        subst (λ m. Agree (after_scan w t n j) (after_scan x t m (walk x t ToRead bucket (of_bucket x bucket)))) (same-seen w c us ss a p q t o (of_bucket w bucket) ∙ ap (seen_of x t) (same-bucket bucket))
        (subst (λ k. Agree (after_scan w t n j) (after_scan x t n k)) (same-walk w c us ss a p q t o ToRead bucket (of_bucket w bucket) ∙ ap (walk x t ToRead bucket) (same-bucket bucket)) (after_scan-agree t n j))
