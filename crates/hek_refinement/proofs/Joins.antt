-- A pair joins: a bucket is locked, a transaction depends on another, or waits for another because of a bucket.
use Rattle.std.proofs.Common.{◌≡◌, ℕ, ◌+◌, ◌<◌, Bool, true, false, List, [], ◌∷◌, ◌++◌, refl, ◌∙◌, ap, sym, arith, ⊎_elim, length, nat_eq}
use Rattle.std.proofs.lemmas.Bool.{cond-true, cond-false, cases_Bool, cases_eq}
use Rattle.std.proofs.lemmas.Bool.Decides.{nat_tests}
use Rattle.std.specs.Prelude.{◌==◌, ◌&&◌, not, if◌then◌else◌}
use Rattle.hek_rules.specs.Listing.{has, join, is_among, firsts_of, seconds_of}
use Rattle.hek_rules.specs.World.{World}
use Rattle.hek_txn.specs.Entries.{Entries, joined}
use Rattle.hek_txn.specs.TxnTable.{TxnTable, Declared, entry_at, set_at, bucket_set_of, with_bucket_set, waiting_list_of, with_waiting_list, dependents_of, with_dependents}
use Rattle.hek_txn.specs.TxnLemmas.{length_set_at, among_flipped}
use Rattle.hek_buckets.specs.LockLists.{holders_of, with_holders}
use Rattle.hek_buckets.specs.Waited.{imposed_waits}
use Rattle.hek_commit.specs.Committed.{depended_deps}
use Rattle.hek_refinement.specs.Shows.{ShowsTxns, ShowsBuckets}
use Rattle.hek_refinement.proofs.Pairs.{bit, among-seconds, among-firsts, firsts-add_same, firsts-add_other, seconds-add_same, seconds-add_other}
use Rattle.hek_refinement.proofs.Entries.{HasPlace}
use Rattle.hek_refinement.proofs.Rooms.{place-in}
use Rattle.hek_refinement.proofs.Raised.{entry-raised}
use Rattle.hek_refinement.proofs.Changes.{shows-bucket_locks, shows-waiters, shows-dependents}
use Rattle.hek_refinement.proofs.Leaves.{shows-holders}

-- ---- lists of pairs

pub join-there : (ps : List (ℕ × ℕ)) (a b : ℕ) → has ps a b ≡ true → join ps a b ≡ ps
join-there ps a b h = cond-true (has ps a b) ps (ps ++ (a, b) ∷ []) h

join-new : (ps : List (ℕ × ℕ)) (a b : ℕ) → has ps a b ≡ false → join ps a b ≡ ps ++ (a, b) ∷ []
join-new ps a b h = cond-false (has ps a b) ps (ps ++ (a, b) ∷ []) h

-- a list that has the member stays, as pairs do
pub joined-there : (xs : List ℕ) (x : ℕ) → is_among xs x ≡ true → joined nat_eq xs x ≡ xs
joined-there xs x h = cond-true _ xs (xs ++ x ∷ []) (among_flipped xs x ∙ h)

pub joined-new : (xs : List ℕ) (x : ℕ) → is_among xs x ≡ false → joined nat_eq xs x ≡ xs ++ x ∷ []
joined-new xs x h = cond-false _ xs (xs ++ x ∷ []) (among_flipped xs x ∙ h)

pub firsts-join_same : (ps : List (ℕ × ℕ)) (a b : ℕ) → firsts_of (join ps a b) b ≡ joined nat_eq (firsts_of ps b) a
firsts-join_same ps a b =
    ⊎_elim
    (λ h. ap (λ qs. firsts_of qs b) (join-there ps a b h) ∙ sym (joined-there (firsts_of ps b) a (among-firsts ps a b ∙ h)))
    (λ h. ap (λ qs. firsts_of qs b) (join-new ps a b h) ∙ firsts-add_same ps a b ∙ sym (joined-new (firsts_of ps b) a (among-firsts ps a b ∙ h)))
    (cases_Bool (has ps a b))

pub firsts-join_other : (ps : List (ℕ × ℕ)) (a b c : ℕ) → (c ≡ b → ⊥) → firsts_of (join ps a b) c ≡ firsts_of ps c
firsts-join_other ps a b c ne =
    ⊎_elim (λ h. ap (λ qs. firsts_of qs c) (join-there ps a b h)) (λ h. ap (λ qs. firsts_of qs c) (join-new ps a b h) ∙ firsts-add_other ps a b c ne) (cases_Bool (has ps a b))

pub seconds-join_same : (ps : List (ℕ × ℕ)) (a b : ℕ) → seconds_of (join ps a b) a ≡ joined nat_eq (seconds_of ps a) b
seconds-join_same ps a b =
    ⊎_elim
    (λ h. ap (λ qs. seconds_of qs a) (join-there ps a b h) ∙ sym (joined-there (seconds_of ps a) b (among-seconds ps a b ∙ h)))
    (λ h. ap (λ qs. seconds_of qs a) (join-new ps a b h) ∙ seconds-add_same ps a b ∙ sym (joined-new (seconds_of ps a) b (among-seconds ps a b ∙ h)))
    (cases_Bool (has ps a b))

pub seconds-join_other : (ps : List (ℕ × ℕ)) (a b c : ℕ) → (c ≡ a → ⊥) → seconds_of (join ps a b) c ≡ seconds_of ps c
seconds-join_other ps a b c ne =
    ⊎_elim (λ h. ap (λ qs. seconds_of qs c) (join-there ps a b h)) (λ h. ap (λ qs. seconds_of qs c) (join-new ps a b h) ∙ seconds-add_other ps a b c ne) (cases_Bool (has ps a b))

length-add : (xs : List ℕ) (x : ℕ) → length (xs ++ x ∷ []) ≡ length xs + 1
length-add [] x = refl
length-add (y ∷ ys) x = let rest = length-add ys x in omega (arith, rest)

-- how many first parts each second part has after a pair joins
pub firsts-join_count : (ps : List (ℕ × ℕ)) (a b c : ℕ) → length (firsts_of (join ps a b) c) ≡ length (firsts_of ps c) + bit (not (has ps a b) && (b == c))
firsts-join_count ps a b c =
    ⊎_elim
    (λ h.
    let same = ap (λ qs. length (firsts_of qs c)) (join-there ps a b h) in let none : (not (has ps a b) && (b == c)) ≡ false = ap (λ t. not t && (b == c)) h in
    let k = ap bit none in omega (arith, same, k))
    (λ h. new h)
    (cases_Bool (has ps a b))
  where
    new : has ps a b ≡ false → length (firsts_of (join ps a b) c) ≡ length (firsts_of ps c) + bit (not (has ps a b) && (b == c))
    new h =
        let one : (not (has ps a b) && (b == c)) ≡ (b == c) = ap (λ t. not t && (b == c)) h in
        let k = ap bit one in
        let joins = ap (λ qs. length (firsts_of qs c)) (join-new ps a b h) in
        ⊎_elim
        (λ e.
        let same : (b == c) ≡ true = grind (arith, nat_tests, e) in let m = ap bit same in
        let n = ap (λ z. length (firsts_of (ps ++ (a, b) ∷ []) z)) e ∙ ap length (firsts-add_same ps a b) ∙ length-add (firsts_of ps b) a in
        let old = ap (λ z. length (firsts_of ps z)) e in omega (arith, k, joins, m, n, old))
        (λ ne.
        let same : (b == c) ≡ false = grind (arith, nat_tests, ne) in let m = ap bit same in
        let n = ap length (firsts-add_other ps a b c ne) in omega (arith, k, joins, m, n))
        (cases_eq c b)

-- ---- a bucket lock

pub shows-locked : (lists : List (Entries ℕ)) (n : ℕ) (P : List (ℕ × ℕ)) (t b : ℕ) (e : Entries ℕ) → b < n →
    e.items ≡ joined nat_eq (holders_of lists b).items t → ShowsBuckets lists n P → ShowsBuckets (with_holders lists b e) n (join P t b)
shows-locked lists n P t b e l items h =
    shows-holders lists n P (join P t b) b e l (λ c ne. firsts-join_other P t b c ne)
    (items ∙ ap (λ xs. joined nat_eq xs t) (h.holders b) ∙ sym (firsts-join_same P t b)) h

pub shows-locked_txns : (x : TxnTable) (w : World) (t b : ℕ) (e : Entries ℕ) → Declared x t →
    e.items ≡ joined nat_eq (bucket_set_of x t).items b → ShowsTxns x w →
    ShowsTxns (with_bucket_set x t e) (record w { bucket_locks = join w.bucket_locks t b })
shows-locked_txns x w t b e d items s =
    shows-bucket_locks x w (join w.bucket_locks t b) t e d (λ u ne. seconds-join_other w.bucket_locks t b u ne)
    (items ∙ ap (λ xs. joined nat_eq xs b) (s.bucket_sets t) ∙ sym (seconds-join_same w.bucket_locks t b)) s

-- ---- counters

-- the counters after a pair joins: one is higher, unless the pair was there
abbrev pub raised : Bool → List ℕ → ℕ → List ℕ
raised there ns u = if there then ns else set_at ns u (entry_at 0 ns u + 1)

pub raised-long : (there : Bool) (ns : List ℕ) (u : ℕ) → length (raised there ns u) ≡ length ns
raised-long true ns u = refl
raised-long false ns u = length_set_at ns u _

pub raised-entry : (there : Bool) (ns : List ℕ) (u v : ℕ) → HasPlace ns u → entry_at 0 (raised there ns u) v ≡ entry_at 0 ns v + bit (not there && (u == v))
raised-entry true ns u v h = omega arith
raised-entry false ns u v h = entry-raised ns u v h

imposed-is : (there : Bool) (x : TxnTable) (u : ℕ) → (if there then x else record x { waits = set_at x.waits u (entry_at 0 x.waits u + 1) }) ≡ record x { waits = raised there x.waits u }
imposed-is true x u = refl
imposed-is false x u = refl

depended-is : (there : Bool) (x : TxnTable) (t : ℕ) → (if there then x else record x { commit_deps = set_at x.commit_deps t (entry_at 0 x.commit_deps t + 1) }) ≡ record x { commit_deps = raised there x.commit_deps t }
depended-is true x t = refl
depended-is false x t = refl

-- ---- t depends on u

pub shows-depended : (x : TxnTable) (w : World) (t u : ℕ) (e : Entries ℕ) → Declared x t → Declared x u →
    e.items ≡ joined nat_eq (dependents_of x u).items t → ShowsTxns x w →
    ShowsTxns (with_dependents (depended_deps x t u) u e) (record w { dependents = join w.dependents u t })
shows-depended x w t u e d k items s =
    let there : Bool = is_among (dependents_of x u).items t in
    rw (depended-is there x t)
    (shows-dependents x w (join w.dependents u t) (raised (is_among (dependents_of x u).items t) x.commit_deps t) u e k
    (raised-long there x.commit_deps t)
    (λ v.
    let more = raised-entry there x.commit_deps t v (place-in x.commit_deps x t s.even.commit_deps d) in let old = s.commit_deps v in
    let same : is_among (dependents_of x u).items t ≡ has w.dependents u t = ap (λ xs. is_among xs t) (s.dependents u) ∙ among-seconds w.dependents u t in
    let b = ap (λ c. bit (not c && (t == v))) same in
    let count = firsts-join_count w.dependents u t v in omega (arith, more, old, b, count))
    (λ v ne. seconds-join_other w.dependents u t v ne)
    (items ∙ ap (λ xs. joined nat_eq xs t) (s.dependents u) ∙ sym (seconds-join_same w.dependents u t)) s)

-- ---- u waits for t

pub shows-waited : (x : TxnTable) (w : World) (t u : ℕ) (e : Entries ℕ) → Declared x t → Declared x u →
    e.items ≡ joined nat_eq (waiting_list_of x t).items u → ShowsTxns x w →
    ShowsTxns (with_waiting_list (imposed_waits x t u) t e) (record w { waiters = join w.waiters t u })
shows-waited x w t u e d k items s =
    let there : Bool = is_among (waiting_list_of x t).items u in
    rw (imposed-is there x u)
    (shows-waiters x w (join w.waiters t u) (raised (is_among (waiting_list_of x t).items u) x.waits u) t e d
    (raised-long there x.waits u)
    (λ v.
    let more = raised-entry there x.waits u v (place-in x.waits x u s.even.waits k) in let old = s.waits v in
    let same : is_among (waiting_list_of x t).items u ≡ has w.waiters t u = ap (λ xs. is_among xs u) (s.waiting_lists t) ∙ among-seconds w.waiters t u in
    let b = ap (λ c. bit (not c && (u == v))) same in
    let count = firsts-join_count w.waiters t u v in omega (arith, more, old, b, count))
    (λ v ne. seconds-join_other w.waiters t u v ne)
    (items ∙ ap (λ xs. joined nat_eq xs u) (s.waiting_lists t) ∙ sym (seconds-join_same w.waiters t u)) s)
