-- Changes that are undone, and the writes of a longer front of a history.
use Rattle.std.proofs.Common.{◌≡◌, ℕ, zero, suc, ◌+◌, List, [], ◌∷◌, ◌++◌, refl, ◌∙◌, ap, sym, Some, None, Option, ⊎_elim, take, add-one}
use Rattle.std.proofs.lemmas.Bool.{cases_Bool, cond-true, cond-false, eqb-true}
use Rattle.std.specs.Prelude.{◌==◌, slice_get, if◌then◌else◌}
use Rattle.hek_rules.specs.declared.event.Event.{Event}
use Rattle.hek_rules.specs.declared.reply.Reply.{Reply}
use Rattle.hek_rules.specs.declared.serial.Write.{Write}
use Rattle.hek_rules.specs.Listing.{put, take_out, value_of}
use Rattle.hek_rules.specs.Serial.{lay, lay_all, write_of, writes_of}
use Rattle.hek_laws.proofs.Lists.Overlay.{left_by, value_of-put, value_of-take_out, value_of-lay}
use Rattle.hek_laws.proofs.Lists.Rising.{same_rows, rising-put, rising-lay_all}
use Rattle.hek_laws.specs.Rows.{AreRising, key_of}
use Rattle.hek_laws.proofs.Worlds.Histories.{writes_of-append, lay_all-append, append-nil}
use Rattle.hek_serial.specs.BucketRows.{BucketRows}
use Rattle.hek_serial.specs.Replay.{laid_back, undone}
use Rattle.hek_serial.proofs.Maps.{rising-take_out}

pub laid_back-append : (us : List Write) (u : Write) (rows : List (ℕ × ℕ)) → laid_back (us ++ u ∷ []) rows ≡ laid_back us (lay u rows)
laid_back-append [] u rows = refl
laid_back-append (w ∷ us) u rows = ap (lay w) (laid_back-append us u rows)

pub undone-append : (us : List Write) (u : Write) (s : BucketRows) → undone (us ++ u ∷ []) s ≡ undone us (record { buckets = s.buckets; rows = lay u s.rows })
undone-append us u s = ap (λ rows. record { buckets = s.buckets; rows = rows }) (laid_back-append us u s.rows)

-- one more change to undo
pub undone-more : (us : List Write) (u : Write) (old new : BucketRows) → new.buckets ≡ old.buckets → lay u new.rows ≡ old.rows → undone (us ++ u ∷ []) new ≡ undone us old
undone-more us u old new b r =
    let rows = laid_back-append us u new.rows ∙ ap (laid_back us) r in
    λ i. record { buckets = b i; rows = rows i }

-- the values of all keys once a changed key has its old value again
again : (w : Write) (rows : List (ℕ × ℕ)) (o : Option ℕ) → value_of rows (key_of w) ≡ o → (q : ℕ) → (if key_of w == q then o else value_of (lay w rows) q) ≡ value_of rows q
again w rows o h q =
    ⊎_elim
    (λ y. cond-true (key_of w == q) o (value_of (lay w rows) q) y ∙ sym h ∙ ap (value_of rows) (eqb-true _ _ y))
    (λ n. cond-false (key_of w == q) o (value_of (lay w rows) q) n ∙ value_of-lay w rows q ∙ cond-false (key_of w == q) (left_by w) (value_of rows q) n)
    (cases_Bool (key_of w == q))

pub put_back : (w : Write) (rows : List (ℕ × ℕ)) (v : ℕ) → AreRising rows → value_of rows (key_of w) ≡ Some v → put (key_of w) v (lay w rows) ≡ rows
put_back w rows v r h =
    same_rows _ _ (rising-put (lay w rows) (key_of w) v (rising-lay_all (w ∷ []) rows r)) r (λ q. value_of-put (lay w rows) (key_of w) v q ∙ again w rows (Some v) h q)

pub take_back : (w : Write) (rows : List (ℕ × ℕ)) → AreRising rows → value_of rows (key_of w) ≡ None → take_out (key_of w) (lay w rows) ≡ rows
take_back w rows r h =
    same_rows _ _ (rising-take_out (lay w rows) (key_of w) (rising-lay_all (w ∷ []) rows r)) r (λ q. value_of-take_out (lay w rows) (key_of w) q ∙ again w rows None h q)

pub take_one_more : {X : Type 0} (xs : List X) (i : ℕ) (x : X) → slice_get xs i ≡ Some x → take (i + 1) xs ≡ take i xs ++ x ∷ []
take_one_more xs i x h = ap (λ n. take n xs) (add-one i) ∙ more xs i x h
  where
    more : {X : Type 0} (ys : List X) (n : ℕ) (y : X) → slice_get ys n ≡ Some y → take (suc n) ys ≡ take n ys ++ y ∷ []
    more [] n y e = cc
    more (z ∷ ys) zero y e = let same : z ≡ y = cc in ap (λ v. v ∷ []) same
    more (z ∷ ys) (suc n) y e = ap (λ zs. z ∷ zs) (more ys n y e)

-- the writes so far, with those of one more entry
pub writes_one_more : (t : ℕ) (h : List (Event × Reply)) (i : ℕ) (e : Event) (r : Reply) → slice_get h i ≡ Some (e, r) →
    writes_of t (take (i + 1) h) ≡ writes_of t (take i h) ++ write_of t e r
writes_one_more t h i e r at =
    ap (writes_of t) (take_one_more h i (e, r) at)
    ∙ writes_of-append t (take i h) ((e, r) ∷ []) ∙ ap (λ ws. writes_of t (take i h) ++ ws) (append-nil (write_of t e r))

-- the rows under them
pub lay_one_more : (t : ℕ) (h : List (Event × Reply)) (i : ℕ) (e : Event) (r : Reply) (rows : List (ℕ × ℕ)) → slice_get h i ≡ Some (e, r) →
    lay_all (writes_of t (take (i + 1) h)) rows ≡ lay_all (write_of t e r) (lay_all (writes_of t (take i h)) rows)
lay_one_more t h i e r rows at =
    ap (λ d. lay_all (writes_of t d) rows) (take_one_more h i (e, r) at)
    ∙ ap (λ ws. lay_all ws rows) (writes_of-append t (take i h) ((e, r) ∷ []) ∙ ap (λ ws. writes_of t (take i h) ++ ws) (append-nil (write_of t e r)))
    ∙ lay_all-append (writes_of t (take i h)) (write_of t e r) rows
