-- The laws of renumbered worlds: each event, runs, committed rows.
use Rattle.std.proofs.Common.{◌≡◌, ℕ, suc, ◌+◌, ◌<◌, Bool, List, [], ◌∷◌, refl, ◌∙◌, ap, sym, subst, length, arith, ⊎_elim}
use Rattle.std.proofs.lemmas.Bool.{cases_Bool, cond-true, cond-false, eqb-true, and_parts}
use Rattle.std.proofs.lemmas.List.Elements.{All-head, All-tail}
use Rattle.std.specs.List.{All}
use Rattle.std.specs.Prelude.{filter, ◌==◌, ◌&&◌, if◌then◌else◌, Some}
use Rattle.hek_rules.specs.declared.reply.Reply.{Reply}
use Rattle.hek_rules.specs.Listing.{put, value_of}
use Rattle.hek_rules.specs.World.{World, Version, version_in, places}
use Rattle.hek_rules.specs.Run.{next, reply, run, transcript}
use Rattle.hek_rules.specs.Shown.{was_made, lasts, committed_rows}
use Rattle.hek_rules.specs.Table.{pairs_of}
use Rattle.hek_laws.specs.Rows.{AreRising}
use Rattle.hek_laws.proofs.Worlds.Fixed.{fixed-next}
use Rattle.hek_laws.proofs.Lists.Overlay.{value_of-put}
use Rattle.hek_laws.proofs.Lists.Rising.{same_rows, rising-put}
use Rattle.hek_similar.specs.Places.{Renumbering, IsRenumbering, ScansGroup, renumbered, renumbered_reply}
use Rattle.hek_similar.specs.Laws.{RenumberedWorldsAnswerAlike, RenumberedRunsAnswerAlike}
use Rattle.hek_similar.proofs.Places.Renumbered.{trades}
use Rattle.hek_similar.proofs.Places.Ordered.{places-order}
use Rattle.hek_similar.proofs.Places.Events.{outcome-is, pairs-to}
use Rattle.hek_similar.proofs.Places.Kept.{next-renumbering}

pub worlds-renumbered : RenumberedWorldsAnswerAlike
worlds-renumbered r w e i g = (ap (λ o. o.reply) (outcome-is r w i e g), ap (λ o. o.world) (outcome-is r w i e g), next-renumbering r w e i)

pub runs-renumbered : RenumberedRunsAnswerAlike
runs-renumbered r w [] i g = (refl, refl, i)
runs-renumbered r w (e ∷ es) i g =
    let one = worlds-renumbered r w e i (All-head (ScansGroup r.group w.buckets) e es g) in
    let rest : All (ScansGroup r.group (next w e).buckets) es = subst (λ n. All (ScansGroup r.group n) es) (sym (fixed-next w e).buckets) (All-tail (ScansGroup r.group w.buckets) e es g) in
    let more = runs-renumbered r (next w e) es one.2 rest in (
      ap (λ (a : Reply). (e, a) ∷ transcript (next (renumbered r w) e) es) one.0
          ∙ ap (λ y. (e, renumbered_reply r (reply w e)) ∷ transcript y es) one.1
          ∙ ap (λ l. (e, renumbered_reply r (reply w e)) ∷ l) more.0,
      ap (λ y. run y es) one.1 ∙ more.1,
      more.2,
    )

-- ---- committed rows
pairs-rising : (vs : List Version) (pairs : List (ℕ × ℕ)) (l : List ℕ) → AreRising pairs → AreRising (pairs_of vs pairs l)
pairs-rising vs pairs [] up = up
pairs-rising vs pairs (v ∷ l) up = pairs-rising vs (put (version_in vs v).key (version_in vs v).value pairs) l (rising-put pairs _ _ up)

-- the value of a key rests on the versions of that key alone
pairs-key : (vs : List Version) (q : ℕ) (pairs others : List (ℕ × ℕ)) (l : List ℕ) → value_of pairs q ≡ value_of others q →
    value_of (pairs_of vs pairs l) q ≡ value_of (pairs_of vs others (filter (λ v. (version_in vs v).key == q) l)) q
pairs-key vs q pairs others [] e = e
pairs-key vs q pairs others (v ∷ l) e =
    let key : ℕ = (version_in vs v).key in
    let value : ℕ = (version_in vs v).value in
    let rest : List ℕ = filter (λ n. (version_in vs n).key == q) l in
    let new : value_of (put key value pairs) q ≡ (if key == q then Some value else value_of pairs q) = value_of-put pairs key value q in
    ⊎_elim
    (λ y.
    pairs-key vs q (put key value pairs) (put key value others) l
    (new ∙ ap (λ o. if key == q then Some value else o) e ∙ sym (value_of-put others key value q))
    ∙ ap (λ k. value_of (pairs_of vs others k) q) (sym (cond-true (key == q) (v ∷ rest) rest y)))
    (λ n.
    pairs-key vs q (put key value pairs) others l (new ∙ cond-false (key == q) (Some value) (value_of pairs q) n ∙ e)
    ∙ ap (λ k. value_of (pairs_of vs others k) q) (sym (cond-false (key == q) (v ∷ rest) rest n)))
    (cases_Bool (key == q))

-- the places that pass a test, and a test of their versions
filter-places : (test : ℕ → Version → Bool) (P : ℕ → Bool) (p : Version → Bool) (i : ℕ) (vs : List Version) → ((j : ℕ) → j < length vs → P (i + j) ≡ p (version_in vs j)) →
    filter P (places test i vs) ≡ places (λ v x. test v x && p x) i vs
filter-places test P p i [] h = refl
filter-places test P p i (x ∷ xs) h =
    let here : P i ≡ p x = ap P (omega arith) ∙ h 0 (omega arith) in
    let rest : filter P (places test (i + 1) xs) ≡ places (λ v y. test v y && p y) (i + 1) xs
    = filter-places test P p (i + 1) xs (λ j l. ap P (omega arith) ∙ h (suc j) (omega (arith, l))) in
    ⊎_elim
    (λ y. ap (filter P) (cond-true (test i x) (i ∷ places test (i + 1) xs) (places test (i + 1) xs) y)
    ∙ ap (λ b. if b then i ∷ filter P (places test (i + 1) xs) else filter P (places test (i + 1) xs)) here
    ∙ ap (λ l. if p x then i ∷ l else l) rest
    ∙ ap (λ b. if b && p x then i ∷ places (λ v y. test v y && p y) (i + 1) xs else places (λ v y. test v y && p y) (i + 1) xs) (sym y))
    (λ n. ap (filter P) (cond-false (test i x) (i ∷ places test (i + 1) xs) (places test (i + 1) xs) n) ∙ rest
    ∙ ap (λ b. if b && p x then i ∷ places (λ v y. test v y && p y) (i + 1) xs else places (λ v y. test v y && p y) (i + 1) xs) (sym n))
    (cases_Bool (test i x))

module _ (r : Renumbering) (w : World) (i : IsRenumbering r w) where
  abbrev x : World
  x = renumbered r w

  abbrev committed : ℕ → Version → Bool
  committed v y = was_made w y.creator && lasts w y.ender

  abbrev of : ℕ → ℕ → Version → Bool
  of q v y = committed v y && y.key == q

  key-placed : (q : ℕ) (vs : List Version) → filter (λ v. (version_in vs v).key == q) (places committed 0 vs) ≡ places (of q) 0 vs
  key-placed q vs = filter-places committed (λ v. (version_in vs v).key == q) (λ y. y.key == q) 0 vs (λ j l. ap (λ v. (version_in vs v).key == q) (omega arith))

  pub rows-renumbered : committed_rows x ≡ committed_rows w
  rows-renumbered =
      same_rows (committed_rows x) (committed_rows w) (pairs-rising x.versions [] (places committed 0 x.versions) tt) (pairs-rising w.versions [] (places committed 0 w.versions) tt)
      (λ q.
      pairs-key x.versions q [] [] (places committed 0 x.versions) refl
      ∙ ap (λ l. value_of (pairs_of x.versions [] l) q)
      (key-placed q x.versions
      ∙ places-order r (length w.versions) (trades r w i) w.versions refl (of q) (of q) (λ v l. refl)
      (λ u v l m y z. i.rises u v l m (ap r.group (eqb-true _ _ (and_parts _ _ y).1 ∙ sym (eqb-true _ _ (and_parts _ _ z).1)))))
      ∙ ap (λ ps. value_of ps q) (pairs-to r w i [] (places (of q) 0 w.versions))
      ∙ ap (λ l. value_of (pairs_of w.versions [] l) q) (sym (key-placed q w.versions))
      ∙ sym (pairs-key w.versions q [] [] (places committed 0 w.versions) refl))
