-- A whole transcript, part by part.
use Rattle.std.proofs.Common.{◌≡◌, ◌⊎◌, inl, inr, ℕ, suc, ◌+◌, ◌-◌, List, [], ◌∷◌, ◌++◌, Bool, true, false, Some, refl, ap, sym, subst, ◌∙◌, arith, length, IsTrue, append_assoc}
use Rattle.std.specs.Prelude.{◌==◌, if◌then◌else◌, map}
use Rattle.std.specs.List.{AllByRecursion}
use Rattle.std.proofs.lemmas.Bool.{eqb-false, ne_eqb}
use Rattle.hek_rules.specs.declared.event.Event.{Event}
use Rattle.hek_rules.specs.declared.event.Event.TheVariants.{Release, Commit, Stamp, End}
use Rattle.hek_rules.specs.declared.reply.Reply.{Reply}
use Rattle.hek_rules.specs.declared.reply.Reply.TheVariants.{ReleasedRead, ReleasedBucket, ReleasedWaiter, Nothing, Committed, WaitingCommits, StampedBegin, StampedEnd, Left, Over, Aborted}
use Rattle.hek_worker.specs.declared.stage.Stage.{Stage}
use Rattle.hek_worker.specs.declared.stage.Stage.TheVariants.{GivingUp, Releasing, Committing, Stamping, Ending, Ended}
use Rattle.hek_worker.specs.declared.stage.Position.{Position}
use Rattle.hek_worker.specs.Grammar.{Leads, after_release, after_commit, after_stamp, after_end, at, end_at}
use Rattle.hek_worker.specs.Forms.{IsRest, each, pend, is_freed, is_stamped}
use Rattle.hek_worker.proofs.Wholes.{good, spot, Whole, moved, waits_or}

-- one event repeated, until it has the reply `last`
pub record Repeats (e : Event) (last : Reply) (kind : Reply → Bool) (Q : List (Event × Reply) → Type 0) (xs : List (Event × Reply)) : Type 0 where
  pub again : List Reply
  pub rest : List (Event × Reply)
  pub order : xs ≡ each e again ++ (e, last) ∷ rest
  pub kinds : AllByRecursion (λ r. IsTrue (kind r)) again
  pub next : Q rest

one_more : (e : Event) (last : Reply) (kind : Reply → Bool) (P Q : List (Event × Reply) → Type 0) (x : Event × Reply) (xs : List (Event × Reply))
    → x.0 ≡ e → ((x.1 ≡ last) × Q xs) ⊎ (IsTrue (kind x.1) × P xs) → (P xs → Repeats e last kind Q xs) → Repeats e last kind Q (x ∷ xs)
one_more e last kind P Q x xs at (inl d) on =
    let is : (x.0, x.1) ≡ (e, last) = cc in
    record { again = []; rest = xs; order = ap (λ (z : Event × Reply). z ∷ xs) is; kinds = tt; next = d.1 }
one_more e last kind P Q x xs at (inr d) on =
    let s = on d.1 in
    let is : (x.0, x.1) ≡ (e, x.1) = cc in
    let here : x ∷ xs ≡ (e, x.1) ∷ xs = ap (λ (z : Event × Reply). z ∷ xs) is in
    record { again = x.1 ∷ s.again; rest = s.rest; order = here ∙ ap (λ (zs : List (Event × Reply)). (e, x.1) ∷ zs) s.order; kinds = (d.0, s.kinds); next = s.next }

pub repeats : (e : Event) (last : Reply) (kind : Reply → Bool) (P Q : List (Event × Reply) → Type 0)
    → (P [] → ⊥) → ((x : Event × Reply) (xs : List (Event × Reply)) → P (x ∷ xs) → (x.0 ≡ e) × (((x.1 ≡ last) × Q xs) ⊎ (IsTrue (kind x.1) × P xs)))
    → (xs : List (Event × Reply)) → P xs → Repeats e last kind Q xs
repeats e last kind P Q none one [] h = absurd (none h)
repeats e last kind P Q none one (x ∷ xs) h =
    let k = one x xs h in
    one_more e last kind P Q x xs k.0 k.1 (λ p. repeats e last kind P Q none one xs p)

pub repeated : (e : Event) (last : Reply) (kind : Reply → Bool) (P Q : List (Event × Reply) → Type 0)
    → ((r : Reply) (xs : List (Event × Reply)) → IsTrue (kind r) → P xs → P ((e, r) ∷ xs)) → ((xs : List (Event × Reply)) → Q xs → P ((e, last) ∷ xs))
    → (rs : List Reply) (rest : List (Event × Reply)) → AllByRecursion (λ r. IsTrue (kind r)) rs → Q rest → P (each e rs ++ (e, last) ∷ rest)
repeated e last kind P Q on stop [] rest all q = stop rest q
repeated e last kind P Q on stop (r ∷ rs) rest all q = on r (each e rs ++ (e, last) ∷ rest) all.0 (repeated e last kind P Q on stop rs rest all.1 q)

-- only the last stage is at the end
pub no_end : (s : Stage) (n left : ℕ) → spot s n ≡ end_at left → s ≡ Ended
no_end s n left h = ap (λ (p : Position). p.stage) h

-- stamps

stamp_one : (t : ℕ) (work : List Event) (n left : ℕ) (xs : List (Event × Reply)) (r : Reply) (m : Position) → after_stamp false n r ≡ Some m → Whole t work m xs (end_at left)
    → ((r ≡ Nothing) × Whole t work (spot Ending n) xs (end_at left)) ⊎ (IsTrue (is_stamped r) × Whole t work (spot (Stamping false) n) xs (end_at left))
stamp_one t work n left xs (StampedBegin v) m h w = inr (refl, moved (λ (p : Position). Whole t work p xs (end_at left)) (Stamping false) n m h w)
stamp_one t work n left xs (StampedEnd v) m h w = inr (refl, moved (λ (p : Position). Whole t work p xs (end_at left)) (Stamping false) n m h w)
stamp_one t work n left xs (Left v) m h w = inr (refl, moved (λ (p : Position). Whole t work p xs (end_at left)) (Stamping false) n m h w)
stamp_one t work n left xs Nothing m h w = inl (refl, moved (λ (p : Position). Whole t work p xs (end_at left)) Ending n m h w)
stamp_one t work n left xs r m h w = absurd (cc)

pub stamps : (t : ℕ) (work : List Event) (n left : ℕ) (xs : List (Event × Reply)) → Whole t work (spot (Stamping false) n) xs (end_at left)
    → Repeats (Stamp t) Nothing is_stamped (λ ys. Whole t work (spot Ending n) ys (end_at left)) xs
stamps t work n left xs h =
    repeats (Stamp t) Nothing is_stamped (λ ys. Whole t work (spot (Stamping false) n) ys (end_at left)) (λ ys. Whole t work (spot Ending n) ys (end_at left))
    (λ e. let bad = no_end (Stamping false) n left e in cc)
    (λ x ys k. (k.0, stamp_one t work n left ys x.1 k.1.0 k.1.1 k.1.3)) xs h

stamp_on : (cut : Bool) (n : ℕ) (r : Reply) → IsTrue (is_stamped r) → after_stamp cut n r ≡ Some (spot (Stamping cut) n)
stamp_on cut n (StampedBegin v) k = refl
stamp_on cut n (StampedEnd v) k = refl
stamp_on cut n (Left v) k = refl
stamp_on cut n r k = absurd (cc)

pub stamped_back : (t : ℕ) (work : List Event) (n left : ℕ) (rs : List Reply) (rest : List (Event × Reply)) → AllByRecursion (λ r. IsTrue (is_stamped r)) rs → Whole t work (spot Ending n) rest (end_at left)
    → Whole t work (spot (Stamping false) n) (each (Stamp t) rs ++ (Stamp t, Nothing) ∷ rest) (end_at left)
stamped_back t work n left rs rest all q =
    repeated (Stamp t) Nothing is_stamped (λ ys. Whole t work (spot (Stamping false) n) ys (end_at left)) (λ ys. Whole t work (spot Ending n) ys (end_at left))
    (λ r xs k p. (refl, (spot (Stamping false) n, stamp_on false n r k, refl, p)))
    (λ xs p. (refl, (spot Ending n, refl, refl, p))) rs rest all q

-- the end

end_one : (t : ℕ) (work : List Event) (n left : ℕ) (xs : List (Event × Reply)) (r : Reply) (m : Position) → after_end n r ≡ Some m → Leads t work m xs (end_at left) → (r ≡ Over) × (xs ≡ [])
end_one t work n left [] Over m h w = (refl, refl)
end_one t work n left (x ∷ xs) Over m h w = let k = moved (λ (p : Position). Leads t work p (x ∷ xs) (end_at left)) Ended n m h w in let bad = k.1.1 in absurd (cc)
end_one t work n left xs r m h w = absurd (cc)

pub last_one : (t : ℕ) (work : List Event) (n left : ℕ) (xs : List (Event × Reply)) → Leads t work (spot Ending n) xs (end_at left) → xs ≡ (End t, Over) ∷ []
last_one t work n left [] h = let bad = no_end Ending n left h in absurd (cc)
last_one t work n left (x ∷ xs) h =
    let k = end_one t work n left xs x.1 h.1.0 h.1.1 h.1.2 in
    let at : x.0 ≡ End t = h.0 in
    let is : (x.0, x.1) ≡ (End t, Over) = cc in
    ap (λ (z : Event × Reply). z ∷ xs) is ∙ ap (λ (ys : List (Event × Reply)). (End t, Over) ∷ ys) k.1

pub last_back : (t : ℕ) (work : List Event) (n : ℕ) → Whole t work (spot Ending n) ((End t, Over) ∷ []) (end_at n)
last_back t work n = (refl, (spot Ended n, refl, refl, refl))

-- commits

pub record Commits (t : ℕ) (work : List Event) (n left : ℕ) (xs : List (Event × Reply)) : Type 0 where
  pub pending : List ℕ
  pub rest : List (Event × Reply)
  pub turns : ℕ
  pub order : xs ≡ map (pend t) pending ++ (Commit t, Committed) ∷ rest
  pub count : length pending + turns ≡ n
  pub next : Whole t work (spot (Stamping false) turns) rest (end_at left)

pub none_less : (n : ℕ) → 0 + n ≡ n
none_less n = omega arith

pub one_less : (a b n : ℕ) → (n ≡ 0 → ⊥) → a + b ≡ n - 1 → suc a + b ≡ n
one_less a b n some h = omega arith

commit_done : (t : ℕ) (work : List Event) (n left : ℕ) (x : Event × Reply) (xs : List (Event × Reply)) → x.0 ≡ Commit t → x.1 ≡ Committed → Whole t work (spot (Stamping false) n) xs (end_at left) → Commits t work n left (x ∷ xs)
commit_done t work n left x xs at is w =
    let same : (x.0, x.1) ≡ (Commit t, Committed) = cc in
    record { pending = []; rest = xs; turns = n; order = ap (λ (z : Event × Reply). z ∷ xs) same; count = none_less n; next = w }

commit_waits : (t : ℕ) (work : List Event) (n left k : ℕ) (x : Event × Reply) (xs : List (Event × Reply)) → x.0 ≡ Commit t → x.1 ≡ WaitingCommits k → (n ≡ 0 → ⊥) → Commits t work (n - 1) left xs → Commits t work n left (x ∷ xs)
commit_waits t work n left k x xs at is some c =
    let same : (x.0, x.1) ≡ (Commit t, WaitingCommits k) = cc in
    record {
      pending = k ∷ c.pending;
      rest = c.rest;
      turns = c.turns;
      order = ap (λ (z : Event × Reply). z ∷ xs) same ∙ ap (λ (ys : List (Event × Reply)). (Commit t, WaitingCommits k) ∷ ys) c.order;
      count = one_less (length c.pending) c.turns n some c.count;
      next = c.next;
    }

-- a wait after which a transaction goes on uses a turn
pub went_on : (s : Stage) (n : ℕ) (m : Position) → (if n == 0 then at GivingUp 0 else at s (n - 1)) ≡ Some m → IsTrue (good m.stage) → (n ≡ 0 → ⊥) × (m ≡ spot s (n - 1))
went_on s n m h g =
    elim (waits_or (n == 0) s n m h) [
      | inl k ↦ let bad : IsTrue (good GivingUp) = subst (λ (p : Position). IsTrue (good p.stage)) k.1 g in absurd (cc)
      | inr k ↦ (eqb-false n 0 k.0, k.1)
    ]

commit_one : (t : ℕ) (work : List Event) (n left : ℕ) (x : Event × Reply) (xs : List (Event × Reply)) (r : Reply) (m : Position) → x.0 ≡ Commit t → x.1 ≡ r → after_commit n r ≡ Some m → IsTrue (good m.stage)
    → Whole t work m xs (end_at left) → ((k : ℕ) → Whole t work (spot Committing k) xs (end_at left) → Commits t work k left xs) → Commits t work n left (x ∷ xs)
commit_one t work n left x xs (WaitingCommits k) m at is h g w on =
    let go = went_on Committing n m h g in
    commit_waits t work n left k x xs at is go.0 (on (n - 1) (subst (λ (p : Position). Whole t work p xs (end_at left)) go.1 w))
commit_one t work n left x xs Committed m at is h g w on = commit_done t work n left x xs at is (moved (λ (p : Position). Whole t work p xs (end_at left)) (Stamping false) n m h w)
commit_one t work n left x xs (Aborted c) m at is h g w on = let bad : IsTrue (good (Releasing true)) = moved (λ (p : Position). IsTrue (good p.stage)) (Releasing true) n m h g in absurd (cc)
commit_one t work n left x xs r m at is h g w on = absurd (cc)

pub commits : (t : ℕ) (work : List Event) (left : ℕ) (xs : List (Event × Reply)) (n : ℕ) → Whole t work (spot Committing n) xs (end_at left) → Commits t work n left xs
commits t work left [] n h = let bad = no_end Committing n left h in absurd (cc)
commits t work left (x ∷ xs) n h = commit_one t work n left x xs x.1 h.1.0 h.0 refl h.1.1 h.1.2 h.1.3 (λ k w. commits t work left xs k w)

pub one_turn : (s : Stage) (n k : ℕ) → suc k ≡ n → (if n == 0 then at GivingUp 0 else at s (n - 1)) ≡ Some (spot s k)
one_turn s n k is =
    let some : n ≡ 0 → ⊥ = λ z. omega arith in
    let less : n - 1 ≡ k = omega arith in
    rw (ne_eqb n 0 some, less) refl

pub committed_back : (t : ℕ) (work : List Event) (left : ℕ) (pending : List ℕ) (rest : List (Event × Reply)) (n m : ℕ) → length pending + m ≡ n → Whole t work (spot (Stamping false) m) rest (end_at left)
    → Whole t work (spot Committing n) (map (pend t) pending ++ (Commit t, Committed) ∷ rest) (end_at left)
committed_back t work left [] rest n m is w =
    let same : m ≡ n = omega arith in
    let v : Whole t work (spot (Stamping false) n) rest (end_at left) = subst (λ (k : ℕ). Whole t work (spot (Stamping false) k) rest (end_at left)) same w in
    (refl, (spot (Stamping false) n, refl, refl, v))
committed_back t work left (k ∷ ks) rest n m is w =
    let next : suc (length ks + m) ≡ n = omega arith in
    (refl, (spot Committing (length ks + m), one_turn Committing n (length ks + m) next, refl, committed_back t work left ks rest (length ks + m) m refl w))

-- releases

release_one : (t : ℕ) (work : List Event) (n left : ℕ) (xs : List (Event × Reply)) (r : Reply) (m : Position) → after_release false n r ≡ Some m → IsTrue (good m.stage) → Whole t work m xs (end_at left)
    → ((r ≡ Nothing) × Whole t work (spot Committing n) xs (end_at left)) ⊎ (IsTrue (is_freed r) × Whole t work (spot (Releasing false) n) xs (end_at left))
release_one t work n left xs (ReleasedRead v u) m h g w = inr (refl, moved (λ (p : Position). Whole t work p xs (end_at left)) (Releasing false) n m h w)
release_one t work n left xs (ReleasedBucket b) m h g w = inr (refl, moved (λ (p : Position). Whole t work p xs (end_at left)) (Releasing false) n m h w)
release_one t work n left xs (ReleasedWaiter u) m h g w = inr (refl, moved (λ (p : Position). Whole t work p xs (end_at left)) (Releasing false) n m h w)
release_one t work n left xs Nothing m h g w = inl (refl, moved (λ (p : Position). Whole t work p xs (end_at left)) Committing n m h w)
release_one t work n left xs (Aborted c) m h g w = let bad : IsTrue (good (Releasing true)) = moved (λ (p : Position). IsTrue (good p.stage)) (Releasing true) n m h g in absurd (cc)
release_one t work n left xs r m h g w = absurd (cc)

pub releases : (t : ℕ) (work : List Event) (n left : ℕ) (xs : List (Event × Reply)) → Whole t work (spot (Releasing false) n) xs (end_at left)
    → Repeats (Release t) Nothing is_freed (λ ys. Whole t work (spot Committing n) ys (end_at left)) xs
releases t work n left xs h =
    repeats (Release t) Nothing is_freed (λ ys. Whole t work (spot (Releasing false) n) ys (end_at left)) (λ ys. Whole t work (spot Committing n) ys (end_at left))
    (λ e. let bad = no_end (Releasing false) n left e in cc)
    (λ x ys k. (k.0, release_one t work n left ys x.1 k.1.0 k.1.1 k.1.2 k.1.3)) xs h

release_on : (cut : Bool) (n : ℕ) (r : Reply) → IsTrue (is_freed r) → after_release cut n r ≡ Some (spot (Releasing cut) n)
release_on cut n (ReleasedRead v u) k = refl
release_on cut n (ReleasedBucket b) k = refl
release_on cut n (ReleasedWaiter u) k = refl
release_on cut n r k = absurd (cc)

pub released_back : (t : ℕ) (work : List Event) (n left : ℕ) (rs : List Reply) (rest : List (Event × Reply)) → AllByRecursion (λ r. IsTrue (is_freed r)) rs → Whole t work (spot Committing n) rest (end_at left)
    → Whole t work (spot (Releasing false) n) (each (Release t) rs ++ (Release t, Nothing) ∷ rest) (end_at left)
released_back t work n left rs rest all q =
    repeated (Release t) Nothing is_freed (λ ys. Whole t work (spot (Releasing false) n) ys (end_at left)) (λ ys. Whole t work (spot Committing n) ys (end_at left))
    (λ r xs k p. (refl, (spot (Releasing false) n, release_on false n r k, refl, p)))
    (λ xs p. (refl, (spot Committing n, refl, refl, p))) rs rest all q

-- what a transaction does once it has aborted

rest_stamp_one : (t : ℕ) (work : List Event) (n left : ℕ) (xs : List (Event × Reply)) (r : Reply) (m : Position) → after_stamp true n r ≡ Some m → Leads t work m xs (end_at left)
    → ((r ≡ Nothing) × Leads t work (spot Ending n) xs (end_at left)) ⊎ (IsTrue (is_stamped r) × Leads t work (spot (Stamping true) n) xs (end_at left))
rest_stamp_one t work n left xs (StampedBegin v) m h w = inr (refl, moved (λ (p : Position). Leads t work p xs (end_at left)) (Stamping true) n m h w)
rest_stamp_one t work n left xs (StampedEnd v) m h w = inr (refl, moved (λ (p : Position). Leads t work p xs (end_at left)) (Stamping true) n m h w)
rest_stamp_one t work n left xs (Left v) m h w = inr (refl, moved (λ (p : Position). Leads t work p xs (end_at left)) (Stamping true) n m h w)
rest_stamp_one t work n left xs Nothing m h w = inl (refl, moved (λ (p : Position). Leads t work p xs (end_at left)) Ending n m h w)
rest_stamp_one t work n left xs r m h w = absurd (cc)

rest_release_one : (t : ℕ) (work : List Event) (n left : ℕ) (xs : List (Event × Reply)) (r : Reply) (m : Position) → after_release true n r ≡ Some m → Leads t work m xs (end_at left)
    → ((r ≡ Nothing) × Leads t work (spot (Stamping true) n) xs (end_at left)) ⊎ (IsTrue (is_freed r) × Leads t work (spot (Releasing true) n) xs (end_at left))
rest_release_one t work n left xs (ReleasedRead v u) m h w = inr (refl, moved (λ (p : Position). Leads t work p xs (end_at left)) (Releasing true) n m h w)
rest_release_one t work n left xs (ReleasedBucket b) m h w = inr (refl, moved (λ (p : Position). Leads t work p xs (end_at left)) (Releasing true) n m h w)
rest_release_one t work n left xs (ReleasedWaiter u) m h w = inr (refl, moved (λ (p : Position). Leads t work p xs (end_at left)) (Releasing true) n m h w)
rest_release_one t work n left xs Nothing m h w = inl (refl, moved (λ (p : Position). Leads t work p xs (end_at left)) (Stamping true) n m h w)
rest_release_one t work n left xs r m h w = absurd (cc)

pub is_rest : (t : ℕ) (work : List Event) (n left : ℕ) (xs : List (Event × Reply)) → Leads t work (spot (Releasing true) n) xs (end_at left) → IsRest t xs
is_rest t work n left xs h =
    let r = repeats (Release t) Nothing is_freed (λ ys. Leads t work (spot (Releasing true) n) ys (end_at left)) (λ ys. Leads t work (spot (Stamping true) n) ys (end_at left))
    (λ e. let bad = no_end (Releasing true) n left e in cc)
    (λ x ys k. (k.0, rest_release_one t work n left ys x.1 k.1.0 k.1.1 k.1.2)) xs h in
    let s = repeats (Stamp t) Nothing is_stamped (λ ys. Leads t work (spot (Stamping true) n) ys (end_at left)) (λ ys. Leads t work (spot Ending n) ys (end_at left))
    (λ e. let bad = no_end (Stamping true) n left e in cc)
    (λ x ys k. (k.0, rest_stamp_one t work n left ys x.1 k.1.0 k.1.1 k.1.2)) r.rest r.next in
    let last : s.rest ≡ (End t, Over) ∷ [] = last_one t work n left s.rest s.next in
    let joined : xs ≡ each (Release t) r.again ++ (Release t, Nothing) ∷ (each (Stamp t) s.again ++ (Stamp t, Nothing) ∷ (End t, Over) ∷ []) =
    r.order ∙ ap (λ (ys : List (Event × Reply)). each (Release t) r.again ++ (Release t, Nothing) ∷ ys) s.order
    ∙ ap (λ (ys : List (Event × Reply)). each (Release t) r.again ++ (Release t, Nothing) ∷ (each (Stamp t) s.again ++ (Stamp t, Nothing) ∷ ys)) last in
    record {
      freed = r.again;
      stamped = s.again;
      order = simp append_assoc joined;
      releases = r.kinds;
      stamps = s.kinds;
    }

pub rest_leads : (t : ℕ) (work : List Event) (n : ℕ) (xs : List (Event × Reply)) → IsRest t xs → Leads t work (spot (Releasing true) n) xs (end_at n)
rest_leads t work n xs h =
    let last : Leads t work (spot Ending n) ((End t, Over) ∷ []) (end_at n) = (refl, (spot Ended n, refl, refl)) in
    let stamps : Leads t work (spot (Stamping true) n) (each (Stamp t) h.stamped ++ (Stamp t, Nothing) ∷ (End t, Over) ∷ []) (end_at n) =
    repeated (Stamp t) Nothing is_stamped (λ ys. Leads t work (spot (Stamping true) n) ys (end_at n)) (λ ys. Leads t work (spot Ending n) ys (end_at n))
    (λ r ys k p. (refl, (spot (Stamping true) n, stamp_on true n r k, p)))
    (λ ys p. (refl, (spot Ending n, refl, p))) h.stamped ((End t, Over) ∷ []) h.stamps last in
    let whole : Leads t work (spot (Releasing true) n) (each (Release t) h.freed ++ (Release t, Nothing) ∷ (each (Stamp t) h.stamped ++ (Stamp t, Nothing) ∷ (End t, Over) ∷ [])) (end_at n) =
    repeated (Release t) Nothing is_freed (λ ys. Leads t work (spot (Releasing true) n) ys (end_at n)) (λ ys. Leads t work (spot (Stamping true) n) ys (end_at n))
    (λ r ys k p. (refl, (spot (Releasing true) n, release_on true n r k, p)))
    (λ ys p. (refl, (spot (Stamping true) n, refl, p))) h.freed (each (Stamp t) h.stamped ++ (Stamp t, Nothing) ∷ (End t, Over) ∷ []) h.releases stamps in
    let order : each (Release t) h.freed ++ (Release t, Nothing) ∷ (each (Stamp t) h.stamped ++ (Stamp t, Nothing) ∷ (End t, Over) ∷ []) ≡ xs = sym (simp append_assoc at h.order) in
    subst (λ (ys : List (Event × Reply)). Leads t work (spot (Releasing true) n) ys (end_at n)) order whole
