-- What a bystander sees of a future: an event that keeps this keeps the invariant of the bystander.
use Rattle.std.proofs.Common.{◌≡◌, ℕ, ◌<◌, Bool, true, false, List, refl, ◌∙◌, ap, sym, arith, Some, None, ⊎_elim, subst}
use Rattle.std.proofs.lemmas.Bool.{cases_Bool, cond-true, cond-false, lt-ltb, le-ltb, eqb-true}
use Rattle.std.specs.Prelude.{not, ◌==◌, ◌&&◌, is_some, slice_get, slice_set}
use Rattle.hek_rules.specs.Listing.{has}
use Rattle.hek_rules.specs.declared.word.BeginRecord.{BeginRecord}
use Rattle.hek_rules.specs.declared.word.BeginRecord.TheVariants.{At, By}
use Rattle.hek_rules.specs.Words.{infinity}
use Rattle.hek_rules.specs.World.{World, Txn, Version, Ender, EndedAt, Held, txn_in, version_in, is_held_by, is_made_by, is_aborted}
use Rattle.hek_rules.specs.Locks.{cleared}
use Rattle.hek_rules.specs.Table.{sealed, given_back}
use Rattle.hek_laws.proofs.Sound.WaitCounts.{version_in-set}
use Rattle.hek_laws.proofs.Futures.Living.{with_one, made_in, kept_in}
use Rattle.hek_laws.proofs.Futures.Matches.{lives_at}

-- u is not in the future, and is not x
pub record Outside (A : ℕ → Bool) (x u : ℕ) : Type 0 where
  pub out : A u ≡ false
  pub other : (u == x) ≡ false

pub record Inside (A : ℕ → Bool) (x u : ℕ) : Type 0 where
  pub in' : A u ≡ true
  pub other : (u == x) ≡ false

pub record EnderAlike (A : ℕ → Bool) (x : ℕ) (e f : Ender) : Type 0 where
  pub kept : kept_in A f ≡ kept_in A e
  pub own : kept_in (with_one A x) f ≡ kept_in (with_one A x) e
  pub held : is_held_by x f ≡ is_held_by x e

pub record CreatorAlike (A : ℕ → Bool) (x : ℕ) (c d : BeginRecord) : Type 0 where
  pub made : made_in A d ≡ made_in A c
  pub own : made_in (with_one A x) d ≡ made_in (with_one A x) c
  pub by : is_made_by x d ≡ is_made_by x c

module _ (A : ℕ → Bool) (x : ℕ) where
  pub ender-same : (e f : Ender) → f ≡ e → EnderAlike A x e f
  ender-same e f s = record { kept = ap (kept_in A) s; own = ap (kept_in (with_one A x)) s; held = ap (is_held_by x) s }

  pub creator-same : (c d : BeginRecord) → d ≡ c → CreatorAlike A x c d
  creator-same c d s = record { made = ap (made_in A) s; own = ap (made_in (with_one A x)) s; by = ap (is_made_by x) s }

  with-out : (u : ℕ) → Outside A x u → with_one A x u ≡ false
  with-out u o = cond-false (u == x) true (A u) o.other ∙ o.out

  with-in : (u : ℕ) → Inside A x u → with_one A x u ≡ true
  with-in u o = cond-false (u == x) true (A u) o.other ∙ o.in'

  -- a writer outside the future leaves a version as one without a writer
  pub ender-freed : (u : ℕ) (b c : Bool) → Outside A x u → EnderAlike A x (Held (Some u) b) (Held None c)
  ender-freed u b c o = record { kept = sym (ap not o.out); own = sym (ap not (with-out u o)); held = sym o.other }

  pub ender-taken : (u : ℕ) (b c : Bool) → Outside A x u → EnderAlike A x (Held None c) (Held (Some u) b)
  ender-taken u b c o = record { kept = ap not o.out; own = ap not (with-out u o); held = o.other }

  -- a writer in the future leaves a version as one that ended at a time
  pub ender-stamped : (u time : ℕ) (b : Bool) → Inside A x u → EnderAlike A x (Held (Some u) b) (EndedAt time)
  ender-stamped u time b o = record { kept = sym (ap not o.in'); own = sym (ap not (with-in u o)); held = sym o.other }

  pub creator-stamped : (u time : ℕ) → time < infinity → Inside A x u → CreatorAlike A x (By u) (At time)
  creator-stamped u time l o = record { made = lt-ltb time infinity l ∙ sym o.in'; own = lt-ltb time infinity l ∙ sym (with-in u o); by = sym o.other }

  pub creator-voided : (u : ℕ) → Outside A x u → CreatorAlike A x (By u) (At infinity)
  creator-voided u o = record { made = le-ltb infinity infinity (omega arith) ∙ sym o.out; own = le-ltb infinity infinity (omega arith) ∙ sym (with-out u o); by = sym o.other }

  pub ender-trans : (e f g : Ender) → EnderAlike A x e f → EnderAlike A x f g → EnderAlike A x e g
  ender-trans e f g a b = record { kept = b.kept ∙ a.kept; own = b.own ∙ a.own; held = b.held ∙ a.held }

  pub ender-sealed : (e : Ender) → EnderAlike A x e (sealed e)
  ender-sealed (EndedAt time) = ender-same _ _ refl
  ender-sealed (Held None b) = ender-same _ _ refl
  ender-sealed (Held (Some u) b) = record { kept = refl; own = refl; held = refl }

  pub ender-cleared : (ts : List Txn) (e : Ender) → ((u : ℕ) → is_aborted (txn_in ts u).state ≡ true → Outside A x u) → EnderAlike A x e (cleared ts e)
  ender-cleared ts (EndedAt time) o = ender-same _ _ refl
  ender-cleared ts (Held None b) o = ender-same _ _ refl
  ender-cleared ts (Held (Some u) b) o =
      ⊎_elim (λ y. subst (EnderAlike A x (Held (Some u) b)) (sym (cond-true (is_aborted (txn_in ts u).state) (Held None false) (Held (Some u) b) y)) (ender-freed u b false (o u y)))
      (λ n. ender-same _ _ (cond-false (is_aborted (txn_in ts u).state) (Held None false) (Held (Some u) b) n)) (cases_Bool (is_aborted (txn_in ts u).state))

  pub ender-given : (t : ℕ) (e : Ender) → Outside A x t → EnderAlike A x e (given_back t e)
  ender-given t (EndedAt time) o = ender-same _ _ refl
  ender-given t (Held None b) o = ender-same _ _ refl
  ender-given t (Held (Some u) b) o =
      ⊎_elim (λ y. subst (EnderAlike A x (Held (Some u) b)) (sym (cond-true (u == t) (Held None false) (Held (Some u) b) y)) (ender-freed u b false (subst (Outside A x) (sym (eqb-true _ _ y)) o)))
      (λ n. ender-same _ _ (cond-false (u == t) (Held None false) (Held (Some u) b) n)) (cases_Bool (u == t))

-- x sees the same of a future as before
pub record Frame (w new : World) (A : ℕ → Bool) (x : ℕ) : Type 0 where
  pub buckets : new.buckets ≡ w.buckets
  pub level : (txn_in new.txns x).level ≡ (txn_in w.txns x).level
  pub lives : (v : ℕ) → lives_at new.versions A v ≡ lives_at w.versions A v
  pub own : (v : ℕ) → lives_at new.versions (with_one A x) v ≡ lives_at w.versions (with_one A x) v
  pub made : (v : ℕ) → is_made_by x (version_in new.versions v).creator ≡ is_made_by x (version_in w.versions v).creator
  pub held : (v : ℕ) → is_held_by x (version_in new.versions v).ender ≡ is_held_by x (version_in w.versions v).ender
  pub key : (v : ℕ) → is_some (slice_get w.versions v) ≡ true → (version_in new.versions v).key ≡ (version_in w.versions v).key
  pub value : (v : ℕ) → is_some (slice_get w.versions v) ≡ true → (version_in new.versions v).value ≡ (version_in w.versions v).value
  pub reads : (v : ℕ) → has w.read_locks x v ≡ true → has new.read_locks x v ≡ true
  pub locks : (b : ℕ) → has w.bucket_locks x b ≡ true → has new.bucket_locks x b ≡ true
  pub waits : (u : ℕ) → has w.waiters x u ≡ true → has new.waiters x u ≡ true

-- the versions look the same to x in a future
pub record Alike (A : ℕ → Bool) (x : ℕ) (old now : Version) : Type 0 where
  pub key : now.key ≡ old.key
  pub value : now.value ≡ old.value
  pub creator : CreatorAlike A x old.creator now.creator
  pub ender : EnderAlike A x old.ender now.ender

pub alike-same : (A : ℕ → Bool) (x : ℕ) (y z : Version) → z ≡ y → Alike A x y z
alike-same A x y z e = record {
  key = ap (λ (v : Version). v.key) e;
  value = ap (λ (v : Version). v.value) e;
  creator = creator-same A x _ _ (ap (λ (v : Version). v.creator) e);
  ender = ender-same A x _ _ (ap (λ (v : Version). v.ender) e);
}

pub record AllAlike (A : ℕ → Bool) (x : ℕ) (old now : List Version) : Type 0 where
  pub each : (v : ℕ) → Alike A x (version_in old v) (version_in now v)

pub alike-set : (A : ℕ → Bool) (x : ℕ) (vs : List Version) (v : ℕ) (y : Version) → Alike A x (version_in vs v) y → AllAlike A x vs (slice_set vs v y)
alike-set A x vs v y a = record {
  each = λ j. ⊎_elim (λ p. subst (Alike A x (version_in vs j)) (sym p.1) (subst (λ n. Alike A x (version_in vs n) y) (sym p.0) a))
      (λ e. alike-same A x _ _ e) (version_in-set vs v j y);
}

pub frame-from : (w new : World) (A : ℕ → Bool) (x : ℕ) → AllAlike A x w.versions new.versions → new.buckets ≡ w.buckets → (txn_in new.txns x).level ≡ (txn_in w.txns x).level →
    ((v : ℕ) → has w.read_locks x v ≡ true → has new.read_locks x v ≡ true) → ((b : ℕ) → has w.bucket_locks x b ≡ true → has new.bucket_locks x b ≡ true) →
    ((u : ℕ) → has w.waiters x u ≡ true → has new.waiters x u ≡ true) → Frame w new A x
frame-from w new A x a b l r h q = record {
  buckets = b;
  level = l;
  lives = λ v. let y = a.each v in ap (λ m. m && kept_in A (version_in new.versions v).ender) y.creator.made ∙ ap (λ m. made_in A (version_in w.versions v).creator && m) y.ender.kept;
  own = λ v. let y = a.each v in ap (λ m. m && kept_in (with_one A x) (version_in new.versions v).ender) y.creator.own ∙ ap (λ m. made_in (with_one A x) (version_in w.versions v).creator && m) y.ender.own;
  made = λ v. (a.each v).creator.by;
  held = λ v. (a.each v).ender.held;
  key = λ v _. (a.each v).key;
  value = λ v _. (a.each v).value;
  reads = r;
  locks = h;
  waits = q;
}
