-- The words of each version, and the write sets of the transactions that they name.
use Rattle.std.proofs.Common.{◌≡◌, ℕ, ◌≤◌, true, List, [], ◌∷◌, ◌++◌, Some, None, refl, ◌∙◌, ap, sym, arith, inl, inr, ⊎_elim, subst}
use Rattle.std.proofs.lemmas.Bool.{cases_Bool, cond-true, cond-false, eqb-true, eq-eqb, or_left}
use Rattle.std.specs.Prelude.{◌==◌}
use Rattle.hek_rules.specs.declared.event.Event.{Event}
use Rattle.hek_rules.specs.declared.event.WriteEntry.{WriteEntry}
use Rattle.hek_rules.specs.declared.event.WriteEntry.TheVariants.{BeginOf, EndOf}
use Rattle.hek_rules.specs.declared.reply.Reply.{Reply}
use Rattle.hek_rules.specs.declared.word.BeginRecord.{BeginRecord}
use Rattle.hek_rules.specs.declared.word.BeginRecord.TheVariants.{At, By}
use Rattle.hek_rules.specs.World.{World, Version, Ender, EndedAt, Held, txn_in, is_held_by, is_made_by, is_aborted, is_present}
use Rattle.hek_rules.specs.Locks.{with_ender}
use Rattle.hek_rules.specs.Table.{sealed, without_entry, entries_of}
use Rattle.hek_rules.specs.Serial.{writes_of}
use Rattle.hek_rules.specs.declared.event.State.TheVariants as state
use Rattle.hek_laws.specs.Lists.{In}
use Rattle.hek_laws.specs.Sound.{IsSoundCreator, IsSoundEnder}
use Rattle.hek_laws.proofs.Words.Names.{MadeFor, EndedFor}
use Rattle.hek_laws.proofs.Futures.Living.{EndsOwn}
use Rattle.hek_laws.proofs.Lists.Overlay.{wrote}
use Rattle.hek_laws.proofs.Worlds.Histories.{writes_of-append}
use Rattle.hek_laws.proofs.Futures.Survivors.{History}
use Rattle.hek_laws.proofs.Futures.Written.{wrote-append}

pub record Words (w : World) (h : History) (v : ℕ) (x : Version) : Type 0 where
  pub creator : IsSoundCreator w x.creator
  pub ender : IsSoundEnder w x.ender
  pub own : (t : ℕ) → (txn_in w.txns t).state ≡ state.Active → is_made_by t x.creator ≡ true → EndsOwn t x.ender
  pub off_made : (t : ℕ) → (txn_in w.txns t).state ≡ state.Active → is_made_by t x.creator ≡ true → wrote (writes_of t h) x.key ≡ true
  pub off_held : (t : ℕ) → (txn_in w.txns t).state ≡ state.Active → is_held_by t x.ender ≡ true → wrote (writes_of t h) x.key ≡ true
  pub made_entry : (t : ℕ) → is_made_by t x.creator ≡ true → In (t, BeginOf v) w.writes
  pub held_entry : (t : ℕ) → is_held_by t x.ender ≡ true → In (t, EndOf v) w.writes
  pub begin_entry : (t : ℕ) → In (t, BeginOf v) w.writes → MadeFor (txn_in w.txns t) t x.creator
  pub end_entry : (t : ℕ) → In (t, EndOf v) w.writes → EndedFor (txn_in w.txns t) t x.ender

pub wrote-later : (t : ℕ) (h : History) (e : Event) (r : Reply) (k : ℕ) → wrote (writes_of t h) k ≡ true → wrote (writes_of t (h ++ (e, r) ∷ [])) k ≡ true
wrote-later t h e r k y = ap (λ ws. wrote ws k) (writes_of-append t h ((e, r) ∷ [])) ∙ wrote-append (writes_of t h) (writes_of t ((e, r) ∷ [])) k ∙ or_left _ _ y

-- ---- a change of transactions: those with an entry in their write set keep to the words
abbrev pub Holds : World → ℕ → Type 0
Holds w u = (e : WriteEntry) × In (u, e) w.writes

pub record TxnsLater (w new : World) : Type 0 where
  pub named : (u : ℕ) → Holds w u → is_present (txn_in w.txns u).state ≡ true → is_present (txn_in new.txns u).state ≡ true
  pub active : (u : ℕ) → Holds w u → (txn_in new.txns u).state ≡ state.Active → (txn_in w.txns u).state ≡ state.Active
  pub committed : (u : ℕ) → Holds w u → (txn_in w.txns u).state ≡ state.Committed → ((txn_in new.txns u).state ≡ state.Committed) × ((txn_in new.txns u).end ≡ (txn_in w.txns u).end)
  pub aborted : (u : ℕ) → Holds w u → is_aborted (txn_in w.txns u).state ≡ true → is_aborted (txn_in new.txns u).state ≡ true

pub words-txns : (w new : World) (h : History) (e : Event) (r : Reply) (v : ℕ) (x : Version) → new.writes ≡ w.writes → w.clock ≤ new.clock → TxnsLater w new → Words w h v x → Words new (h ++ (e, r) ∷ []) v x
words-txns w new h e r v x same le l k = record {
  creator = maker x.creator k.creator k.made_entry;
  ender = holder x.ender k.ender k.held_entry;
  own = λ t a m. k.own t (l.active t (BeginOf v, k.made_entry t m) a) m;
  off_made = λ t a m. wrote-later t h e r x.key (k.off_made t (l.active t (BeginOf v, k.made_entry t m) a) m);
  off_held = λ t a m. wrote-later t h e r x.key (k.off_held t (l.active t (EndOf v, k.held_entry t m) a) m);
  made_entry = λ t m. subst (In (t, BeginOf v)) (sym same) (k.made_entry t m);
  held_entry = λ t m. subst (In (t, EndOf v)) (sym same) (k.held_entry t m);
  begin_entry = λ t i. let j = subst (In (t, BeginOf v)) same i in made t (BeginOf v, j) x.creator (k.begin_entry t j);
  end_entry = λ t i. let j = subst (In (t, EndOf v)) same i in ended t (EndOf v, j) x.ender (k.end_entry t j);
}
  where
    maker : (c : BeginRecord) → IsSoundCreator w c → ((t : ℕ) → is_made_by t c ≡ true → In (t, BeginOf v) w.writes) → IsSoundCreator new c
    maker (At time) p q = ⊎_elim (λ y. inl (omega (arith, y, le))) (λ y. inr y) p
    maker (By u) p q = l.named u (BeginOf v, q u (eq-eqb u u refl)) p

    holder : (f : Ender) → IsSoundEnder w f → ((t : ℕ) → is_held_by t f ≡ true → In (t, EndOf v) w.writes) → IsSoundEnder new f
    holder (EndedAt time) p q = omega (arith, p, le)
    holder (Held None b) p q = tt
    holder (Held (Some u) b) p q = l.named u (EndOf v, q u (eq-eqb u u refl)) p

    made : (t : ℕ) → Holds w t → (c : BeginRecord) → MadeFor (txn_in w.txns t) t c → MadeFor (txn_in new.txns t) t c
    made t o (At time) m = ⊎_elim (λ p. let q = l.committed t o p.0 in inl (q.0, p.1 ∙ sym q.1)) (λ p. inr (l.aborted t o p.0, p.1)) m
    made t o (By u) m = m

    ended : (t : ℕ) → Holds w t → (f : Ender) → EndedFor (txn_in w.txns t) t f → EndedFor (txn_in new.txns t) t f
    ended t o (EndedAt time) m = ⊎_elim (λ p. let q = l.committed t o p.0 in inl (q.0, p.1 ∙ sym q.1)) (λ p. inr (l.aborted t o p)) m
    ended t o (Held None b) m = l.aborted t o m
    ended t o (Held (Some u) b) m = ⊎_elim (λ p. inl p) (λ p. inr (l.aborted t o p)) m

-- ---- the first entry of t leaves
pub entry-left : (ps : List (ℕ × WriteEntry)) (t x : ℕ) (f e : WriteEntry) (es : List WriteEntry) → entries_of ps t ≡ f ∷ es → (x ≡ t → e ≡ f → ⊥) → In (x, e) ps → In (x, e) (without_entry ps t)
entry-left [] t x f e es is n i = i
entry-left (p ∷ ps) t x f e es is n i =
    ⊎_elim
    (λ y.
    let q : p.1 ∷ entries_of ps t ≡ f ∷ es = sym (cond-true (p.0 == t) (p.1 ∷ entries_of ps t) (entries_of ps t) y) ∙ is in
    let first : p.1 ≡ f = cc in
    subst (In (x, e)) (sym (cond-true (p.0 == t) ps (p ∷ without_entry ps t) y))
    (⊎_elim (λ here. absurd (n (ap (λ (z : ℕ × WriteEntry). z.0) here ∙ eqb-true p.0 t y) (ap (λ (z : ℕ × WriteEntry). z.1) here ∙ first))) (λ later. later) i))
    (λ no'.
    let rest = sym (cond-false (p.0 == t) (p.1 ∷ entries_of ps t) (entries_of ps t) no') ∙ is in
    subst (In (x, e)) (sym (cond-false (p.0 == t) ps (p ∷ without_entry ps t) no'))
    (⊎_elim (λ here. inl here) (λ later. inr (entry-left ps t x f e es rest n later)) i)) (cases_Bool (p.0 == t))

pub entry-was : (ps : List (ℕ × WriteEntry)) (t x : ℕ) (e : WriteEntry) → In (x, e) (without_entry ps t) → In (x, e) ps
entry-was [] t x e i = i
entry-was (p ∷ ps) t x e i =
    ⊎_elim (λ y. inr (subst (In (x, e)) (cond-true (p.0 == t) ps (p ∷ without_entry ps t) y) i))
    (λ n. ⊎_elim (λ here. inl here) (λ later. inr (entry-was ps t x e later)) (subst (In (x, e)) (cond-false (p.0 == t) ps (p ∷ without_entry ps t) n) i)) (cases_Bool (p.0 == t))

-- the words of a version that the change leaves alone
pub words-other : (w new : World) (h : History) (e : Event) (r : Reply) (t v : ℕ) (f : WriteEntry) (es : List WriteEntry) (x : Version) → new.txns ≡ w.txns → new.clock ≡ w.clock → new.writes ≡ without_entry w.writes t → entries_of w.writes t ≡ f ∷ es →
    (BeginOf v ≡ f → ⊥) → (EndOf v ≡ f → ⊥) → Words w h v x → Words new (h ++ (e, r) ∷ []) v x
words-other w new h e r t v f es x st sc sw is nb ne k = record {
  creator = maker x.creator k.creator;
  ender = holder x.ender k.ender;
  own = λ u a m. k.own u (ap (λ ts. (txn_in ts u).state) (sym st) ∙ a) m;
  off_made = λ u a m. wrote-later u h e r x.key (k.off_made u (ap (λ ts. (txn_in ts u).state) (sym st) ∙ a) m);
  off_held = λ u a m. wrote-later u h e r x.key (k.off_held u (ap (λ ts. (txn_in ts u).state) (sym st) ∙ a) m);
  made_entry = λ u m. subst (In (u, BeginOf v)) (sym sw) (entry-left w.writes t u f (BeginOf v) es is (λ _ q. nb q) (k.made_entry u m));
  held_entry = λ u m. subst (In (u, EndOf v)) (sym sw) (entry-left w.writes t u f (EndOf v) es is (λ _ q. ne q) (k.held_entry u m));
  begin_entry = λ u i. subst (λ ts. MadeFor (txn_in ts u) u x.creator) (sym st) (k.begin_entry u (entry-was w.writes t u (BeginOf v) (subst (In (u, BeginOf v)) sw i)));
  end_entry = λ u i. subst (λ ts. EndedFor (txn_in ts u) u x.ender) (sym st) (k.end_entry u (entry-was w.writes t u (EndOf v) (subst (In (u, EndOf v)) sw i)));
}
  where
    maker : (c : BeginRecord) → IsSoundCreator w c → IsSoundCreator new c
    maker (At time) p = ⊎_elim (λ y. inl (omega (arith, y, sc))) (λ y. inr y) p
    maker (By u) p = ap (λ ts. is_present (txn_in ts u).state) st ∙ p

    holder : (f : Ender) → IsSoundEnder w f → IsSoundEnder new f
    holder (EndedAt time) p = omega (arith, p, sc)
    holder (Held None b) p = tt
    holder (Held (Some u) b) p = ap (λ ts. is_present (txn_in ts u).state) st ∙ p

-- the words of versions after one is sealed name the same writers
pub words-sealed : (w new : World) (h : History) (e : Event) (r : Reply) (v : ℕ) (x : Version) → new.txns ≡ w.txns → new.clock ≡ w.clock → new.writes ≡ w.writes → Words w h v x → Words new (h ++ (e, r) ∷ []) v (with_ender x (sealed x.ender))
words-sealed w new h e r v x st sc sw k = record {
  creator = maker x.creator k.creator;
  ender = holder x.ender k.ender;
  own = λ u a m. owned u x.ender (k.own u (ap (λ ts. (txn_in ts u).state) (sym st) ∙ a) m);
  off_made = λ u a m. wrote-later u h e r x.key (k.off_made u (ap (λ ts. (txn_in ts u).state) (sym st) ∙ a) m);
  off_held = λ u a m. wrote-later u h e r x.key (k.off_held u (ap (λ ts. (txn_in ts u).state) (sym st) ∙ a) (sym (same u x.ender) ∙ m));
  made_entry = λ u m. subst (In (u, BeginOf v)) (sym sw) (k.made_entry u m);
  held_entry = λ u m. subst (In (u, EndOf v)) (sym sw) (k.held_entry u (sym (same u x.ender) ∙ m));
  begin_entry = λ u i. subst (λ ts. MadeFor (txn_in ts u) u x.creator) (sym st) (k.begin_entry u (subst (In (u, BeginOf v)) sw i));
  end_entry = λ u i. ended u x.ender (subst (λ ts. EndedFor (txn_in ts u) u x.ender) (sym st) (k.end_entry u (subst (In (u, EndOf v)) sw i)));
}
  where
    same : (u : ℕ) (f : Ender) → is_held_by u (sealed f) ≡ is_held_by u f
    same u (EndedAt time) = refl
    same u (Held None b) = refl
    same u (Held (Some y) b) = refl

    owned : (u : ℕ) (f : Ender) → EndsOwn u f → EndsOwn u (sealed f)
    owned u (EndedAt time) o = o
    owned u (Held None b) o = o
    owned u (Held (Some y) b) o = o

    ended : (u : ℕ) (f : Ender) → EndedFor (txn_in new.txns u) u f → EndedFor (txn_in new.txns u) u (sealed f)
    ended u (EndedAt time) o = o
    ended u (Held None b) o = o
    ended u (Held (Some y) b) o = o

    maker : (c : BeginRecord) → IsSoundCreator w c → IsSoundCreator new c
    maker (At time) p = ⊎_elim (λ y. inl (omega (arith, y, sc))) (λ y. inr y) p
    maker (By u) p = ap (λ ts. is_present (txn_in ts u).state) st ∙ p

    holder : (f : Ender) → IsSoundEnder w f → IsSoundEnder new (sealed f)
    holder (EndedAt time) p = omega (arith, p, sc)
    holder (Held None b) p = tt
    holder (Held (Some u) b) p = ap (λ ts. is_present (txn_in ts u).state) st ∙ p
