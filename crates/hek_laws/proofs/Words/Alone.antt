-- The transactions that the words of versions name, apart from the history: also during a walk.
use Rattle.std.proofs.Common.{◌≡◌, ℕ, Bool, true, false, List, Some, None, ◌∙◌, ap, sym, arith, inl, inr, ⊎_elim, subst}
use Rattle.std.proofs.lemmas.Bool.{eqb-true, cases_Bool, cond-false, false≢true}
use Rattle.std.specs.Prelude.{is_some, slice_get, ◌⊎◌}
use Rattle.hek_rules.specs.declared.event.Effect.{Effect}
use Rattle.hek_rules.specs.declared.event.Effect.TheVariants.{WriteLock}
use Rattle.hek_rules.specs.declared.event.WriteEntry.{WriteEntry}
use Rattle.hek_rules.specs.declared.event.WriteEntry.TheVariants.{BeginOf, EndOf}
use Rattle.hek_rules.specs.declared.word.BeginRecord.{BeginRecord}
use Rattle.hek_rules.specs.declared.word.BeginRecord.TheVariants.{At, By}
use Rattle.hek_rules.specs.World.{World, Txn, Version, Ender, EndedAt, Held, txn_in, version_in, is_held_by, is_made_by, is_aborted, is_present}
use Rattle.hek_rules.specs.Locks.{cleared, write_refusal}
use Rattle.hek_rules.specs.Walk.{Purpose, apply_all}
use Rattle.hek_laws.specs.Lists.{In}
use Rattle.hek_laws.specs.Sound.{IsSoundCreator, IsSoundEnder}
use Rattle.hek_laws.proofs.Table.Unchanged.{apply_all-times}
use Rattle.hek_laws.proofs.Futures.Survivors.{History}
use Rattle.hek_laws.proofs.Words.Walks.{entries-stay, entries-from, entries-done, cleared-held, cleared-past}
use Rattle.hek_laws.proofs.Words.Versions.{WordsAll}
use Rattle.hek_laws.proofs.Walks.Walking.{Walking, moved}
use Rattle.hek_laws.proofs.Walks.ReadLocks.{tested-there}

pub record WordsRight (w : World) : Type 0 where
  pub creators : (v : ℕ) → IsSoundCreator w (version_in w.versions v).creator
  pub enders : (v : ℕ) → IsSoundEnder w (version_in w.versions v).ender
  pub made_entry : (t v : ℕ) → is_made_by t (version_in w.versions v).creator ≡ true → In (t, BeginOf v) w.writes
  pub held_entry : (t v : ℕ) → is_held_by t (version_in w.versions v).ender ≡ true → In (t, EndOf v) w.writes
  pub begin_range : (v t : ℕ) → In (t, BeginOf v) w.writes → is_some (slice_get w.versions v) ≡ true
  pub end_range : (v t : ℕ) → In (t, EndOf v) w.writes → is_some (slice_get w.versions v) ≡ true

-- each entry of a write set names its transaction in the word; an End word may have lost an aborted one
pub record Entries (w : World) : Type 0 where
  pub made : (t v : ℕ) → In (t, BeginOf v) w.writes → is_made_by t (version_in w.versions v).creator ≡ true
  pub ended : (t v : ℕ) → In (t, EndOf v) w.writes → (is_held_by t (version_in w.versions v).ender ≡ true) ⊎ (is_aborted (txn_in w.txns t).state ≡ true)

-- a cleared word loses an aborted writer alone
pub held-cleared : (ts : List Txn) (u : ℕ) (e : Ender) → is_held_by u e ≡ true → (is_held_by u (cleared ts e) ≡ true) ⊎ (is_aborted (txn_in ts u).state ≡ true)
held-cleared ts u (EndedAt time) h = absurd (false≢true h)
held-cleared ts u (Held None b) h = absurd (false≢true h)
held-cleared ts u (Held (Some x) b) h =
    ⊎_elim (λ y. inr (subst (λ n. is_aborted (txn_in ts n).state ≡ true) (eqb-true x u h) y))
    (λ n. inl (ap (is_held_by u) (cond-false (is_aborted (txn_in ts x).state) (Held None false) (Held (Some x) b) n) ∙ h)) (cases_Bool (is_aborted (txn_in ts x).state))

-- a word that may be write-locked has no writer
pub held-free : (u : ℕ) (e : Ender) → is_held_by u e ≡ true → write_refusal e ≡ None → ⊥
held-free u (EndedAt time) h n = false≢true h
held-free u (Held None b) h n = false≢true h
held-free u (Held (Some x) b) h n = cc

pub words-right : (w : World) (h : History) → WordsAll w h → WordsRight w
words-right w h k = record {
  creators = λ v. (k.words v).creator;
  enders = λ v. (k.words v).ender;
  made_entry = λ t v y. (k.words v).made_entry t y;
  held_entry = λ t v y. (k.words v).held_entry t y;
  begin_range = k.begin_range;
  end_range = k.end_range;
}

module _ (w : World) (k : WordsRight w) (t : ℕ) (p : Purpose) (bucket : ℕ) (test : ℕ → Version → Bool) (es : List Effect) (y : Walking w t p bucket test es) where
  abbrev L : World
  L = apply_all t w es

  maker : (c : BeginRecord) → IsSoundCreator w c → IsSoundCreator L c
  maker (At time) q = let z = (apply_all-times t w es).clock in ⊎_elim (λ l. inl (omega (arith, l, z))) (λ l. inr l) q
  maker (By u) q = ap (λ ts. is_present (txn_in ts u).state) (apply_all-times t w es).txns ∙ q

  holder : (f : Ender) → IsSoundEnder w f → IsSoundEnder L f
  holder (EndedAt time) q = let z = (apply_all-times t w es).clock in omega (arith, q, z)
  holder (Held None b) q = tt
  holder (Held (Some u) b) q = ap (λ ts. is_present (txn_in ts u).state) (apply_all-times t w es).txns ∙ q

  pub part-words : WordsRight (apply_all t w es)
  part-words = record {
    creators = λ v. subst (IsSoundCreator L) (sym (moved w t p bucket test es y v).creator) (maker (version_in w.versions v).creator (k.creators v));
    enders = λ v. let f = (version_in w.versions v).ender in
        ⊎_elim (λ q. subst (IsSoundEnder L) (sym q) (holder f (k.enders v)))
        (λ q. ⊎_elim (λ z. subst (IsSoundEnder L) (sym z) (holder (cleared w.txns f) (cleared-past w f (k.enders v))))
        (λ z. subst (IsSoundEnder L) (sym z.0) (ap (λ ts. is_present (txn_in ts t).state) (apply_all-times t w es).txns ∙ ap is_present y.state)) q) (moved w t p bucket test es y v).ender;
    made_entry = λ u v m. entries-stay t w es (u, BeginOf v) (k.made_entry u v (ap (is_made_by u) (sym (moved w t p bucket test es y v).creator) ∙ m));
    held_entry = λ u v m.
        ⊎_elim (λ q. entries-stay t w es (u, EndOf v) (k.held_entry u v (ap (is_held_by u) (sym q) ∙ m)))
        (λ q. ⊎_elim (λ z. entries-stay t w es (u, EndOf v) (k.held_entry u v (cleared-held w.txns u (version_in w.versions v).ender (ap (is_held_by u) (sym z) ∙ m))))
        (λ z. subst (λ n. In (n, EndOf v) L.writes) (eqb-true t u (ap (is_held_by u) (sym z.0) ∙ m)) (entries-done t w es v z.1.1)) q) (moved w t p bucket test es y v).ender;
    begin_range = λ v u i. (moved w t p bucket test es y v).there (⊎_elim (k.begin_range v u) (λ q. let z : BeginOf v ≡ EndOf q.0 = ap (λ (s : ℕ × WriteEntry). s.1) q.1 in cc) (entries-from t w es (u, BeginOf v) i));
    end_range = λ v u i. (moved w t p bucket test es y v).there (⊎_elim (k.end_range v u)
        (λ q. let z : EndOf v ≡ EndOf q.0 = ap (λ (s : ℕ × WriteEntry). s.1) q.1 in let at : v ≡ q.0 = cc in
        tested-there test w.versions v (y.warrant (WriteLock v) (subst (λ n. In (WriteLock n) es) (sym at) q.2)).2) (entries-from t w es (u, EndOf v) i));
  }
