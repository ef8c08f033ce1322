-- An insert that was answered `exists` reads its key: with a read in its place a run goes through the same worlds.
use Rattle.std.proofs.Common.{◌≡◌, ℕ, zero, suc, Bool, true, false, List, [], ◌∷◌, ◌++◌, Option, Some, refl, ◌∙◌, ap, sym, inl, inr, ⊎_elim, subst, take}
use Rattle.std.proofs.lemmas.Bool.{cond-false, false≢true, and_from, and_right}
use Rattle.std.specs.Prelude.{not, ◌&&◌, ◌⊎◌, nat_lt, filter, slice_get, if◌then◌else◌}
use Rattle.std.specs.Option.{option_or}
use Rattle.hek_rules.specs.declared.check.Check.TheVariants.{Passed, Doomed, Refused}
use Rattle.hek_rules.specs.declared.event.State.TheVariants as state
use Rattle.hek_rules.specs.declared.event.Event.{Event}
use Rattle.hek_rules.specs.declared.event.Event.TheVariants as event
use Rattle.hek_rules.specs.declared.reply.Refusal.TheVariants as refusal
use Rattle.hek_rules.specs.declared.reply.Reply.{Reply}
use Rattle.hek_rules.specs.declared.reply.Reply.TheVariants as reply
use Rattle.hek_rules.specs.World.{World, Txn, txn_in, version_in, bucket_of, declared, is_active, is_live, is_not_begun, is_terminated}
use Rattle.hek_rules.specs.Walk.{Allow, ToRead, walk, apply_all, last, seen_of, of_key}
use Rattle.hek_rules.specs.Checks.{check_of, check_phase, is_open, missed}
use Rattle.hek_rules.specs.Table.{Outcome, outcome, refused, answered, after_read, holds_nothing}
use Rattle.hek_rules.specs.Run.{next, transcript, reply as reply_to}
use Rattle.hek_rules.specs.Serial.{write_of, writes_of, end_drawn, end_of, committed_by, committed_in, with_end, ordered, serial_order, laid_over, lay_all, serial_rows}
use Rattle.hek_laws.proofs.Table.Cases.{IsActive}
use Rattle.hek_laws.proofs.Table.Changes.{EachChange, each_outcome, is_answer}
use Rattle.hek_laws.proofs.Futures.Survivors.{History}

-- ---- one event
passes : (x : Txn) (idle : Bool) (clock t key : ℕ) → x.state ≡ state.Active → x.abort_now ≡ false → x.no_more_waits ≡ false → check_of x idle clock (event.Read t key) ≡ Passed
passes x idle clock t key s a n =
    let e : Event = event.Read t key in
    let open_now : is_open x ≡ true = and_from (is_active x.state) (not x.no_more_waits) (ap is_active s) (ap not n) in
    cond-false (is_not_begun x.state) (Refused refusal.NotBegun) (if is_terminated x.state then Refused refusal.Ended else check_phase x idle clock e) (ap is_not_begun s)
    ∙ cond-false (is_terminated x.state) (Refused refusal.Ended) (check_phase x idle clock e) (ap is_terminated s)
    ∙ cond-false (is_live x.state && x.abort_now) Doomed (if not (is_open x) then missed x.state e else Passed) (and_right (is_live x.state) x.abort_now a)
    ∙ cond-false (not (is_open x)) (missed x.state e) Passed (ap not open_now)

-- the outcome of a read in the place of an insert that was answered `exists`
record ReadsAs (w : World) (t key : ℕ) (o : Outcome) : Type 0 where
  value : ℕ
  same : outcome w (event.Read t key) ≡ record { reply = reply.Found value; world = o.world }

abbrev Softens : World → Event → Outcome → Type 0
Softens w e o = (t key value : ℕ) → e ≡ event.Insert t key value → o.reply ≡ reply.Exists → ReadsAs w t key o

silent : (r : Reply) → is_answer r ≡ false → r ≡ reply.Exists → ⊥
silent r n e = false≢true (sym n ∙ ap is_answer e)

each_softens : (w : World) → EachChange w (Softens w)
each_softens w = record {
  same = λ e r i m t key value q is. absurd (silent r m.unanswered is);
  aborts = λ e r t cause i l m u key value q is. absurd (silent r m.unanswered is);
  begins = λ t p c u key value q is. cc;
  reads = λ t k es a ok u key value q is. cc;
  scans = λ t b es a ok u key value q is. cc;
  exists = λ t k x v es a ok at u key value q is.
      (let event_is : event.Insert t k x ≡ event.Insert u key value = q in
      let one : t ≡ u = cc in
      let two : k ≡ key = cc in
      subst (λ n. ReadsAs w n key (record { reply = reply.Exists; world = apply_all t w es })) one
      (subst (λ n. ReadsAs w t n (record { reply = reply.Exists; world = apply_all t w es })) two (reads-as t k v es a ok at)));
  inserts = λ t k x es a ok at free u key value q is. cc;
  misses_update = λ t k x es a ok at u key value q is. cc;
  updates = λ t k x z es a ok at u key value q is. cc;
  misses_delete = λ t k es a ok at u key value q is. cc;
  deletes = λ t k z es a ok at u key value q is. cc;
  finishes = λ t a u key value q is. cc;
  prepares = λ t a z c u key value q is. cc;
  drops = λ t v r p i n u key value q is. absurd (silent r n is);
  unlocks = λ t b p u key value q is. cc;
  frees = λ t x p u key value q is. cc;
  commits = λ t p z u key value q is. cc;
  stamps_begin = λ t v es p at u key value q is. cc;
  stamps_end = λ t v es p at u key value q is. cc;
  voids = λ t v es cause p at u key value q is. cc;
  gives_back = λ t v es cause r p at i n u key value q is. absurd (silent r n is);
  ends = λ t p z u key value q is. cc;
}
  where
    reads-as : (t key v : ℕ) (es : List _) → IsActive w t false → walk w t ToRead (bucket_of w key) (of_key w key) ≡ Allow es → last (seen_of w t (of_key w key)) ≡ Some v → ReadsAs w t key (record { reply = reply.Exists; world = apply_all t w es })
    reads-as t key v es a ok at = record {
      value = (version_in w.versions v).value;
      same =
          (let e : Event = event.Read t key in
          let check = check_of (txn_in w.txns t) (holds_nothing w t) w.clock e in
          cond-false (not (declared w.txns t)) (refused w refusal.UnknownTxn) (answered w t e check) (ap not a.known)
          ∙ ap (answered w t e) (passes (txn_in w.txns t) (holds_nothing w t) w.clock t key a.state a.hopeful a.no_more_waits)
          ∙ ap (after_read w t (last (seen_of w t (of_key w key)))) ok
          ∙ ap (λ (o : Option ℕ). after_read w t o (Allow es)) at);
    }

-- ---- a run
-- a read in the place of an insert that was answered `exists`
abbrev as_read : Event → Reply → Event
as_read (event.Insert t key value) reply.Exists = event.Read t key
as_read e r = e

abbrev pub softened : World → List Event → List Event
softened w [] = []
softened w (e ∷ es) = as_read e (reply_to w e) ∷ softened (next w e) es

record IsInsert (e : Event) (r : Reply) : Type 0 where
  txn : ℕ
  key : ℕ
  value : ℕ
  event_is : e ≡ event.Insert txn key value
  reply_is : r ≡ reply.Exists
  read_is : as_read e r ≡ event.Read txn key

-- whether an insert was answered `exists`
abbrev pub is_exists : Event → Reply → Bool
is_exists (event.Insert t key value) reply.Exists = true
is_exists e r = false

soft-cases : (e : Event) (r : Reply) → ((as_read e r ≡ e) × (is_exists e r ≡ false)) ⊎ IsInsert e r
soft-cases (event.Insert t key value) reply.Exists = inr (record { txn = t; key = key; value = value; event_is = refl; reply_is = refl; read_is = refl })
soft-cases e r = inl (refl, refl)

-- an entry and the one in its place
pub record IsRead (p q : Event × Reply) : Type 0 where
  pub txn : ℕ
  pub key : ℕ
  pub value : ℕ
  pub found : ℕ
  pub was : p ≡ (event.Insert txn key value, reply.Exists)
  pub now : q ≡ (event.Read txn key, reply.Found found)

abbrev pub SofterEntry : Event × Reply → Event × Reply → Type 0
SofterEntry p q = ((q ≡ p) × (is_exists p.0 p.1 ≡ false)) ⊎ IsRead p q

abbrev pub Softer : History → History → Type 0
Softer [] [] = Unit {0}
Softer [] (q ∷ qs) = ⊥
Softer (p ∷ ps) [] = ⊥
Softer (p ∷ ps) (q ∷ qs) = SofterEntry p q × Softer ps qs

pub softer-run : (w : World) (es : List Event) → Softer (transcript w es) (transcript w (softened w es))
softer-run w [] = tt
softer-run w (e ∷ es) =
    let r = reply_to w e in
    let new = as_read e r in
    let rest = softer-run (next w e) es in
    ⊎_elim
    (λ same. (
      inl ((λ i. (same.0 i, reply_to w (same.0 i))), same.1),
      subst (λ x. Softer (transcript (next w e) es) (transcript x (softened (next w e) es))) (sym (ap (next w) same.0)) rest,
    ))
    (λ c.
    let reads = each_outcome w (Softens w) (each_softens w) e c.txn c.key c.value c.event_is c.reply_is in
    let world : next w new ≡ next w e = ap (next w) c.read_is ∙ ap (λ (o : Outcome). o.world) reads.same in
    let answer : reply_to w new ≡ reply.Found reads.value = ap (reply_to w) c.read_is ∙ ap (λ (o : Outcome). o.reply) reads.same in (
      inr (record {
        txn = c.txn;
        key = c.key;
        value = c.value;
        found = reads.value;
        was = (λ i. (c.event_is i, c.reply_is i));
        now = (λ i. (c.read_is i, answer i));
      }),
      subst (λ x. Softer (transcript (next w e) es) (transcript x (softened (next w e) es))) (sym world) rest,
    ))
    (soft-cases e r)

-- ---- what softer transcripts share
entry-writes : (t : ℕ) (p q : Event × Reply) → SofterEntry p q → write_of t q.0 q.1 ≡ write_of t p.0 p.1
entry-writes t p q s = ⊎_elim (λ e. ap (λ (x : Event × Reply). write_of t x.0 x.1) e.0) (λ c. ap (λ (x : Event × Reply). write_of t x.0 x.1) c.now ∙ sym (ap (λ (x : Event × Reply). write_of t x.0 x.1) c.was)) s

entry-ends : (t : ℕ) (p q : Event × Reply) → SofterEntry p q → end_drawn t q.0 q.1 ≡ end_drawn t p.0 p.1
entry-ends t p q s = ⊎_elim (λ e. ap (λ (x : Event × Reply). end_drawn t x.0 x.1) e.0) (λ c. ap (λ (x : Event × Reply). end_drawn t x.0 x.1) c.now ∙ sym (ap (λ (x : Event × Reply). end_drawn t x.0 x.1) c.was)) s

entry-commits : (p q : Event × Reply) → SofterEntry p q → committed_by q.0 q.1 ≡ committed_by p.0 p.1
entry-commits p q s = ⊎_elim (λ e. ap (λ (x : Event × Reply). committed_by x.0 x.1) e.0) (λ c. ap (λ (x : Event × Reply). committed_by x.0 x.1) c.now ∙ sym (ap (λ (x : Event × Reply). committed_by x.0 x.1) c.was)) s

pub softer-writes : (t : ℕ) (h g : History) → Softer h g → writes_of t g ≡ writes_of t h
softer-writes t [] [] s = refl
softer-writes t [] (q ∷ qs) s = absurd s
softer-writes t (p ∷ ps) [] s = absurd s
softer-writes t (p ∷ ps) (q ∷ qs) s = ap (λ ws. ws ++ writes_of t qs) (entry-writes t p q s.0) ∙ ap (λ ws. write_of t p.0 p.1 ++ ws) (softer-writes t ps qs s.1)

pub softer-ends : (t : ℕ) (h g : History) → Softer h g → end_of t g ≡ end_of t h
softer-ends t [] [] s = refl
softer-ends t [] (q ∷ qs) s = absurd s
softer-ends t (p ∷ ps) [] s = absurd s
softer-ends t (p ∷ ps) (q ∷ qs) s = ap (λ o. option_or o (end_of t qs)) (entry-ends t p q s.0) ∙ ap (option_or (end_drawn t p.0 p.1)) (softer-ends t ps qs s.1)

pub softer-commits : (h g : History) → Softer h g → committed_in g ≡ committed_in h
softer-commits [] [] s = refl
softer-commits [] (q ∷ qs) s = absurd s
softer-commits (p ∷ ps) [] s = absurd s
softer-commits (p ∷ ps) (q ∷ qs) s = ap (λ xs. xs ++ committed_in qs) (entry-commits p q s.0) ∙ ap (λ xs. committed_by p.0 p.1 ++ xs) (softer-commits ps qs s.1)

pub softer-take : (i : ℕ) (h g : History) → Softer h g → Softer (take i h) (take i g)
softer-take zero h g s = tt
softer-take (suc i) [] [] s = tt
softer-take (suc i) [] (q ∷ qs) s = absurd s
softer-take (suc i) (p ∷ ps) [] s = absurd s
softer-take (suc i) (p ∷ ps) (q ∷ qs) s = (s.0, softer-take i ps qs s.1)

pub softer-at : (i : ℕ) (h g : History) (p : Event × Reply) → Softer h g → slice_get h i ≡ Some p → (q : Event × Reply) × (slice_get g i ≡ Some q) × SofterEntry p q
softer-at i [] g p s at = cc
softer-at i (x ∷ xs) [] p s at = absurd s
softer-at zero (x ∷ xs) (y ∷ ys) p s at = let same : x ≡ p = cc in (y, refl, subst (λ z. SofterEntry z y) same s.0)
softer-at (suc i) (x ∷ xs) (y ∷ ys) p s at = softer-at i xs ys p s.1 at

softer-laid : (h g : History) → Softer h g → (xs rows : List (ℕ × ℕ)) → laid_over g xs rows ≡ laid_over h xs rows
softer-laid h g s [] rows = refl
softer-laid h g s (x ∷ xs) rows = ap (λ ws. laid_over g xs (lay_all ws rows)) (softer-writes x.1 h g s) ∙ softer-laid h g s xs (lay_all (writes_of x.1 h) rows)

softer-ordered : (h g : History) → Softer h g → (ts : List ℕ) (order : List (ℕ × ℕ)) → ordered g ts order ≡ ordered h ts order
softer-ordered h g s [] order = refl
softer-ordered h g s (t ∷ ts) order = ap (λ o. ordered g ts (with_end t o order)) (softer-ends t h g s) ∙ softer-ordered h g s ts (with_end t (end_of t h) order)

pub softer-rows : (h g : History) → Softer h g → (rows : List (ℕ × ℕ)) (time : ℕ) → serial_rows g rows time ≡ serial_rows h rows time
softer-rows h g s rows time =
    let order : serial_order g ≡ serial_order h = ap (λ ts. ordered g ts []) (softer-commits h g s) ∙ softer-ordered h g s (committed_in h) [] in
    ap (λ xs. laid_over g (filter (λ (x : ℕ × ℕ). nat_lt x.0 time) xs) rows) order ∙ softer-laid h g s (filter (λ (x : ℕ × ℕ). nat_lt x.0 time) (serial_order h)) rows
