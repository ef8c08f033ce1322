-- The times that a run draws: each later one is greater, and each transaction begins once, and ends once, after it began.
use Rattle.std.proofs.Common.{◌≡◌, ℕ, zero, suc, ◌+◌, ◌<◌, ◌≤◌, true, List, [], ◌∷◌, Option, Some, None, refl, ◌∙◌, ap, sym, arith, inl, inr, ⊎_elim, subst, take}
use Rattle.std.proofs.lemmas.Bool.{cases_order, cond_both, cond-true, false≢true, eq-eqb, eqb-true}
use Rattle.std.specs.Prelude.{◌==◌, ◌⊎◌, slice_get}
use Rattle.std.specs.Option.{option_or}
use Rattle.hek_rules.specs.declared.event.State.TheVariants as state
use Rattle.hek_rules.specs.declared.event.Effect.{Effect}
use Rattle.hek_rules.specs.declared.event.Event.{Event}
use Rattle.hek_rules.specs.declared.event.Event.TheVariants as event
use Rattle.hek_rules.specs.declared.reply.Reply.{Reply}
use Rattle.hek_rules.specs.declared.reply.Reply.TheVariants as reply
use Rattle.hek_rules.specs.World.{World, txn_in, is_not_begun}
use Rattle.hek_rules.specs.Waits.{waits}
use Rattle.hek_rules.specs.Walk.{apply_all}
use Rattle.hek_rules.specs.Table.{Outcome, outcome, unchanged, prepare}
use Rattle.hek_rules.specs.Run.{next, run, transcript, reply as reply_to}
use Rattle.hek_rules.specs.Serial.{begin_drawn, begin_of, end_drawn, end_of, is_of}
use Rattle.hek_history.proofs.Fronts.{front_at}
use Rattle.hek_laws.specs.Rows.{AreRising}
use Rattle.hek_laws.proofs.Table.Unchanged.{apply_all-times}
use Rattle.hek_laws.proofs.Table.Cases.{EachRule, each_event}
use Rattle.hek_laws.proofs.Table.Changes.{each_outcome, is_refusal}
use Rattle.hek_laws.proofs.Futures.Survivors.{History}
use Rattle.hek_laws.proofs.Futures.Invariant.{IsSilent}
use Rattle.hek_laws.proofs.Runs.Whole.{Whole, whole-run}

-- the time that an event draws by its reply
abbrev pub time_drawn : Event → Reply → Option ℕ
time_drawn (event.Begin t) (reply.Began time) = Some time
time_drawn (event.Precommit t) (reply.Precommitted time) = Some time
time_drawn e r = None

-- what an event says of its world, if it draws a time
record Draws (w : World) (e : Event) (o : Outcome) : Type 0 where
  at : (time : ℕ) → time_drawn e o.reply ≡ Some time → (time ≡ w.clock) × (o.world.clock ≡ w.clock + 1)
  begins : (t time : ℕ) → e ≡ event.Begin t → o.reply ≡ reply.Began time → (txn_in w.txns t).state ≡ state.NotBegun
  ends : (t time : ℕ) → e ≡ event.Precommit t → o.reply ≡ reply.Precommitted time → (txn_in w.txns t).state ≡ state.Active

no_time : (time : ℕ) → ◌≡◌ {A = Option ℕ} None (Some time) → ⊥
no_time time e = cc

no_refused : (e : Event) (why : _) → time_drawn e (reply.Refused why) ≡ None
no_refused (event.Begin t) why = refl
no_refused (event.Precommit t) why = refl
no_refused e why = refl

no_aborted : (e : Event) (why : _) → time_drawn e (reply.Aborted why) ≡ None
no_aborted (event.Begin t) why = refl
no_aborted (event.Precommit t) why = refl
no_aborted e why = refl

idle : (w : World) (e : Event) (o : Outcome) → time_drawn e o.reply ≡ None → ((time : ℕ) → o.reply ≡ reply.Began time → ⊥) → ((time : ℕ) → o.reply ≡ reply.Precommitted time → ⊥) → Draws w e o
idle w e o n b p = record {
  at = λ time d. absurd (no_time time (sym n ∙ d));
  begins = λ t time _ r. absurd (b time r);
  ends = λ t time _ r. absurd (p time r);
}

-- an event of another kind
other : (w : World) (e : Event) (o : Outcome) → time_drawn e o.reply ≡ None → ((t : ℕ) → e ≡ event.Begin t → ⊥) → ((t : ℕ) → e ≡ event.Precommit t → ⊥) → Draws w e o
other w e o n b p = record {
  at = λ time d. absurd (no_time time (sym n ∙ d));
  begins = λ t time q _. absurd (b t q);
  ends = λ t time q _. absurd (p t q);
}

each_draws : (w : World) → EachRule w (Draws w)
each_draws w = record {
  refusal = λ e why. idle w e _ (no_refused e why) (λ time r. cc) (λ time r. cc);
  repeated = λ e t cause _ _. idle w e _ (no_aborted e cause) (λ time r. cc) (λ time r. cc);
  cascade = λ e t _ _ _. idle w e _ (no_aborted e _) (λ time r. cc) (λ time r. cc);
  begin = λ t p _. record {
    at = λ time d. (let same : w.clock ≡ time = cc in (sym same, refl));
    begins = λ u time q _. (let same : t ≡ u = cc in subst (λ n. (txn_in w.txns n).state ≡ state.NotBegun) same p.state);
    ends = λ u time q _. cc;
  };
  read = λ t key _. other w _ _ refl (λ u q. cc) (λ u q. cc);
  scan = λ t bucket _. other w _ _ refl (λ u q. cc) (λ u q. cc);
  insert = λ t key value _. other w _ _ refl (λ u q. cc) (λ u q. cc);
  update = λ t key value _. other w _ _ refl (λ u q. cc) (λ u q. cc);
  delete = λ t key _. other w _ _ refl (λ u q. cc) (λ u q. cc);
  finish = λ t _. other w _ _ refl (λ u q. cc) (λ u q. cc);
  precommit = λ t a _. cond_both (waits w t == 0) (record { reply = reply.Precommitted w.clock; world = prepare w t }) (unchanged w (reply.Waiting (waits w t))) (Draws w (event.Precommit t))
      (λ _. record {
        at = λ time d. (let same : w.clock ≡ time = cc in (sym same, refl));
        begins = λ u time q _. cc;
        ends = λ u time q _. (let same : t ≡ u = cc in subst (λ n. (txn_in w.txns n).state ≡ state.Active) same a.state);
      })
      (λ _. idle w (event.Precommit t) _ refl (λ time r. cc) (λ time r. cc));
  fail = λ t _. other w _ _ refl (λ u q. cc) (λ u q. cc);
  release = λ t _. other w _ _ refl (λ u q. cc) (λ u q. cc);
  commit = λ t _. other w _ _ refl (λ u q. cc) (λ u q. cc);
  stamp_committed = λ t _. other w _ _ refl (λ u q. cc) (λ u q. cc);
  stamp_aborted = λ t cause _. other w _ _ refl (λ u q. cc) (λ u q. cc);
  end = λ t _ _. other w _ _ refl (λ u q. cc) (λ u q. cc);
  detect = other w _ _ refl (λ u q. cc) (λ u q. cc);
}

draws : (w : World) (e : Event) → Draws w e (outcome w e)
draws w e = each_event (each_draws w) e

-- ---- the clock
clock-grows : (w : World) (e : Event) → w.clock ≤ (next w e).clock
clock-grows w e = each_outcome w (λ e o. w.clock ≤ o.world.clock) (record {
  same = λ e r _ _. omega arith;
  aborts = λ e r t cause _ _ _. omega arith;
  begins = λ t _ _. omega arith;
  reads = λ t key es _ _. walked t es;
  scans = λ t k es _ _. walked t es;
  exists = λ t key value v es _ _ _. walked t es;
  inserts = λ t key value es _ _ _ _. walked t es;
  misses_update = λ t key value es _ _ _. walked t es;
  updates = λ t key value v es _ _ _. walked t es;
  misses_delete = λ t key es _ _ _. walked t es;
  deletes = λ t key v es _ _ _. walked t es;
  finishes = λ t _. omega arith;
  prepares = λ t _ _ _. omega arith;
  drops = λ t v r _ _ _. omega arith;
  unlocks = λ t k _. omega arith;
  frees = λ t u _. omega arith;
  commits = λ t _ _. omega arith;
  stamps_begin = λ t v _ _ _. omega arith;
  stamps_end = λ t v _ _ _. omega arith;
  voids = λ t v _ _ _ _. omega arith;
  gives_back = λ t v _ _ r _ _ _ _. omega arith;
  ends = λ t _ _. omega arith;
}) e
  where
    walked : (t : ℕ) (es : List Effect) → w.clock ≤ (apply_all t w es).clock
    walked t es = let same = (apply_all-times t w es).clock in omega (arith, same)

time-at : (p q : Event × Reply) (a : ℕ) → Some p ≡ Some q → time_drawn q.0 q.1 ≡ Some a → time_drawn p.0 p.1 ≡ Some a
time-at p q a same d = ap (λ (x : Event × Reply). time_drawn x.0 x.1) (one p q same) ∙ d
  where
    one : (p q : Event × Reply) → Some p ≡ Some q → p ≡ q
    one p q e = cc

pub no_entry : (q : Event × Reply) → ◌≡◌ {A = Option (Event × Reply)} None (Some q) → ⊥
no_entry q e = cc

-- no time before the clock is drawn
times-from : (w : World) (es : List Event) (i : ℕ) (p : Event × Reply) (a : ℕ) → slice_get (transcript w es) i ≡ Some p → time_drawn p.0 p.1 ≡ Some a → w.clock ≤ a
times-from w [] i p a at d = absurd (no_entry p at)
times-from w (e ∷ es) zero p a at d = let same = ((draws w e).at a (time-at (e, reply_to w e) p a at d)).0 in omega (arith, same)
times-from w (e ∷ es) (suc i) p a at d = let rest = times-from (next w e) es i p a at d in let grows = clock-grows w e in omega (arith, rest, grows)

pub times-rise : (w : World) (es : List Event) (i j : ℕ) (p q : Event × Reply) (a b : ℕ) → i < j → slice_get (transcript w es) i ≡ Some p → slice_get (transcript w es) j ≡ Some q →
    time_drawn p.0 p.1 ≡ Some a → time_drawn q.0 q.1 ≡ Some b → a < b
times-rise w [] i j p q a b l at to c d = absurd (no_entry p at)
times-rise w (e ∷ es) i zero p q a b l at to c d = absurd (omega (arith, l))
times-rise w (e ∷ es) zero (suc j) p q a b l at to c d =
    let now = (draws w e).at a (time-at (e, reply_to w e) p a at c) in
    let same = now.0 in
    let after = now.1 in
    let rest = times-from (next w e) es j q b to d in
    omega (arith, same, after, rest)
times-rise w (e ∷ es) (suc i) (suc j) p q a b l at to c d = times-rise (next w e) es i j p q a b (omega (arith, l)) at to c d

-- ---- the world at a place
pub take-transcript : (w : World) (es : List Event) (i : ℕ) → transcript w (take i es) ≡ take i (transcript w es)
take-transcript w [] zero = refl
take-transcript w [] (suc i) = refl
take-transcript w (e ∷ es) zero = refl
take-transcript w (e ∷ es) (suc i) = ap (λ ps. (e, reply_to w e) ∷ ps) (take-transcript (next w e) es i)

pub entry-at : (w : World) (es : List Event) (i : ℕ) (p : Event × Reply) → slice_get (transcript w es) i ≡ Some p → p ≡ (p.0, reply_to (run w (take i es)) p.0)
entry-at w [] i p at = absurd (no_entry p at)
entry-at w (e ∷ es) zero p at = let same : (e, reply_to w e) ≡ p = cc in subst (λ (q : Event × Reply). q ≡ (q.0, reply_to w q.0)) same refl
entry-at w (e ∷ es) (suc i) p at = entry-at (next w e) es i p at

silent-at : (t : ℕ) (h : History) (i : ℕ) (p : Event × Reply) → IsSilent t h → slice_get h i ≡ Some p → is_of t p.0 ≡ true → is_refusal p.1 ≡ true
silent-at t [] i p s at m = absurd (no_entry p at)
silent-at t (q ∷ qs) zero p s at m = let same : q ≡ p = cc in subst (λ (x : Event × Reply). is_of t x.0 ≡ true → is_refusal x.1 ≡ true) same s.0 m
silent-at t (q ∷ qs) (suc i) p s at m = silent-at t qs i p s.1 at m

taken-at : {X : Type 0} (xs : List X) (i j : ℕ) (x : X) → i < j → slice_get xs i ≡ Some x → slice_get (take j xs) i ≡ Some x
taken-at [] i j x l at = cc
taken-at (y ∷ ys) i zero x l at = absurd (omega (arith, l))
taken-at (y ∷ ys) zero (suc j) x l at = at
taken-at (y ∷ ys) (suc i) (suc j) x l at = taken-at ys i j x (omega (arith, l)) at

ended-at : (t : ℕ) (h : History) (i time : ℕ) → slice_get h i ≡ Some (event.Precommit t, reply.Precommitted time) → end_of t h ≡ None → ⊥
ended-at t [] i time at n = no_entry _ at
ended-at t (p ∷ ps) zero time at n =
    let same : p ≡ (event.Precommit t, reply.Precommitted time) = cc in
    let drawn : end_drawn t p.0 p.1 ≡ Some time = ap (λ (q : Event × Reply). end_drawn t q.0 q.1) same ∙ cond-true (t == t) (Some time) None (eq-eqb t t refl) in
    no_time time (sym n ∙ ap (λ o. option_or o (end_of t ps)) drawn)
ended-at t (p ∷ ps) (suc i) time at n = ended-at t ps i time at (rest (end_drawn t p.0 p.1) n)
  where
    rest : (o : Option ℕ) → option_or o (end_of t ps) ≡ None → end_of t ps ≡ None
    rest None n = n
    rest (Some x) n = cc

-- the entry in which t drew a time
begun-in : (t : ℕ) (e : Event) (r : Reply) (time : ℕ) → begin_drawn t e r ≡ Some time → ◌≡◌ {A = Event × Reply} (e, r) (event.Begin t, reply.Began time)
begun-in t (event.Begin x) (reply.Began a) time d =
    cond_both (x == t) (Some a) None (λ o. o ≡ Some time → ◌≡◌ {A = Event × Reply} (event.Begin x, reply.Began a) (event.Begin t, reply.Began time))
    (λ y q. let one : x ≡ t = eqb-true x t y in let two : a ≡ time = cc in λ i. (event.Begin (one i), reply.Began (two i))) (λ _ q. cc) d
begun-in t (event.Begin x) r time d = cc
begun-in t e r time d = cc

ended-in : (t : ℕ) (e : Event) (r : Reply) (time : ℕ) → end_drawn t e r ≡ Some time → ◌≡◌ {A = Event × Reply} (e, r) (event.Precommit t, reply.Precommitted time)
ended-in t (event.Precommit x) (reply.Precommitted a) time d =
    cond_both (x == t) (Some a) None (λ o. o ≡ Some time → ◌≡◌ {A = Event × Reply} (event.Precommit x, reply.Precommitted a) (event.Precommit t, reply.Precommitted time))
    (λ y q. let one : x ≡ t = eqb-true x t y in let two : a ≡ time = cc in λ i. (event.Precommit (one i), reply.Precommitted (two i))) (λ _ q. cc) d
ended-in t (event.Precommit x) r time d = cc
ended-in t e r time d = cc

first-or : (o p : Option ℕ) (time : ℕ) → option_or o p ≡ Some time → (o ≡ Some time) ⊎ (p ≡ Some time)
first-or None p time e = inr e
first-or (Some x) p time e = inl e

pub begin-entry : (t : ℕ) (h : History) (time : ℕ) → begin_of t h ≡ Some time → (i : ℕ) × (slice_get h i ≡ Some (event.Begin t, reply.Began time))
begin-entry t [] time e = absurd (no_time time e)
begin-entry t (p ∷ ps) time e =
    ⊎_elim (λ here. (zero, ap Some (begun-in t p.0 p.1 time here))) (λ there. let r = begin-entry t ps time there in (suc r.0, r.1))
    (first-or (begin_drawn t p.0 p.1) (begin_of t ps) time e)

pub end-entry : (t : ℕ) (h : History) (time : ℕ) → end_of t h ≡ Some time → (i : ℕ) × (slice_get h i ≡ Some (event.Precommit t, reply.Precommitted time))
end-entry t [] time e = absurd (no_time time e)
end-entry t (p ∷ ps) time e =
    ⊎_elim (λ here. (zero, ap Some (ended-in t p.0 p.1 time here))) (λ there. let r = end-entry t ps time there in (suc r.0, r.1))
    (first-or (end_drawn t p.0 p.1) (end_of t ps) time e)

-- ---- a whole run
module _ (rows : List (ℕ × ℕ)) (up : AreRising rows) (w : World) (es : List Event) (start : Whole rows w []) where
  abbrev h : History
  h = transcript w es

  before : (i : ℕ) → Whole rows (run w (take i es)) (take i h)
  before i = subst (Whole rows (run w (take i es))) (take-transcript w es i) (whole-run rows up w [] (take i es) start)

  state-begun : (i t time : ℕ) → slice_get h i ≡ Some (event.Begin t, reply.Began time) → (txn_in (run w (take i es)).txns t).state ≡ state.NotBegun
  state-begun i t time at =
      let e = entry-at w es i (event.Begin t, reply.Began time) at in
      (draws (run w (take i es)) (event.Begin t)).begins t time refl (sym (ap (λ (p : Event × Reply). p.1) e))

  state-ended : (i t time : ℕ) → slice_get h i ≡ Some (event.Precommit t, reply.Precommitted time) → (txn_in (run w (take i es)).txns t).state ≡ state.Active
  state-ended i t time at =
      let e = entry-at w es i (event.Precommit t, reply.Precommitted time) at in
      (draws (run w (take i es)) (event.Precommit t)).ends t time refl (sym (ap (λ (p : Event × Reply). p.1) e))

  not-again : (t i j a b : ℕ) → i < j → slice_get h i ≡ Some (event.Begin t, reply.Began a) → slice_get h j ≡ Some (event.Begin t, reply.Began b) → ⊥
  not-again t i j a b l at to =
      false≢true (silent-at t (take j h) i (event.Begin t, reply.Began a) (((before j).told t).unbegun (state-begun j t b to)) (taken-at h i j (event.Begin t, reply.Began a) l at) (eq-eqb t t refl))

  not-twice : (t i j a b : ℕ) → i < j → slice_get h i ≡ Some (event.Precommit t, reply.Precommitted a) → slice_get h j ≡ Some (event.Precommit t, reply.Precommitted b) → ⊥
  not-twice t i j a b l at to = ended-at t (take j h) i a (taken-at h i j (event.Precommit t, reply.Precommitted a) l at) (((before j).told t).undrawn (state-ended j t b to))

  pub begins-once : (t i j a b : ℕ) → slice_get h i ≡ Some (event.Begin t, reply.Began a) → slice_get h j ≡ Some (event.Begin t, reply.Began b) → i ≡ j
  begins-once t i j a b at to = ⊎_elim (λ e. e) (λ o. ⊎_elim (λ l. absurd (not-again t i j a b l at to)) (λ g. absurd (not-again t j i b a g to at)) o) (cases_order i j)

  pub ends-once : (t i j a b : ℕ) → slice_get h i ≡ Some (event.Precommit t, reply.Precommitted a) → slice_get h j ≡ Some (event.Precommit t, reply.Precommitted b) → i ≡ j
  ends-once t i j a b at to = ⊎_elim (λ e. e) (λ o. ⊎_elim (λ l. absurd (not-twice t i j a b l at to)) (λ g. absurd (not-twice t j i b a g to at)) o) (cases_order i j)

  -- t began before it drew its end time
  pub begun-before : (t i time : ℕ) → slice_get h i ≡ Some (event.Precommit t, reply.Precommitted time) → (j begin : ℕ) × (j < i) × (slice_get h j ≡ Some (event.Begin t, reply.Began begin))
  begun-before t i time at =
      let e = begin-entry t (take i h) _ ((before i).begins t (ap is_not_begun (state-ended i t time at))) in
      let f = front_at h i e.0 (event.Begin t, reply.Began (txn_in (run w (take i es)).txns t).begin) e.1 in
      (e.0, (txn_in (run w (take i es)).txns t).begin, f.0, f.1)
