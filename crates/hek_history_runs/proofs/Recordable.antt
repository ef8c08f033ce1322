-- Some history records each run: one with a transaction for each ID, those that did not commit without operations.
use Rattle.std.proofs.Common.{◌≡◌, ◌==◌, ℕ, zero, suc, ◌+◌, ◌<◌, ◌≤◌, ◌^◌, Bool, true, false, Vec, Global, List, [], ◌∷◌, length, Option, Some, None, refl, sym, ap, ◌∙◌, ⊎_elim, subst, take, arith}
use Rattle.std.proofs.lemmas.Bool.{cases_Bool, cond-true, cond-false, eqb-true, eq-eqb, false≢true}
use Rattle.std.proofs.lemmas.Option.{slice_get_within}
use denote.RawPtr.{null_ptr}
use Rattle.std.specs.Prelude.{◌&&◌, slice_get, map, unwrap_or, if◌then◌else◌}
use Rattle.hek_rules.specs.declared.event.Level.{Level}
use Rattle.hek_rules.specs.declared.event.Level.TheVariants as engine
use Rattle.hek_rules.specs.declared.event.Event.{Event}
use Rattle.hek_rules.specs.declared.event.Event.TheVariants as event
use Rattle.hek_rules.specs.declared.reply.Reply.{Reply}
use Rattle.hek_rules.specs.declared.reply.Reply.TheVariants as reply
use Rattle.hek_rules.specs.Recorded.{Recorded}
use Rattle.hek_rules.specs.World.{World, opening}
use Rattle.hek_rules.specs.Table.{Outcome, outcome, found}
use Rattle.hek_rules.specs.Run.{run, transcript}
use Rattle.hek_rules.specs.Serial.{is_of, begin_of, end_of}
use Rattle.hek_rules.specs.Faults.{put_all, level_of}
use Rattle.hek_laws.specs.Runs.{HasDistinctKeys, IsFirstClock, recorded_run}
use Rattle.hek_laws.proofs.Table.Changes.{EachChange, each_outcome, is_answer as is_walk_answer}
use Rattle.hek_history.specs.declared.history.History.{History}
use Rattle.hek_history.specs.declared.history.Transaction.{Transaction}
use Rattle.hek_history.specs.declared.history.Operation.{Operation}
use Rattle.hek_history.specs.declared.history.Operation.TheVariants.{Read, Insert, Update, Delete, Scan}
use Rattle.hek_history.specs.declared.history.Scope.TheVariants.{Bucket}
use Rattle.hek_history.specs.declared.history.Status.TheVariants.{Committed, Aborted}
use Rattle.hek_history.specs.Histories.{committed_in as known_in, committed_by, is_committed}
use Rattle.hek_history_laws.specs.Recording.{entry_of, is_operation, is_answer, answered, HasCommitted, IsShort}
use Rattle.hek_history_laws.proofs.Answered.{AreAnswered, is_answered, first_true}
use Rattle.hek_history_runs.specs.Recording.{same_level, IsRecordedAt, Records}
use Rattle.hek_history_runs.specs.Laws.{RunsAreRecorded}
use Rattle.hek_history_runs.specs.Points.{commits}
use Rattle.hek_history_runs.proofs.FirstCommitters.{declared}
use Rattle.hek_history_runs.proofs.Ticks.{entry-at}

-- a list as a vector without spare room
abbrev vec_of : {X : Type 0} → Global → (xs : List X) → length xs < 2 ^ 63 → Vec X Global
vec_of alloc xs l = record { ptr = null_ptr; len = length xs; cap = length xs; alloc = alloc; items = xs; ok = (refl, omega arith); small = l }

-- ---- answers that fit their events
abbrev Fits : Event → Reply → Type 0
Fits (event.Read t key) (reply.Found value) = Unit {0}
Fits (event.Read t key) reply.Absent = Unit {0}
Fits (event.Scan t bucket) (reply.Rows pairs) = Unit {0}
Fits (event.Insert t key value) reply.Done = Unit {0}
Fits (event.Insert t key value) reply.Exists = Unit {0}
Fits (event.Update t key value) reply.Done = Unit {0}
Fits (event.Update t key value) reply.Absent = Unit {0}
Fits (event.Delete t key) reply.Done = Unit {0}
Fits (event.Delete t key) reply.Absent = Unit {0}
Fits e r = ⊥

abbrev FitsIf : Event → Outcome → Type 0
FitsIf e o = is_operation e ≡ true → is_answer o.reply ≡ true → Fits e o.reply

same_answer : (r : Reply) → is_walk_answer r ≡ is_answer r
same_answer (reply.Found value) = refl
same_answer reply.Absent = refl
same_answer (reply.Rows pairs) = refl
same_answer reply.Done = refl
same_answer reply.Exists = refl
same_answer r = refl

each_fits : (w : World) → EachChange w FitsIf
each_fits w = record {
  same = λ e r i m o a. absurd (false≢true (sym m.unanswered ∙ same_answer r ∙ a));
  aborts = λ e r t cause i l m o a. absurd (false≢true (sym m.unanswered ∙ same_answer r ∙ a));
  begins = λ t p c o a. absurd (false≢true o);
  reads = λ t key es a ok _ _. read-fits t key _;
  scans = λ t b es a ok _ _. tt;
  exists = λ t key value v es a ok is _ _. tt;
  inserts = λ t key value es a ok is free _ _. tt;
  misses_update = λ t key value es a ok is _ _. tt;
  updates = λ t key value z es a ok is _ _. tt;
  misses_delete = λ t key es a ok is _ _. tt;
  deletes = λ t key z es a ok is _ _. tt;
  finishes = λ t a o _. absurd (false≢true o);
  prepares = λ t a z c o _. absurd (false≢true o);
  drops = λ t v r p i n o _. absurd (false≢true o);
  unlocks = λ t b p o _. absurd (false≢true o);
  frees = λ t u p o _. absurd (false≢true o);
  commits = λ t p z o _. absurd (false≢true o);
  stamps_begin = λ t v es p is o _. absurd (false≢true o);
  stamps_end = λ t v es p is o _. absurd (false≢true o);
  voids = λ t v es cause p is o _. absurd (false≢true o);
  gives_back = λ t v es cause r p is i n o _. absurd (false≢true o);
  ends = λ t p z o _. absurd (false≢true o);
}
  where
    read-fits : (t key : ℕ) (o : Option ℕ) → Fits (event.Read t key) (found w o)
    read-fits t key None = tt
    read-fits t key (Some v) = tt

-- the answers of operations fit, at all places
abbrev AreFitting : List (Event × Reply) → Type 0
AreFitting h = (i : ℕ) (p : Event × Reply) → slice_get h i ≡ Some p → is_operation p.0 ≡ true → is_answer p.1 ≡ true → Fits p.0 p.1

runs-fit : (w : World) (es : List Event) → AreFitting (transcript w es)
runs-fit w es i p at o a =
    let is = entry-at w es i p at in
    let there = run w (take i es) in
    let answer : p.1 ≡ (outcome there p.0).reply = ap (λ (q : Event × Reply). q.1) is in
    subst (Fits p.0) (sym answer) (each_outcome there FitsIf (each_fits there) p.0 o (ap is_answer (sym answer) ∙ a))

-- ---- an operation for each entry that was answered
abbrev AreShort : List (Event × Reply) → Type 0
AreShort h = (i : ℕ) (e : Event) (pairs : List (ℕ × ℕ)) → slice_get h i ≡ Some (e, reply.Rows pairs) → length pairs < 2 ^ 63

-- an operation of t whose entry this is
record HasOperation (buckets t : ℕ) (p : Event × Reply) : Type 0 where
  op : Operation
  entry : entry_of buckets t op ≡ Some p

abbrev entry : Event → Reply → Option (Event × Reply)
entry e r = Some (e, r)

operation-for : (alloc : Global) (buckets t : ℕ) (e : Event) (r : Reply) → ((pairs : List (ℕ × ℕ)) → r ≡ reply.Rows pairs → length pairs < 2 ^ 63) → is_of t e ≡ true → Fits e r → HasOperation buckets t (e, r)
operation-for alloc buckets t (event.Read x key) (reply.Found value) short mine fits = let same : x ≡ t = eqb-true x t mine in record { op = Read key (Some value); entry = λ i. entry (event.Read (sym same i) key) (reply.Found value) }
operation-for alloc buckets t (event.Read x key) reply.Absent short mine fits = let same : x ≡ t = eqb-true x t mine in record { op = Read key None; entry = λ i. entry (event.Read (sym same i) key) reply.Absent }
operation-for alloc buckets t (event.Scan x bucket) (reply.Rows pairs) short mine fits =
    let same : x ≡ t = eqb-true x t mine in
    record {
      op = Scan (Bucket buckets bucket) (vec_of alloc pairs (short pairs refl));
      entry = cond-true (buckets == buckets) (Some (event.Scan t bucket, reply.Rows pairs)) None (eq-eqb buckets buckets refl) ∙ (λ i. entry (event.Scan (sym same i) bucket) (reply.Rows pairs));
    }
operation-for alloc buckets t (event.Insert x key value) reply.Done short mine fits = let same : x ≡ t = eqb-true x t mine in record { op = Insert key value true; entry = λ i. entry (event.Insert (sym same i) key value) reply.Done }
operation-for alloc buckets t (event.Insert x key value) reply.Exists short mine fits = let same : x ≡ t = eqb-true x t mine in record { op = Insert key value false; entry = λ i. entry (event.Insert (sym same i) key value) reply.Exists }
operation-for alloc buckets t (event.Update x key value) reply.Done short mine fits = let same : x ≡ t = eqb-true x t mine in record { op = Update key value true; entry = λ i. entry (event.Update (sym same i) key value) reply.Done }
operation-for alloc buckets t (event.Update x key value) reply.Absent short mine fits = let same : x ≡ t = eqb-true x t mine in record { op = Update key value false; entry = λ i. entry (event.Update (sym same i) key value) reply.Absent }
operation-for alloc buckets t (event.Delete x key) reply.Done short mine fits = let same : x ≡ t = eqb-true x t mine in record { op = Delete key true; entry = λ i. entry (event.Delete (sym same i) key) reply.Done }
operation-for alloc buckets t (event.Delete x key) reply.Absent short mine fits = let same : x ≡ t = eqb-true x t mine in record { op = Delete key false; entry = λ i. entry (event.Delete (sym same i) key) reply.Absent }
operation-for alloc buckets t e r short mine fits = absurd fits

second_true : (a b c : Bool) → (a && b && c) ≡ true → b ≡ true
second_true true true c e = refl
second_true true false c e = absurd (false≢true e)
second_true false b c e = absurd (false≢true e)

third_true : (a b c : Bool) → (a && b && c) ≡ true → c ≡ true
third_true true true c e = e
third_true true false c e = absurd (false≢true e)
third_true false b c e = absurd (false≢true e)

-- the operations of t in a transcript
record HasOperations (buckets t : ℕ) (h : List (Event × Reply)) : Type 0 where
  ops : List Operation
  few : length ops ≤ length h
  are : AreAnswered buckets t h ops

operations-for : (alloc : Global) (buckets t : ℕ) (h : List (Event × Reply)) → AreShort h → AreFitting h → HasOperations buckets t h
operations-for alloc buckets t [] short fit = record { ops = []; few = omega arith; are = refl }
operations-for alloc buckets t (p ∷ ps) short fit =
    let rest : HasOperations buckets t ps = operations-for alloc buckets t ps (λ i e pairs at. short (suc i) e pairs at) (λ i q at. fit (suc i) q at) in
    ⊎_elim
    (λ on.
    let mine = first_true (is_of t p.0) (is_operation p.0) (is_answer p.1) on in
    let fits = fit zero p refl (second_true (is_of t p.0) (is_operation p.0) (is_answer p.1) on) (third_true (is_of t p.0) (is_operation p.0) (is_answer p.1) on) in
    let one = operation-for alloc buckets t p.0 p.1 (λ pairs is. short zero p.0 pairs (ap (λ (r : Reply). Some (p.0, r)) is)) mine fits in
    let all : entry_of buckets t one.op ∷ map (entry_of buckets t) rest.ops ≡ Some p ∷ map Some (answered t ps) = λ i. one.entry i ∷ rest.are i in
    record {
      ops = one.op ∷ rest.ops;
      few = let l = rest.few in omega (arith, l);
      are = all ∙ ap (map Some) (sym (cond-true (is_answered t p) (p ∷ answered t ps) (answered t ps) on));
    })
    (λ off. record {
      ops = rest.ops;
      few = let l = rest.few in omega (arith, l);
      are = rest.are ∙ ap (map Some) (sym (cond-false (is_answered t p) (p ∷ answered t ps) (answered t ps) off));
    })
    (cases_Bool (is_answered t p))

-- ---- a transaction for each ID
abbrev listed : {X : Type 0} → (ℕ → X) → ℕ → List X
listed f zero = []
listed f (suc n) = f zero ∷ listed (λ i. f (suc i)) n

listed-length : {X : Type 0} (f : ℕ → X) (n : ℕ) → length (listed f n) ≡ n
listed-length f zero = refl
listed-length f (suc n) = ap suc (listed-length (λ i. f (suc i)) n)

listed-at : {X : Type 0} (f : ℕ → X) (n i : ℕ) → i < n → slice_get (listed f n) i ≡ Some (f i)
listed-at f zero i l = absurd (omega (arith, l))
listed-at f (suc n) zero l = refl
listed-at f (suc n) (suc i) l = listed-at (λ j. f (suc j)) n i (omega (arith, l))

listed-from : {X : Type 0} (f : ℕ → X) (n i : ℕ) (x : X) → slice_get (listed f n) i ≡ Some x → x ≡ f i
listed-from f zero i x e = cc
listed-from f (suc n) zero x e = let same : f zero ≡ x = cc in sym same
listed-from f (suc n) (suc i) x e = listed-from (λ j. f (suc j)) n i x e

known-some : (o : Option Transaction) → known_in o ≡ true → (y : Transaction) × (o ≡ Some y)
known-some None e = absurd (false≢true e)
known-some (Some y) e = (y, refl)

module _ (alloc : Global) (buckets clock : ℕ) (rows : List (ℕ × ℕ)) (levels : List Level) (events : List Event) (distinct : HasDistinctKeys rows) (first : IsFirstClock clock)
    (short : IsShort (recorded_run buckets rows levels clock events)) (few : length levels + 1 < 2 ^ 63) where
  abbrev s : Recorded
  s = recorded_run buckets rows levels clock events

  made : (t : ℕ) → HasOperations buckets t s.history
  made t = operations-for alloc buckets t s.history (λ i e pairs at. short.scans i e pairs at) (runs-fit (opening buckets rows levels clock) events)

  fits : (t : ℕ) → length (made t).ops < 2 ^ 63
  fits t = let n = (made t).few in let l = short.history in omega (arith, n, l)

  abbrev committed-one : ℕ → Transaction
  committed-one t = record {
    level = same_level (unwrap_or (level_of levels t) engine.Serializable);
    status = Committed;
    begin = begin_of t s.history;
    end = end_of t s.history;
    invoked = None;
    answered = None;
    operations = vec_of alloc (made t).ops (fits t);
  }

  abbrev other-one : ℕ → Transaction
  other-one t = record {
    level = same_level engine.Serializable;
    status = Aborted;
    begin = None;
    end = None;
    invoked = None;
    answered = None;
    operations = vec_of alloc [] (omega arith);
  }

  abbrev one : ℕ → Transaction
  one t = if commits s t then committed-one t else other-one t

  abbrev all : List Transaction
  all = listed one (length levels + 1)

  abbrev history : History
  history = record {
    rows = vec_of alloc (put_all rows []) short.rows;
    transactions = vec_of alloc all (let l = listed-length one (length levels + 1) in omega (arith, l, few));
  }

  known : (t : ℕ) → commits s t ≡ true → t < length levels + 1
  known t c = by t (declared buckets clock rows levels events distinct first t c)
    where
      by : (t : ℕ) → (l : Level) × (level_of levels t ≡ Some l) → t < length levels + 1
      by zero d = omega arith
      by (suc i) d = let l = slice_get_within levels i d.0 d.1 in omega (arith, l)

  recorded-at : (t : ℕ) → HasCommitted s t → IsRecordedAt s history t t
  recorded-at t c = record {
    found = committed-one t;
    at = listed-at one (length levels + 1) t (known t c) ∙ ap Some (cond-true (commits s t) (committed-one t) (other-one t) c);
    run = record {
      level = λ level is. ap (λ (o : Option Level). same_level (unwrap_or o engine.Serializable)) is;
      status = refl;
      begin = refl;
      end = refl;
      operations = (made t).are;
    };
  }

  only-these : (i : ℕ) → is_committed history i ≡ true → (t : ℕ) × HasCommitted s t × (t ≡ i)
  only-these i e =
      ⊎_elim (λ yes. (i, yes, refl))
      (λ off.
      let y = known-some (slice_get all i) e in
      let is : y.0 ≡ other-one i = listed-from one (length levels + 1) i y.0 y.1 ∙ cond-false (commits s i) (committed-one i) (other-one i) off in
      absurd (false≢true (sym (ap known_in y.1 ∙ ap (λ (x : Transaction). committed_by x.status) is) ∙ e)))
      (cases_Bool (commits s i))

  records : Records history (λ t. t) s
  records = record { rows = λ key. refl; committed = recorded-at; apart = λ t u c d same. same; others = only-these }

pub runs_are_recorded : RunsAreRecorded
runs_are_recorded alloc buckets clock rows levels events distinct first short few =
    (history alloc buckets clock rows levels events distinct first short few, λ t. t, records alloc buckets clock rows levels events distinct first short few)
