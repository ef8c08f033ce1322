-- Equal codes come of equal keys: a code ends where it ends, whatever follows.
use Rattle.std.proofs.Common.{◌≡◌, ℕ, zero, suc, ◌+◌, ◌-◌, ◌<◌, ◌≤◌, Bool, true, false, List, [], ◌∷◌, ◌++◌, Option, Some, None, length, refl, ap, sym, subst, ◌∙◌, append_assoc, arith}
use Rattle.std.proofs.lemmas.Bool.{ltb-true, le-ltb, lt-ltb}
use Rattle.std.specs.List.{flat_map}
use Rattle.std.specs.Prelude.{◌/◌, ◌%◌, ◌==◌, nat_lt, if◌then◌else◌, unwrap_or}
use Rattle.hek_rules.specs.declared.event.Cause.{Cause}
use Rattle.hek_rules.specs.declared.event.Cause.TheVariants as cause
use Rattle.hek_rules.specs.declared.event.Event.{Event}
use Rattle.hek_rules.specs.declared.event.Event.TheVariants as event
use Rattle.hek_rules.specs.declared.event.Level.{Level}
use Rattle.hek_rules.specs.declared.event.Level.TheVariants as level
use Rattle.hek_rules.specs.declared.event.State.{State}
use Rattle.hek_rules.specs.declared.event.State.TheVariants as state
use Rattle.hek_rules.specs.declared.event.WriteEntry.{WriteEntry}
use Rattle.hek_rules.specs.declared.event.WriteEntry.TheVariants.{BeginOf, EndOf}
use Rattle.hek_rules.specs.declared.kind.EventKind.{EventKind}
use Rattle.hek_rules.specs.declared.kind.EventKind.TheVariants as kind
use Rattle.hek_rules.specs.declared.reply.Refusal.{Refusal}
use Rattle.hek_rules.specs.declared.reply.Refusal.TheVariants as refusal
use Rattle.hek_rules.specs.declared.reply.Reply.{Reply}
use Rattle.hek_rules.specs.declared.reply.Reply.TheVariants as reply
use Rattle.hek_rules.specs.declared.word.BeginRecord.{BeginRecord}
use Rattle.hek_rules.specs.declared.word.BeginRecord.TheVariants.{At, By}
use Rattle.hek_rules.specs.declared.word.EndRecord.{EndRecord}
use Rattle.hek_rules.specs.declared.word.EndRecord.TheVariants.{Until, Lock}
use Rattle.hek_rules.specs.Events.{event_of, kind_of, kind_coded, opcode_of, txn_of, first_of, second_of}
use Rattle.hek_rules.specs.Names.{refusal_number}
use Rattle.hek_rules.specs.Plan.{Plan}
use Rattle.hek_similar.specs.Forms.{After}
use Rattle.hek_worker.specs.declared.entry.Entry.{Entry}
use Rattle.hek_worker.specs.declared.stage.Stage.{Stage}
use Rattle.hek_worker.specs.declared.stage.Stage.TheVariants as stage
use Rattle.hek_permute.specs.declared.outcome.Ending.{Ending}
use Rattle.hek_permute.specs.declared.outcome.Ending.TheVariants as ending
use Rattle.hek_permute.specs.declared.play.Place.{Place}
use Rattle.hek_explore.specs.Codes.{digits, number, flag, listed, optional, pair, begin_code, end_code, version_code, cause_number, event_code, reply_kind, reply_number, reply_pairs, reply_members, reply_writer, reply_code, level_number, state_number, ending_number, entry_code, look_code, words_code, lists_code, txn_code, stage_kind, stage_step, place_code, shape_code, code_of}
use Rattle.hek_explore.specs.declared.key.VersionKey.{VersionKey}
use Rattle.hek_explore.specs.Keys.{TxnShape, shape_of}

-- values with equal codes are equal, and so is what follows
abbrev pub IsApart : {X : Type 0} → (X → List ℕ) → Type 0
IsApart {X} code = (x y : X) (r s : List ℕ) → code x ++ r ≡ code y ++ s → (x ≡ y) × (r ≡ s)

regroup : (a b c d r s : List ℕ) → (a ++ b) ++ r ≡ (c ++ d) ++ s → a ++ (b ++ r) ≡ c ++ (d ++ s)
regroup a b c d r s e = sym (append_assoc a b r) ∙ e ∙ append_assoc c d s

-- ---- numbers
pub digits-few : (more n : ℕ) → n < 128 → digits more n ≡ n ∷ []
unfolding digits
digits-few zero n low = refl
digits-few (suc more) n low = let test : nat_lt n 128 ≡ true = lt-ltb n 128 low in rw test refl

pub digits-more : (more n : ℕ) → 128 ≤ n → digits (suc more) n ≡ (128 + n % 128) ∷ digits more (n / 128)
unfolding digits
digits-more more n high = let test : nat_lt n 128 ≡ false = le-ltb n 128 high in rw test refl

pub digits-last : (n : ℕ) → digits zero n ≡ n ∷ []
unfolding digits
digits-last n = refl

-- ---- a number that is written byte by byte
abbrev pub IsWritten : List ℕ → ℕ → List ℕ → ℕ → ℕ → Type 0
IsWritten start value code counter rest = (more : ℕ) → more + counter ≡ 9 → code ++ digits more rest ≡ start ++ number value

pub written-none : (start : List ℕ) (value : ℕ) → IsWritten start value start 0 value
written-none start value more e = let all : more ≡ 9 = omega (arith, e) in ap (λ (m : ℕ). start ++ digits m value) all

pub written-last : (start code new : List ℕ) (value counter rest : ℕ) → counter ≤ 9 → rest < 128 → new ≡ code ++ rest ∷ [] → IsWritten start value code counter rest → new ≡ start ++ number value
written-last start code new value counter rest few low is was =
    let full : (9 - counter) + counter ≡ 9 = omega (arith, few) in
    is ∙ ap (λ (l : List ℕ). code ++ l) (sym (digits-few (9 - counter) rest low)) ∙ was (9 - counter) full

pub written-more : (start code new : List ℕ) (value counter next rest left : ℕ) → next ≡ counter + 1 → left ≡ rest / 128 → 128 ≤ rest → new ≡ code ++ (128 + rest % 128) ∷ []
    → IsWritten start value code counter rest → IsWritten start value new next left
written-more start code new value counter next rest left after down high is was more e =
    let full : suc more + counter ≡ 9 = omega (arith, e, after) in
    ap (λ (l : List ℕ). l ++ digits more left) is
    ∙ append_assoc code ((128 + rest % 128) ∷ []) (digits more left)
    ∙ ap (λ (n : ℕ). code ++ (128 + rest % 128) ∷ digits more n) down
    ∙ ap (λ (l : List ℕ). code ++ l) (sym (digits-more more rest high))
    ∙ was (suc more) full

pub written-all : (start code new : List ℕ) (value counter rest last : ℕ) → counter ≡ 9 → last ≡ rest → new ≡ code ++ last ∷ [] → IsWritten start value code counter rest → new ≡ start ++ number value
written-all start code new value counter rest last full same is was =
    let none : 0 + counter ≡ 9 = omega (arith, full) in
    is ∙ ap (λ (n : ℕ). code ++ n ∷ []) same ∙ ap (λ (l : List ℕ). code ++ l) (sym (digits-last rest)) ∙ was 0 none

step-apart : (more : ℕ) (few fewer : Bool) (m n : ℕ) (r s : List ℕ) → IsApart (digits more) → nat_lt m 128 ≡ few → nat_lt n 128 ≡ fewer
    → (if few then m ∷ [] else (128 + m % 128) ∷ digits more (m / 128)) ++ r ≡ (if fewer then n ∷ [] else (128 + n % 128) ∷ digits more (n / 128)) ++ s → (m ≡ n) × (r ≡ s)
step-apart more true true m n r s apart p q e = let same : m ≡ n = cc in let rest : r ≡ s = cc in (same, rest)
step-apart more true false m n r s apart p q e =
    let low : m < 128 = ltb-true m 128 p in
    let bad : m ≡ 128 + n % 128 = cc in
    absurd (omega arith)
step-apart more false true m n r s apart p q e =
    let low : n < 128 = ltb-true n 128 q in
    let bad : 128 + m % 128 ≡ n = cc in
    absurd (omega arith)
step-apart more false false m n r s apart p q e =
    let low : 128 + m % 128 ≡ 128 + n % 128 = cc in
    let rest : digits more (m / 128) ++ r ≡ digits more (n / 128) ++ s = cc in
    let high : (m / 128 ≡ n / 128) × (r ≡ s) = apart (m / 128) (n / 128) r s rest in
    let same : m ≡ n = omega (arith, high.0) in
    (same, high.1)

digits-apart : (more : ℕ) → IsApart (digits more)
unfolding digits
digits-apart zero m n r s e = let same : m ≡ n = cc in let rest : r ≡ s = cc in (same, rest)
digits-apart (suc more) m n r s e = step-apart more (nat_lt m 128) (nat_lt n 128) m n r s (digits-apart more) refl refl e

pub number-apart : IsApart number
number-apart = digits-apart 9

pub flag-apart : IsApart flag
flag-apart true true r s e = let rest : r ≡ s = cc in (refl, rest)
flag-apart true false r s e = absurd (cc)
flag-apart false true r s e = absurd (cc)
flag-apart false false r s e = let rest : r ≡ s = cc in (refl, rest)

-- ---- what is made of others
pub two-apart : {X Y : Type 0} (f : X → List ℕ) (g : Y → List ℕ) → IsApart f → IsApart g → (a b : X) (c d : Y) (r s : List ℕ) → (f a ++ g c) ++ r ≡ (f b ++ g d) ++ s
    → (a ≡ b) × (c ≡ d) × (r ≡ s)
two-apart f g one two a b c d r s e =
    let first : (a ≡ b) × (g c ++ r ≡ g d ++ s) = one a b (g c ++ r) (g d ++ s) (regroup (f a) (g c) (f b) (g d) r s e) in
    let second : (c ≡ d) × (r ≡ s) = two c d r s first.1 in
    (first.0, second.0, second.1)

pub pair-apart : {X Y : Type 0} (f : X → List ℕ) (g : Y → List ℕ) → IsApart f → IsApart g → IsApart (pair f g)
pair-apart {X} {Y} f g one two p q r s e =
    let all : (p.0 ≡ q.0) × (p.1 ≡ q.1) × (r ≡ s) = two-apart f g one two p.0 q.0 p.1 q.1 r s e in
    let same : p ≡ q = ap (λ (x : X). (x, p.1)) all.0 ∙ ap (λ (y : Y). (q.0, y)) all.1 in
    (same, all.2)

pub option-apart : {X : Type 0} (f : X → List ℕ) → IsApart f → IsApart (optional f)
option-apart f one None None r s e = let rest : r ≡ s = cc in (refl, rest)
option-apart f one None (Some y) r s e = absurd (cc)
option-apart f one (Some x) None r s e = absurd (cc)
option-apart f one (Some x) (Some y) r s e =
    let rest : f x ++ r ≡ f y ++ s = cc in
    let all : (x ≡ y) × (r ≡ s) = one x y r s rest in
    (ap Some all.0, all.1)

items-apart : {X : Type 0} (f : X → List ℕ) → IsApart f → (xs ys : List X) (r s : List ℕ) → length xs ≡ length ys → flat_map f xs ++ r ≡ flat_map f ys ++ s → (xs ≡ ys) × (r ≡ s)
items-apart f one [] [] r s n e = (refl, e)
items-apart f one [] (y ∷ ys) r s n e = absurd (omega (arith, n))
items-apart f one (x ∷ xs) [] r s n e = absurd (omega (arith, n))
items-apart f one (x ∷ xs) (y ∷ ys) r s n e =
    let first : (x ≡ y) × (flat_map f xs ++ r ≡ flat_map f ys ++ s) =
    one x y (flat_map f xs ++ r) (flat_map f ys ++ s) (regroup (f x) (flat_map f xs) (f y) (flat_map f ys) r s e) in
    let rest : (xs ≡ ys) × (r ≡ s) = items-apart f one xs ys r s (omega (arith, n)) first.1 in
    let same : x ∷ xs ≡ y ∷ ys = cc in
    (same, rest.1)

pub list-apart : {X : Type 0} (f : X → List ℕ) → IsApart f → IsApart (listed f)
list-apart f one xs ys r s e =
    let long : (length xs ≡ length ys) × (flat_map f xs ++ r ≡ flat_map f ys ++ s) =
    number-apart (length xs) (length ys) (flat_map f xs ++ r) (flat_map f ys ++ s) (regroup (number (length xs)) (flat_map f xs) (number (length ys)) (flat_map f ys) r s e) in
    items-apart f one xs ys r s long.0 long.1

-- values that a number brings back
abbrev pub IsBrought : {X : Type 0} → (X → ℕ) → (ℕ → X) → Type 0
IsBrought {X} to back = (x : X) → back (to x) ≡ x

brought-same : {X : Type 0} (to : X → ℕ) (back : ℕ → X) → IsBrought to back → (x y : X) → to x ≡ to y → x ≡ y
brought-same to back is x y e = sym (is x) ∙ ap back e ∙ is y

cause-at : ℕ → Cause
cause-at n =
    if n == 0 then cause.Cascade
    else if n == 1 then cause.Conflict
    else if n == 2 then cause.NoMoreReads
    else if n == 3 then cause.ReadersFull
    else if n == 4 then cause.NoMoreWaits
    else if n == 5 then cause.Deadlock
    else cause.Asked

cause-back : IsBrought cause_number cause-at
unfolding cause-at
cause-back cause.Cascade = refl
cause-back cause.Conflict = refl
cause-back cause.NoMoreReads = refl
cause-back cause.ReadersFull = refl
cause-back cause.NoMoreWaits = refl
cause-back cause.Deadlock = refl
cause-back cause.Asked = refl

level-at : ℕ → Level
level-at n = if n == 0 then level.Serializable else if n == 1 then level.Repeatable else level.Snapshot

level-back : IsBrought level_number level-at
unfolding level-at
level-back level.Serializable = refl
level-back level.Repeatable = refl
level-back level.Snapshot = refl

state-at : ℕ → State
state-at n =
    if n == 0 then state.NotBegun
    else if n == 1 then state.Active
    else if n == 2 then state.Preparing
    else if n == 3 then state.Committed
    else if n == 4 then state.Terminated
    else state.Aborted (cause-at (n - 5))

state-back : IsBrought state_number state-at
unfolding state-at cause-at
state-back state.NotBegun = refl
state-back state.Active = refl
state-back state.Preparing = refl
state-back state.Committed = refl
state-back state.Terminated = refl
state-back (state.Aborted cause.Cascade) = refl
state-back (state.Aborted cause.Conflict) = refl
state-back (state.Aborted cause.NoMoreReads) = refl
state-back (state.Aborted cause.ReadersFull) = refl
state-back (state.Aborted cause.NoMoreWaits) = refl
state-back (state.Aborted cause.Deadlock) = refl
state-back (state.Aborted cause.Asked) = refl

ending-at : ℕ → Ending
ending-at n = if n == 0 then ending.Committed else if n == 1 then ending.Unended else ending.Aborted (cause-at (n - 2))

ending-back : IsBrought ending_number ending-at
unfolding ending-at cause-at
ending-back ending.Committed = refl
ending-back ending.Unended = refl
ending-back (ending.Aborted cause.Cascade) = refl
ending-back (ending.Aborted cause.Conflict) = refl
ending-back (ending.Aborted cause.NoMoreReads) = refl
ending-back (ending.Aborted cause.ReadersFull) = refl
ending-back (ending.Aborted cause.NoMoreWaits) = refl
ending-back (ending.Aborted cause.Deadlock) = refl
ending-back (ending.Aborted cause.Asked) = refl

refusal-at : ℕ → Refusal
refusal-at n =
    if n == 1 then refusal.UnknownTxn
    else if n == 2 then refusal.NotBegun
    else if n == 3 then refusal.BegunTwice
    else if n == 4 then refusal.Ended
    else if n == 5 then refusal.WrongPhase
    else refusal.ClockFull

refusal-back : IsBrought refusal_number refusal-at
unfolding refusal-at
refusal-back refusal.UnknownTxn = refl
refusal-back refusal.NotBegun = refl
refusal-back refusal.BegunTwice = refl
refusal-back refusal.Ended = refl
refusal-back refusal.WrongPhase = refl
refusal-back refusal.ClockFull = refl

-- ---- stages and places
stage-at : ℕ → ℕ → Stage
stage-at kind step =
    if kind == 0 then stage.Start
    else if kind == 1 then stage.Working step
    else if kind == 2 then stage.Preparing
    else if kind == 3 then stage.Looking
    else if kind == 4 then stage.GivingUp
    else if kind == 5 then stage.Releasing true
    else if kind == 6 then stage.Releasing false
    else if kind == 7 then stage.Committing
    else if kind == 8 then stage.Stamping true
    else if kind == 9 then stage.Stamping false
    else if kind == 10 then stage.Ending
    else stage.Ended

stage-back : (s : Stage) → stage-at (stage_kind s) (stage_step s) ≡ s
unfolding stage-at
stage-back stage.Start = refl
stage-back (stage.Working place) = refl
stage-back stage.Preparing = refl
stage-back stage.Looking = refl
stage-back stage.GivingUp = refl
stage-back (stage.Releasing true) = refl
stage-back (stage.Releasing false) = refl
stage-back stage.Committing = refl
stage-back (stage.Stamping true) = refl
stage-back (stage.Stamping false) = refl
stage-back stage.Ending = refl
stage-back stage.Ended = refl

stage-same : (a b : Stage) → stage_kind a ≡ stage_kind b → stage_step a ≡ stage_step b → a ≡ b
stage-same a b kind step = sym (stage-back a) ∙ ap (λ (k : ℕ). stage-at k (stage_step a)) kind ∙ ap (stage-at (stage_kind b)) step ∙ stage-back b

-- what stands behind an item
abbrev pub tail_of : List ℕ → List ℕ
tail_of [] = []
tail_of (x ∷ xs) = xs

place-apart : IsApart place_code
place-apart a b r s e =
    let kind : stage_kind a.stage ≡ stage_kind b.stage = cc in
    let rest : (number (stage_step a.stage) ++ (number a.moves ++ flag a.waits)) ++ r ≡ (number (stage_step b.stage) ++ (number b.moves ++ flag b.waits)) ++ s = ap tail_of e in
    let step = number-apart (stage_step a.stage) (stage_step b.stage) ((number a.moves ++ flag a.waits) ++ r) ((number b.moves ++ flag b.waits) ++ s)
    (regroup (number (stage_step a.stage)) (number a.moves ++ flag a.waits) (number (stage_step b.stage)) (number b.moves ++ flag b.waits) r s rest) in
    let all : (a.moves ≡ b.moves) × (a.waits ≡ b.waits) × (r ≡ s) = two-apart number flag number-apart flag-apart a.moves b.moves a.waits b.waits r s step.1 in
    let here : a.stage ≡ b.stage = stage-same a.stage b.stage kind step.0 in
    let same : a ≡ b =
    ap (λ (z : Stage). record a { stage = z }) here ∙ ap (λ (n : ℕ). record a { stage = b.stage; moves = n }) all.0 ∙ ap (λ (z : Bool). record b { waits = z }) all.1 in
    (same, all.2)

-- ---- versions and write sets
entry-apart : IsApart entry_code
entry-apart (BeginOf v) (BeginOf u) r s e = let one = number-apart v u r s (ap tail_of e) in (ap BeginOf one.0, one.1)
entry-apart (BeginOf v) (EndOf u) r s e = absurd (cc)
entry-apart (EndOf v) (BeginOf u) r s e = absurd (cc)
entry-apart (EndOf v) (EndOf u) r s e = let one = number-apart v u r s (ap tail_of e) in (ap EndOf one.0, one.1)

begin-apart : IsApart begin_code
begin-apart (At v) (At u) r s e = let one = number-apart v u r s (ap tail_of e) in (ap At one.0, one.1)
begin-apart (At v) (By u) r s e = absurd (cc)
begin-apart (By v) (At u) r s e = absurd (cc)
begin-apart (By v) (By u) r s e = let one = number-apart v u r s (ap tail_of e) in (ap By one.0, one.1)

end-apart : IsApart end_code
end-apart (Until v) (Until u) r s e = let one = number-apart v u r s (ap tail_of e) in (ap Until one.0, one.1)
end-apart (Until v) (Lock readers writer no_more) r s e = absurd (cc)
end-apart (Lock readers writer no_more) (Until u) r s e = absurd (cc)
end-apart (Lock readers writer no_more) (Lock others by last) r s e =
    let one = number-apart readers others ((optional number writer ++ flag no_more) ++ r) ((optional number by ++ flag last) ++ s)
    (regroup (number readers) (optional number writer ++ flag no_more) (number others) (optional number by ++ flag last) r s (ap tail_of e)) in
    let all : (writer ≡ by) × (no_more ≡ last) × (r ≡ s) = two-apart (optional number) flag (option-apart number number-apart) flag-apart writer by no_more last r s one.1 in
    let count : readers ≡ others = one.0 in
    let same : Lock readers writer no_more ≡ Lock others by last = cc in
    (same, all.2)

version-apart : IsApart version_code
version-apart a b r s e =
    let key = number-apart a.key b.key ((number a.value ++ (begin_code a.begin ++ end_code a.end)) ++ r) ((number b.value ++ (begin_code b.begin ++ end_code b.end)) ++ s)
    (regroup (number a.key) (number a.value ++ (begin_code a.begin ++ end_code a.end)) (number b.key) (number b.value ++ (begin_code b.begin ++ end_code b.end)) r s e) in
    let value = number-apart a.value b.value ((begin_code a.begin ++ end_code a.end) ++ r) ((begin_code b.begin ++ end_code b.end) ++ s)
    (regroup (number a.value) (begin_code a.begin ++ end_code a.end) (number b.value) (begin_code b.begin ++ end_code b.end) r s key.1) in
    let all : (a.begin ≡ b.begin) × (a.end ≡ b.end) × (r ≡ s) = two-apart begin_code end_code begin-apart end-apart a.begin b.begin a.end b.end r s value.1 in
    let same : a ≡ b =
    ap (λ (n : ℕ). record a { key = n }) key.0
    ∙ ap (λ (n : ℕ). record a { key = b.key; value = n }) value.0
    ∙ ap (λ (z : BeginRecord). record b { begin = z; end = a.end }) all.0
    ∙ ap (λ (z : EndRecord). record b { end = z }) all.1 in
    (same, all.2)

-- ---- events and replies
event-same : (x y : Event) → kind_of x ≡ kind_of y → txn_of x ≡ txn_of y → first_of x ≡ first_of y → second_of x ≡ second_of y → x ≡ y
event-same x y kind txn first second =
    sym (event-back x)
    ∙ ap (λ (k : EventKind). event_of k (unwrap_or (txn_of x) 0) (first_of x) (second_of x)) kind
    ∙ ap (λ (t : Option ℕ). event_of (kind_of y) (unwrap_or t 0) (first_of x) (second_of x)) txn
    ∙ ap (λ (a : ℕ). event_of (kind_of y) (unwrap_or (txn_of y) 0) a (second_of x)) first
    ∙ ap (λ (a : ℕ). event_of (kind_of y) (unwrap_or (txn_of y) 0) (first_of y) a) second
    ∙ event-back y
  where
    event-back : (e : Event) → event_of (kind_of e) (unwrap_or (txn_of e) 0) (first_of e) (second_of e) ≡ e
    event-back (event.Begin t) = refl
    event-back (event.Read t a) = refl
    event-back (event.Scan t a) = refl
    event-back (event.Insert t a b) = refl
    event-back (event.Update t a b) = refl
    event-back (event.Delete t a) = refl
    event-back (event.Finish t) = refl
    event-back (event.Precommit t) = refl
    event-back (event.Release t) = refl
    event-back (event.Commit t) = refl
    event-back (event.Fail t) = refl
    event-back (event.Stamp t) = refl
    event-back (event.End t) = refl
    event-back event.Detect = refl

kind-same : (a b : EventKind) → opcode_of a ≡ opcode_of b → a ≡ b
kind-same a b e = let same : Some a ≡ Some b = sym (kind-back a) ∙ ap kind_coded e ∙ kind-back b in cc
  where
    kind-back : (k : EventKind) → kind_coded (opcode_of k) ≡ Some k
    kind-back kind.Begin = refl
    kind-back kind.Read = refl
    kind-back kind.Scan = refl
    kind-back kind.Insert = refl
    kind-back kind.Update = refl
    kind-back kind.Delete = refl
    kind-back kind.Finish = refl
    kind-back kind.Precommit = refl
    kind-back kind.Release = refl
    kind-back kind.Commit = refl
    kind-back kind.Fail = refl
    kind-back kind.Stamp = refl
    kind-back kind.End = refl
    kind-back kind.Detect = refl

event-apart : IsApart event_code
event-apart x y r s e =
    let kind : opcode_of (kind_of x) ≡ opcode_of (kind_of y) = cc in
    let txn = option-apart number number-apart (txn_of x) (txn_of y) ((number (first_of x) ++ number (second_of x)) ++ r) ((number (first_of y) ++ number (second_of y)) ++ s)
    (regroup (optional number (txn_of x)) (number (first_of x) ++ number (second_of x)) (optional number (txn_of y)) (number (first_of y) ++ number (second_of y)) r s (ap tail_of e)) in
    let all : (first_of x ≡ first_of y) × (second_of x ≡ second_of y) × (r ≡ s) =
    two-apart number number number-apart number-apart (first_of x) (first_of y) (second_of x) (second_of y) r s txn.1 in
    (event-same x y (kind-same (kind_of x) (kind_of y) kind) txn.0 all.0 all.1, all.2)

reply-at : ℕ → ℕ → List (ℕ × ℕ) → List ℕ → Option ℕ → Reply
reply-at kind n pairs members writer =
    if kind == 0 then reply.Began n
    else if kind == 1 then reply.Found n
    else if kind == 2 then reply.Absent
    else if kind == 3 then reply.Rows pairs
    else if kind == 4 then reply.Done
    else if kind == 5 then reply.Exists
    else if kind == 6 then reply.Ready
    else if kind == 7 then reply.Waiting n
    else if kind == 8 then reply.Precommitted n
    else if kind == 9 then reply.ReleasedRead n writer
    else if kind == 10 then reply.ReleasedBucket n
    else if kind == 11 then reply.ReleasedWaiter n
    else if kind == 12 then reply.Nothing
    else if kind == 13 then reply.Committed
    else if kind == 14 then reply.WaitingCommits n
    else if kind == 15 then reply.Failed
    else if kind == 16 then reply.StampedBegin n
    else if kind == 17 then reply.StampedEnd n
    else if kind == 18 then reply.Left n
    else if kind == 19 then reply.Over
    else if kind == 20 then reply.NoCycle
    else if kind == 21 then reply.Victim n members
    else if kind == 22 then reply.Aborted (cause-at n)
    else reply.Refused (refusal-at n)

reply-back : (r : Reply) → reply-at (reply_kind r) (reply_number r) (reply_pairs r) (reply_members r) (reply_writer r) ≡ r
unfolding reply-at
reply-back (reply.Began time) = refl
reply-back (reply.Found value) = refl
reply-back reply.Absent = refl
reply-back (reply.Rows pairs) = refl
reply-back reply.Done = refl
reply-back reply.Exists = refl
reply-back reply.Ready = refl
reply-back (reply.Waiting count) = refl
reply-back (reply.Precommitted time) = refl
reply-back (reply.ReleasedRead v writer) = refl
reply-back (reply.ReleasedBucket bucket) = refl
reply-back (reply.ReleasedWaiter t) = refl
reply-back reply.Nothing = refl
reply-back reply.Committed = refl
reply-back (reply.WaitingCommits count) = refl
reply-back reply.Failed = refl
reply-back (reply.StampedBegin v) = refl
reply-back (reply.StampedEnd v) = refl
reply-back (reply.Left v) = refl
reply-back reply.Over = refl
reply-back reply.NoCycle = refl
reply-back (reply.Victim t members) = refl
reply-back (reply.Aborted why) = ap reply.Aborted (cause-back why)
reply-back (reply.Refused why) = ap reply.Refused (refusal-back why)

reply-same : (x y : Reply) → reply_kind x ≡ reply_kind y → reply_number x ≡ reply_number y → reply_pairs x ≡ reply_pairs y → reply_members x ≡ reply_members y
    → reply_writer x ≡ reply_writer y → x ≡ y
reply-same x y kind n pairs members writer =
    sym (reply-back x)
    ∙ ap (λ (k : ℕ). reply-at k (reply_number x) (reply_pairs x) (reply_members x) (reply_writer x)) kind
    ∙ ap (λ (k : ℕ). reply-at (reply_kind y) k (reply_pairs x) (reply_members x) (reply_writer x)) n
    ∙ ap (λ (ps : List (ℕ × ℕ)). reply-at (reply_kind y) (reply_number y) ps (reply_members x) (reply_writer x)) pairs
    ∙ ap (λ (ts : List ℕ). reply-at (reply_kind y) (reply_number y) (reply_pairs y) ts (reply_writer x)) members
    ∙ ap (λ (o : Option ℕ). reply-at (reply_kind y) (reply_number y) (reply_pairs y) (reply_members y) o) writer
    ∙ reply-back y

abbrev pub more_code : Reply → List ℕ
more_code r = listed (pair number number) (reply_pairs r) ++ (listed number (reply_members r) ++ optional number (reply_writer r))

reply-apart : IsApart reply_code
reply-apart x y r s e =
    let kind : reply_kind x ≡ reply_kind y = cc in
    let n = number-apart (reply_number x) (reply_number y) (more_code x ++ r) (more_code y ++ s)
    (regroup (number (reply_number x)) (more_code x) (number (reply_number y)) (more_code y) r s (ap tail_of e)) in
    let pairs = list-apart (pair number number) (pair-apart number number number-apart number-apart) (reply_pairs x) (reply_pairs y)
    ((listed number (reply_members x) ++ optional number (reply_writer x)) ++ r) ((listed number (reply_members y) ++ optional number (reply_writer y)) ++ s)
    (regroup (listed (pair number number) (reply_pairs x)) (listed number (reply_members x) ++ optional number (reply_writer x)) (listed (pair number number) (reply_pairs y))
    (listed number (reply_members y) ++ optional number (reply_writer y)) r s n.1) in
    let all : (reply_members x ≡ reply_members y) × (reply_writer x ≡ reply_writer y) × (r ≡ s) =
    two-apart (listed number) (optional number) (list-apart number number-apart) (option-apart number number-apart) (reply_members x) (reply_members y) (reply_writer x) (reply_writer y) r s
    pairs.1 in
    (reply-same x y kind n.0 pairs.0 all.0 all.1, all.2)

-- ---- transactions
look-apart : IsApart look_code
look-apart a b r s e =
    let made = list-apart flag flag-apart a.made b.made ((listed flag a.ended ++ listed flag a.prepared) ++ r) ((listed flag b.ended ++ listed flag b.prepared) ++ s)
    (regroup (listed flag a.made) (listed flag a.ended ++ listed flag a.prepared) (listed flag b.made) (listed flag b.ended ++ listed flag b.prepared) r s e) in
    let all : (a.ended ≡ b.ended) × (a.prepared ≡ b.prepared) × (r ≡ s) =
    two-apart (listed flag) (listed flag) (list-apart flag flag-apart) (list-apart flag flag-apart) a.ended b.ended a.prepared b.prepared r s made.1 in
    let same : a ≡ b =
    ap (λ (l : List Bool). record a { made = l }) made.0
    ∙ ap (λ (l : List Bool). record b { ended = l; prepared = a.prepared }) all.0
    ∙ ap (λ (l : List Bool). record b { prepared = l }) all.1 in
    (same, all.2)

-- the words of two transactions are equal
record HaveWords (a b : TxnShape) (r s : List ℕ) : Type 0 where
  pub level : a.level ≡ b.level
  pub state : a.state ≡ b.state
  pub ending : a.ending ≡ b.ending
  pub no_more_waits : a.no_more_waits ≡ b.no_more_waits
  pub abort_now : a.abort_now ≡ b.abort_now
  pub rest : r ≡ s

words-apart : (a b : TxnShape) (r s : List ℕ) → words_code a ++ r ≡ words_code b ++ s → HaveWords a b r s
words-apart a b r s e =
    let first : level_number a.level ≡ level_number b.level = cc in
    let second : state_number a.state ≡ state_number b.state = cc in
    let third : ending_number a.ending ≡ ending_number b.ending = cc in
    let all : (a.no_more_waits ≡ b.no_more_waits) × (a.abort_now ≡ b.abort_now) × (r ≡ s) =
    two-apart flag flag flag-apart flag-apart a.no_more_waits b.no_more_waits a.abort_now b.abort_now r s (ap (λ (l : List ℕ). tail_of (tail_of (tail_of l))) e) in
    record {
      level = brought-same level_number level-at level-back a.level b.level first;
      state = brought-same state_number state-at state-back a.state b.state second;
      ending = brought-same ending_number ending-at ending-back a.ending b.ending third;
      no_more_waits = all.0;
      abort_now = all.1;
      rest = all.2;
    }

record HaveLists (a b : TxnShape) (r s : List ℕ) : Type 0 where
  pub reads : a.reads ≡ b.reads
  pub writes : a.writes ≡ b.writes
  pub buckets : a.buckets ≡ b.buckets
  pub waiters : a.waiters ≡ b.waiters
  pub dependents : a.dependents ≡ b.dependents
  pub rest : r ≡ s

abbrev pub numbers : List ℕ → List ℕ
numbers xs = listed number xs

numbers-apart : IsApart numbers
numbers-apart = list-apart number number-apart

lists-apart : (a b : TxnShape) (r s : List ℕ) → lists_code a ++ r ≡ lists_code b ++ s → HaveLists a b r s
lists-apart a b r s e =
    let reads = numbers-apart a.reads b.reads ((listed entry_code a.writes ++ (numbers a.buckets ++ (numbers a.waiters ++ numbers a.dependents))) ++ r)
    ((listed entry_code b.writes ++ (numbers b.buckets ++ (numbers b.waiters ++ numbers b.dependents))) ++ s)
    (regroup (numbers a.reads) (listed entry_code a.writes ++ (numbers a.buckets ++ (numbers a.waiters ++ numbers a.dependents))) (numbers b.reads)
    (listed entry_code b.writes ++ (numbers b.buckets ++ (numbers b.waiters ++ numbers b.dependents))) r s e) in
    let writes = list-apart entry_code entry-apart a.writes b.writes ((numbers a.buckets ++ (numbers a.waiters ++ numbers a.dependents)) ++ r)
    ((numbers b.buckets ++ (numbers b.waiters ++ numbers b.dependents)) ++ s)
    (regroup (listed entry_code a.writes) (numbers a.buckets ++ (numbers a.waiters ++ numbers a.dependents)) (listed entry_code b.writes)
    (numbers b.buckets ++ (numbers b.waiters ++ numbers b.dependents)) r s reads.1) in
    let buckets = numbers-apart a.buckets b.buckets ((numbers a.waiters ++ numbers a.dependents) ++ r) ((numbers b.waiters ++ numbers b.dependents) ++ s)
    (regroup (numbers a.buckets) (numbers a.waiters ++ numbers a.dependents) (numbers b.buckets) (numbers b.waiters ++ numbers b.dependents) r s writes.1) in
    let all : (a.waiters ≡ b.waiters) × (a.dependents ≡ b.dependents) × (r ≡ s) =
    two-apart numbers numbers numbers-apart numbers-apart a.waiters b.waiters a.dependents b.dependents r s buckets.1 in
    record { reads = reads.0; writes = writes.0; buckets = buckets.0; waiters = all.0; dependents = all.1; rest = all.2 }

abbrev pub steps_code : List (Event × Reply) → List ℕ
steps_code xs = listed (pair event_code reply_code) xs

steps-apart : IsApart steps_code
steps-apart = list-apart (pair event_code reply_code) (pair-apart event_code reply_code event-apart reply-apart)

txn-apart : IsApart txn_code
txn-apart a b r s e =
    let words : HaveWords a b ((lists_code a ++ (optional look_code a.look ++ steps_code a.part)) ++ r) ((lists_code b ++ (optional look_code b.look ++ steps_code b.part)) ++ s) =
    words-apart a b ((lists_code a ++ (optional look_code a.look ++ steps_code a.part)) ++ r) ((lists_code b ++ (optional look_code b.look ++ steps_code b.part)) ++ s)
    (regroup (words_code a) (lists_code a ++ (optional look_code a.look ++ steps_code a.part)) (words_code b) (lists_code b ++ (optional look_code b.look ++ steps_code b.part)) r s e) in
    let lists : HaveLists a b ((optional look_code a.look ++ steps_code a.part) ++ r) ((optional look_code b.look ++ steps_code b.part) ++ s) =
    lists-apart a b ((optional look_code a.look ++ steps_code a.part) ++ r) ((optional look_code b.look ++ steps_code b.part) ++ s)
    (regroup (lists_code a) (optional look_code a.look ++ steps_code a.part) (lists_code b) (optional look_code b.look ++ steps_code b.part) r s words.rest) in
    let all : (a.look ≡ b.look) × (a.part ≡ b.part) × (r ≡ s) =
    two-apart (optional look_code) steps_code (option-apart look_code look-apart) steps-apart a.look b.look a.part b.part r s lists.rest in
    let same : a ≡ b =
    ap (λ (z : Level). record a { level = z }) words.level
    ∙ ap (λ (z : State). record a { level = b.level; state = z }) words.state
    ∙ ap (λ (z : Bool). record a { level = b.level; state = b.state; no_more_waits = z }) words.no_more_waits
    ∙ ap (λ (z : Bool). record a { level = b.level; state = b.state; no_more_waits = b.no_more_waits; abort_now = z }) words.abort_now
    ∙ ap (λ (z : Ending). record a { level = b.level; state = b.state; no_more_waits = b.no_more_waits; abort_now = b.abort_now; ending = z }) words.ending
    ∙ ap (λ (l : List ℕ). record b { reads = l; writes = a.writes; buckets = a.buckets; waiters = a.waiters; dependents = a.dependents; look = a.look; part = a.part }) lists.reads
    ∙ ap (λ (l : List WriteEntry). record b { writes = l; buckets = a.buckets; waiters = a.waiters; dependents = a.dependents; look = a.look; part = a.part }) lists.writes
    ∙ ap (λ (l : List ℕ). record b { buckets = l; waiters = a.waiters; dependents = a.dependents; look = a.look; part = a.part }) lists.buckets
    ∙ ap (λ (l : List ℕ). record b { waiters = l; dependents = a.dependents; look = a.look; part = a.part }) lists.waiters
    ∙ ap (λ (l : List ℕ). record b { dependents = l; look = a.look; part = a.part }) lists.dependents
    ∙ ap (λ (o : Option After). record b { look = o; part = a.part }) all.0
    ∙ ap (λ (l : List (Event × Reply)). record b { part = l }) all.1 in
    (same, all.2)

-- ---- the whole key
shape-apart : IsApart shape_code
shape-apart a b r s e =
    let versions = list-apart version_code version-apart a.versions b.versions ((listed txn_code a.txns ++ (listed place_code a.places ++ (numbers a.drawn ++ flag a.waited))) ++ r)
    ((listed txn_code b.txns ++ (listed place_code b.places ++ (numbers b.drawn ++ flag b.waited))) ++ s)
    (regroup (listed version_code a.versions) (listed txn_code a.txns ++ (listed place_code a.places ++ (numbers a.drawn ++ flag a.waited))) (listed version_code b.versions)
    (listed txn_code b.txns ++ (listed place_code b.places ++ (numbers b.drawn ++ flag b.waited))) r s e) in
    let txns = list-apart txn_code txn-apart a.txns b.txns ((listed place_code a.places ++ (numbers a.drawn ++ flag a.waited)) ++ r) ((listed place_code b.places ++ (numbers b.drawn ++ flag b.waited)) ++ s)
    (regroup (listed txn_code a.txns) (listed place_code a.places ++ (numbers a.drawn ++ flag a.waited)) (listed txn_code b.txns)
    (listed place_code b.places ++ (numbers b.drawn ++ flag b.waited)) r s versions.1) in
    let places = list-apart place_code place-apart a.places b.places ((numbers a.drawn ++ flag a.waited) ++ r) ((numbers b.drawn ++ flag b.waited) ++ s)
    (regroup (listed place_code a.places) (numbers a.drawn ++ flag a.waited) (listed place_code b.places) (numbers b.drawn ++ flag b.waited) r s txns.1) in
    let all : (a.drawn ≡ b.drawn) × (a.waited ≡ b.waited) × (r ≡ s) = two-apart numbers flag numbers-apart flag-apart a.drawn b.drawn a.waited b.waited r s places.1 in
    let same : a ≡ b =
    ap (λ (l : List VersionKey). record a { versions = l }) versions.0
    ∙ ap (λ (l : List TxnShape). record a { versions = b.versions; txns = l }) txns.0
    ∙ ap (λ (l : List Place). record b { places = l; drawn = a.drawn; waited = a.waited }) places.0
    ∙ ap (λ (l : List ℕ). record b { drawn = l; waited = a.waited }) all.0
    ∙ ap (λ (z : Bool). record b { waited = z }) all.1 in
    (same, all.2)

pub same-shapes : (p : Plan) (places seats : List Place) (h k : List Entry) → code_of p places h ≡ code_of p seats k → shape_of p places h ≡ shape_of p seats k
same-shapes p places seats h k e = (shape-apart (shape_of p places h) (shape_of p seats k) [] [] (ap (λ (l : List ℕ). l ++ []) e)).0
