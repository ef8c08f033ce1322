-- The verdict of a run, by the committed transactions in turn; and two runs that are judged alike.
use Rattle.std.proofs.Common.{◌≡◌, ℕ, zero, suc, Bool, true, false, List, [], ◌∷◌, Option, Some, None, refl, ◌∙◌, ap, sym, subst, take}
use Rattle.std.proofs.lemmas.Bool.{cond-true, cond-false, cond_both, false≢true, eq-eqb, eqb-true, ne_eqb, or_left, or_right}
use Rattle.std.proofs.lemmas.List.Elements.{All-head, All-tail}
use Rattle.std.specs.List.{All}
use Rattle.std.specs.Prelude.{◌==◌, ◌||◌, filter, map, nat_lt, slice_get}
use Rattle.hek_rules.specs.declared.event.Level.{Level}
use Rattle.hek_rules.specs.declared.event.Level.TheVariants.{Serializable}
use Rattle.hek_rules.specs.declared.event.Event.{Event}
use Rattle.hek_rules.specs.declared.reply.Reply.{Reply}
use Rattle.hek_rules.specs.declared.serial.Verdict.TheVariants.{Serial}
use Rattle.hek_rules.specs.declared.serial.Write.{Write}
use Rattle.hek_rules.specs.Events.{txn_of}
use Rattle.hek_rules.specs.Listing.{is_among}
use Rattle.hek_rules.specs.Recorded.{Recorded}
use Rattle.hek_rules.specs.Run.{next, reply as reply_to, run, transcript}
use Rattle.hek_rules.specs.Serial.{lay_all, write_of, writes_of, end_of, committed_by, committed_in, serial_order, serial_rows, judged_at, is_id, is_of, IsRightAt, AreRight, IsSerializable}
use Rattle.hek_rules.specs.World.{World, opening, txn_in}
use Rattle.hek_rules.specs.Faults.{put_all, level_of, is_declared, commits_anew, own_rows, IsRight, IsRightIf, IsVerdict}
use Rattle.hek_laws.specs.Runs.{HasDistinctKeys, IsFirstClock, recorded_run}
use Rattle.hek_laws.proofs.Futures.Invariant.{order_in, Ascends}
use Rattle.hek_laws.proofs.Worlds.EndTimes.{end-listed}
use Rattle.hek_laws.proofs.Worlds.Histories.{lay_all-append}
use Rattle.hek_laws.proofs.Runs.NoFault.{run-no_fault}
use Rattle.hek_laws.proofs.Runs.Opening.{base-rising, whole-opening}
use Rattle.hek_laws.proofs.Runs.PlaceByPlace.{replies-right}
use Rattle.hek_laws.proofs.Runs.Whole.{Whole, whole-run}
use Rattle.hek_similar.specs.Verdicts.{drawn_in, ended_in, judged_part, AreRightInTurn, as_serializable, RecordsRun, JudgedAlike}
use Rattle.hek_similar.specs.Laws.{SerialIsRightInTurn, JudgedAlikeHaveOneVerdict}
use Rattle.hek_similar.proofs.Judging.{writes-part, right-part}
use Rattle.hek_similar.proofs.Ended.{names, drawn-names, among-filter, filter-keeps, name-among, before, early-names, AreApart, kept-apart, laid_by, laid-names}

-- ---- transcripts of runs

-- each event is of a declared transaction, or of none; each committed transaction drew an end time before, and no two
-- have the same one; and end times were drawn in rising order, each transaction's once
pub record Orderly (s : Recorded) : Type 0 where
  pub declared : (i : ℕ) (e : Event) (r : Reply) → slice_get s.history i ≡ Some (e, r) → is_declared s.levels (txn_of e) ≡ true
  pub commits : (i : ℕ) (e : Event) (r : Reply) → slice_get s.history i ≡ Some (e, r) → commits_anew (take i s.history) (committed_by e r) ≡ true
  pub drew : (t : ℕ) → is_among (committed_in s.history) t ≡ true → (time : ℕ) × (end_of t s.history ≡ Some time)
  pub ascends : Ascends (order_in s.history)
  pub order : serial_order s.history ≡ filter (λ (x : ℕ × ℕ). is_among (committed_in s.history) x.1) (order_in s.history)

-- the event at a place of a run
event-at : (w : World) (es : List Event) (i : ℕ) (e : Event) (r : Reply) → slice_get (transcript w es) i ≡ Some (e, r) → slice_get es i ≡ Some e
event-at w [] i e r at = cc
event-at w (x ∷ xs) zero e r at = let same : (x, reply_to w x) ≡ (e, r) = cc in ap (λ (p : Event × Reply). Some p.0) same
event-at w (x ∷ xs) (suc i) e r at = event-at (next w x) xs i e r at

declared-at : (levels : List Level) (es : List Event) → All (λ e. is_declared levels (txn_of e) ≡ true) es → (i : ℕ) (e : Event) → slice_get es i ≡ Some e → is_declared levels (txn_of e) ≡ true
declared-at levels [] all i e at = cc
declared-at levels (x ∷ xs) all zero e at =
    let same : x ≡ e = cc in
    subst (λ y. is_declared levels (txn_of y) ≡ true) same (All-head (λ y. is_declared levels (txn_of y) ≡ true) x xs all)
declared-at levels (x ∷ xs) all (suc i) e at = declared-at levels xs (All-tail (λ y. is_declared levels (txn_of y) ≡ true) x xs all) i e at

run-orderly : (buckets clock : ℕ) (rows : List (ℕ × ℕ)) (levels : List Level) (events : List Event) → HasDistinctKeys rows → IsFirstClock clock →
    All (λ e. is_declared levels (txn_of e) ≡ true) events → Orderly (recorded_run buckets rows levels clock events)
run-orderly buckets clock rows levels events distinct first declared =
    let w : World = opening buckets rows levels clock in
    let s : Recorded = recorded_run buckets rows levels clock events in
    let k : Whole (put_all rows []) (run w events) s.history = whole-run (put_all rows []) (base-rising rows) w [] events (whole-opening buckets clock rows levels distinct first.0 first.1) in
    record {
      declared = λ i e r at. declared-at levels events declared i e (event-at w events i e r at);
      commits = λ i e r at.
          (let there : slice_get events i ≡ Some e = event-at w events i e r at in
          let right : IsRight s i e r = subst (IsRightIf s i) at (run-no_fault buckets clock rows levels events distinct first i e there (declared-at levels events declared i e there)) in
          right.commits);
      drew = λ t committed. ((txn_in (run w events).txns t).end, (k.told t).drawn (or_right _ _ committed));
      ascends = k.order.ascends;
      order = k.order.committed_order;
    }

pub orderly : (s : Recorded) → RecordsRun s → Orderly s
orderly s r =
    let same : s ≡ recorded_run s.buckets s.rows s.levels r.clock r.events = λ i. record { buckets = s.buckets; rows = s.rows; levels = s.levels; history = r.history i } in
    subst Orderly (sym same) (run-orderly s.buckets r.clock s.rows s.levels r.events r.distinct r.first r.declared)

-- ---- place by place, and transaction by transaction
is-of : (t : ℕ) (o : Option ℕ) → is_id o t ≡ true → o ≡ Some t
is-of t None on = absurd (false≢true on)
is-of t (Some x) on = ap Some (eqb-true x t on)

all-serializable : (levels : List Level) (t : ℕ) → is_declared levels (Some t) ≡ true → level_of (map (λ _. Serializable) levels) t ≡ Some Serializable
all-serializable levels zero on = absurd (false≢true on)
all-serializable levels (suc i) on = at levels i on
  where
    at : (ls : List Level) (i : ℕ) → is_declared ls (Some (suc i)) ≡ true → slice_get (map (λ _. Serializable) ls) i ≡ Some Serializable
    at [] i on = absurd (false≢true on)
    at (l ∷ ls) zero on = refl
    at (l ∷ ls) (suc i) on = at ls i on

only-serializable : (levels : List Level) (t : ℕ) (level : Level) → level_of (map (λ _. Serializable) levels) t ≡ Some level → Serializable ≡ level
only-serializable levels zero level e = cc
only-serializable levels (suc i) level e = at levels i e
  where
    at : (ls : List Level) (i : ℕ) → slice_get (map (λ _. Serializable) ls) i ≡ Some level → Serializable ≡ level
    at [] i e = cc
    at (l ∷ ls) zero e = cc
    at (l ∷ ls) (suc i) e = at ls i e

right-from_places : (level : Level) (buckets t : ℕ) (rows : List (ℕ × ℕ)) (h : List (Event × Reply)) →
    ((i : ℕ) (e : Event) (r : Reply) → slice_get h i ≡ Some (e, r) → is_of t e ≡ true → IsRightAt level buckets (lay_all (writes_of t (take i h)) rows) e r) →
    AreRight level buckets t rows h
right-from_places level buckets t rows [] right = tt
right-from_places level buckets t rows (p ∷ ps) right = (
  right zero p.0 p.1 refl,
  right-from_places level buckets t (lay_all (write_of t p.0 p.1) rows) ps
      (λ i e r at mine. subst (λ rs. IsRightAt level buckets rs e r) (lay_all-append (write_of t p.0 p.1) (writes_of t (take i ps)) rows) (right (suc i) e r at mine)),
)

-- each committed transaction's replies are right in the serial order
abbrev AreSerial : Recorded → Type 0
AreSerial s =
    (t time : ℕ) → is_among (committed_in s.history) t ≡ true → end_of t s.history ≡ Some time →
    AreRight Serializable s.buckets t (serial_rows s.history (put_all s.rows []) time) s.history

serial-from_verdict : (s : Recorded) → Orderly s → IsVerdict (as_serializable s) Serial → AreSerial s
serial-from_verdict s o verdict t time committed drew =
    right-from_places Serializable s.buckets t (serial_rows s.history (put_all s.rows []) time) s.history
    (λ i e r at mine.
    let right : IsRight (as_serializable s) i e r = subst (IsRightIf (as_serializable s) i) at (verdict i) in
    let own : txn_of e ≡ Some t = is-of t (txn_of e) mine in
    let known : is_declared s.levels (Some t) ≡ true = ap (is_declared s.levels) (sym own) ∙ o.declared i e r at in
    right.replies t time Serializable own (all-serializable s.levels t known) committed drew)

still-declared : (levels : List Level) (o : Option ℕ) → is_declared levels o ≡ true → is_declared (map (λ _. Serializable) levels) o ≡ true
still-declared levels None on = refl
still-declared levels (Some t) on = rw (all-serializable levels t on) refl

end-judged : (t time : ℕ) (h : List (Event × Reply)) (level : Level) → Serializable ≡ level → judged_at level t h ≡ Some time → end_of t h ≡ Some time
end-judged t time h level same judged = subst (λ l. judged_at l t h ≡ Some time) (sym same) judged

verdict-from_serial : (s : Recorded) → Orderly s → AreSerial s → IsVerdict (as_serializable s) Serial
verdict-from_serial s o serial i = at_place (slice_get s.history i) refl
  where
    at_place : (p : Option (Event × Reply)) → slice_get s.history i ≡ p → IsRightIf (as_serializable s) i p
    at_place None at = tt
    at_place (Some p) at = record {
      declared = still-declared s.levels (txn_of p.0) (o.declared i p.0 p.1 at);
      commits = o.commits i p.0 p.1 at;
      replies = λ t time level own leveled committed judged.
          (let same : Serializable ≡ level = only-serializable s.levels t level leveled in
          let all : IsSerializable (λ _. Serializable) s.buckets (put_all s.rows []) s.history = record { replies = λ u n c d. serial u n c d } in
          subst (λ l. IsRightAt l s.buckets (own_rows (as_serializable s) t time i) p.0 p.1) same
          (replies-right s (λ _. Serializable) all i t time p.0 p.1 at (ap (λ x. is_id x t) own ∙ eq-eqb t t refl) committed (end-judged t time s.history level same judged)));
    }

-- ---- what a transaction finds, by the order of draws and the parts
is-ended : (s : Recorded) → Orderly s → (t : ℕ) → is_among (committed_in s.history) t ≡ true → is_among (ended_in s.history) t ≡ true
is-ended s o t committed =
    let end : (time : ℕ) × (end_of t s.history ≡ Some time) = o.drew t committed in
    among-filter (λ u. is_among (committed_in s.history) u) (drawn_in s.history) t committed
    (ap (λ ts. is_among ts t) (sym (drawn-names s.history)) ∙ name-among (order_in s.history) (end.0, t) (end-listed t end.0 s.history end.1))

found-rows : (s : Recorded) → Orderly s → (rows : List (ℕ × ℕ)) (t time : ℕ) → is_among (committed_in s.history) t ≡ true → end_of t s.history ≡ Some time →
    serial_rows s.history rows time ≡ laid_by (λ u. writes_of u s.history) (before t (ended_in s.history)) rows
found-rows s o rows t time committed drew =
    let h : List (Event × Reply) = s.history in
    let did : ℕ → Bool = λ u. is_among (committed_in h) u in
    laid-names h (filter (λ (x : ℕ × ℕ). nat_lt x.0 time) (serial_order h)) rows
    ∙ ap (λ ts. laid_by (λ u. writes_of u h) ts rows)
    (ap (λ l. names (filter (λ (x : ℕ × ℕ). nat_lt x.0 time) l)) o.order
    ∙ early-names did time t (order_in h) o.ascends (end-listed t time h drew) committed
    ∙ ap (λ ts. before t (filter did ts)) (drawn-names h))

-- ---- in turn
abbrev part : Recorded → ℕ → List (Event × Reply)
part s t = judged_part t s.history

-- what t would find after those of these transactions that come before it
abbrev found_in_turn : (ℕ → List (Event × Reply)) → ℕ → List ℕ → List (ℕ × ℕ) → List (ℕ × ℕ)
found_in_turn parts t ts rows = laid_by (λ u. writes_of u (parts u)) (before t ts) rows

each-from_turns : (buckets : ℕ) (parts : ℕ → List (Event × Reply)) (rows : List (ℕ × ℕ)) (ts : List ℕ) → AreRightInTurn buckets parts rows ts →
    (t : ℕ) → is_among ts t ≡ true → AreRight Serializable buckets t (found_in_turn parts t ts rows) (parts t)
each-from_turns buckets parts rows [] right t i = absurd (false≢true i)
each-from_turns buckets parts rows (u ∷ us) right t i =
    let writes : ℕ → List Write = λ x. writes_of x (parts x) in
    cond_both (u == t) [] (u ∷ before t us) (λ front. AreRight Serializable buckets t (laid_by writes front rows) (parts t))
    (λ here. subst (λ x. AreRight Serializable buckets x rows (parts x)) (eqb-true u t here) right.0)
    (λ other. each-from_turns buckets parts (lay_all (writes u) rows) us right.1 t (sym (ap (λ b. b || is_among us t) other) ∙ i))

turns-from_each : (buckets : ℕ) (parts : ℕ → List (Event × Reply)) (rows : List (ℕ × ℕ)) (ts : List ℕ) → AreApart ts →
    ((t : ℕ) → is_among ts t ≡ true → AreRight Serializable buckets t (found_in_turn parts t ts rows) (parts t)) → AreRightInTurn buckets parts rows ts
turns-from_each buckets parts rows [] apart each = tt
turns-from_each buckets parts rows (u ∷ us) apart each =
    let writes : ℕ → List Write = λ x. writes_of x (parts x) in
    let first : AreRight Serializable buckets u (found_in_turn parts u (u ∷ us) rows) (parts u) = each u (or_left (u == u) _ (eq-eqb u u refl)) in (
      subst (λ front. AreRight Serializable buckets u (laid_by writes front rows) (parts u)) (cond-true (u == u) [] (u ∷ before u us) (eq-eqb u u refl)) first,
      turns-from_each buckets parts (lay_all (writes u) rows) us apart.1
          (λ t i.
          let other : (u == t) ≡ false = ne_eqb u t (λ same. false≢true (sym apart.0 ∙ ap (is_among us) same ∙ i)) in
          subst (λ front. AreRight Serializable buckets t (laid_by writes front rows) (parts t)) (cond-false (u == t) [] (u ∷ before t us) other) (each t (or_right (u == t) _ i))),
    )

-- the rows that a committed transaction finds, by the parts
found-by_parts : (s : Recorded) → Orderly s → (t time : ℕ) → is_among (committed_in s.history) t ≡ true → end_of t s.history ≡ Some time →
    serial_rows s.history (put_all s.rows []) time ≡ found_in_turn (part s) t (ended_in s.history) (put_all s.rows [])
found-by_parts s o t time committed drew =
    found-rows s o (put_all s.rows []) t time committed drew
    ∙ (λ i. laid_by (λ u. sym (writes-part u s.history) i) (before t (ended_in s.history)) (put_all s.rows []))

turns-from_serial : (s : Recorded) → Orderly s → AreSerial s → AreRightInTurn s.buckets (part s) (put_all s.rows []) (ended_in s.history)
turns-from_serial s o serial =
    let h : List (Event × Reply) = s.history in
    let did : ℕ → Bool = λ u. is_among (committed_in h) u in
    turns-from_each s.buckets (part s) (put_all s.rows []) (ended_in h) (subst (λ ts. AreApart (filter did ts)) (drawn-names h) (kept-apart did (order_in h) o.ascends))
    (λ t i.
    let committed : is_among (committed_in h) t ≡ true = filter-keeps did (drawn_in h) t i in
    let end : (n : ℕ) × (end_of t h ≡ Some n) = o.drew t committed in
    subst (λ rows. AreRight Serializable s.buckets t rows (judged_part t h)) (found-by_parts s o t end.0 committed end.1)
    ((right-part s.buckets t (serial_rows h (put_all s.rows []) end.0) h).0 (serial t end.0 committed end.1)))

serial-from_turns : (s : Recorded) → Orderly s → AreRightInTurn s.buckets (part s) (put_all s.rows []) (ended_in s.history) → AreSerial s
serial-from_turns s o turns t time committed drew =
    let h : List (Event × Reply) = s.history in
    (right-part s.buckets t (serial_rows h (put_all s.rows []) time) h).1
    (subst (λ rows. AreRight Serializable s.buckets t rows (judged_part t h)) (sym (found-by_parts s o t time committed drew))
    (each-from_turns s.buckets (part s) (put_all s.rows []) (ended_in h) turns t (is-ended s o t committed)))

pub right-in_turn : SerialIsRightInTurn
right-in_turn s r =
    let o : Orderly s = orderly s r in
    ((λ verdict. turns-from_serial s o (serial-from_verdict s o verdict)), (λ turns. verdict-from_serial s o (serial-from_turns s o turns)))

-- ---- two runs
turns-alike : (buckets : ℕ) (parts others : ℕ → List (Event × Reply)) (rows : List (ℕ × ℕ)) (ts : List ℕ) → ((t : ℕ) → is_among ts t ≡ true → parts t ≡ others t) →
    AreRightInTurn buckets parts rows ts → AreRightInTurn buckets others rows ts
turns-alike buckets parts others rows [] same right = tt
turns-alike buckets parts others rows (t ∷ ts) same right =
    let first : parts t ≡ others t = same t (or_left (t == t) _ (eq-eqb t t refl)) in (
      subst (AreRight Serializable buckets t rows) first right.0,
      subst (λ ws. AreRightInTurn buckets others (lay_all ws rows) ts) (ap (writes_of t) first)
          (turns-alike buckets parts others (lay_all (writes_of t (parts t)) rows) ts (λ u i. same u (or_right (t == u) _ i)) right.1),
    )

one-way : (s u : Recorded) → RecordsRun s → RecordsRun u → s.buckets ≡ u.buckets → s.rows ≡ u.rows → JudgedAlike s.history u.history → IsVerdict (as_serializable s) Serial → IsVerdict (as_serializable u) Serial
one-way s u rs ru buckets rows alike verdict =
    let turns : AreRightInTurn s.buckets (part u) (put_all s.rows []) (ended_in s.history)
    = turns-alike s.buckets (part s) (part u) (put_all s.rows []) (ended_in s.history) alike.parts ((right-in_turn s rs).0 verdict) in
    (right-in_turn u ru).1 (subst (λ ts. AreRightInTurn u.buckets (part u) (put_all u.rows []) ts) alike.ended
    (subst (λ rs. AreRightInTurn u.buckets (part u) (put_all rs []) (ended_in s.history)) rows
    (subst (λ b. AreRightInTurn b (part u) (put_all s.rows []) (ended_in s.history)) buckets turns)))

pub alike-back : (h g : List (Event × Reply)) → JudgedAlike h g → JudgedAlike g h
alike-back h g alike = record { ended = sym alike.ended; parts = λ t i. sym (alike.parts t (ap (λ ts. is_among ts t) alike.ended ∙ i)) }

pub one-verdict : JudgedAlikeHaveOneVerdict
one-verdict s u rs ru buckets rows alike =
    (one-way s u rs ru buckets rows alike, one-way u s ru rs (sym buckets) (sym rows) (alike-back s.history u.history alike))
