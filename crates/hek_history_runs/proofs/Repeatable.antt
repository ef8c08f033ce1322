-- The answers of a committed repeatable transaction: what each found is there at its end time, under its own earlier writes.
use Rattle.std.proofs.Common.{◌≡◌, ℕ, zero, suc, ◌<◌, true, List, [], ◌∷◌, Option, Some, ◌∙◌, ap, sym, ⊎_elim, subst, take}
use Rattle.std.proofs.lemmas.Bool.{false≢true}
use Rattle.std.specs.Prelude.{nat_lt, filter, is_some, slice_get}
use Rattle.hek_rules.specs.declared.event.Level.{Level}
use Rattle.hek_rules.specs.declared.event.Level.TheVariants.{Repeatable}
use Rattle.hek_rules.specs.declared.event.Event.{Event}
use Rattle.hek_rules.specs.declared.event.Event.TheVariants as event
use Rattle.hek_rules.specs.declared.reply.Reply.{Reply}
use Rattle.hek_rules.specs.declared.reply.Reply.TheVariants as reply
use Rattle.hek_rules.specs.Events.{txn_of}
use Rattle.hek_rules.specs.Listing.{value_of, is_among}
use Rattle.hek_rules.specs.World.{World, opening, txn_in}
use Rattle.hek_rules.specs.Run.{run, next, transcript, reply as reply_to}
use Rattle.hek_rules.specs.Serial.{lay_all as laid, writes_of, is_of, end_of, laid_over, serial_rows, IsRepeatable}
use Rattle.hek_rules.specs.Faults.{put_all, level_of, is_declared, IsRight, IsRightIf}
use Rattle.hek_laws.specs.Runs.{HasDistinctKeys, IsFirstClock, recorded_run}
use Rattle.hek_laws.proofs.Worlds.Fixed.{fixed-run}
use Rattle.hek_laws.proofs.Futures.Survivors.{has_committed}
use Rattle.hek_laws.proofs.Futures.Invariant.{order_in}
use Rattle.hek_laws.proofs.Futures.AsOfBegin.{rows_until}
use Rattle.hek_laws.proofs.Runs.Opening.{base-rising}
use Rattle.hek_laws.proofs.Runs.NoFault.{run-no_fault}
use Rattle.hek_serial.proofs.Verdicts.{is_of-to}
use Rattle.hek_history_runs.proofs.FirstCommitters.{opened, whole, end-is, level-is, committed-future}
use Rattle.hek_history_runs.proofs.Ticks.{entry-at, no_entry}
use Rattle.hek_history_runs.proofs.RowsAgree.{filter-swap}
use Rattle.hek_history_runs.proofs.LenientAnswers.{IsListing, IsFound, scan-lists, found_answered}
use Rattle.hek_history_runs.proofs.Presence.{IsThere, AreThere, presence-run, there-at}
use Rattle.hek_history_runs.proofs.Softened.{softened, softer-run, softer-writes, softer-ends, softer-commits, softer-take, softer-at, softer-rows, Softer, IsRead}
use Rattle.hek_history_runs.proofs.Explained.{RepeatableAnswers}

event-at : (w : World) (es : List Event) (i : ℕ) (p : Event × Reply) → slice_get (transcript w es) i ≡ Some p → slice_get es i ≡ Some p.0
event-at w [] i p at = absurd (no_entry p at)
event-at w (e ∷ es) zero p at = let same : (e, reply_to w e) ≡ p = cc in ap (λ (q : Event × Reply). Some q.0) same
event-at w (e ∷ es) (suc i) p at = event-at (next w e) es i p at

module _ (buckets clock : ℕ) (rows : List (ℕ × ℕ)) (levels : List Level) (events : List Event) (distinct : HasDistinctKeys rows) (first : IsFirstClock clock)
    (t time : ℕ) (level : level_of levels t ≡ Some Repeatable) where
  abbrev start : World
  start = opening buckets rows levels clock

  abbrev base : List (ℕ × ℕ)
  base = put_all rows []

  -- what a repeatable transaction found in some run
  found-in_run : (es : List Event) (i : ℕ) (e : Event) (r : Reply) → slice_get (transcript start es) i ≡ Some (e, r) → is_of t e ≡ true → has_committed (transcript start es) t ≡ true → end_of t (transcript start es) ≡ Some time →
      IsRepeatable (laid (writes_of t (take i (transcript start es))) (serial_rows (transcript start es) base time)) e r
  found-in_run es i e r at mine c ends =
      let of : txn_of e ≡ Some t = is_of-to e t mine in
      let known : is_declared levels (txn_of e) ≡ true = subst (λ (o : Option ℕ). is_declared levels o ≡ true) (sym of) (ap is_some level) in
      let right : IsRight (recorded_run buckets rows levels clock es) i e r =
      subst (IsRightIf (recorded_run buckets rows levels clock es) i) at (run-no_fault buckets clock rows levels es distinct first i e (event-at start es i (e, r) at) known) in
      right.replies t time Repeatable of level c ends

  abbrev h : List (Event × Reply)
  h = transcript start events

  module _ (c : has_committed h t ≡ true) (ends : end_of t h ≡ Some time) where
    abbrev softer_events : List Event
    softer_events = softened start events

    abbrev g : List (Event × Reply)
    g = transcript start softer_events

    softer : Softer h g
    softer = softer-run start events

    abbrev Now : ℕ → List (ℕ × ℕ)
    Now i = laid (writes_of t (take i h)) (serial_rows h base time)

    -- an insert that was answered `exists` found its key
    exists-there : (i x key value : ℕ) → slice_get h i ≡ Some (event.Insert x key value, reply.Exists) → is_of t (event.Insert x key value) ≡ true → is_some (value_of (Now i) key) ≡ true
    exists-there i x key value at mine =
        let q = softer-at i h g (event.Insert x key value, reply.Exists) softer at in
        ⊎_elim {C = is_some (value_of (Now i) key) ≡ true}
        (λ same. absurd (false≢true (sym same.1)))
        (λ (n : IsRead (event.Insert x key value, reply.Exists) q.0).
        let was : event.Insert x key value ≡ event.Insert n.txn n.key n.value = ap (λ (p : Event × Reply). p.0) n.was in
        let one : x ≡ n.txn = cc in
        let two : key ≡ n.key = cc in
        let read : slice_get g i ≡ Some (event.Read n.txn n.key, reply.Found n.found) = q.1 ∙ ap Some n.now in
        let repeatable = found-in_run softer_events i (event.Read n.txn n.key) (reply.Found n.found) read (subst (λ m. is_of t (event.Read m n.key) ≡ true) one mine) committed_there ends_there in
        let rows_are : laid (writes_of t (take i g)) (serial_rows g base time) ≡ Now i =
        ap (λ ws. laid ws (serial_rows g base time)) (softer-writes t (take i h) (take i g) (softer-take i h g softer)) ∙ ap (laid (writes_of t (take i h))) (softer-rows h g softer base time) in
        ap is_some (ap (value_of (Now i)) two ∙ ap (λ rs. value_of rs n.key) (sym rows_are) ∙ repeatable))
        q.2
      where
        committed_there : has_committed g t ≡ true
        committed_there = ap (λ xs. is_among xs t) (softer-commits h g softer) ∙ c

        ends_there : end_of t g ≡ Some time
        ends_there = softer-ends t h g softer ∙ ends

    until-serial : rows_until h (has_committed h) time base ≡ serial_rows h base time
    until-serial =
        ap (λ xs. laid_over h xs base) (filter-swap (λ (x : ℕ × ℕ). has_committed h x.1) (λ (x : ℕ × ℕ). nat_lt x.0 time) (order_in h)
        ∙ ap (filter (λ (x : ℕ × ℕ). nat_lt x.0 time)) (sym (whole buckets clock rows levels events distinct first).order.committed_order))

    -- an update or a delete that was answered `done` found its key
    done-there : (i : ℕ) (p : Event × Reply) → slice_get h i ≡ Some p → is_of t p.0 ≡ true → IsThere (Now i) p.0 p.1
    done-there i p at mine =
        let k = whole buckets clock rows levels events distinct first in
        let present = presence-run base (base-rising rows) start [] events (opened buckets clock rows levels events distinct first) (λ A f u l. record { member = λ a. tt; possible = λ v. tt }) (has_committed h) (committed-future base (run start events) h k) t
        (level-is buckets clock rows levels events distinct first t Repeatable level) in
        let there : AreThere t (rows_until h (has_committed h) (txn_in (run start events).txns t).end base) h = present.member c in
        let here : AreThere t (serial_rows h base time) h =
        subst (λ rs. AreThere t rs h) (ap (λ n. rows_until h (has_committed h) n base) (end-is buckets clock rows levels events distinct first t time c ends) ∙ until-serial) there in
        there-at t (serial_rows h base time) h here i p at mine

    found-at : (i : ℕ) (e : Event) (r : Reply) → slice_get h i ≡ Some (e, r) → is_of t e ≡ true → IsFound buckets (Now i) e r
    found-at i (event.Read x key) (reply.Found value) at mine = found-in_run events i (event.Read x key) (reply.Found value) at mine c ends
    found-at i (event.Scan x bucket) (reply.Rows pairs) at mine =
        let e = entry-at start events i (event.Scan x bucket, reply.Rows pairs) at in
        let answer : reply_to (run start (take i events)) (event.Scan x bucket) ≡ reply.Rows pairs = sym (ap (λ (p : Event × Reply). p.1) e) in (
          found-in_run events i (event.Scan x bucket) (reply.Rows pairs) at mine c ends,
          subst (λ n. IsListing n bucket pairs) (fixed-run start (take i events)).buckets (scan-lists (run start (take i events)) x bucket pairs answer),
        )
    found-at i (event.Insert x key value) reply.Exists at mine = exists-there i x key value at mine
    found-at i (event.Update x key value) reply.Done at mine = done-there i (event.Update x key value, reply.Done) at mine
    found-at i (event.Delete x key) reply.Done at mine = done-there i (event.Delete x key, reply.Done) at mine
    found-at i e r at mine = tt

pub repeatable-answers : (buckets clock : ℕ) (rows : List (ℕ × ℕ)) (levels : List Level) (events : List Event) → 0 < buckets → HasDistinctKeys rows → IsFirstClock clock → RepeatableAnswers (recorded_run buckets rows levels clock events)
repeatable-answers buckets clock rows levels events some distinct first t time ops c level ends are =
    let h = transcript (opening buckets rows levels clock) events in
    found_answered buckets t h ops (serial_rows h (put_all rows []) time) some are
    (λ i p at mine. found-at buckets clock rows levels events distinct first t time level c ends i p.0 p.1 at mine)
